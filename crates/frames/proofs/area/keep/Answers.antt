use Rattle.frames.proofs.Fronts.{front_whole}
use Rattle.frames.proofs.area.keep.Goals as goal

pub returns : goal.returns
returns g c = rw c.copy_from_slice.ensures.after (front_whole c.args.area.now c.args.from.now c.requires)
