-- `begin_bodies` of the erased run meets its contract: there are none. Assumes nothing.
use Rattle.frames.specs.Meaning.{BeginsBy, FreshBy}
use Rattle.frames.proofs.erased_way.ErasedWay.begin_bodies.Goals as goal

pub returns : goal.returns
unfolding BeginsBy FreshBy
returns c = c.requires.begins_by
