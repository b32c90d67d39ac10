-- `whole_run::inputs::take_one` meets its contract: the reading is taken, or its error recorded. Assumes nothing.
use mir.ValLaws.{to_z-of_z}
use Rattle.frames.proofs.Ways.{stores_number}
use Rattle.whole_run.proofs.Taking.{takes}
use Rattle.whole_run.proofs.inputs.take_one.Goals as goal

pub returns-clause-takes : goal.returns-clause-takes
returns-clause-takes g c = takes _ _ c.args.place _ _ c.requires.going.0 c.settled.ensures (stores_number _ (to_z-of_z _ _ c.ranges.z) c.take_reading-taken.ensures.stores)
