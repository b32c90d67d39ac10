-- `calls::erased_run::run_erased` meets its contract: both files taken, and the run of what was taken. Assumes nothing.
use mathlib.Core.Path.{refl}
use Rattle.pair.proofs.Given.{room_there}
use Rattle.calls.proofs.erased_run.run_erased.Goals as goal

pub take_pair-pair-requires : goal.take_pair-pair-requires
take_pair-pair-requires c = room_there _ _ _ refl refl refl
