-- `calls::checked_run::run_checked` meets its contract: both files taken, and the run of what was taken. Assumes nothing.
use mathlib.Core.Path.{refl}
use borrow.Author.Rules.{rules}
use Rattle.safety.specs.TwoRuns.{checked_holds}
use Rattle.pair.proofs.Given.{room_there}
use Rattle.calls.proofs.checked_run.run_checked.Goals as goal

pub take_pair-pair-requires : goal.take_pair-pair-requires
take_pair-pair-requires c = room_there _ _ _ refl refl refl

pub returns-clause-checked_holds : goal.returns-clause-checked_holds
returns-clause-checked_holds c =
    let k = checked_holds _ c.args.budget _ _ _ (c.checked_taken.ensures.run _ _ c.take_pair-pair.ensures) in search (rules, k, c.checked_taken.ensures.same_registers)
