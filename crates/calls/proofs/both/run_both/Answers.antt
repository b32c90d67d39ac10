-- `calls::both::run_both` meets its contract: the third demand follows from the two runs' contracts alone. Assumes nothing.
use mathlib.Core.Path.{refl}
use borrow.Author.Rules.{rules}
use Rattle.pair.proofs.Given.{room_there}
use Rattle.calls.proofs.Agreeing.{both_run}
use Rattle.calls.proofs.both.run_both.Goals as goal

pub take_pair-pair-requires : goal.take_pair-pair-requires
take_pair-pair-requires c = room_there _ _ _ refl refl refl

pub returns : goal.returns
returns c =
    let k = both_run (record { checked = c.checked_taken-checked.result; erased = c.erased_taken-erased.result }) (c.checked_taken-checked.ensures.run _ _ c.take_pair-pair.ensures) (c.erased_taken-erased.ensures.run _ _ c.take_pair-pair.ensures) in
    search (rules, k, c.checked_taken-checked.ensures.same_registers, c.erased_taken-erased.ensures.same_registers)
