-- `mark_all` meets its contract: the list's rows are marked in turn. Assumes nothing.
use Rattle.std.proofs.Common.{arith, sym}
use Rattle.std.proofs.lemmas.List.{take_more}
use Rattle.scopes.proofs.Marking.{marked_more, marked_to, in_same}
use Rattle.scopes.proofs.pass.mark_all.Goals as goal

pub mark-requires : goal.mark-requires
mark-requires c =
    omega (arith, c.loop-x.auto.scopes, c.requires.each _ (in_same _ c.numbers-numbers.ensures c.loop-x-test.true))

pub loop-x-preserved : goal.loop-x-preserved
loop-x-preserved c = marked_to (marked_more c.loop-x.invariant c.mark.ensures) (sym (take_more _ _ 0 c.loop-x-test.true))
