-- `satisfies` meets its contract: one law of Satisfying.antt for each way that it ends. Assumes nothing.
use Rattle.laws.specs.Faults.{passed_on}
use Rattle.erased_row.proofs.Leaving.{no_zero}
use Rattle.erased_store.proofs.Satisfying.{yoke_error, not_satisfied, satisfied}
use Rattle.erased_store.proofs.holds.satisfies.Goals as goal

pub returns-in_err-truth_of : goal.returns-in_err-truth_of
returns-in_err-truth_of c = rw (passed_on _ _ c.from_residual.ensures.1) (yoke_error c.eval_yoke-x.ensures c.in_err-truth_of.ensures (no_zero _))

pub returns-then-branch : goal.returns-then-branch
returns-then-branch c = satisfied c.eval_yoke-x.ensures c.in_ok-truth_of.ensures c.if-branch.true

pub returns-else-branch : goal.returns-else-branch
returns-else-branch c = not_satisfied c.eval_yoke-x.ensures c.in_ok-truth_of.ensures c.if-branch.false
