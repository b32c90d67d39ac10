-- `test` meets its contract, by those of `eval_plain` and `truth_of`. Assumes nothing.
use Rattle.erased.proofs.Testing.{test_ready, test_told}
use Rattle.erased.proofs.test.test.Goals as goal

pub eval_plain-x-requires-clause-ready_plain : goal.eval_plain-x-requires-clause-ready_plain
eval_plain-x-requires-clause-ready_plain c = let r = c.requires.has_store.has in (test_ready r.running r.of_scope)

pub returns : goal.returns
returns c = λ p a limits vs w row. test_told w row _ c.eval_plain-x.ensures c.truth_of.ensures
