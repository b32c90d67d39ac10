-- `eval_test` meets its contract, by those of `eval_plain` and `truth_of`. Assumes nothing.
use Rattle.lingua.specs.Evaluation.{eval_test}
use Rattle.checked.proofs.yoke.eval_test.Goals as goal

pub returns : goal.returns
unfolding eval_test
returns c = λ vs w. c.truth_of.ensures _ (c.eval_plain-x.ensures vs w)
