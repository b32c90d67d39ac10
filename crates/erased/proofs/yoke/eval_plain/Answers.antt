-- `eval_plain` meets its contract: a Boolean stands for the current value, by `plain_evaluates`. Assumes nothing.
use Rattle.erased.proofs.Yokes.{plain_ready, plain_evaluates}
use Rattle.erased.proofs.yoke.eval_plain.Goals as goal

pub eval-requires-clause-ready : goal.eval-requires-clause-ready
eval-requires-clause-ready c = (plain_ready c.requires.ready_plain)

pub returns : goal.returns
returns c = plain_evaluates c.eval.ensures
