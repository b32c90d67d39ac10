-- `eval_yoke` meets its contract, by `always_evaluates` and `yoke_evaluates`. Assumes nothing.
use Rattle.profile.specs.Yokes.{always_is, yoke_is}
use Rattle.erased.proofs.Yokes.{always_evaluates, yoke_ready, yoke_evaluates}
use Rattle.erased.proofs.yoke.eval_yoke.Goals as goal

pub returns-then-y-eq0 : goal.returns-then-y-eq0
returns-then-y-eq0 c = always_evaluates (always_is c.args.rows.now c.args.y c.if-y-eq0.true) c.put_truth.ensures

pub eval-requires-clause-ready : goal.eval-requires-clause-ready
eval-requires-clause-ready c = (yoke_ready (yoke_is c.args.rows.now c.args.y c.if-y-eq0.false) c.requires.ready_yoke)

pub returns : goal.returns
returns c = yoke_evaluates (yoke_is c.args.rows.now c.args.y c.if-y-eq0.false) c.eval.ensures
