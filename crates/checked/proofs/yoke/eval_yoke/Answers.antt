-- `eval_yoke` meets its contract, by `always_true` and `yoke_row`. Assumes nothing.
use Rattle.lingua.specs.Store.{contents}
use Rattle.checked_row.proofs.Giving.{gives_as}
use Rattle.checked.proofs.Yokes.{always_true, yoke_row}
use Rattle.checked.proofs.yoke.eval_yoke.Goals as goal

pub returns-then-y-eq0 : goal.returns-then-y-eq0
returns-then-y-eq0 c = λ vs x w h. gives_as (always_true c.args.rows.now c.args.y (contents vs) x c.if-y-eq0.true) c.boolean.ensures

pub returns : goal.returns
returns c = λ vs x w h. gives_as (yoke_row c.args.rows.now c.args.y (contents vs) x c.if-y-eq0.false) (c.eval.ensures vs x w h)
