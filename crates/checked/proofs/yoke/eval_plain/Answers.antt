-- `eval_plain` meets its contract: a Boolean stands for the current value, by `none_current`. Assumes nothing.
use native.Mathlib.Omega.{arith}
use Rattle.lingua.specs.Evaluation.{no_current}
use Rattle.checked.proofs.Yokes.{none_current}
use Rattle.checked.proofs.yoke.eval_plain.Goals as goal

pub eval-requires : goal.eval-requires
eval-requires c =
    let r = c.requires.has_world in
    record { ready = record { store = r.store; world = r.world; has = record { value = no_current; is = none_current _ c.simple.ensures } }; here = c.requires.row_lt_count; room = omega (arith, c.requires.row_in_bounds) }

pub returns : goal.returns
returns c = λ vs w. c.eval.ensures vs no_current w (none_current _ c.simple.ensures)
