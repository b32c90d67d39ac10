-- `apply` meets its contract: one law of Operating.antt for each way that it ends. Assumes nothing.
use mathlib.Core.Path.{refl}
use Rattle.body_half.specs.Half.{simple_typed}
use Rattle.checked_row.specs.Meaning.{simple_evaluated}
use Rattle.checked_row.proofs.Operating.{binary_has, binary_no_value, binary_value_lem}
use Rattle.checked_row.proofs.quick.apply.Goals as goal

pub binary-requires-clause-has_operands : goal.binary-requires-clause-has_operands
unfolding simple_typed
binary-requires-clause-has_operands c = binary_has {x = simple_evaluated c.args.p} {y = simple_evaluated c.args.q} (rw (c.simple.ensures, c.simple-2.ensures) at c.in_ok-tag.ensures) (c.requires.given.0.gives.answer _ refl) (c.requires.given.1.gives.answer _ refl)

pub returns-in-Ok : goal.returns-in-Ok
unfolding simple_typed
returns-in-Ok c = λ u v h k. binary_value_lem {x = simple_evaluated c.args.p} {y = simple_evaluated c.args.q} (rw (c.simple.ensures, c.simple-2.ensures) at c.in_ok-tag.ensures) c.in-Ok.ensures refl (h.answer _ refl) (k.answer _ refl)

pub returns-in-Err : goal.returns-in-Err
unfolding simple_typed
returns-in-Err c = λ u v h k. binary_no_value {x = simple_evaluated c.args.p} {y = simple_evaluated c.args.q} (rw (c.simple.ensures, c.simple-2.ensures) at c.in_ok-tag.ensures) c.in-Err.ensures _ refl (h.answer _ refl) (k.answer _ refl)
