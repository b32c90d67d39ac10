-- `binary` meets its contract: one law of Operating.antt for each way that it ends. Assumes nothing.
use mathlib.Core.Path.{refl}
use Rattle.lingua.specs.Operations.{binary_meaning}
use Rattle.laws.specs.Faults.{passed}
use Rattle.body_half.specs.Half.{simple_typed}
use Rattle.checked_row.proofs.Giving.{gives_error}
use Rattle.checked_row.proofs.Operating.{given_held, binary_has, binary_no_body, binary_no_value, binary_value_lem, second_error}
use Rattle.checked_row.proofs.operate.binary.Goals as goal

pub returns-in_err-y : goal.returns-in_err-y
returns-in_err-y c = λ p q h k. rw (passed _ _ c.from_residual-in_err-y.ensures.1) (gives_error _ (second_error (binary_meaning c.args.o) _ (h.answer _ c.in_ok-x.was) (k.error _ c.in_err-y.was)))

pub binary-requires-clause-has_operands : goal.binary-requires-clause-has_operands
unfolding simple_typed
binary-requires-clause-has_operands c = binary_has c.in-Some.ensures (c.requires.given.gives.answer _ c.in_ok-x.was) (c.requires.given_2.gives.answer _ c.in_ok-y.was)

pub returns-in_err-binary : goal.returns-in_err-binary
unfolding simple_typed
returns-in_err-binary c = λ p q h k. rw (passed _ _ c.from_residual-in_err-binary.ensures.1) (gives_error _ (binary_no_value c.in-Some.ensures c.in_err-binary.ensures _ refl (h.answer _ c.in_ok-x.was) (k.answer _ c.in_ok-y.was)))

pub returns-in-Some : goal.returns-in-Some
unfolding simple_typed
returns-in-Some c = λ p q h k. rw c.simple_value.ensures (binary_value_lem c.in-Some.ensures c.in_ok-binary.ensures refl (h.answer _ c.in_ok-x.was) (k.answer _ c.in_ok-y.was))

pub binary_half-requires-clause-held : goal.binary_half-requires-clause-held
binary_half-requires-clause-held c = given_held (c.requires.given.gives.answer _ c.in_ok-x.was)

pub binary_half-requires-clause-held_2 : goal.binary_half-requires-clause-held_2
binary_half-requires-clause-held_2 c = given_held (c.requires.given_2.gives.answer _ c.in_ok-y.was)

pub returns-in_err-half : goal.returns-in_err-half
returns-in_err-half c = λ p q h k. rw (passed _ _ c.from_residual-in_err-half.ensures.1) (gives_error _ (binary_no_body (binary_meaning c.args.o) _ c.in_err-half.ensures (h.answer _ c.in_ok-x.was) (k.answer _ c.in_ok-y.was)))

pub binary-requires-2-clause-has_operands : goal.binary-requires-2-clause-has_operands
binary-requires-2-clause-has_operands c = binary_has c.in_ok-half.ensures (c.requires.given.gives.answer _ c.in_ok-x.was) (c.requires.given_2.gives.answer _ c.in_ok-y.was)

pub returns-in_err-binary-2 : goal.returns-in_err-binary-2
returns-in_err-binary-2 c = λ p q h k. rw (passed _ _ c.from_residual-in_err-binary-2.ensures.1) (gives_error _ (binary_no_value c.in_ok-half.ensures c.in_err-binary-2.ensures _ refl (h.answer _ c.in_ok-x.was) (k.answer _ c.in_ok-y.was)))

pub returns : goal.returns
returns c = λ p q h k. binary_value_lem c.in_ok-half.ensures c.in_ok-binary-2.ensures refl (h.answer _ c.in_ok-x.was) (k.answer _ c.in_ok-y.was)
