-- `unary` meets its contract: one law of Operating.antt for each way that it ends. Assumes nothing.
use mathlib.Core.Path.{refl}
use Rattle.lingua.specs.Operations.{unary_meaning}
use Rattle.laws.specs.Faults.{passed}
use Rattle.body_half.specs.Half.{simple_typed}
use Rattle.checked_row.proofs.Giving.{gives_error}
use Rattle.checked_row.proofs.Operating.{given_held, unary_has, unary_no_body, unary_no_value, unary_value_lem}
use Rattle.checked_row.proofs.operate.unary.Goals as goal

pub unary-requires-clause-has_operand : goal.unary-requires-clause-has_operand
unfolding simple_typed
unary-requires-clause-has_operand c = unary_has c.in-Some.ensures (c.requires.given.gives.answer _ c.in_ok-x.was)

pub returns-in_err-unary : goal.returns-in_err-unary
unfolding simple_typed
returns-in_err-unary c = λ p h. rw (passed _ _ c.from_residual-in_err-unary.ensures.1) (gives_error _ (unary_no_value c.in-Some.ensures c.in_err-unary.ensures _ refl (h.answer _ c.in_ok-x.was)))

pub returns-in-Some : goal.returns-in-Some
unfolding simple_typed
returns-in-Some c = λ p h. rw c.simple_value.ensures (unary_value_lem c.in-Some.ensures c.in_ok-unary.ensures refl (h.answer _ c.in_ok-x.was))

pub unary_half-requires : goal.unary_half-requires
unary_half-requires c = given_held (c.requires.given.gives.answer _ c.in_ok-x.was)

pub returns-in_err-half : goal.returns-in_err-half
returns-in_err-half c = λ p h. rw (passed _ _ c.from_residual-in_err-half.ensures.1) (gives_error _ (unary_no_body (unary_meaning c.args.o) _ c.in_err-half.ensures (h.answer _ c.in_ok-x.was)))

pub unary-requires-2-clause-has_operand : goal.unary-requires-2-clause-has_operand
unary-requires-2-clause-has_operand c = unary_has c.in_ok-half.ensures (c.requires.given.gives.answer _ c.in_ok-x.was)

pub returns-in_err-unary-2 : goal.returns-in_err-unary-2
returns-in_err-unary-2 c = λ p h. rw (passed _ _ c.from_residual-in_err-unary-2.ensures.1) (gives_error _ (unary_no_value c.in_ok-half.ensures c.in_err-unary-2.ensures _ refl (h.answer _ c.in_ok-x.was)))

pub returns : goal.returns
returns c = λ p h. unary_value_lem c.in_ok-half.ensures c.in_ok-unary-2.ensures refl (h.answer _ c.in_ok-x.was)
