-- `body_half::unary::negation` meets its contract. Assumes nothing.
use mathlib.Core.Path.{refl}
use Rattle.lingua.specs.Encode.{bytes}
use Rattle.body.specs.Typed.{simple_of}
use Rattle.body.proofs.Tags.{is_boolean_lem, not_boolean_lem}
use Rattle.body.proofs.Answers.{likewise}
use Rattle.body_half.proofs.Halves.{negation_other, negation_boolean}
use Rattle.body_half.proofs.unary.negation.Goals as goal

pub returns-then-x-ne-BOOLEAN : goal.returns-then-x-ne-BOOLEAN
returns-then-x-ne-BOOLEAN c = λ b h.
    let args = c.args in
    negation_other b (not_boolean_lem args.x b h c.if-x-ne-BOOLEAN.true)

pub returns : goal.returns
returns c = λ b h.
    let args = c.args in
    likewise c.scalar.ensures (negation_boolean b (is_boolean_lem args.x b h c.if-x-ne-BOOLEAN.false))

pub scalar-requires : goal.scalar-requires
unfolding bytes simple_of
scalar-requires c = refl
