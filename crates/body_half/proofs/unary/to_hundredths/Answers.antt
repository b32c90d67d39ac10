-- `body_half::unary::to_hundredths` meets its contract. Assumes nothing.
use mathlib.Core.Path.{refl}
use Rattle.lingua.specs.Encode.{bytes}
use Rattle.body.specs.Typed.{simple_of}
use Rattle.body.proofs.Tags.{is_number_lem, not_number}
use Rattle.body.proofs.Answers.{likewise}
use Rattle.body_half.proofs.Halves.{to_hundredths_other, to_hundredths_number}
use Rattle.body_half.proofs.unary.to_hundredths.Goals as goal

pub returns-then-x-ne-NUMBER : goal.returns-then-x-ne-NUMBER
returns-then-x-ne-NUMBER c = λ b h.
    to_hundredths_other b (not_number c.args.x b h c.if-x-ne-NUMBER.true)

pub returns : goal.returns
returns c = λ b h.
    likewise c.scalar.ensures (to_hundredths_number b (is_number_lem c.args.x b h c.if-x-ne-NUMBER.false))

pub scalar-requires : goal.scalar-requires
unfolding bytes simple_of
scalar-requires c = refl
