-- `body_half::unary::to_number` meets its contract. Assumes nothing.
use mathlib.Core.Path.{refl}
use Rattle.lingua.specs.Encode.{bytes}
use Rattle.body.specs.Typed.{simple_of}
use Rattle.body.proofs.Tags.{is_hundredths_lem, not_hundredths}
use Rattle.body.proofs.Answers.{likewise}
use Rattle.body_half.proofs.Halves.{to_number_other, to_number_hundredths}
use Rattle.body_half.proofs.unary.to_number.Goals as goal

pub returns-then-x-ne-HUNDREDTHS : goal.returns-then-x-ne-HUNDREDTHS
returns-then-x-ne-HUNDREDTHS c = λ b h.
    to_number_other b (not_hundredths c.args.x b h c.if-x-ne-HUNDREDTHS.true)

pub returns : goal.returns
returns c = λ b h.
    likewise c.scalar.ensures (to_number_hundredths b (is_hundredths_lem c.args.x b h c.if-x-ne-HUNDREDTHS.false))

pub scalar-requires : goal.scalar-requires
unfolding bytes simple_of
scalar-requires c = refl
