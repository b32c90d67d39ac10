-- `body_half::binary::compared` meets its contract. Assumes nothing.
use mathlib.Core.Path.{refl, sym, ◌∙◌}
use Rattle.lingua.specs.Body.{boolean}
use Rattle.lingua.specs.Encode.{bytes}
use Rattle.body.specs.Typed.{simple_of}
use Rattle.body.proofs.Answers.{likewise}
use Rattle.body_half.proofs.Halves.{quantities_other, quantities_both}
use Rattle.body_half.proofs.binary.compared.Goals as goal

pub returns-then-not-quantities : goal.returns-then-not-quantities
returns-then-not-quantities c = λ b d h k.
    let q = c.quantities in
    quantities_other boolean b d (sym (q.ensures b d h k) ∙ c.if-not-quantities.true)

pub returns : goal.returns
unfolding simple_of
returns c = λ b d h k.
    let q = c.quantities in
    likewise c.scalar.ensures (quantities_both boolean b d (sym (q.ensures b d h k) ∙ c.if-not-quantities.false))

pub scalar-requires : goal.scalar-requires
unfolding bytes simple_of
scalar-requires c = refl
