-- `body_half::binary::equal` meets its contract: a body that is no list and no record is simple. Assumes nothing.
use mathlib.Core.Path.{refl, sym, ◌∙◌}
use Rattle.lingua.specs.Encode.{bytes}
use Rattle.body.specs.Typed.{simple_of}
use Rattle.body.proofs.Tags.{is_simple_lem, list_not_simple, record_not_simple}
use Rattle.body.proofs.Answers.{likewise}
use Rattle.body_half.proofs.Halves.{equal_other, equal_unlike, equal_like}
use Rattle.body_half.proofs.binary.equal.Goals as goal

pub returns-then-x-eq-LIST : goal.returns-then-x-eq-LIST
returns-then-x-eq-LIST c = λ b d h k.
    equal_other b d (list_not_simple c.args.x b h c.if-x-eq-LIST.true)

pub returns-then-x-eq-RECORD : goal.returns-then-x-eq-RECORD
returns-then-x-eq-RECORD c = λ b d h k.
    equal_other b d (record_not_simple c.args.x b h c.if-x-eq-RECORD.true)

pub returns-then-not-same : goal.returns-then-not-same
returns-then-not-same c = λ b d h k.
    let same = c.same in
    equal_unlike b d (is_simple_lem c.args.x b h c.if-x-eq-LIST.false c.if-x-eq-RECORD.false) (sym (same.ensures b d h k) ∙ c.if-not-same.true)

pub returns : goal.returns
returns c = λ b d h k.
    let same = c.same in
    likewise c.scalar.ensures (equal_like b d (is_simple_lem c.args.x b h c.if-x-eq-LIST.false c.if-x-eq-RECORD.false) (sym (same.ensures b d h k) ∙ c.if-not-same.false))

pub scalar-requires : goal.scalar-requires
unfolding bytes simple_of
scalar-requires c = refl
