-- `body_half::binary::reckoned` meets its contract: the first operand's body is the result's. Assumes nothing.
use mathlib.Core.Path.{refl, sym, ap, subst, ◌∙◌}
use Prim.Native.Nat.{ℕ}
use Rattle.lingua.specs.Outcome.{Outcome, ok}
use Rattle.lingua.specs.Body.{Body}
use Rattle.lingua.specs.Encode.{bytes}
use Rattle.lingua.specs.Operation.{quantities_to}
use Rattle.body.specs.Typed.{TypesBody, simple_of}
use Rattle.body.proofs.Tags.{is_hundredths_lem, not_hundredths}
use Rattle.body.proofs.Answers.{likewise}
use Rattle.body_half.proofs.Halves.{quantities_other, quantities_both}
use Rattle.body_half.proofs.Quantities.{flag_hundredths, flag_other, hundredths_cell, reckoned_number}
use Rattle.body_half.proofs.binary.reckoned.Goals as goal

pub returns-then-not-quantities : goal.returns-then-not-quantities
returns-then-not-quantities c = λ b d h k.
    let q = c.quantities in
    quantities_other b b d (sym (q.ensures b d h k) ∙ c.if-not-quantities.true)

pub returns-then-x-eq-HUNDREDTHS : goal.returns-then-x-eq-HUNDREDTHS
returns-then-x-eq-HUNDREDTHS c = λ b d h k.
    let q = c.quantities in
    let i = is_hundredths_lem c.args.x b h c.if-x-eq-HUNDREDTHS.true in
    record {
      body = b;
      is = quantities_both b b d (sym (q.ensures b d h k) ∙ c.if-not-quantities.false);
      holds = h;
      is_cells = hundredths_cell b i;
      is_offset = flag_hundredths b i;
    }

pub returns : goal.returns
returns c = λ b d h k.
    let q = c.quantities in
    let both = sym (q.ensures b d h k) ∙ c.if-not-quantities.false in
    let i = not_hundredths c.args.x b h c.if-x-eq-HUNDREDTHS.false in
    subst (λ (n : ℕ). TypesBody c.scalar.result (quantities_to b b d) n) (flag_other b i)
    (likewise c.scalar.ensures (quantities_both b b d both ∙ ap {B = Outcome ℕ Body} ok (reckoned_number b d both i)))

pub scalar-requires : goal.scalar-requires
unfolding bytes simple_of
scalar-requires c = refl
