-- `body_half::binary::change` meets its contract: the attribute's body is compared with the new value's. Assumes nothing.
use Rattle.std.proofs.Common.{◌≡◌, sym, ap, ◌∙◌, None, Some, arith}
use Rattle.std.proofs.lemmas.Result.{err_from_is_err_and}
use Rattle.lingua.specs.declared.errors.Error.TheVariants.{NoSuchAttribute}
use Rattle.lingua.specs.Operation.{change}
use Rattle.lingua.specs.Typing.{offset_among, offset_in}
use Rattle.body.specs.Typed.{binary_offset}
use Rattle.body.proofs.Tags.{is_record, not_record, held_record}
use Rattle.body_half.proofs.Halves.{change_other, change_missing, change_unlike, change_like}
use Rattle.body.proofs.Selecting.{got, some_got, holds_got}
use Rattle.body_half.proofs.binary.change.Goals as goal

pub returns-then-x-ne-RECORD : goal.returns-then-x-ne-RECORD
returns-then-x-ne-RECORD c = λ b d h k.
    let args = c.args in
    let o = change args.n in
    change_other args.n b d (not_record args.x b h c.if-x-ne-RECORD.true)

pub find-requires : goal.find-requires
find-requires c = held_record c.args.x c.requires c.if-x-ne-RECORD.false

pub returns-in_err-f : goal.returns-in_err-f
returns-in_err-f c = λ b d h k.
    let p = err_from_is_err_and c.from_residual.result c.from_residual.ensures.1 in
    let v = is_record c.args.x b h c.if-x-ne-RECORD.false in
    let n : c.find.result ≡ None = grind arith in
    let e : c.in_err-f.field-0.0 ≡ NoSuchAttribute = grind arith in
    rw (p.1, p.2, e) (change_missing c.args.n b d v.attributes v.is (rw n at c.find.ensures v.attributes v.holds))

pub body_at-old-requires : goal.body_at-old-requires
body_at-old-requires c =
    let w = held_record c.args.x c.requires c.if-x-ne-RECORD.false in
    let e : c.find.result ≡ Some c.in_ok-f.f = grind arith in
    some_got _ _ _ _ (got _ _ _ _ w.holds (rw e at (c.find.ensures w.attributes w.holds)))

pub returns-then-not-same : goal.returns-then-not-same
returns-then-not-same c = λ b d h k.
    let w = is_record c.args.x b h c.if-x-ne-RECORD.false in
    let e : c.find.result ≡ Some c.in_ok-f.f = grind arith in
    let g = got _ _ _ _ w.holds (rw e at (c.find.ensures w.attributes w.holds)) in
    let s = c.same.ensures g.body d (holds_got _ _ _ _ g c.body_at-old.result c.body_at-old.ensures) k in
    change_unlike c.args.n b d g.body w.attributes w.is g.is (sym s ∙ c.if-not-same.true)

pub returns : goal.returns
unfolding binary_offset offset_in
returns c = λ b d h k.
    let w = is_record c.args.x b h c.if-x-ne-RECORD.false in
    let e : c.find.result ≡ Some c.in_ok-f.f = grind arith in
    let g = got _ _ _ _ w.holds (rw e at (c.find.ensures w.attributes w.holds)) in
    let s = c.same.ensures g.body d (holds_got _ _ _ _ g c.body_at-old.result c.body_at-old.ensures) k in
    record {
      body = b;
      is = change_like c.args.n b d g.body w.attributes w.is g.is (sym s ∙ c.if-not-same.false);
      holds = h;
      is_cells = (c.measure_body-m.ensures b h).is_cells;
      is_offset = g.is_offset ∙ sym (ap (offset_among c.args.n) w.is);
    }
