-- `body_half::unary::select` meets its contract: what is found stands at its place, with its offset. Assumes nothing.
use Rattle.std.proofs.Common.{◌≡◌, sym, ap, ◌∙◌, None, Some, arith}
use Rattle.std.proofs.lemmas.Result.{err_from_is_err_and}
use Rattle.lingua.specs.declared.errors.Error.TheVariants.{NoSuchAttribute}
use Rattle.lingua.specs.Operation.{select}
use Rattle.lingua.specs.Typing.{offset_among, offset_in, unary_second}
use Rattle.body.proofs.Tags.{is_record, not_record, held_record}
use Rattle.body_half.proofs.Halves.{select_other, select_missing, select_found}
use Rattle.body.proofs.Selecting.{got, some_got, holds_got, held_got}
use Rattle.body_half.proofs.unary.select.Goals as goal

pub returns-then-x-ne-RECORD : goal.returns-then-x-ne-RECORD
returns-then-x-ne-RECORD c = λ b h.
    let args = c.args in
    let o = select args.n in
    select_other args.n b (not_record args.x b h c.if-x-ne-RECORD.true)

pub find-requires : goal.find-requires
find-requires c = held_record c.args.x c.requires c.if-x-ne-RECORD.false

pub returns-in_err-f : goal.returns-in_err-f
returns-in_err-f c = λ b h.
    let p = err_from_is_err_and c.from_residual.result c.from_residual.ensures.1 in
    let v = is_record c.args.x b h c.if-x-ne-RECORD.false in
    let n : c.find.result ≡ None = grind arith in
    let e : c.in_err-f.field-0.0 ≡ NoSuchAttribute = grind arith in
    rw (p.1, p.2, e) (select_missing c.args.n b v.attributes v.is (rw n at c.find.ensures v.attributes v.holds))

pub body_at-body-requires : goal.body_at-body-requires
body_at-body-requires c =
    let w = held_record c.args.x c.requires c.if-x-ne-RECORD.false in
    let e : c.find.result ≡ Some c.in_ok-f.f = grind arith in
    some_got _ _ _ _ (got _ _ _ _ w.holds (rw e at (c.find.ensures w.attributes w.holds)))

pub measure_body-m-requires : goal.measure_body-m-requires
measure_body-m-requires c =
    let w = held_record c.args.x c.requires c.if-x-ne-RECORD.false in
    let e : c.find.result ≡ Some c.in_ok-f.f = grind arith in
    held_got _ _ _ _ (got _ _ _ _ w.holds (rw e at (c.find.ensures w.attributes w.holds)))
    c.body_at-body.result c.body_at-body.ensures

pub returns : goal.returns
unfolding unary_second offset_in
returns c = λ b h.
    let w = is_record c.args.x b h c.if-x-ne-RECORD.false in
    let e : c.find.result ≡ Some c.in_ok-f.f = grind arith in
    let g = got _ _ _ _ w.holds (rw e at (c.find.ensures w.attributes w.holds)) in
    let k = holds_got _ _ _ _ g c.body_at-body.result c.body_at-body.ensures in
    record {
      body = g.body;
      is = select_found c.args.n b g.body w.attributes w.is g.is;
      holds = k;
      is_cells = (c.measure_body-m.ensures g.body k).is_cells;
      is_offset = g.is_offset ∙ sym (ap (offset_among c.args.n) w.is);
    }
