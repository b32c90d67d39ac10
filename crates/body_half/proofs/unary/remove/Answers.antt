-- `body_half::unary::remove` meets its contract: what is found is cut out, unless it is all there is. Assumes nothing.
use Rattle.std.proofs.Common.{◌≡◌, sym, ap, ◌∙◌, None, Some, arith}
use Rattle.std.proofs.lemmas.Result.{err_from_is_err_and}
use Rattle.lingua.specs.declared.errors.Error.TheVariants.{NoSuchAttribute}
use Rattle.lingua.specs.Outcome.{is_some}
use native.Mathlib.Omega.{arith}
use borrow.Author.Tests.{lt-ltb, le-ltb}
use Rattle.lingua.specs.Body.{count_attributes, record_of, remove_attribute}
use Rattle.lingua.specs.Operation.{remove}
use Rattle.lingua.specs.Typing.{offset_among, offset_in, unary_second}
use Rattle.body.proofs.Places.{record_count}
use Rattle.body.proofs.Making.{held_at}
use Rattle.body.proofs.Tags.{is_record, not_record, held_record}
use Rattle.body_half.proofs.Halves.{remove_other, remove_missing, remove_last, remove_found}
use Rattle.body.proofs.Selecting.{placed, some_found}
use Rattle.body_half.proofs.unary.remove.Goals as goal

pub returns-then-x-ne-RECORD : goal.returns-then-x-ne-RECORD
returns-then-x-ne-RECORD c = λ b h.
    let args = c.args in
    let o = remove args.n in
    remove_other args.n b (not_record args.x b h c.if-x-ne-RECORD.true)

pub find-requires : goal.find-requires
find-requires c = held_record c.args.x c.requires c.if-x-ne-RECORD.false

pub returns-in_err-gone : goal.returns-in_err-gone
returns-in_err-gone c = λ b h.
    let p = err_from_is_err_and c.from_residual.result c.from_residual.ensures.1 in
    let v = is_record c.args.x b h c.if-x-ne-RECORD.false in
    let n : c.find.result ≡ None = grind arith in
    let e : c.in_err-gone.field-0.0 ≡ NoSuchAttribute = grind arith in
    rw (p.1, p.2, e) (remove_missing c.args.n b v.attributes v.is (ap is_some (rw n at c.find.ensures v.attributes v.holds)))

pub returns-then-x-lt2 : goal.returns-then-x-lt2
returns-then-x-lt2 c = λ b h.
    let v = is_record c.args.x b h c.if-x-ne-RECORD.false in
    let e : c.find.result ≡ Some c.in_ok-gone.gone = grind arith in
    let g = rw e at (c.find.ensures v.attributes v.holds) in
    let k = le-ltb 1 (count_attributes v.attributes)
    (omega (arith, c.if-x-lt2.true, record_count c.args.x 0 v.attributes (held_at c.args.x (record_of v.attributes) v.holds))) in
    remove_last c.args.n b v.attributes v.is (ap is_some g.there) k

pub cut-body-requires : goal.cut-body-requires
cut-body-requires c =
    let w = held_record c.args.x c.requires c.if-x-ne-RECORD.false in
    let e : c.find.result ≡ Some c.in_ok-gone.gone = grind arith in
    some_found _ _ _ _ w.holds (rw e at (c.find.ensures w.attributes w.holds))

pub measure_body-m-requires : goal.measure_body-m-requires
measure_body-m-requires c =
    let w = held_record c.args.x c.requires c.if-x-ne-RECORD.false in
    let e : c.find.result ≡ Some c.in_ok-gone.gone = grind arith in
    let p = placed _ _ _ _ w.holds (rw e at (c.find.ensures w.attributes w.holds)) in
    record { body = record_of (remove_attribute c.args.n w.attributes); holds = c.cut-body.ensures c.args.n w.attributes w.holds p }

pub returns : goal.returns
unfolding unary_second offset_in
returns c = λ b h.
    let w = is_record c.args.x b h c.if-x-ne-RECORD.false in
    let e : c.find.result ≡ Some c.in_ok-gone.gone = grind arith in
    let g = rw e at (c.find.ensures w.attributes w.holds) in
    let k = lt-ltb 1 (count_attributes w.attributes)
    (omega (arith, c.if-x-lt2.false, record_count c.args.x 0 w.attributes (held_at c.args.x (record_of w.attributes) w.holds))) in
    let d = record_of (remove_attribute c.args.n w.attributes) in
    let i = c.cut-body.ensures c.args.n w.attributes w.holds (placed _ _ _ _ w.holds g) in
    record {
      body = d;
      is = remove_found c.args.n b w.attributes w.is (ap is_some g.there) k;
      holds = i;
      is_cells = (c.measure_body-m.ensures d i).is_cells;
      is_offset = g.is_offset ∙ sym (ap (offset_among c.args.n) w.is);
    }
