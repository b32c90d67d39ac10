-- `body_half::binary::expand` meets its contract: the bounds are asked of the record that is to be made, and the offset is
-- looked up in it. Assumes nothing.
use mathlib.Core.Path.{sym, ap, ◌∙◌}
use native.Mathlib.Omega.{arith}
use Rattle.lingua.specs.Body.{record_of, insert_attribute}
use Rattle.lingua.specs.Operation.{expand}
use Rattle.body.specs.Typed.{binary_offset, offset_after}
use Rattle.body.proofs.Tags.{is_record, not_record, held_record}
use Rattle.body.proofs.Selecting.{found_is, found_there}
use Rattle.body_half.proofs.Halves.{expand_other, expand_present, expand_large, expand_bounded}
use Rattle.body_half.proofs.Bounds.{few_held, bounded_holds}
use Rattle.body_half.proofs.Expanding.{inserted_found, expand_size, expand_test, expand_room, count_small}
use Rattle.body_half.proofs.binary.expand.Goals as goal

pub returns-then-x-ne-RECORD : goal.returns-then-x-ne-RECORD
returns-then-x-ne-RECORD c = λ b d h k.
    let args = c.args in
    let o = expand args.n in
    expand_other args.n b d (not_record args.x b h c.if-x-ne-RECORD.true)

pub find-requires : goal.find-requires
find-requires c = held_record c.args.x c.requires.held c.if-x-ne-RECORD.false

pub returns-then-present : goal.returns-then-present
returns-then-present c = λ b d h k.
    let args = c.args in
    let if1 = c.if-x-ne-RECORD in
    let find = c.find in
    let o = expand args.n in
    let w = is_record args.x b h if1.false in
    expand_present args.n b d w.attributes w.is (found_is _ _ _ _ (find.ensures w.attributes w.holds) ∙ sym c.is_some-present.ensures ∙ c.if-present.true)

pub overflow_add-cells : goal.overflow_add-cells
overflow_add-cells c =
    let args = c.args in
    let measure-body = c.measure_body-m in
    let pre = c.requires in
    let measure-body2 = c.measure_body-k in
    omega (arith, few_held args.x measure-body.result measure-body.ensures c.requires.held, few_held args.y measure-body2.result measure-body2.ensures c.requires.held_2)

pub overflow_add-k : goal.overflow_add-k
overflow_add-k c =
    let args = c.args in
    let measure-body = c.measure_body-m in
    let pre = c.requires in
    let measure-body2 = c.measure_body-k in
    omega (arith, few_held args.x measure-body.result measure-body.ensures c.requires.held, few_held args.y measure-body2.result measure-body2.ensures c.requires.held_2)

pub overflow_add-m : goal.overflow_add-m
overflow_add-m c =
    let args = c.args in
    let measure-body = c.measure_body-m in
    let pre = c.requires in
    let measure-body2 = c.measure_body-k in
    omega (arith, few_held args.x measure-body.result measure-body.ensures c.requires.held, few_held args.y measure-body2.result measure-body2.ensures c.requires.held_2)

pub overflow_add-x : goal.overflow_add-x
overflow_add-x c =
    let args = c.args in
    let pre = c.requires in
    let if1 = c.if-x-ne-RECORD in
    omega (arith, count_small args.x (held_record args.x c.requires.held if1.false))

pub returns-then-too_large : goal.returns-then-too_large
returns-then-too_large c = λ b d h k.
    let args = c.args in
    let if1 = c.if-x-ne-RECORD in
    let measure-body = c.measure_body-m in
    let measure-body2 = c.measure_body-k in
    let larger = c.max-depth in
    let too_large = c.too_large in
    let find = c.find in
    let if2 = c.if-present in
    let o = expand args.n in
    let w = is_record args.x b h if1.false in
    let e = sym (expand_test args.x args.y args.n measure-body.result measure-body2.result w.attributes d w.holds k (measure-body.ensures (record_of w.attributes) w.holds) (measure-body2.ensures d k) larger.result larger.ensures) ∙ sym too_large.ensures ∙ c.if-too_large.true in
    expand_large args.n b d w.attributes w.is (found_is _ _ _ _ (find.ensures w.attributes w.holds) ∙ sym c.is_some-present.ensures ∙ if2.false) e

pub insert-body-requires : goal.insert-body-requires
insert-body-requires c =
    let args = c.args in
    let pre = c.requires in
    let if1 = c.if-x-ne-RECORD in
    let measure-body = c.measure_body-m in
    let measure-body2 = c.measure_body-k in
    let larger = c.max-depth in
    let w = held_record args.x c.requires.held if1.false in
    let v = c.requires.held_2 in
    let e = sym (expand_test args.x args.y args.n measure-body.result measure-body2.result w.attributes v.body w.holds v.holds (measure-body.ensures (record_of w.attributes) w.holds) (measure-body2.ensures v.body v.holds) larger.result larger.ensures) ∙ sym c.too_large.ensures ∙ c.if-too_large.false in
    expand_room args.x args.y args.n measure-body.result measure-body2.result w.attributes v.body w.holds v.holds (measure-body.ensures (record_of w.attributes) w.holds) (measure-body2.ensures v.body v.holds) e

pub find-requires-2 : goal.find-requires-2
find-requires-2 c =
    let args = c.args in
    let pre = c.requires in
    let if1 = c.if-x-ne-RECORD in
    let measure-body = c.measure_body-m in
    let measure-body2 = c.measure_body-k in
    let larger = c.max-depth in
    let too_large = c.too_large in
    let w = held_record args.x c.requires.held if1.false in
    let v = c.requires.held_2 in
    let gs = insert_attribute args.n v.body w.attributes in
    let e = sym (expand_test args.x args.y args.n measure-body.result measure-body2.result w.attributes v.body w.holds v.holds (measure-body.ensures (record_of w.attributes) w.holds) (measure-body2.ensures v.body v.holds) larger.result larger.ensures) ∙ sym too_large.ensures ∙ c.if-too_large.false in
    record {
      attributes = gs;
      holds = bounded_holds c.insert-body.result (record_of gs) (c.insert-body.ensures w.attributes v.body w.holds v.holds) e;
    }

pub unwrap-f-requires : goal.unwrap-f-requires
unwrap-f-requires c =
    let args = c.args in
    let measure-body = c.measure_body-m in
    let measure-body2 = c.measure_body-k in
    let w = held_record args.x c.requires.held c.if-x-ne-RECORD.false in
    let v = c.requires.held_2 in
    let gs = insert_attribute args.n v.body w.attributes in
    let e = sym (expand_test args.x args.y args.n measure-body.result measure-body2.result w.attributes v.body w.holds v.holds (measure-body.ensures (record_of w.attributes) w.holds) (measure-body2.ensures v.body v.holds) c.max-depth.result c.max-depth.ensures) ∙ sym c.too_large.ensures ∙ c.if-too_large.false in
    let j = bounded_holds c.insert-body.result (record_of gs) (c.insert-body.ensures w.attributes v.body w.holds v.holds) e in
    found_there _ _ gs _ (c.find-2.ensures gs j) (inserted_found args.n v.body w.attributes)

pub returns : goal.returns
unfolding binary_offset offset_after
returns c = λ b d h k.
    let args = c.args in
    let if1 = c.if-x-ne-RECORD in
    let measure-body = c.measure_body-m in
    let measure-body2 = c.measure_body-k in
    let larger = c.max-depth in
    let too_large = c.too_large in
    let if3 = c.if-too_large in
    let insert = c.insert-body in
    let find = c.find in
    let if2 = c.if-present in
    let o = expand args.n in
    let w = is_record args.x b h if1.false in
    let gs = insert_attribute args.n d w.attributes in
    let e = sym (expand_test args.x args.y args.n measure-body.result measure-body2.result w.attributes d w.holds k (measure-body.ensures (record_of w.attributes) w.holds) (measure-body2.ensures d k) larger.result larger.ensures) ∙ sym too_large.ensures ∙ if3.false in
    let j = bounded_holds insert.result (record_of gs) (insert.ensures w.attributes d w.holds k) e in
    let q = rw c.unwrap-f.ensures at (c.find-2.ensures gs j) in
    let f = q.is_offset ∙ sym (ap (offset_after args.n d) w.is) in
    record {
      body = record_of gs;
      is = expand_bounded args.n b d w.attributes w.is (found_is _ _ _ _ (find.ensures w.attributes w.holds) ∙ sym c.is_some-present.ensures ∙ if2.false) e;
      holds = j;
      is_cells = expand_size args.x args.y args.n measure-body.result measure-body2.result w.attributes d w.holds k (measure-body.ensures (record_of w.attributes) w.holds) (measure-body2.ensures d k);
      is_offset = f;
    }
