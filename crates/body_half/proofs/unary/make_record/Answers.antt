-- `body_half::unary::make_record` meets its contract: the bounds are asked of the record that is to be made. Assumes nothing.
use mathlib.Core.Path.{refl, sym, ◌∙◌}
use native.Mathlib.Omega.{arith}
use Rattle.lingua.specs.Body.{record_of, attribute, end}
use Rattle.body_half.proofs.Halves.{record_large, record_bounded}
use Rattle.body_half.proofs.Bounds.{few_held, bounded_holds, record_size, record_test, record_room}
use Rattle.body_half.proofs.unary.make_record.Goals as goal

pub overflow_add-m : goal.overflow_add-m
overflow_add-m c =
    let args = c.args in
    let measure-body = c.measure_body-m in
    let pre = c.requires in
    omega (arith, few_held args.x measure-body.result measure-body.ensures (pre))

pub overflow_add-m-2 : goal.overflow_add-m-2
overflow_add-m-2 c =
    let args = c.args in
    let measure-body = c.measure_body-m in
    let pre = c.requires in
    omega (arith, few_held args.x measure-body.result measure-body.ensures (pre))

pub returns-then-too_large : goal.returns-then-too_large
returns-then-too_large c = λ b h.
    let measure-body = c.measure_body-m in
    let args = c.args in
    let too_large = c.too_large in
    let r = measure-body.ensures b h in
    record_large args.n b (sym (record_test measure-body.result args.n b r) ∙ sym too_large.ensures ∙ c.if-too_large.true)

pub returns : goal.returns
returns c = λ b h.
    let measure-body = c.measure_body-m in
    let args = c.args in
    let too_large = c.too_large in
    let r = measure-body.ensures b h in
    let n = args.n in
    let e = sym (record_test measure-body.result n b r) ∙ sym too_large.ensures ∙ c.if-too_large.false in
    record {
      body = record_of (attribute n b end);
      is = record_bounded n b e;
      holds = bounded_holds c.record_of-body.result (record_of (attribute n b end)) (c.record_of-body.ensures b h (record_room n b e)) e;
      is_cells = record_size measure-body.result n b r;
      is_offset = refl;
    }
