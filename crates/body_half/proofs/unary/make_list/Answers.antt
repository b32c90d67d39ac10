-- `body_half::unary::make_list` meets its contract: the bounds are asked of the list that is to be made. Assumes nothing.
use mathlib.Core.Path.{refl, sym, ◌∙◌}
use native.Mathlib.Omega.{arith}
use Rattle.lingua.specs.Body.{list_of}
use Rattle.body_half.proofs.Halves.{list_large, list_bounded}
use Rattle.body_half.proofs.Bounds.{few_held, bounded_holds, list_size, list_test}
use Rattle.body_half.proofs.unary.make_list.Goals as goal

pub overflow_mul-cells : goal.overflow_mul-cells
overflow_mul-cells c =
    let args = c.args in
    let measure-body = c.measure_body-m in
    let pre = c.requires in
    omega (arith, few_held args.x measure-body.result measure-body.ensures (pre))

pub overflow_add-cells : goal.overflow_add-cells
overflow_add-cells c =
    let args = c.args in
    let measure-body = c.measure_body-m in
    let pre = c.requires in
    omega (arith, few_held args.x measure-body.result measure-body.ensures (pre))

pub overflow_add-m : goal.overflow_add-m
overflow_add-m c =
    let args = c.args in
    let measure-body = c.measure_body-m in
    let pre = c.requires in
    omega (arith, few_held args.x measure-body.result measure-body.ensures (pre))

pub overflow_add-m-2 : goal.overflow_add-m-2
overflow_add-m-2 c =
    let args = c.args in
    let measure-body = c.measure_body-m in
    let pre = c.requires in
    omega (arith, few_held args.x measure-body.result measure-body.ensures (pre))

pub returns-then-too_large : goal.returns-then-too_large
returns-then-too_large c = λ b h.
    let measure-body = c.measure_body-m in
    let too_large = c.too_large in
    let r = measure-body.ensures b h in
    list_large b (sym (list_test measure-body.result b r) ∙ sym too_large.ensures ∙ c.if-too_large.true)

pub returns : goal.returns
returns c = λ b h.
    let measure-body = c.measure_body-m in
    let too_large = c.too_large in
    let r = measure-body.ensures b h in
    let e = sym (list_test measure-body.result b r) ∙ sym too_large.ensures ∙ c.if-too_large.false in
    record {
      body = list_of b;
      is = list_bounded b e;
      holds = bounded_holds c.list_of-body.result (list_of b) (c.list_of-body.ensures b h) e;
      is_cells = list_size measure-body.result b r;
      is_offset = refl;
    }
