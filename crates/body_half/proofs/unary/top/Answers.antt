-- `body_half::unary::top` meets its contract: what stands after a list's tag is its element. Assumes nothing.
use mathlib.Core.Path.{refl}
use Rattle.body.proofs.Tags.{is_list, not_list, held_element}
use Rattle.body_half.proofs.Halves.{top_other, top_list}
use Rattle.body_half.proofs.unary.top.Goals as goal

pub returns-then-x-ne-LIST : goal.returns-then-x-ne-LIST
returns-then-x-ne-LIST c = λ b h.
    let args = c.args in
    top_other b (not_list args.x b h c.if-x-ne-LIST.true)

pub measure_body-m-requires : goal.measure_body-m-requires
measure_body-m-requires c =
    let args = c.args in
    let pre = c.requires in
    held_element args.x c.element-body.result c.element-body.ensures (pre) c.if-x-ne-LIST.false

pub returns : goal.returns
returns c = λ b h.
    let args = c.args in
    let if1 = c.if-x-ne-LIST in
    let element-call = c.element-body in
    let v = is_list args.x b h if1.false in
    let k = element-call.ensures v.element v.holds in
    record {
      body = v.element;
      is = top_list b v.element v.is;
      holds = k;
      is_cells = (c.measure_body-m.ensures v.element k).is_cells;
      is_offset = refl;
    }
