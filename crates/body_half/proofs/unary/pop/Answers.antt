-- `body_half::unary::pop` meets its contract: the body stays. Assumes nothing.
use mathlib.Core.Path.{refl}
use Rattle.body.proofs.Tags.{is_list, not_list}
use Rattle.body_half.proofs.Halves.{pop_other, pop_list}
use Rattle.body_half.proofs.unary.pop.Goals as goal

pub returns-then-x-ne-LIST : goal.returns-then-x-ne-LIST
returns-then-x-ne-LIST c = λ b h.
    let args = c.args in
    pop_other b (not_list args.x b h c.if-x-ne-LIST.true)

pub returns : goal.returns
returns c = λ b h.
    let args = c.args in
    let v = is_list args.x b h c.if-x-ne-LIST.false in
    record {
      body = b;
      is = pop_list b v.element v.is;
      holds = h;
      is_cells = (c.measure_body-m.ensures b h).is_cells;
      is_offset = refl;
    }
