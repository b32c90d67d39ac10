-- `body_half::binary::push` meets its contract: the list's element is compared with what is pushed. Assumes nothing.
use mathlib.Core.Path.{refl, sym, ◌∙◌}
use Rattle.body.proofs.Tags.{is_list, not_list}
use Rattle.body_half.proofs.Halves.{push_other, push_unlike, push_like}
use Rattle.body_half.proofs.binary.push.Goals as goal

pub returns-then-x-ne-LIST : goal.returns-then-x-ne-LIST
returns-then-x-ne-LIST c = λ b d h k.
    let args = c.args in
    push_other b d (not_list args.x b h c.if-x-ne-LIST.true)

pub returns-then-not-same : goal.returns-then-not-same
returns-then-not-same c = λ b d h k.
    let args = c.args in
    let if1 = c.if-x-ne-LIST in
    let same = c.same in
    let element-call = c.element-inner in
    let v = is_list args.x b h if1.false in
    let s = same.ensures v.element d (element-call.ensures v.element v.holds) k in
    push_unlike b d v.element v.is (sym s ∙ c.if-not-same.true)

pub returns : goal.returns
returns c = λ b d h k.
    let args = c.args in
    let if1 = c.if-x-ne-LIST in
    let same = c.same in
    let element-call = c.element-inner in
    let v = is_list args.x b h if1.false in
    let s = same.ensures v.element d (element-call.ensures v.element v.holds) k in
    record {
      body = b;
      is = push_like b d v.element v.is (sym s ∙ c.if-not-same.false);
      holds = h;
      is_cells = (c.measure_body-m.ensures b h).is_cells;
      is_offset = refl;
    }
