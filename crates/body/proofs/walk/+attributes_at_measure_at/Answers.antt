use mathlib.Core.Path.{◌≡◌}
use Prim.Native.Nat.{◌+◌}
use native.Mathlib.Omega.{arith}
use lib.ListN.{length, get_or}
use borrow.Author.Rules.{rules}
use Rattle.body.proofs.Places.{at_below}
use Rattle.body.proofs.Measures.{few_measured, few_attributes, some_list, measured_list, some_record_below, some_record, measured_record, measured_simple, measured_first, none_passed, all_passed, few_passed, some_next, next_below, one_passed}
use Rattle.body.proofs.walk.+attributes_at_measure_at.Goals.{attributes_at-then-body-next-le-WORD, attributes_at-else-body-next-le-WORD}
use Rattle.body.proofs.walk.+attributes_at_measure_at.Goals as goal

pub attributes_at-loop-init : goal.attributes_at-loop-init
attributes_at-loop-init t c = none_passed _ _ _

pub attributes_at-overflow_add-next : goal.attributes_at-overflow_add-next
attributes_at-overflow_add-next t c =
    let l : length c.args.body ≡ 96 = search rules in
    omega (arith, l, next_below c.loop.invariant c.loop-test.true c.requires)

pub attributes_at-bounds-body-next : goal.attributes_at-bounds-body-next
attributes_at-bounds-body-next t c =
    let l : length c.args.body ≡ 96 = search rules in
    omega (arith, l, next_below c.loop.invariant c.loop-test.true c.requires)

pub attributes_at-overflow_add-cells : goal.attributes_at-overflow_add-cells
attributes_at-overflow_add-cells t c = omega (arith, few_passed c.loop.invariant c.requires)

pub attributes_at-overflow_add-nodes : goal.attributes_at-overflow_add-nodes
attributes_at-overflow_add-nodes t c = omega (arith, few_passed c.loop.invariant c.requires)

pub attributes_at-overflow_add-next-then-body-next-le-WORD : goal.attributes_at-overflow_add-next-then-body-next-le-WORD
attributes_at-overflow_add-next-then-body-next-le-WORD t c =
    let l : length c.args.body ≡ 96 = search rules in
    omega (arith, l, next_below c.loop.invariant c.loop-test.true c.requires)

pub attributes_at-overflow_add-next-else-body-next-le-WORD : goal.attributes_at-overflow_add-next-else-body-next-le-WORD
attributes_at-overflow_add-next-else-body-next-le-WORD t c =
    let l : length c.args.body ≡ 96 = search rules in
    omega (arith, l, next_below c.loop.invariant c.loop-test.true c.requires)

pub attributes_at-measure_at-m-requires : goal.attributes_at-measure_at-m-requires
attributes_at-measure_at-m-requires t c =
    let l : length c.args.body ≡ 96 = search rules in (
      omega (arith, l, c.decreases, few_passed c.loop.invariant c.requires, next_below c.loop.invariant c.loop-test.true c.requires),
      some_next c.loop.invariant c.loop-test.true c.requires,
    )

pub attributes_at-overflow_add-cells-else-body-next-le-WORD : goal.attributes_at-overflow_add-cells-else-body-next-le-WORD
attributes_at-overflow_add-cells-else-body-next-le-WORD t c =
    let b = some_next c.loop.invariant c.loop-test.true c.requires in
    omega (arith, few_passed c.loop.invariant c.requires, few_measured c.args.body (c.loop.next + 1) c.measure_at-m.result c.measure_at-m.ensures b)

pub attributes_at-overflow_add-nodes-else-body-next-le-WORD : goal.attributes_at-overflow_add-nodes-else-body-next-le-WORD
attributes_at-overflow_add-nodes-else-body-next-le-WORD t c =
    let b = some_next c.loop.invariant c.loop-test.true c.requires in
    omega (arith, few_passed c.loop.invariant c.requires, few_measured c.args.body (c.loop.next + 1) c.measure_at-m.result c.measure_at-m.ensures b)

pub attributes_at-loop-preserved : goal.attributes_at-loop-preserved
attributes_at-loop-preserved t c =
    let l = c.loop in
    let f = c.loop-test.true in
    elim c.if-body-next-le-WORD.branch [
      | attributes_at-then-body-next-le-WORD w ↦
          one_passed l.invariant f
          (record { cells = 1; nodes = 1; depth = 1; next = l.next + 1 + 1 })
          (measured_first c.args.body (l.next + 1) w.if-body-next-le-WORD.true)
          w.cells-is w.nodes-is (omega (arith, w.depth-is, w.max-depth.ensures)) (omega (arith, w.next-is))
      | attributes_at-else-body-next-le-WORD w ↦
          one_passed l.invariant f
          w.measure_at-m.result w.measure_at-m.ensures
          w.cells-is w.nodes-is (omega (arith, w.depth-is, w.max-depth-else-body-next-le-WORD.ensures)) w.next-is
    ]

pub attributes_at-returns : goal.attributes_at-returns
attributes_at-returns t c = all_passed c.loop.invariant c.loop-test.false

pub measure_at-bounds-body-at : goal.measure_at-bounds-body-at
measure_at-bounds-body-at t c =
    let l : length c.args.body ≡ 96 = search rules in
    omega (arith, l, at_below c.args.body c.args.at c.requires.body c.requires.here)

pub measure_at-overflow_add-at : goal.measure_at-overflow_add-at
measure_at-overflow_add-at t c =
    let args = c.args in
    let pre = c.requires in
    let l : length args.body ≡ 96 = search rules in
    omega (arith, l, at_below args.body args.at pre.body pre.here)

pub measure_at-measure_at-e-requires : goal.measure_at-measure_at-e-requires
measure_at-measure_at-e-requires t c =
    let args = c.args in
    let pre = c.requires in
    let l : length args.body ≡ 96 = search rules in (
      omega (arith, l, at_below args.body args.at pre.body pre.here, c.decreases),
      some_list args.body args.at c.if-tag-eq-LIST.true pre,
    )

pub measure_at-overflow_mul-result : goal.measure_at-overflow_mul-result
measure_at-overflow_mul-result t c =
    let args = c.args in
    let measure-at-call = c.measure_at-e in
    let if1 = c.if-tag-eq-LIST in
    let pre = c.requires in
    omega (arith, few_measured args.body (args.at + 1) measure-at-call.result measure-at-call.ensures (some_list args.body args.at if1.true pre))

pub measure_at-overflow_add-result : goal.measure_at-overflow_add-result
measure_at-overflow_add-result t c =
    let args = c.args in
    let measure-at-call = c.measure_at-e in
    let if1 = c.if-tag-eq-LIST in
    let pre = c.requires in
    omega (arith, few_measured args.body (args.at + 1) measure-at-call.result measure-at-call.ensures (some_list args.body args.at if1.true pre))

pub measure_at-overflow_add-result-then-tag-eq-LIST : goal.measure_at-overflow_add-result-then-tag-eq-LIST
measure_at-overflow_add-result-then-tag-eq-LIST t c =
    let args = c.args in
    let measure-at-call = c.measure_at-e in
    let if1 = c.if-tag-eq-LIST in
    let pre = c.requires in
    omega (arith, few_measured args.body (args.at + 1) measure-at-call.result measure-at-call.ensures (some_list args.body args.at if1.true pre))

pub measure_at-overflow_add-result-then-tag-eq-LIST-2 : goal.measure_at-overflow_add-result-then-tag-eq-LIST-2
measure_at-overflow_add-result-then-tag-eq-LIST-2 t c =
    let args = c.args in
    let measure-at-call = c.measure_at-e in
    let if1 = c.if-tag-eq-LIST in
    let pre = c.requires in
    omega (arith, few_measured args.body (args.at + 1) measure-at-call.result measure-at-call.ensures (some_list args.body args.at if1.true pre))

pub measure_at-returns-then-tag-eq-LIST : goal.measure_at-returns-then-tag-eq-LIST
measure_at-returns-then-tag-eq-LIST t c =
    let args = c.args in
    let measure-at-call = c.measure_at-e in
    let if1 = c.if-tag-eq-LIST in
    measured_list args.body args.at measure-at-call.result if1.true measure-at-call.ensures

pub measure_at-overflow_add-n : goal.measure_at-overflow_add-n
measure_at-overflow_add-n t c =
    let args = c.args in
    let pre = c.requires in
    let l : length args.body ≡ 96 = search rules in
    omega (arith, l, at_below args.body args.at pre.body pre.here)

pub measure_at-bounds-body-at-then-tag-eq-RECORD : goal.measure_at-bounds-body-at-then-tag-eq-RECORD
measure_at-bounds-body-at-then-tag-eq-RECORD t c =
    let args = c.args in
    let pre = c.requires in
    let l : length args.body ≡ 96 = search rules in
    omega (arith, l, some_record_below args.body args.at c.if-tag-eq-RECORD.true pre)

pub measure_at-overflow_add-at-then-tag-eq-RECORD : goal.measure_at-overflow_add-at-then-tag-eq-RECORD
measure_at-overflow_add-at-then-tag-eq-RECORD t c =
    let args = c.args in
    let pre = c.requires in
    let l : length args.body ≡ 96 = search rules in
    omega (arith, l, at_below args.body args.at pre.body pre.here)

pub measure_at-attributes_at-a-requires : goal.measure_at-attributes_at-a-requires
measure_at-attributes_at-a-requires t c =
    let args = c.args in
    let pre = c.requires in
    let l : length args.body ≡ 96 = search rules in (
      omega (arith, l, at_below args.body args.at pre.body pre.here, c.decreases),
      some_record args.body args.at c.if-tag-eq-RECORD.true pre,
    )

pub measure_at-overflow_add-result-then-tag-eq-RECORD : goal.measure_at-overflow_add-result-then-tag-eq-RECORD
measure_at-overflow_add-result-then-tag-eq-RECORD t c =
    let args = c.args in
    let attributes-at-call = c.attributes_at-a in
    let if2 = c.if-tag-eq-RECORD in
    let pre = c.requires in
    omega (arith, few_attributes args.body (args.at + 2) (get_or args.body (args.at + 1) 0) attributes-at-call.result attributes-at-call.ensures (some_record args.body args.at if2.true pre))

pub measure_at-overflow_add-result-then-tag-eq-RECORD-2 : goal.measure_at-overflow_add-result-then-tag-eq-RECORD-2
measure_at-overflow_add-result-then-tag-eq-RECORD-2 t c =
    let args = c.args in
    let attributes-at-call = c.attributes_at-a in
    let if2 = c.if-tag-eq-RECORD in
    let pre = c.requires in
    omega (arith, few_attributes args.body (args.at + 2) (get_or args.body (args.at + 1) 0) attributes-at-call.result attributes-at-call.ensures (some_record args.body args.at if2.true pre))

pub measure_at-returns-then-tag-eq-RECORD : goal.measure_at-returns-then-tag-eq-RECORD
measure_at-returns-then-tag-eq-RECORD t c =
    let args = c.args in
    let attributes-at-call = c.attributes_at-a in
    let if2 = c.if-tag-eq-RECORD in
    measured_record args.body args.at attributes-at-call.result if2.true attributes-at-call.ensures

pub measure_at-overflow_add-result-2 : goal.measure_at-overflow_add-result-2
measure_at-overflow_add-result-2 t c =
    let args = c.args in
    let pre = c.requires in
    let l : length args.body ≡ 96 = search rules in
    omega (arith, l, at_below args.body args.at pre.body pre.here)

pub measure_at-returns : goal.measure_at-returns
measure_at-returns t c =
    let args = c.args in
    measured_simple args.body args.at c.if-tag-eq-LIST.false c.if-tag-eq-RECORD.false
