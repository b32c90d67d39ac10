use mathlib.Core.Path.{◌≡◌, refl, sym}
use mathlib.Core.Bool.{true, false}
use Rattle.lingua.specs.Errors.{boolean_expected}
use Rattle.lingua.specs.Outcome.{ok, ◌>>=◌}
use Prim.Native.Nat.{◌≤◌}
use native.Mathlib.Omega.{arith}
use lib.ListN.{length, length-take, length-drop}
use Rattle.laws.specs.Faults.{passed}
use Rattle.lingua.specs.Value.{composite, as_items, count_values}
use Rattle.lingua.specs.Store.{contents}
use Rattle.lingua.specs.Trees.{expression_tree}
use Rattle.lingua.specs.Evaluation.{eval as meaning, truth_or}
use Rattle.profile.specs.Facts.{RowFacts, row_tree}
use Rattle.profile.specs.Known.{row_known}
use Rattle.checked_row.proofs.Giving.{gives_error, gives_as}
use Rattle.cells.proofs.Walking.{counted_elements, element_at}
use Rattle.checked_row.proofs.Stacking.{first_stays, second_lies}
use Rattle.checked_row.proofs.Seeing.{sees_none}
use Rattle.checked.proofs.Walking.{no_list, current_list, element_held, list_cell, list_walks, list_turn, element_current, sees_more, sees_all, all_is}
use Rattle.checked_row.proofs.Simple.{quick_simple, quick_failed}
use Rattle.checked_row.proofs.Cycle.{facts, few_named, by_row, lazy_error, lazy_settled, lazy_second_error, lazy_second_told, choice_error, choice_told}
use Prim.Native.Nat.{◌<◌}
use Rattle.checked.proofs.eval.+all_choice_eval_lazy.Goals as goal

pub all-returns-then-current-ne-LIST : goal.all-returns-then-current-ne-LIST
all-returns-then-current-ne-LIST t c = λ vs x w h. gives_error _ (no_list c.args.row _ (contents vs) h c.if-current-ne-LIST.true)

pub all-measure_body-m-requires : goal.all-measure_body-m-requires
all-measure_body-m-requires t c = element_held c.requires.asked.ready.has c.if-current-ne-LIST.false c.element-inner.ensures

pub all-bounds-current-0-2 : goal.all-bounds-current-0-2
all-bounds-current-0-2 t c = list_cell c.requires.asked.ready.has c.if-current-ne-LIST.false c.element-inner.ensures

pub all-overflow_cast-n : goal.all-overflow_cast-n
all-overflow_cast-n t c =
    let k = list_walks c.requires.asked.ready.has c.if-current-ne-LIST.false c.element-inner.ensures c.measure_body-m.result.cells (λ b h. (c.measure_body-m.ensures b h).is_cells) in
    rw k.positive (tt, omega (arith, k.few))

pub all-loop-i-init : goal.all-loop-i-init
all-loop-i-init t c = λ vs b x w h l. sees_none

pub all-overflow_mul-at : goal.all-overflow_mul-at
all-overflow_mul-at t c = omega (arith, (list_turn c.requires.asked.ready.has c.if-current-ne-LIST.false c.element-inner.ensures _ (λ b h. (c.measure_body-m.ensures b h).is_cells) _ c.loop-i-test.true).0)

pub all-overflow_add-at : goal.all-overflow_add-at
all-overflow_add-at t c = omega (arith, (list_turn c.requires.asked.ready.has c.if-current-ne-LIST.false c.element-inner.ensures _ (λ b h. (c.measure_body-m.ensures b h).is_cells) _ c.loop-i-test.true).0)

pub all-overflow_add-part : goal.all-overflow_add-part
all-overflow_add-part t c = omega (arith, (list_turn c.requires.asked.ready.has c.if-current-ne-LIST.false c.element-inner.ensures _ (λ b h. (c.measure_body-m.ensures b h).is_cells) _ c.loop-i-test.true).0)

pub all-offset_bounds-current-at : goal.all-offset_bounds-current-at
all-offset_bounds-current-at t c = omega (arith, (list_turn c.requires.asked.ready.has c.if-current-ne-LIST.false c.element-inner.ensures _ (λ b h. (c.measure_body-m.ensures b h).is_cells) _ c.loop-i-test.true).0)

pub all-slice_bounds-part-end : goal.all-slice_bounds-part-end
all-slice_bounds-part-end t c = (list_turn c.requires.asked.ready.has c.if-current-ne-LIST.false c.element-inner.ensures _ (λ b h. (c.measure_body-m.ensures b h).is_cells) _ c.loop-i-test.true).1

pub all-eval-x-requires : goal.all-eval-x-requires
all-eval-x-requires t c =
    let r = c.requires.asked.ready in
    let l = current_list r.has.is c.if-current-ne-LIST.false in
    let held = c.element-inner.ensures l.element l.holds in
    let more : c.loop-i.i < count_values (as_items r.has.value.value) = omega (arith, c.loop-i-test.true, counted_elements l.lies) in (
      omega (arith, c.decreases, c.requires.a_lt_row),
      record {
        ready = record { store = r.store; world = r.world; has = record { value = _; is = element_current l.lies held c.loop-i.i _ _ (c.measure_body-m.ensures _ held).is_cells refl more } };
        here = omega (arith, c.requires.a_lt_row, c.requires.asked.here);
        room = omega (arith, c.requires.a_lt_row, c.requires.asked.room, c.loop-i.auto.stack);
      },
    )

pub all-loop-i-preserved : goal.all-loop-i-preserved
all-loop-i-preserved t c = λ vs b x w h l.
    let more : c.loop-i.i < count_values (as_items x) = omega (arith, c.loop-i-test.true, counted_elements l) in
    sees_more _ x c.loop-i.i more (c.tallied-seen.ensures _ _ (c.loop-i.invariant vs b x w h l) (c.eval-x.ensures vs (composite b (element_at x c.loop-i.i)) w (element_current l h c.loop-i.i _ _ (c.measure_body-m.ensures b h).is_cells refl more)))

pub all-returns : goal.all-returns
all-returns t c = λ vs x w h.
    let l = current_list h c.if-current-ne-LIST.false in
    let held = c.element-inner.ensures l.element l.holds in
    gives_as (all_is c.args.row _ (contents vs) l) (c.concluded.ensures _ (sees_all _ x.value c.loop-i.i (omega (arith, c.loop-i-test.false, c.loop-i.auto.i-end, counted_elements l.lies)) (c.loop-i.invariant vs l.element x.value w held l.lies)))

pub choice-returns-in_err-truth_of : goal.choice-returns-in_err-truth_of
choice-returns-in_err-truth_of t c = λ vs x w h. rw (passed _ _ c.from_residual.ensures.1) (gives_error _ (choice_error _ _ _ _ _ _ _ (sym (c.in_err-truth_of.ensures _ (c.eval-x.ensures vs x w h)))))

pub choice-returns-then-branch : goal.choice-returns-then-branch
choice-returns-then-branch t c = λ vs x w h.
    let told : ok true ≡ (meaning (expression_tree c.args.sight.now.rows.now c.args.test) (contents vs) x >>= truth_or boolean_expected) = rw c.if-branch.true at (c.in_ok-truth_of.ensures _ (c.eval-x.ensures vs x w h)) in
    gives_as (choice_told c.args.row _ (expression_tree c.args.sight.now.rows.now c.args.a) (expression_tree c.args.sight.now.rows.now c.args.b) (contents vs) x true told) (c.eval.ensures vs x w h)

pub choice-returns : goal.choice-returns
choice-returns t c = λ vs x w h.
    let told : ok false ≡ (meaning (expression_tree c.args.sight.now.rows.now c.args.test) (contents vs) x >>= truth_or boolean_expected) = rw c.if-branch.false at (c.in_ok-truth_of.ensures _ (c.eval-x.ensures vs x w h)) in
    gives_as (choice_told c.args.row _ (expression_tree c.args.sight.now.rows.now c.args.a) (expression_tree c.args.sight.now.rows.now c.args.b) (contents vs) x false told) (c.eval-2.ensures vs x w h)

pub eval-expression_row-says-requires-clause-known_expression : goal.eval-expression_row-says-requires-clause-known_expression
eval-expression_row-says-requires-clause-known_expression t c = row_known _ c.requires.ready.world.accepted _ c.requires.here

pub eval-constant-requires-clause-constant_row : goal.eval-constant-requires-clause-constant_row
unfolding RowFacts
eval-constant-requires-clause-constant_row t c = (facts c.requires.ready.world c.requires.here c.in-Constant.is c.expression_row-says.ensures, omega (arith, c.requires.room))

pub eval-fetch-requires-clause-has_stored : goal.eval-fetch-requires-clause-has_stored
eval-fetch-requires-clause-has_stored t c =
    let w = c.requires.ready.world in record { store = c.requires.ready.store; stored = w.stored; there = few_named w c.requires.here c.in-Variable.is c.expression_row-says.ensures }

pub eval-eval-x-requires : goal.eval-eval-x-requires
unfolding RowFacts
eval-eval-x-requires t c =
    let f = facts c.requires.ready.world c.requires.here c.in-Unary.is c.expression_row-says.ensures in
    (omega (arith, c.decreases, f), record { ready = c.requires.ready; here = omega (arith, f, c.requires.here); room = omega (arith, c.requires.room, f) })

pub eval-unary-requires-clause-given : goal.eval-unary-requires-clause-given
eval-unary-requires-clause-given t c = let r = c.requires.ready in record { outcome = _; gives = c.eval-x.ensures r.store r.has.value r.world r.has.is }

pub eval-pair-quick-requires : goal.eval-pair-quick-requires
unfolding RowFacts
eval-pair-quick-requires t c =
    let f = facts c.requires.ready.world c.requires.here c.in-Binary.is c.expression_row-says.ensures in record { asked = record { ready = c.requires.ready; here = omega (arith, f.0, c.requires.here); room = omega (arith, c.requires.room, f.0) }; asked_2 = record { ready = c.requires.ready; here = omega (arith, f.1, c.requires.here); room = simp length-drop (omega (arith, c.requires.room, f.1)) } }

pub eval-returns-in_err-tag-in-Binary : goal.eval-returns-in_err-tag-in-Binary
unfolding row_tree meaning
eval-returns-in_err-tag-in-Binary t c = λ vs x w h.
    rw (passed _ _ c.from_residual.ensures.1)
    (by_row w c.requires.here x c.in-Binary.is c.expression_row-says.ensures (quick_failed _ _ _ _ c.in_err-tag-in-Binary.was (c.in-Some.ensures vs x w h)))

pub eval-returns-in-Some : goal.eval-returns-in-Some
unfolding row_tree meaning
eval-returns-in-Some t c = λ vs x w h.
    rw c.simple_value.ensures (by_row w c.requires.here x c.in-Binary.is c.expression_row-says.ensures (quick_simple _ _ _ _ c.in_ok-tag-in-Binary.was (c.in-Some.ensures vs x w h)))

pub eval-eval-x-requires-in-Binary : goal.eval-eval-x-requires-in-Binary
unfolding RowFacts
eval-eval-x-requires-in-Binary t c =
    let f = facts c.requires.ready.world c.requires.here c.in-Binary.is c.expression_row-says.ensures in
    (omega (arith, c.decreases, f.0), record { ready = c.requires.ready; here = omega (arith, f.0, c.requires.here); room = omega (arith, c.requires.room, f.0, c.pair-quick.auto.stack) })

pub eval-eval-y-requires : goal.eval-eval-y-requires
unfolding RowFacts
eval-eval-y-requires t c =
    let f = facts c.requires.ready.world c.requires.here c.in-Binary.is c.expression_row-says.ensures in
    (omega (arith, c.decreases, f.1), record { ready = c.requires.ready; here = omega (arith, f.1, c.requires.here); room = simp (length-take, length-drop) (omega (arith, c.requires.room, f.1, c.eval-x-in-Binary.auto.stack, c.pair-quick.auto.stack)) })

pub eval-binary-requires-clause-given : goal.eval-binary-requires-clause-given
eval-binary-requires-clause-given t c =
    let r = c.requires.ready in
    let long : 64 ≤ length c.eval-x-in-Binary.new.stack = omega (arith, c.requires.room, c.eval-x-in-Binary.auto.stack, c.pair-quick.auto.stack) in
    record { outcome = _; gives = first_stays c.eval-y.new.stack _ long (c.eval-x-in-Binary.ensures r.store r.has.value r.world r.has.is) }

pub eval-binary-requires-clause-given_2 : goal.eval-binary-requires-clause-given_2
eval-binary-requires-clause-given_2 t c =
    let r = c.requires.ready in
    let long : 64 ≤ length c.eval-x-in-Binary.new.stack = omega (arith, c.requires.room, c.eval-x-in-Binary.auto.stack, c.pair-quick.auto.stack) in
    record { outcome = _; gives = second_lies c.eval-x-in-Binary.new.stack c.eval-y.new.stack _ long (c.eval-y.ensures r.store r.has.value r.world r.has.is) }

pub eval-lazy-requires : goal.eval-lazy-requires
unfolding RowFacts
eval-lazy-requires t c =
    let f = facts c.requires.ready.world c.requires.here c.in-Lazy.is c.expression_row-says.ensures in
    (omega (arith, c.decreases), (c.requires, (f.0, f.1)))

pub eval-choice-requires : goal.eval-choice-requires
unfolding RowFacts
eval-choice-requires t c =
    let f = facts c.requires.ready.world c.requires.here c.in-Choice.is c.expression_row-says.ensures in
    (omega (arith, c.decreases), (c.requires, (f.0, f.1, f.2)))

pub eval-all-requires : goal.eval-all-requires
unfolding RowFacts
eval-all-requires t c =
    let f = facts c.requires.ready.world c.requires.here c.in-AllList.is c.expression_row-says.ensures in
    (omega (arith, c.decreases), (c.requires, f))

pub eval-returns-in-Constant : goal.eval-returns-in-Constant
unfolding row_tree meaning
eval-returns-in-Constant t c = λ vs x w h. by_row w c.requires.here x c.in-Constant.is c.expression_row-says.ensures c.constant.ensures

pub eval-returns-in-Variable : goal.eval-returns-in-Variable
unfolding row_tree meaning
eval-returns-in-Variable t c = λ vs x w h. by_row w c.requires.here x c.in-Variable.is c.expression_row-says.ensures (c.fetch.ensures vs w.stored)

pub eval-returns-in-Current : goal.eval-returns-in-Current
unfolding row_tree meaning
eval-returns-in-Current t c = λ vs x w h. by_row w c.requires.here x c.in-Current.is c.expression_row-says.ensures (c.copied.ensures x h)

pub eval-returns-in-Unary : goal.eval-returns-in-Unary
unfolding row_tree meaning
eval-returns-in-Unary t c = λ vs x w h. by_row w c.requires.here x c.in-Unary.is c.expression_row-says.ensures (c.unary.ensures _ (c.eval-x.ensures vs x w h))

pub eval-returns-in_default : goal.eval-returns-in_default
unfolding row_tree meaning
eval-returns-in_default t c = λ vs x w h.
    let long : 64 ≤ length c.eval-x-in-Binary.new.stack = omega (arith, c.requires.room, c.eval-x-in-Binary.auto.stack, c.pair-quick.auto.stack) in
    by_row w c.requires.here x c.in-Binary.is c.expression_row-says.ensures
    (c.binary.ensures _ _ (first_stays c.eval-y.new.stack _ long (c.eval-x-in-Binary.ensures vs x w h)) (second_lies c.eval-x-in-Binary.new.stack c.eval-y.new.stack _ long (c.eval-y.ensures vs x w h)))

pub eval-returns-in-Lazy : goal.eval-returns-in-Lazy
unfolding row_tree
eval-returns-in-Lazy t c = λ vs x w h. by_row w c.requires.here x c.in-Lazy.is c.expression_row-says.ensures (c.lazy.ensures vs x w h)

pub eval-returns-in-Choice : goal.eval-returns-in-Choice
unfolding row_tree
eval-returns-in-Choice t c = λ vs x w h. by_row w c.requires.here x c.in-Choice.is c.expression_row-says.ensures (c.choice.ensures vs x w h)

pub eval-returns-in-AllList : goal.eval-returns-in-AllList
unfolding row_tree
eval-returns-in-AllList t c = λ vs x w h. by_row w c.requires.here x c.in-AllList.is c.expression_row-says.ensures (c.all.ensures vs x w h)

pub lazy-returns-in_err-first : goal.lazy-returns-in_err-first
lazy-returns-in_err-first t c = λ vs x w h.
    rw (passed _ _ c.from_residual.ensures.1)
    (gives_error _ (lazy_error c.args.row c.args.settling (expression_tree c.args.sight.now.rows.now c.args.a) (expression_tree c.args.sight.now.rows.now c.args.b) (contents vs) x _ (sym (c.in_err-first.ensures _ (c.eval-x.ensures vs x w h)))))

pub lazy-returns-then-first-settling : goal.lazy-returns-then-first-settling
lazy-returns-then-first-settling t c = λ vs x w h.
    let e = c.eval-x.ensures vs x w h in
    lazy_settled c.args.row c.args.settling (expression_tree c.args.sight.now.rows.now c.args.a) (expression_tree c.args.sight.now.rows.now c.args.b) (contents vs) x _ (c.in_ok-first.ensures _ e) e c.if-first-settling.true

pub lazy-returns-in_err-truth_of : goal.lazy-returns-in_err-truth_of
lazy-returns-in_err-truth_of t c = λ vs x w h.
    rw (passed _ _ c.from_residual-in_err-truth_of.ensures.1)
    (gives_error _ (lazy_second_error c.args.row c.args.settling (expression_tree c.args.sight.now.rows.now c.args.a) (expression_tree c.args.sight.now.rows.now c.args.b) (contents vs) x _ (c.in_ok-first.ensures _ (c.eval-x.ensures vs x w h)) c.if-first-settling.false _ (sym (c.in_err-truth_of.ensures _ (c.eval-y.ensures vs x w h)))))

pub lazy-returns : goal.lazy-returns
lazy-returns t c = λ vs x w h.
    let e = c.eval-y.ensures vs x w h in
    lazy_second_told c.args.row c.args.settling (expression_tree c.args.sight.now.rows.now c.args.a) (expression_tree c.args.sight.now.rows.now c.args.b) (contents vs) x _ (c.in_ok-first.ensures _ (c.eval-x.ensures vs x w h)) c.if-first-settling.false _ e (c.in_ok-truth_of.ensures _ e)
