use mathlib.Core.Path.{refl, ap}
use Prim.Native.Nat.{◌≤◌}
use native.Mathlib.Omega.{arith}
use lib.ListN.{length, length-take, length-drop}
use Rattle.lingua.specs.Faults.{number_of}
use Rattle.lingua.specs.Trees.{expression_tree}
use Rattle.profile.specs.Facts.{RowFacts, row_tree}
use Rattle.profile.specs.Known.{row_known}
use Rattle.erased_row.proofs.Telling.{sees_none}
use Rattle.erased_row.proofs.Passing.{layout_room}
use Rattle.laws.specs.Faults.{passed_on}
use Rattle.erased_row.proofs.Leaving.{no_zero}
use Rattle.erased.proofs.Walking.{ready_listed, list_cell, list_walks, element_within, element_ready, sees_more, all_evaluates}
use Rattle.erased_row.proofs.Cycle.{meant, variable_few, constant_evaluates, has_variable, variable_evaluates, has_current, current_evaluates, unary_ready, has_unary, unary_evaluates, binary_first, binary_second_lem, placed, has_binary, binary_evaluates, lazy_next, lazy_error, lazy_settled, lazy_second, choice_first, choice_other, choice_error, choice_yes, choice_no}
use Rattle.erased.proofs.eval.+all_choice_eval_lazy.Goals as goal
use Rattle.erased.proofs.eval.+all_choice_eval_lazy.Goals.{eval-in-Some, eval-in-None}

pub all-second_at-width-requires : goal.all-second_at-width-requires
all-second_at-width-requires t c = layout_room c.requires.ready.world c.requires.a_lt_row.1

pub all-bounds-current-0 : goal.all-bounds-current-0
all-bounds-current-0 t c = list_cell (ready_listed _ c.second_at-width.ensures c.requires.ready).listed

pub all-overflow_cast-n : goal.all-overflow_cast-n
all-overflow_cast-n t c =
    let k = list_walks (ready_listed _ c.second_at-width.ensures c.requires.ready).listed in
    rw k.positive (tt, omega (arith, k.few))

pub all-loop-i-init : goal.all-loop-i-init
all-loop-i-init t c = (refl, λ ds vs d x l. sees_none)

pub all-overflow_mul-at : goal.all-overflow_mul-at
all-overflow_mul-at t c = omega (arith, element_within (ready_listed _ c.second_at-width.ensures c.requires.ready).listed c.loop-i.i _ refl c.loop-i-test.true)

pub all-overflow_add-at : goal.all-overflow_add-at
all-overflow_add-at t c = omega (arith, element_within (ready_listed _ c.second_at-width.ensures c.requires.ready).listed c.loop-i.i _ refl c.loop-i-test.true)

pub all-overflow_add-at-in-loop-i : goal.all-overflow_add-at-in-loop-i
all-overflow_add-at-in-loop-i t c = omega (arith, element_within (ready_listed _ c.second_at-width.ensures c.requires.ready).listed c.loop-i.i _ refl c.loop-i-test.true)

pub all-offset_bounds-current-at : goal.all-offset_bounds-current-at
all-offset_bounds-current-at t c = omega (arith, element_within (ready_listed _ c.second_at-width.ensures c.requires.ready).listed c.loop-i.i _ refl c.loop-i-test.true)

pub all-slice_bounds-eval-end : goal.all-slice_bounds-eval-end
all-slice_bounds-eval-end t c = omega (arith, element_within (ready_listed _ c.second_at-width.ensures c.requires.ready).listed c.loop-i.i _ refl c.loop-i-test.true)

pub all-eval-x-requires : goal.all-eval-x-requires
all-eval-x-requires t c =
    let l = (ready_listed _ c.second_at-width.ensures c.requires.ready).listed in
    (omega (arith, c.decreases, c.requires.a_lt_row.0), (element_ready l c.loop-i.i _ refl c.loop-i-test.true, (omega (arith, c.requires.a_lt_row), omega (arith, c.requires.a_lt_row.0, c.requires.row_in_bounds, c.loop-i.invariant.0))))

pub all-loop-i-preserved : goal.all-loop-i-preserved
all-loop-i-preserved t c = (
  omega (arith, c.loop-i.invariant.0, c.eval-x.auto.stack),
  λ ds vs b x l. sees_more l c.loop-i.i _ refl c.loop-i-test.true _ c.eval-x.ensures (λ o h. c.tallied-seen.ensures _ o (c.loop-i.invariant.1 ds vs b x l) h),
)

pub all-returns : goal.all-returns
all-returns t c = all_evaluates c.args.row (expression_tree c.args.rows.now c.args.a) _ c.second_at-width.ensures _ c.loop-i.i (omega arith) c.loop-i.invariant.1 c.concluded.ensures

pub choice-returns-in_err-truth_of : goal.choice-returns-in_err-truth_of
choice-returns-in_err-truth_of t c = rw (passed_on _ _ c.from_residual.ensures.1) (choice_error _ _ _ _ c.eval-x.ensures c.in_err-truth_of.ensures _ (no_zero _))

pub choice-eval-requires : goal.choice-eval-requires
choice-eval-requires t c = (omega (arith, c.decreases, c.requires.test_lt_row.1), (choice_first _ _ _ _ c.requires.ready, (omega (arith, c.requires.test_lt_row.1, c.requires.test_lt_row.3), omega (arith, c.requires.row_in_bounds, c.requires.test_lt_row.1, c.eval-x.auto.stack))))

pub choice-returns-then-branch : goal.choice-returns-then-branch
choice-returns-then-branch t c = choice_yes _ _ _ _ c.eval-x.ensures c.in_ok-truth_of.ensures c.if-branch.true c.eval.ensures

pub choice-eval-requires-2 : goal.choice-eval-requires-2
choice-eval-requires-2 t c = (omega (arith, c.decreases, c.requires.test_lt_row.2), (choice_other _ _ _ _ c.requires.ready, (omega (arith, c.requires.test_lt_row.2, c.requires.test_lt_row.3), omega (arith, c.requires.row_in_bounds, c.requires.test_lt_row.2, c.eval-x.auto.stack))))

pub choice-returns : goal.choice-returns
choice-returns t c = choice_no _ _ _ _ c.eval-x.ensures c.in_ok-truth_of.ensures c.if-branch.false c.eval-2.ensures

pub eval-expression_row-says-requires : goal.eval-expression_row-says-requires
eval-expression_row-says-requires t c = record { r_lt_count = c.requires.row_lt_count; known_expression = row_known _ c.requires.ready.world.accepted _ c.requires.row_lt_count }

pub eval-constant-requires : goal.eval-constant-requires
unfolding RowFacts
eval-constant-requires t c =
    let m = meant c.requires.ready c.requires.row_lt_count c.in-Constant.is c.expression_row-says.ensures in
    record { row_lt_count = c.requires.row_lt_count; constant_row = (m.facts, omega (arith, c.requires.row_in_bounds)) }

pub eval-fetch-requires : goal.eval-fetch-requires
unfolding row_tree
eval-fetch-requires t c =
    let m = meant c.requires.ready c.requires.row_lt_count c.in-Variable.is c.expression_row-says.ensures in
    record { has_variable = has_variable m.ready (variable_few c.requires.ready c.requires.row_lt_count c.in-Variable.is c.expression_row-says.ensures refl); row_in_bounds = layout_room c.requires.ready.world c.requires.row_lt_count; body_cells_in_bounds = omega (arith, c.requires.row_in_bounds) }

pub eval-copied-requires : goal.eval-copied-requires
unfolding row_tree
eval-copied-requires t c =
    let m = meant c.requires.ready c.requires.row_lt_count c.in-Current.is c.expression_row-says.ensures in
    record { has_current = has_current m.ready; row_in_bounds = layout_room c.requires.ready.world c.requires.row_lt_count; body_cells_in_bounds = omega (arith, c.requires.row_in_bounds) }

pub eval-eval-x-requires : goal.eval-eval-x-requires
unfolding RowFacts row_tree
eval-eval-x-requires t c =
    let m = meant c.requires.ready c.requires.row_lt_count c.in-Unary.is c.expression_row-says.ensures in
    (omega (arith, c.decreases, m.facts), (unary_ready c.requires.row_lt_count m.facts m.ready, (omega (arith, m.facts, c.requires.row_lt_count), omega (arith, c.requires.row_in_bounds, m.facts))))

pub eval-unary-requires : goal.eval-unary-requires
unfolding RowFacts row_tree
eval-unary-requires t c =
    let m = meant c.requires.ready c.requires.row_lt_count c.in-Unary.is c.expression_row-says.ensures in
    record { has_unary = has_unary c.requires.row_lt_count m.facts m.ready c.eval-x.ensures; row_in_bounds = (layout_room c.requires.ready.world c.requires.row_lt_count, layout_room c.requires.ready.world (omega (arith, m.facts, c.requires.row_lt_count))); body_cells_in_bounds = omega (arith, c.requires.row_in_bounds, c.eval-x.auto.stack) }

pub eval-eval-x-requires-in-Binary : goal.eval-eval-x-requires-in-Binary
unfolding RowFacts row_tree
eval-eval-x-requires-in-Binary t c =
    let m = meant c.requires.ready c.requires.row_lt_count c.in-Binary.is c.expression_row-says.ensures in
    (omega (arith, c.decreases, m.facts.0), (binary_first c.requires.row_lt_count m.facts.0 m.facts.1 m.ready, (omega (arith, m.facts.0, c.requires.row_lt_count), omega (arith, c.requires.row_in_bounds, m.facts.0))))

pub eval-leaf-requires : goal.eval-leaf-requires
unfolding RowFacts row_tree
eval-leaf-requires t c =
    let m = meant c.requires.ready c.requires.row_lt_count c.in-Binary.is c.expression_row-says.ensures in
    record { ready = binary_second_lem c.requires.row_lt_count m.facts.0 m.facts.1 m.ready; row_lt_count = omega (arith, m.facts.1, c.requires.row_lt_count); row_in_bounds = simp (length-take, length-drop) (omega (arith, c.requires.row_in_bounds, m.facts.1, c.eval-x-in-Binary.auto.stack)) }

pub eval-binary-requires : goal.eval-binary-requires
unfolding RowFacts row_tree
eval-binary-requires t c =
    let m = meant c.requires.ready c.requires.row_lt_count c.in-Binary.is c.expression_row-says.ensures in
    let long : 64 ≤ length c.eval-x-in-Binary.new.stack = omega (arith, c.requires.row_in_bounds, c.eval-x-in-Binary.auto.stack) in
    record {
      has_binary = has_binary c.requires.row_lt_count m.facts.0 m.facts.1
          (elim c.match-leaf.branch [
            | eval-in-Some w ↦ placed c.requires.row_lt_count m.facts.0 m.facts.1 _ _ _ long c.eval-x-in-Binary.ensures (c.leaf.ensures.evaluates _ w.in-Some.is) (ap number_of w.y-is) w.stack-is
            | eval-in-None w ↦ placed c.requires.row_lt_count m.facts.0 m.facts.1 _ _ _ long c.eval-x-in-Binary.ensures w.eval-y.ensures (ap number_of w.y-is) w.stack-is
          ])
          m.ready;
      row_in_bounds = (layout_room c.requires.ready.world c.requires.row_lt_count, layout_room c.requires.ready.world (omega (arith, m.facts.0, c.requires.row_lt_count)), layout_room c.requires.ready.world (omega (arith, m.facts.1, c.requires.row_lt_count)));
      body_cells_in_bounds = omega (arith, c.requires.row_in_bounds, m.facts.1, c.eval-x-in-Binary.auto.stack, c.match-leaf.auto.stack);
    }

pub eval-returns-after-leaf : goal.eval-returns-after-leaf
unfolding RowFacts row_tree
eval-returns-after-leaf t c =
    let m = meant c.requires.ready c.requires.row_lt_count c.in-Binary.is c.expression_row-says.ensures in
    let long : 64 ≤ length c.eval-x-in-Binary.new.stack = omega (arith, c.requires.row_in_bounds, c.eval-x-in-Binary.auto.stack) in
    m.evaluates _ _ (binary_evaluates c.requires.row_lt_count m.facts.0 m.facts.1
    (elim c.match-leaf.branch [
      | eval-in-Some w ↦ placed c.requires.row_lt_count m.facts.0 m.facts.1 _ _ _ long c.eval-x-in-Binary.ensures (c.leaf.ensures.evaluates _ w.in-Some.is) (ap number_of w.y-is) w.stack-is
      | eval-in-None w ↦ placed c.requires.row_lt_count m.facts.0 m.facts.1 _ _ _ long c.eval-x-in-Binary.ensures w.eval-y.ensures (ap number_of w.y-is) w.stack-is
    ])
    c.binary.ensures)

pub eval-eval-y-requires : goal.eval-eval-y-requires
unfolding RowFacts row_tree
eval-eval-y-requires t c =
    let m = meant c.requires.ready c.requires.row_lt_count c.in-Binary.is c.expression_row-says.ensures in
    (omega (arith, c.decreases, m.facts.1), (binary_second_lem c.requires.row_lt_count m.facts.0 m.facts.1 m.ready, (omega (arith, m.facts.1, c.requires.row_lt_count), omega (arith, c.requires.row_in_bounds, m.facts.1, c.eval-x-in-Binary.auto.stack, simp (length-take, length-drop) at c.leaf.auto.stack))))

pub eval-lazy-requires : goal.eval-lazy-requires
unfolding RowFacts row_tree
eval-lazy-requires t c =
    let m = meant c.requires.ready c.requires.row_lt_count c.in-Lazy.is c.expression_row-says.ensures in
    (omega (arith, c.decreases), (m.ready, ((m.facts.0, m.facts.1, c.requires.row_lt_count), omega (arith, c.requires.row_in_bounds))))

pub eval-choice-requires : goal.eval-choice-requires
unfolding RowFacts row_tree
eval-choice-requires t c =
    let m = meant c.requires.ready c.requires.row_lt_count c.in-Choice.is c.expression_row-says.ensures in
    (omega (arith, c.decreases), (m.ready, ((m.facts.0, m.facts.1, m.facts.2, c.requires.row_lt_count), omega (arith, c.requires.row_in_bounds))))

pub eval-all-requires : goal.eval-all-requires
unfolding RowFacts row_tree
eval-all-requires t c =
    let m = meant c.requires.ready c.requires.row_lt_count c.in-AllList.is c.expression_row-says.ensures in
    (omega (arith, c.decreases), (m.ready, ((m.facts, c.requires.row_lt_count), omega (arith, c.requires.row_in_bounds))))

pub eval-returns-in-Constant : goal.eval-returns-in-Constant
unfolding row_tree
eval-returns-in-Constant t c =
    let m = meant c.requires.ready c.requires.row_lt_count c.in-Constant.is c.expression_row-says.ensures in
    m.evaluates _ _ (constant_evaluates c.constant.ensures)

pub eval-returns-in-Variable : goal.eval-returns-in-Variable
unfolding row_tree
eval-returns-in-Variable t c =
    let m = meant c.requires.ready c.requires.row_lt_count c.in-Variable.is c.expression_row-says.ensures in
    m.evaluates _ _ (variable_evaluates c.fetch.ensures)

pub eval-returns-in-Current : goal.eval-returns-in-Current
unfolding row_tree
eval-returns-in-Current t c =
    let m = meant c.requires.ready c.requires.row_lt_count c.in-Current.is c.expression_row-says.ensures in
    m.evaluates _ _ (current_evaluates c.copied.ensures)

pub eval-returns-in-Unary : goal.eval-returns-in-Unary
unfolding RowFacts row_tree
eval-returns-in-Unary t c =
    let m = meant c.requires.ready c.requires.row_lt_count c.in-Unary.is c.expression_row-says.ensures in
    m.evaluates _ _ (unary_evaluates c.requires.row_lt_count m.facts c.eval-x.ensures c.unary.ensures)

pub eval-returns-in-Lazy : goal.eval-returns-in-Lazy
unfolding row_tree
eval-returns-in-Lazy t c =
    let m = meant c.requires.ready c.requires.row_lt_count c.in-Lazy.is c.expression_row-says.ensures in
    m.evaluates _ _ c.lazy.ensures

pub eval-returns-in-Choice : goal.eval-returns-in-Choice
unfolding row_tree
eval-returns-in-Choice t c =
    let m = meant c.requires.ready c.requires.row_lt_count c.in-Choice.is c.expression_row-says.ensures in
    m.evaluates _ _ c.choice.ensures

pub eval-returns-in-AllList : goal.eval-returns-in-AllList
unfolding row_tree
eval-returns-in-AllList t c =
    let m = meant c.requires.ready c.requires.row_lt_count c.in-AllList.is c.expression_row-says.ensures in
    m.evaluates _ _ c.all.ensures

pub lazy-returns-in_err-first : goal.lazy-returns-in_err-first
lazy-returns-in_err-first t c = rw (passed_on _ _ c.from_residual.ensures.1) (lazy_error _ c.args.settling _ _ c.eval-x.ensures c.in_err-first.ensures _ (no_zero _))

pub lazy-returns-then-first-settling : goal.lazy-returns-then-first-settling
lazy-returns-then-first-settling t c = lazy_settled _ c.args.settling _ _ c.eval-x.ensures c.in_ok-first.ensures c.if-first-settling.true

pub lazy-eval-requires : goal.lazy-eval-requires
lazy-eval-requires t c = (omega (arith, c.decreases, c.requires.a_lt_row.1), (lazy_next _ c.args.settling _ _ c.requires.ready, (omega (arith, c.requires.a_lt_row.1, c.requires.a_lt_row.2), omega (arith, c.requires.row_in_bounds, c.requires.a_lt_row.1, c.eval-x.auto.stack))))

pub lazy-returns : goal.lazy-returns
lazy-returns t c = lazy_second _ c.args.settling _ _ c.eval-x.ensures c.in_ok-first.ensures c.if-first-settling.false c.eval.ensures
