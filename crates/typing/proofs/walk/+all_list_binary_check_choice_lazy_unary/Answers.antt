use native.Mathlib.Omega.{arith}
use Rattle.std.proofs.Common.{refl, sym, ◌∙◌, Err}
use Rattle.std.proofs.lemmas.Result.{err_from_is_err_and}
use Rattle.profile.specs.Known.{row_known}
use Rattle.profile.specs.Facts.{row_tree}
use Rattle.lingua.specs.Outcome.{answer_of}
use Rattle.lingua.specs.Typing.{elements_at}
use Rattle.typing.proofs.Rows.{RowAsks, asks_at, tree_at, asked_below, asked_room, asked_small}
use Rattle.typing.proofs.Found.{own_fails, own_passes, gives_finds, elements_finds, both_found, inner_holds}
use Rattle.typing.proofs.Returns.{constant_passes, variable_passes, unary_operand, unary_own, unary_passes, binary_operands, binary_own, binary_passes, lazy_operands, lazy_first_own, lazy_second_own, lazy_passes, choice_operands, choice_test_own, choice_own, choice_passes, all_list_operands, all_list_own, all_list_passes}
use Rattle.typing.proofs.walk.+all_list_binary_check_choice_lazy_unary.Goals as goal

pub check-expression_row-e-requires-clause-known_expression : goal.check-expression_row-e-requires-clause-known_expression
check-expression_row-e-requires-clause-known_expression t c = row_known _ c.requires.sees.accepted _ c.requires.here

pub check-note_row-requires-clause-row_in_bounds : goal.check-note_row-requires-clause-row_in_bounds
check-note_row-requires-clause-row_in_bounds t c = asked_room c.requires _ refl

pub check-variable_body-body-requires-clause-n_bound : goal.check-variable_body-body-requires-clause-n_bound
unfolding RowAsks
check-variable_body-body-requires-clause-n_bound t c = asks_at c.requires _ _ c.expression_row-e.ensures c.in-Variable.is

pub check-note_row-requires-in-Variable-clause-row_in_bounds : goal.check-note_row-requires-in-Variable-clause-row_in_bounds
check-note_row-requires-in-Variable-clause-row_in_bounds t c = asked_room c.requires _ refl

pub check-note_current-requires-clause-row_in_bounds : goal.check-note_current-requires-clause-row_in_bounds
check-note_current-requires-clause-row_in_bounds t c = asked_room c.requires _ refl

pub check-unary-requires : goal.check-unary-requires
unfolding RowAsks
check-unary-requires t c = (omega arith, (c.requires, asks_at c.requires _ _ c.expression_row-e.ensures c.in-Unary.is))

pub check-binary-requires : goal.check-binary-requires
unfolding RowAsks
check-binary-requires t c = (omega arith, (c.requires, asks_at c.requires _ _ c.expression_row-e.ensures c.in-Binary.is))

pub check-lazy-requires : goal.check-lazy-requires
unfolding RowAsks
check-lazy-requires t c = (omega arith, (c.requires, asks_at c.requires _ _ c.expression_row-e.ensures c.in-Lazy.is))

pub check-choice-requires : goal.check-choice-requires
unfolding RowAsks
check-choice-requires t c = (omega arith, (c.requires, asks_at c.requires _ _ c.expression_row-e.ensures c.in-Choice.is))

pub check-all_list-requires : goal.check-all_list-requires
unfolding RowAsks
check-all_list-requires t c = (omega arith, (c.requires, asks_at c.requires _ _ c.expression_row-e.ensures c.in-AllList.is))

pub check-returns-in-Constant : goal.check-returns-in-Constant
unfolding row_tree
check-returns-in-Constant t c = λ b h. rw (tree_at c.requires _ _ c.expression_row-e.ensures c.in-Constant.is) (constant_passes c.note_row.ensures _ _ _ c.constant_body-body.ensures)

pub check-returns-in-Variable : goal.check-returns-in-Variable
unfolding row_tree
check-returns-in-Variable t c = λ b h. rw (tree_at c.requires _ _ c.expression_row-e.ensures c.in-Variable.is) (variable_passes c.note_row-in-Variable.ensures _ _ _ c.variable_body-body.ensures)

pub check-returns-in-Current : goal.check-returns-in-Current
unfolding row_tree
check-returns-in-Current t c = λ b h. rw (tree_at c.requires _ _ c.expression_row-e.ensures c.in-Current.is) (c.note_current.ensures _ b h)

pub check-returns-in-Unary : goal.check-returns-in-Unary
unfolding row_tree
check-returns-in-Unary t c = λ b h. rw (tree_at c.requires _ _ c.expression_row-e.ensures c.in-Unary.is) (c.unary.ensures b h)

pub check-returns-in-Binary : goal.check-returns-in-Binary
unfolding row_tree
check-returns-in-Binary t c = λ b h. rw (tree_at c.requires _ _ c.expression_row-e.ensures c.in-Binary.is) (c.binary.ensures b h)

pub check-returns-in-Lazy : goal.check-returns-in-Lazy
unfolding row_tree
check-returns-in-Lazy t c = λ b h. rw (tree_at c.requires _ _ c.expression_row-e.ensures c.in-Lazy.is) (c.lazy.ensures _ b h)

pub check-returns-in-Choice : goal.check-returns-in-Choice
unfolding row_tree
check-returns-in-Choice t c = λ b h. rw (tree_at c.requires _ _ c.expression_row-e.ensures c.in-Choice.is) (c.choice.ensures b h)

pub check-returns-in-AllList : goal.check-returns-in-AllList
unfolding row_tree
check-returns-in-AllList t c = λ b h. rw (tree_at c.requires _ _ c.expression_row-e.ensures c.in-AllList.is) (c.all_list.ensures b h)

pub unary-returns-in_err-x : goal.unary-returns-in_err-x
unary-returns-in_err-x t c = λ b h.
    let p = err_from_is_err_and c.from_residual.result c.from_residual.ensures.1 in
    rw (p.1, p.2) (unary_operand _ _ _ _ _ _ (c.in_err-x.ensures b h))

pub unary-own_rule-requires : goal.unary-own_rule-requires
unary-own_rule-requires t c = asked_small c.requires.asked

pub unary-returns-in_err-h : goal.unary-returns-in_err-h
unary-returns-in_err-h t c = λ b h.
    let p = err_from_is_err_and c.from_residual-in_err-h.result c.from_residual-in_err-h.ensures.1 in
    let g = c.in_ok-x.ensures b h in
    rw (p.1, p.2) (unary_own _ _ _ _ _ g _ (own_fails _ _ _ _ (c.unary_half.ensures g.typed.body g.holds) _ c.in_err-h.ensures))

pub unary-note_row-requires-clause-row_in_bounds : goal.unary-note_row-requires-clause-row_in_bounds
unary-note_row-requires-clause-row_in_bounds t c = asked_room c.requires.asked _ c.check.auto.layout

pub unary-returns : goal.unary-returns
unary-returns t c = λ b h.
    let g = c.in_ok-x.ensures b h in
    unary_passes _ _ _ _ _ g _ (own_passes _ _ _ _ (c.unary_half.ensures g.typed.body g.holds) _ c.in_ok-h.ensures) c.note_row.ensures

pub binary-returns-in_err-left : goal.binary-returns-in_err-left
binary-returns-in_err-left t c = λ d h.
    let p = err_from_is_err_and c.from_residual.result c.from_residual.ensures.1 in
    rw (p.1, p.2)
    (binary_operands _ _ _ _ _ _ _
    (both_found (Err _) c.check-x.result c.check-y.result _ _ c.in_err-left.ensures (gives_finds _ _ _ _ (c.check-x.ensures d h)) (gives_finds _ _ _ _ (c.check-y.ensures d h))))

pub binary-own_rule-requires : goal.binary-own_rule-requires
binary-own_rule-requires t c = asked_small c.requires.asked

pub binary-returns-in_err-h : goal.binary-returns-in_err-h
binary-returns-in_err-h t c = λ d h.
    let r = err_from_is_err_and c.from_residual-in_err-h.result c.from_residual-in_err-h.ensures.1 in
    let p = rw c.in_ok-left.ensures.0 at (c.check-x.ensures d h) in
    let q = rw c.in_ok-left.ensures.1 at (c.check-y.ensures d h) in
    rw (r.1, r.2)
    (binary_own _ _ _ _ _ p q _ _ (own_fails _ _ _ _ (c.binary_half.ensures _ _ p.holds q.holds) _ c.in_err-h.ensures))

pub binary-note_row-requires : goal.binary-note_row-requires
binary-note_row-requires t c =
    let p = rw c.in_ok-left.ensures.0 at (c.check-x.ensures _ c.requires.asked.held.holds) in
    let q = rw c.in_ok-left.ensures.1 at (c.check-y.ensures _ c.requires.asked.held.holds) in
    let w = own_passes _ _ _ _ (c.binary_half.ensures _ _ p.holds q.holds) _ c.in_ok-h.ensures in
    record { held = record { body = w.body; holds = w.passes.holds }; second_bound = w.passes.small; row_in_bounds = asked_room c.requires.asked _ (c.check-y.auto.layout ∙ c.check-x.auto.layout) }

pub binary-returns : goal.binary-returns
binary-returns t c = λ d h.
    let p = rw c.in_ok-left.ensures.0 at (c.check-x.ensures d h) in
    let q = rw c.in_ok-left.ensures.1 at (c.check-y.ensures d h) in
    binary_passes _ _ _ _ _ p q _ _ (own_passes _ _ _ _ (c.binary_half.ensures _ _ p.holds q.holds) _ c.in_ok-h.ensures) c.note_row.ensures

pub lazy-returns-in_err-one : goal.lazy-returns-in_err-one
lazy-returns-in_err-one t c = λ k d h.
    let p = err_from_is_err_and c.from_residual.result c.from_residual.ensures.1 in
    rw (p.1, p.2)
    (lazy_operands _ _ _ _ _ k _
    (both_found (Err _) c.check-x.result c.check-y.result _ _ c.in_err-one.ensures (gives_finds _ _ _ _ (c.check-x.ensures d h)) (gives_finds _ _ _ _ (c.check-y.ensures d h))))

pub lazy-fault-requires : goal.lazy-fault-requires
lazy-fault-requires t c = asked_small c.requires.asked

pub lazy-fault-requires-then-not-is_boolean-2 : goal.lazy-fault-requires-then-not-is_boolean-2
lazy-fault-requires-then-not-is_boolean-2 t c = asked_small c.requires.asked

pub lazy-returns-then-not-is_boolean : goal.lazy-returns-then-not-is_boolean
lazy-returns-then-not-is_boolean t c = λ k d h.
    let p = rw c.in_ok-one.ensures.0 at (c.check-x.ensures d h) in
    let q = rw c.in_ok-one.ensures.1 at (c.check-y.ensures d h) in
    rw c.fault.ensures (lazy_first_own _ _ _ _ _ p q k (sym (c.is_boolean.ensures _ p.holds) ∙ c.if-not-is_boolean.true))

pub lazy-returns-then-not-is_boolean-2 : goal.lazy-returns-then-not-is_boolean-2
lazy-returns-then-not-is_boolean-2 t c = λ k d h.
    let p = rw c.in_ok-one.ensures.0 at (c.check-x.ensures d h) in
    let q = rw c.in_ok-one.ensures.1 at (c.check-y.ensures d h) in
    rw c.fault-then-not-is_boolean-2.ensures
    (lazy_second_own _ _ _ _ _ p q (sym (c.is_boolean.ensures _ p.holds) ∙ c.if-not-is_boolean.false) k (sym (c.is_boolean-2.ensures _ q.holds) ∙ c.if-not-is_boolean-2.true))

pub lazy-note_row-requires-clause-row_in_bounds : goal.lazy-note_row-requires-clause-row_in_bounds
lazy-note_row-requires-clause-row_in_bounds t c = asked_room c.requires.asked _ (c.check-y.auto.layout ∙ c.check-x.auto.layout)

pub lazy-returns : goal.lazy-returns
lazy-returns t c = λ k d h.
    let p = rw c.in_ok-one.ensures.0 at (c.check-x.ensures d h) in
    let q = rw c.in_ok-one.ensures.1 at (c.check-y.ensures d h) in
    lazy_passes _ _ _ _ _ p q (sym (c.is_boolean.ensures _ p.holds) ∙ c.if-not-is_boolean.false) k (sym (c.is_boolean-2.ensures _ q.holds) ∙ c.if-not-is_boolean-2.false) c.note_row.ensures

pub choice-returns-in_err-test : goal.choice-returns-in_err-test
choice-returns-in_err-test t c = λ d h.
    let p = err_from_is_err_and c.from_residual.result c.from_residual.ensures.1 in
    rw (p.1, p.2)
    (choice_operands _ _ _ _ _ _ _
    (both_found (Err _) c.check-t.result c.together.result _ _ c.in_err-test.ensures (gives_finds _ _ _ _ (c.check-t.ensures d h))
    (both_found c.together.result c.check-yes.result c.check-no.result _ _ c.together.ensures (gives_finds _ _ _ _ (c.check-yes.ensures d h)) (gives_finds _ _ _ _ (c.check-no.ensures d h)))))

pub choice-fault-requires : goal.choice-fault-requires
choice-fault-requires t c = asked_small c.requires.asked

pub choice-fault-requires-then-not-same : goal.choice-fault-requires-then-not-same
choice-fault-requires-then-not-same t c = asked_small c.requires.asked

pub choice-returns-then-not-is_boolean : goal.choice-returns-then-not-is_boolean
choice-returns-then-not-is_boolean t c = λ d h.
    let b = rw c.in_ok-test.ensures.1 at c.together.ensures in
    let a = rw c.in_ok-test.ensures.0 at (c.check-t.ensures d h) in
    let p = rw b.0 at (c.check-yes.ensures d h) in
    let q = rw b.1 at (c.check-no.ensures d h) in
    rw c.fault.ensures (choice_test_own _ _ _ _ _ _ a p q (sym (c.is_boolean.ensures _ a.holds) ∙ c.if-not-is_boolean.true))

pub choice-returns-then-not-same : goal.choice-returns-then-not-same
choice-returns-then-not-same t c = λ d h.
    let b = rw c.in_ok-test.ensures.1 at c.together.ensures in
    let a = rw c.in_ok-test.ensures.0 at (c.check-t.ensures d h) in
    let p = rw b.0 at (c.check-yes.ensures d h) in
    let q = rw b.1 at (c.check-no.ensures d h) in
    rw c.fault-then-not-same.ensures
    (choice_own _ _ _ _ _ _ a p q (sym (c.is_boolean.ensures _ a.holds) ∙ c.if-not-is_boolean.false) (sym (c.same.ensures _ _ p.holds q.holds) ∙ c.if-not-same.true))

pub choice-note_row-requires-clause-row_in_bounds : goal.choice-note_row-requires-clause-row_in_bounds
choice-note_row-requires-clause-row_in_bounds t c = asked_room c.requires.asked _ (c.check-no.auto.layout ∙ c.check-yes.auto.layout ∙ c.check-t.auto.layout)

pub choice-returns : goal.choice-returns
choice-returns t c = λ d h.
    let b = rw c.in_ok-test.ensures.1 at c.together.ensures in
    let a = rw c.in_ok-test.ensures.0 at (c.check-t.ensures d h) in
    let p = rw b.0 at (c.check-yes.ensures d h) in
    let q = rw b.1 at (c.check-no.ensures d h) in
    choice_passes _ _ _ _ _ _ a p q (sym (c.is_boolean.ensures _ a.holds) ∙ c.if-not-is_boolean.false) (sym (c.same.ensures _ _ p.holds q.holds) ∙ c.if-not-same.false) c.note_row.ensures

pub all_list-elements-list-requires-clause-row_bound : goal.all_list-elements-list-requires-clause-row_bound
all_list-elements-list-requires-clause-row_bound t c = asked_small c.requires.asked

pub all_list-check-x-requires : goal.all_list-check-x-requires
all_list-check-x-requires t c =
    let b = c.requires.asked.held in
    (omega (arith, c.requires.asked, c.requires.operand.below), asked_below c.requires.asked _ c.requires.operand (record { body = answer_of (elements_at c.args.row b.body); holds = inner_holds _ _ _ (c.elements-list.ensures b.body b.holds) c.ok.ensures.value }) refl)

pub all_list-returns-in_err-inner : goal.all_list-returns-in_err-inner
all_list-returns-in_err-inner t c = λ b h.
    let p = err_from_is_err_and c.from_residual.result c.from_residual.ensures.1 in
    let w = c.elements-list.ensures b h in
    rw (p.1, p.2)
    (all_list_operands _ _ _ _ _
    (both_found (Err _) c.check-x.result c.elements-list.result _ _ c.in_err-inner.ensures (gives_finds _ _ _ _ (c.check-x.ensures _ (inner_holds _ _ _ w c.ok.ensures.value))) (elements_finds _ _ w)))

pub all_list-fault-requires : goal.all_list-fault-requires
all_list-fault-requires t c = asked_small c.requires.asked

pub all_list-returns-then-not-is_boolean : goal.all_list-returns-then-not-is_boolean
all_list-returns-then-not-is_boolean t c = λ b h.
    let w = c.elements-list.ensures b h in
    let p = rw c.in_ok-inner.ensures.0 at (c.check-x.ensures _ (inner_holds _ _ _ w c.ok.ensures.value)) in
    let v = rw c.in_ok-inner.ensures.1 at w in
    rw c.fault.ensures (all_list_own _ _ _ _ p v (sym (c.is_boolean.ensures _ p.holds) ∙ c.if-not-is_boolean.true))

pub all_list-note_row-requires : goal.all_list-note_row-requires
all_list-note_row-requires t c =
    let w = c.elements-list.ensures _ c.requires.asked.held.holds in
    let p = rw c.in_ok-inner.ensures.0 at (c.check-x.ensures _ (inner_holds _ _ _ w c.ok.ensures.value)) in
    let v = rw c.in_ok-inner.ensures.1 at w in
    record { held = record { body = p.typed.body; holds = p.holds }; second_bound = omega (arith, (c.measure_body-m.ensures _ v.holds).is_cells, v.holds.few_cells); row_in_bounds = asked_room c.requires.asked _ c.check-x.auto.layout }

pub all_list-returns : goal.all_list-returns
all_list-returns t c = λ b h.
    let w = c.elements-list.ensures b h in
    let p = rw c.in_ok-inner.ensures.0 at (c.check-x.ensures _ (inner_holds _ _ _ w c.ok.ensures.value)) in
    let v = rw c.in_ok-inner.ensures.1 at w in
    all_list_passes _ _ _ _ p v _ (sym (c.is_boolean.ensures _ p.holds) ∙ c.if-not-is_boolean.false) (c.measure_body-m.ensures _ v.holds).is_cells c.note_row.ensures
