use mathlib.Core.Bool.{not}
use mathlib.Core.Path.{refl, sym, ap, ◌∙◌}
use native.Mathlib.Omega.{arith}
use Rattle.safety.specs.Steps.{exec_left}
use Rattle.profile.specs.Facts.{InstructionFacts, instruction_row_tree}
use Rattle.run.specs.Reached.{lent}
use Rattle.run.specs.Acting.{going_after, area_stays, stays, reaches_as, reaches_from}
use Rattle.run.specs.Instructing.{sequence_out, sequence_on, branch_passed, branch_out, branch_failed, branch_yes, branch_no, handle_out, handle_other, handle_own, cleared_going, first_turn, turns_over, turn_out, turn_failed, turn_last, body_out, fewer_left, next_turn}
use Rattle.run.specs.Lending.{lent_in}
use Rattle.frames.proofs.Copying.{no_fault_number}
use Rattle.run.proofs.Slices.{slices_stay, slices_after}
use Rattle.walk.specs.Meaning.{calling}
use Rattle.opening.proofs.Rows.{meant_as}
use Rattle.walk.proofs.Rows.{kind_known, narrow, facts, executes, asked_leaf, leaf_answers, branch_there, branch_test, loop_there, loop_test, part, part_stands, onward_asked, first_of_two, second_of_two, branch_first, branch_second, loop_body, handle_body}
use Rattle.walk.proofs.Calling.{call_passed, call_out, call_on}
use Rattle.walk.proofs.Opened.{length_part, area_before, area_behind, body_less, front_fits, front_long, stepped_asked, too_deep_at, ran_as, enter_asked, procedure_there, procedure_few, own_bodies, zeros_by, bodies_left, body_asked, leave_asked, opens, opens_failed}
use Rattle.walk.proofs.exec.+instructions.Goals as goal

pub branch-returns-then-is_some-clause-executes : goal.branch-returns-then-is_some-clause-executes
unfolding instruction_row_tree
branch-returns-then-is_some-clause-executes g t c = executes c.requires.asked c.requires.branch_at (λ p b n vs h. branch_passed (calling _ n) vs h.holds c.requires.asked.going _ _ _ _ (sym c.is_some.ensures ∙ c.if-is_some.true))

pub branch-returns-then-taken-clause-executes : goal.branch-returns-then-taken-clause-executes
unfolding instruction_row_tree
branch-returns-then-taken-clause-executes g t c = executes c.requires.asked c.requires.branch_at (λ p b n vs h. branch_out (calling _ n) vs h.holds c.requires.asked.going _ _ _ _ c.stepped-taken.ensures (sym c.is_some.ensures ∙ c.if-is_some.false) c.if-taken.true)

pub branch-test-told-requires-clause-stands_under : goal.branch-test-told-requires-clause-stands_under
branch-test-told-requires-clause-stands_under g t c = rw c.seen.ensures (record { limits = _; standing = record { profile = c.requires.asked.profile; scope = c.requires.asked.scope; store = c.requires.asked.store; holds = c.requires.asked.stands.holds; of_scope = branch_test c.requires.asked c.requires.branch_at c.requires.asked.stands; enough = c.requires.asked.enough } })

pub branch-test-told-requires-clause-e_lt_count : goal.branch-test-told-requires-clause-e_lt_count
branch-test-told-requires-clause-e_lt_count g t c = branch_there c.requires.asked c.requires.branch_at

pub branch-returns-in-Err-clause-executes : goal.branch-returns-in-Err-clause-executes
unfolding instruction_row_tree
branch-returns-in-Err-clause-executes g t c = executes c.requires.asked c.requires.branch_at (λ p b n vs h. branch_failed (calling _ n) vs h.holds c.requires.asked.going _ _ _ _ c.stepped-taken.ensures (sym c.is_some.ensures ∙ c.if-is_some.false) c.if-taken.false (((rw c.seen.ensures at c.test-told.ensures) _).tells p b vs (branch_test c.requires.asked c.requires.branch_at h) h.holds) _ _ c.in-Err.is c.settled.ensures)

pub branch-exec-requires : goal.branch-exec-requires
unfolding InstructionFacts
branch-exec-requires g t c = λ κs under. let f = facts c.requires.asked c.requires.branch_at in (omega (arith, f.1), (under, part c.requires.asked c.requires.branch_at (branch_first _ _ _) c.requires.asked.store c.requires.asked.stands.holds refl (omega (arith, c.test-told.auto.stack)) f.1 (going_after c.if-taken.false)))

pub branch-returns-in-Ok-true-clause-executes : goal.branch-returns-in-Ok-true-clause-executes
unfolding instruction_row_tree
branch-returns-in-Ok-true-clause-executes g t c = executes c.requires.asked c.requires.branch_at (λ p b n vs h. reaches_as (branch_yes (calling _ n) c.stepped-taken.ensures (sym c.is_some.ensures ∙ c.if-is_some.false) vs _ _ _ _ c.if-taken.false (((rw c.seen.ensures at c.test-told.ensures) _).tells p b vs (branch_test c.requires.asked c.requires.branch_at h) h.holds) (rw c.in-Ok-true.field-0-test at c.in-Ok-true.is)) (c.exec.ensures.executes.reaches p b n vs (part_stands c.requires.asked c.requires.branch_at (branch_first _ _ _) h h.holds refl)))

pub branch-exec-requires-in-Ok-false : goal.branch-exec-requires-in-Ok-false
unfolding InstructionFacts
branch-exec-requires-in-Ok-false g t c = λ κs under. let f = facts c.requires.asked c.requires.branch_at in (omega (arith, f.2), (under, part c.requires.asked c.requires.branch_at (branch_second _ _ _) c.requires.asked.store c.requires.asked.stands.holds refl (omega (arith, c.test-told.auto.stack)) f.2 (going_after c.if-taken.false)))

pub branch-returns-in-Ok-false-clause-executes : goal.branch-returns-in-Ok-false-clause-executes
unfolding instruction_row_tree
branch-returns-in-Ok-false-clause-executes g t c = executes c.requires.asked c.requires.branch_at (λ p b n vs h. reaches_as (branch_no (calling _ n) c.stepped-taken.ensures (sym c.is_some.ensures ∙ c.if-is_some.false) vs _ _ _ _ c.if-taken.false (((rw c.seen.ensures at c.test-told.ensures) _).tells p b vs (branch_test c.requires.asked c.requires.branch_at h) h.holds) (rw c.in-Ok-false.field-0-test at c.in-Ok-false.is)) (c.exec-in-Ok-false.ensures.executes.reaches p b n vs (part_stands c.requires.asked c.requires.branch_at (branch_second _ _ _) h h.holds refl)))

pub call-returns-then-is_some-clause-executes : goal.call-returns-then-is_some-clause-executes
unfolding instruction_row_tree
call-returns-then-is_some-clause-executes g t c = executes c.requires.asked c.requires.call_at (λ p b n vs h. call_passed (calling _ n) vs h.holds c.requires.asked.going _ _ _ _ (sym c.is_some.ensures ∙ c.if-is_some.true))

pub call-returns-then-taken-clause-executes : goal.call-returns-then-taken-clause-executes
unfolding instruction_row_tree
call-returns-then-taken-clause-executes g t c = executes c.requires.asked c.requires.call_at (λ p b n vs h. call_out (calling _ n) vs h.holds c.requires.asked.going _ _ _ _ c.stepped-taken.ensures (sym c.is_some.ensures ∙ c.if-is_some.false) c.if-taken.true)

pub call-returns-then-area-lt-CELLS_LENGTH-clause-executes : goal.call-returns-then-area-lt-CELLS_LENGTH-clause-executes
unfolding instruction_row_tree
call-returns-then-area-lt-CELLS_LENGTH-clause-executes g t c = executes c.requires.asked c.requires.call_at (λ p b n vs h. reaches_as (call_on (calling _ n) vs _ _ _ _ c.stepped-taken.ensures (sym c.is_some.ensures ∙ c.if-is_some.false) c.if-taken.false) (too_deep_at _ vs h.holds n h.area c.if-area-lt-CELLS_LENGTH.true _ _ _ _ _ _ c.settled.ensures c.if-taken.false))

pub call-slice_bounds-own_bodies-end : goal.call-slice_bounds-own_bodies-end
call-slice_bounds-own_bodies-end g t c = front_fits c.requires.asked

pub call-slice_bounds-own-end : goal.call-slice_bounds-own-end
call-slice_bounds-own-end g t c = front_long c.requires.asked

pub call-opened-requires : goal.call-opened-requires
call-opened-requires g t c = λ κs under. (omega arith, (under, (record { asked = stepped_asked c.requires.asked (going_after c.if-taken.false); called = c.requires.call_at; room_left = omega (arith, c.if-area-lt-CELLS_LENGTH.false) }, zeros_by c.requires.asked refl)))

pub call-returns-clause-executes : goal.call-returns-clause-executes
unfolding instruction_row_tree
call-returns-clause-executes g t c = executes c.requires.asked c.requires.call_at (λ p b n vs h. reaches_as (call_on (calling _ n) vs _ _ _ _ c.stepped-taken.ensures (sym c.is_some.ensures ∙ c.if-is_some.false) c.if-taken.false) (c.opened.ensures.opens.reaches p b n vs h))

pub exec-instruction_row-says-requires-clause-known_instruction : goal.exec-instruction_row-says-requires-clause-known_instruction
exec-instruction_row-says-requires-clause-known_instruction g t c = kind_known c.requires

pub exec-assignment-requires-clause-asked_leaf : goal.exec-assignment-requires-clause-asked_leaf
exec-assignment-requires-clause-asked_leaf g t c = asked_leaf c.requires

pub exec-assignment-requires-clause-assign_at : goal.exec-assignment-requires-clause-assign_at
exec-assignment-requires-clause-assign_at g t c = meant_as c.in-Assign.is c.instruction_row-says.ensures

pub exec-yoke_change-requires-clause-asked_leaf : goal.exec-yoke_change-requires-clause-asked_leaf
exec-yoke_change-requires-clause-asked_leaf g t c = asked_leaf c.requires

pub exec-yoke_change-requires-clause-set_yoke_at : goal.exec-yoke_change-requires-clause-set_yoke_at
exec-yoke_change-requires-clause-set_yoke_at g t c = meant_as c.in-SetYoke.is c.instruction_row-says.ensures

pub exec-exec-first-requires : goal.exec-exec-first-requires
unfolding InstructionFacts
exec-exec-first-requires g t c = λ κs under. let f = facts c.requires (meant_as c.in-Sequence.is c.instruction_row-says.ensures) in (omega (arith, f.0), (under, part c.requires (meant_as c.in-Sequence.is c.instruction_row-says.ensures) (first_of_two _ _) c.requires.store c.requires.stands.holds refl refl f.0 c.requires.going))

pub exec-returns-then-first-clause-executes : goal.exec-returns-then-first-clause-executes
unfolding instruction_row_tree
exec-returns-then-first-clause-executes g t c = executes c.requires (meant_as c.in-Sequence.is c.instruction_row-says.ensures) (λ p b n vs h. sequence_out (calling _ n) c.args.m vs _ _ _ (c.exec-first.ensures.executes.reaches p b n vs (part_stands c.requires (meant_as c.in-Sequence.is c.instruction_row-says.ensures) (first_of_two _ _) h h.holds refl)) c.if-first.true)

pub exec-exec-requires : goal.exec-exec-requires
unfolding InstructionFacts
exec-exec-requires g t c = λ κs under. let f = facts c.requires (meant_as c.in-Sequence.is c.instruction_row-says.ensures) in (omega (arith, f.1, c.exec-first.ensures.same_slices.1.cells_length), (under, onward_asked c.requires (meant_as c.in-Sequence.is c.instruction_row-says.ensures) (second_of_two _ _) (c.exec-first.ensures.executes.reaches c.requires.profile c.requires.scope c.requires.may c.requires.store (part_stands c.requires (meant_as c.in-Sequence.is c.instruction_row-says.ensures) (first_of_two _ _) c.requires.stands c.requires.stands.holds refl)) c.if-first.false (omega (arith, c.exec-first.auto.stack)) f.1))

pub exec-returns-in-Skip-clause-executes : goal.exec-returns-in-Skip-clause-executes
unfolding instruction_row_tree
exec-returns-in-Skip-clause-executes g t c = executes c.requires (meant_as c.in-Skip.is c.instruction_row-says.ensures) (λ p b n vs h. let q = c.skip.ensures c.args.row in stays vs h.holds (q.is (calling _ n) vs))

pub exec-returns-in-Assign-clause-executes : goal.exec-returns-in-Assign-clause-executes
exec-returns-in-Assign-clause-executes g t c = leaf_answers c.requires c.assignment.ensures.executes

pub exec-returns-in-SetYoke-clause-executes : goal.exec-returns-in-SetYoke-clause-executes
exec-returns-in-SetYoke-clause-executes g t c = leaf_answers c.requires c.yoke_change.ensures.executes

pub exec-returns-else-first-clause-executes : goal.exec-returns-else-first-clause-executes
unfolding instruction_row_tree
exec-returns-else-first-clause-executes g t c = executes c.requires (meant_as c.in-Sequence.is c.instruction_row-says.ensures) (λ p b n vs h. let x = (c.exec-first.ensures.executes.reaches p b n vs (part_stands c.requires (meant_as c.in-Sequence.is c.instruction_row-says.ensures) (first_of_two _ _) h h.holds refl)) in reaches_as (sequence_on (calling _ n) c.args.m vs _ _ _ x c.if-first.false) (reaches_from (area_stays x c.if-first.false) (c.exec.ensures.executes.reaches p b n x.store (part_stands c.requires (meant_as c.in-Sequence.is c.instruction_row-says.ensures) (second_of_two _ _) h x.running (area_stays x c.if-first.false)))))

pub handle-returns-then-taken-clause-executes : goal.handle-returns-then-taken-clause-executes
unfolding instruction_row_tree
handle-returns-then-taken-clause-executes g t c = executes c.requires.asked c.requires.handle_at (λ p b n vs h. handle_out (calling _ n) vs h.holds c.requires.asked.going c.stepped-taken.ensures _ _ _ c.if-taken.true)

pub handle-returns-then-not-has_error-clause-executes : goal.handle-returns-then-not-has_error-clause-executes
unfolding instruction_row_tree
handle-returns-then-not-has_error-clause-executes g t c = executes c.requires.asked c.requires.handle_at (λ p b n vs h. handle_other (calling _ n) vs h.holds c.requires.asked.going c.stepped-taken.ensures _ _ _ c.if-taken.false (sym c.has_error.ensures ∙ c.if-not-has_error.true))

pub handle-exec-requires : goal.handle-exec-requires
unfolding InstructionFacts
handle-exec-requires g t c = λ κs under. let f = facts c.requires.asked c.requires.handle_at in (omega (arith, f.1), (under, part c.requires.asked c.requires.handle_at (handle_body _ _) c.requires.asked.store c.requires.asked.stands.holds refl refl f.1 (cleared_going c.stepped-taken.result c.if-taken.false c.cleared.ensures)))

pub handle-returns-clause-executes : goal.handle-returns-clause-executes
unfolding instruction_row_tree
handle-returns-clause-executes g t c = executes c.requires.asked c.requires.handle_at (λ p b n vs h. reaches_as (handle_own (calling _ n) c.stepped-taken.ensures vs _ _ _ _ c.if-taken.false (sym c.has_error.ensures ∙ c.if-not-has_error.false) c.cleared.ensures) (c.exec.ensures.executes.reaches p b n vs (part_stands c.requires.asked c.requires.handle_at (handle_body _ _) h h.holds refl)))

pub opened-enter-entered-requires-clause-calling : goal.opened-enter-entered-requires-clause-calling
opened-enter-entered-requires-clause-calling g t c = rw c.seen.ensures (enter_asked c.requires.opening)

pub opened-returns-then-is_err-clause-opens : goal.opened-returns-then-is_err-clause-opens
opened-returns-then-is_err-clause-opens g t c = opens_failed c.requires.opening _ (rw c.seen.ensures at c.enter-entered.ensures.enters) (sym c.is_err.ensures.value ∙ c.if-is_err.true) c.settled.ensures

pub opened-procedure-procedure-requires-clause-k_lt_count : goal.opened-procedure-procedure-requires-clause-k_lt_count
opened-procedure-procedure-requires-clause-k_lt_count g t c = procedure_there c.requires.opening

pub opened-procedure-procedure-requires-clause-k_lt_most : goal.opened-procedure-procedure-requires-clause-k_lt_most
opened-procedure-procedure-requires-clause-k_lt_most g t c = procedure_few c.requires.opening

pub opened-slice_bounds-body-count : goal.opened-slice_bounds-body-count
opened-slice_bounds-body-count g t c = bodies_left c.requires.opening

pub opened-slice_bounds-body-start : goal.opened-slice_bounds-body-start
opened-slice_bounds-body-start g t c = bodies_left c.requires.opening

pub opened-body-ended-requires : goal.opened-body-ended-requires
opened-body-ended-requires g t c = λ κs under. (omega (arith, body_less c.requires.opening (rw c.seen.ensures at c.enter-entered.ensures.enters) (no_fault_number _ (sym c.is_err.ensures.value ∙ c.if-is_err.false)) _ _ c.procedure-procedure.ensures.body (length_part c.args.area.now.cells.now 1024)), (under, body_asked c.requires.opening (rw c.seen.ensures at c.enter-entered.ensures.enters) (no_fault_number _ (sym c.is_err.ensures.value ∙ c.if-is_err.false)) c.procedure-procedure.ensures.body refl (area_before (lent_in c.args.area.now) _ _ (own_bodies c.requires.opening)) (omega (arith, c.enter-entered.auto.stack))))

pub opened-leave-requires : goal.opened-leave-requires
opened-leave-requires g t c = leave_asked c.requires.opening (rw c.seen.ensures at c.enter-entered.ensures.enters) (no_fault_number _ (sym c.is_err.ensures.value ∙ c.if-is_err.false)) (ran_as c.procedure-procedure.ensures.body refl (area_before (lent_in c.args.area.now) _ _ (own_bodies c.requires.opening)) c.body-ended.ensures.executes) (area_behind (lent_in c.args.area.now) (lent c.body-ended.new.cells c.body-ended.new.states c.body-ended.new.bodies) _ _ (own_bodies c.requires.opening)) c.seen-2.ensures (omega (arith, c.enter-entered.auto.stack, c.body-ended.auto.stack))

pub opened-returns-clause-opens : goal.opened-returns-clause-opens
opened-returns-clause-opens g t c = opens c.requires.opening (rw c.seen.ensures at c.enter-entered.ensures.enters) (no_fault_number _ (sym c.is_err.ensures.value ∙ c.if-is_err.false)) (ran_as c.procedure-procedure.ensures.body refl (area_before (lent_in c.args.area.now) _ _ (own_bodies c.requires.opening)) c.body-ended.ensures.executes) (area_behind (lent_in c.args.area.now) (lent c.body-ended.new.cells c.body-ended.new.states c.body-ended.new.bodies) _ _ (own_bodies c.requires.opening)) c.seen-2.ensures c.leave.ensures.leaves

pub turns-loop-at-init : goal.turns-loop-at-init
turns-loop-at-init g t c = (slices_stay _, slices_stay _, λ p b n vs h. first_turn (calling _ n) _ _ _ vs h.holds c.requires.asked.going)

pub turns-returns-then-taken-clause-executes : goal.turns-returns-then-taken-clause-executes
unfolding instruction_row_tree
turns-returns-then-taken-clause-executes g t c = executes c.requires.asked c.requires.loop_at (λ p b n vs h. let k = c.loop-at.invariant.2 p b n vs h in turn_out (calling _ n) _ _ _ k c.stepped-taken.ensures (c.is_none.ensures ∙ ap not c.loop-at-test.true) c.if-taken.true)

pub turns-test-told-requires-clause-stands_under : goal.turns-test-told-requires-clause-stands_under
turns-test-told-requires-clause-stands_under g t c = let k = c.loop-at.invariant.2 c.requires.asked.profile c.requires.asked.scope c.requires.asked.may c.requires.asked.store c.requires.asked.stands in rw c.seen.ensures (record { limits = _; standing = record { profile = c.requires.asked.profile; scope = c.requires.asked.scope; store = k.store; holds = k.running; of_scope = loop_test c.requires.asked c.requires.loop_at c.requires.asked.stands; enough = omega (arith, c.requires.asked.enough, c.loop-at.auto.stack) } })

pub turns-test-told-requires-clause-e_lt_count : goal.turns-test-told-requires-clause-e_lt_count
turns-test-told-requires-clause-e_lt_count g t c = loop_there c.requires.asked c.requires.loop_at

pub turns-returns-in-Err-clause-executes : goal.turns-returns-in-Err-clause-executes
unfolding instruction_row_tree
turns-returns-in-Err-clause-executes g t c = executes c.requires.asked c.requires.loop_at (λ p b n vs h. let k = c.loop-at.invariant.2 p b n vs h in turn_failed (calling _ n) _ _ _ k c.stepped-taken.ensures (c.is_none.ensures ∙ ap not c.loop-at-test.true) c.if-taken.false (((rw c.seen.ensures at c.test-told.ensures) _).tells p b k.store (loop_test c.requires.asked c.requires.loop_at h) k.running) _ _ c.in-Err.is c.settled.ensures)

pub turns-returns-in-Ok-false-clause-executes : goal.turns-returns-in-Ok-false-clause-executes
unfolding instruction_row_tree
turns-returns-in-Ok-false-clause-executes g t c = executes c.requires.asked c.requires.loop_at (λ p b n vs h. let k = c.loop-at.invariant.2 p b n vs h in turn_last (calling _ n) _ _ _ k c.stepped-taken.ensures (c.is_none.ensures ∙ ap not c.loop-at-test.true) c.if-taken.false (((rw c.seen.ensures at c.test-told.ensures) _).tells p b k.store (loop_test c.requires.asked c.requires.loop_at h) k.running) (rw c.in-Ok-false.field-0-test at c.in-Ok-false.is))

pub turns-exec-at-requires : goal.turns-exec-at-requires
unfolding InstructionFacts
turns-exec-at-requires g t c = λ κs under. let k = c.loop-at.invariant.2 c.requires.asked.profile c.requires.asked.scope c.requires.asked.may c.requires.asked.store c.requires.asked.stands in let f = facts c.requires.asked c.requires.loop_at in (omega (arith, f.1, c.loop-at.invariant.1.cells_length), (under, part c.requires.asked c.requires.loop_at (loop_body _ _) k.store k.running k.same (omega (arith, c.loop-at.auto.stack, c.test-told.auto.stack)) f.1 (going_after c.if-taken.false)))

pub turns-returns-then-at-clause-executes : goal.turns-returns-then-at-clause-executes
unfolding instruction_row_tree
turns-returns-then-at-clause-executes g t c = executes c.requires.asked c.requires.loop_at (λ p b n vs h. let k = c.loop-at.invariant.2 p b n vs h in body_out (calling _ n) _ _ _ k c.stepped-taken.ensures (c.is_none.ensures ∙ ap not c.loop-at-test.true) c.if-taken.false (((rw c.seen.ensures at c.test-told.ensures) _).tells p b k.store (loop_test c.requires.asked c.requires.loop_at h) k.running) (rw c.in-Ok-true.field-0-test at c.in-Ok-true.is) (c.exec-at.ensures.executes.reaches p b n k.store (part_stands c.requires.asked c.requires.loop_at (loop_body _ _) h k.running k.same)) c.if-at.true)

pub turns-loop-at-smaller : goal.turns-loop-at-smaller
turns-loop-at-smaller g t c = let k = c.loop-at.invariant.2 c.requires.asked.profile c.requires.asked.scope c.requires.asked.may c.requires.asked.store c.requires.asked.stands in fewer_left (calling _ c.requires.asked.may) _ _ _ k c.stepped-taken.ensures (c.is_none.ensures ∙ ap not c.loop-at-test.true) c.if-taken.false (((rw c.seen.ensures at c.test-told.ensures) _).tells c.requires.asked.profile c.requires.asked.scope k.store (loop_test c.requires.asked c.requires.loop_at c.requires.asked.stands) k.running) (rw c.in-Ok-true.field-0-test at c.in-Ok-true.is) (c.exec-at.ensures.executes.reaches c.requires.asked.profile c.requires.asked.scope c.requires.asked.may k.store (part_stands c.requires.asked c.requires.loop_at (loop_body _ _) c.requires.asked.stands k.running k.same)) (exec_left _ _ _)

pub turns-loop-at-preserved : goal.turns-loop-at-preserved
turns-loop-at-preserved g t c = (slices_after c.loop-at.invariant.0 c.exec-at.ensures.same_slices.0, slices_after c.loop-at.invariant.1 c.exec-at.ensures.same_slices.1, λ p b n vs h. let k = c.loop-at.invariant.2 p b n vs h in next_turn (calling _ n) _ _ _ k c.stepped-taken.ensures (c.is_none.ensures ∙ ap not c.loop-at-test.true) c.if-taken.false (((rw c.seen.ensures at c.test-told.ensures) _).tells p b k.store (loop_test c.requires.asked c.requires.loop_at h) k.running) (rw c.in-Ok-true.field-0-test at c.in-Ok-true.is) (c.exec-at.ensures.executes.reaches p b n k.store (part_stands c.requires.asked c.requires.loop_at (loop_body _ _) h k.running k.same)) (exec_left _ _ _) c.if-at.false)

pub turns-returns-clause-executes : goal.turns-returns-clause-executes
unfolding instruction_row_tree
turns-returns-clause-executes g t c = executes c.requires.asked c.requires.loop_at (λ p b n vs h. let k = c.loop-at.invariant.2 p b n vs h in turns_over (calling _ n) _ _ _ k (c.is_none.ensures ∙ ap not c.loop-at-test.false))

pub branch-overflow_cast-row : goal.branch-overflow_cast-row
branch-overflow_cast-row g t c = record { fits = narrow c.requires.asked }

pub call-overflow_cast-of : goal.call-overflow_cast-of
call-overflow_cast-of g t c = record { fits = narrow c.requires.asked }

pub exec-branch-row-requires : goal.exec-branch-row-requires
exec-branch-row-requires g t c = λ κs under. (omega arith, (under, (c.requires, meant_as c.in-Branch.is c.instruction_row-says.ensures)))

pub exec-turns-requires : goal.exec-turns-requires
exec-turns-requires g t c = λ κs under. (omega arith, (under, (c.requires, meant_as c.in-Loop.is c.instruction_row-says.ensures)))

pub exec-handle-requires : goal.exec-handle-requires
exec-handle-requires g t c = λ κs under. (omega arith, (under, (c.requires, meant_as c.in-Handle.is c.instruction_row-says.ensures)))

pub exec-call-requires : goal.exec-call-requires
exec-call-requires g t c = λ κs under. (omega arith, (under, (c.requires, meant_as c.in-Call.is c.instruction_row-says.ensures)))

pub opened-overflow_cast-of : goal.opened-overflow_cast-of
opened-overflow_cast-of g t c = record { fits = narrow c.requires.opening.asked }

pub turns-overflow_cast-row : goal.turns-overflow_cast-row
turns-overflow_cast-row g t c = record { fits = narrow c.requires.asked }
