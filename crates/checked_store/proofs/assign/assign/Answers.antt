-- `assign` meets its contract: one law of Assigning.antt for each way that it ends. Assumes nothing.
use native.Mathlib.Omega.{arith}
use mathlib.Core.Path.{refl, ap}
use Rattle.cells.proofs.Operands.{lies_long}
use Rattle.laws.specs.Faults.{passed_on, error_some}
use Rattle.run.specs.Reached.{Lent}
use Rattle.run.proofs.Parts.{word_room}
use Rattle.run.proofs.Settling.{keeps_fault}
use Rattle.checked_store.proofs.Admitting.{no_yoke}
use Rattle.checked_row.proofs.Storing.{memory_of, body_room, present_held}
use Rattle.checked_store.proofs.Assigning.{here_current, copied_current, bounds_of, operand_error, not_admitted, storable, stores}
use Rattle.checked_store.proofs.assign.assign.Goals as goal

pub returns-in_err-x-clause-assigns : goal.returns-in_err-x-clause-assigns
returns-in_err-x-clause-assigns c = λ vs o w l h. rw (passed_on _ _ c.from_residual.ensures.1) (keeps_fault _ (operand_error vs _ _ h c.in_err-x.was))

pub yoke_in-requires : goal.yoke_in-requires
yoke_in-requires c = let r = c.requires.assignable in word_room (memory_of r.running.world.stored) _ r.there

pub unyoked-requires : goal.unyoked-requires
unyoked-requires c =
    let r = c.requires.assignable in
    let s = r.running.world.stored in
    rw (ap (λ (l : Lent). l.bodies) c.seen.ensures)
    (record {
      own_room = body_room s _ r.there;
      held = record { body = _; holds = present_held s _ r.there _ refl };
      limit_room = omega (arith, r.running.room, r.there);
      has = record { value = _; is = here_current (r.given.gives.answer _ c.in_ok-x.was) };
    })

pub returns-in_err-unyoked-clause-assigns : goal.returns-in_err-unyoked-clause-assigns
returns-in_err-unyoked-clause-assigns c = λ vs o w l h.
    let a = h.answer _ c.in_ok-x.was in
    rw (passed_on _ _ c.from_residual-in_err-unyoked.ensures.1) (keeps_fault _ (not_admitted vs _ a ((rw (ap (λ (l : Lent). l.bodies) c.seen.ensures) at c.in_err-unyoked.ensures) vs _ _ (bounds_of w _ l) (no_yoke w _ l c.yoke_in.ensures c.if-yoke_in-eq0.true) (here_current a)) (error_some _)))

pub keep-requires : goal.keep-requires
keep-requires c =
    let r = c.requires.assignable in
    let a = r.given.gives.answer _ c.in_ok-x.was in
    storable r.running _ r.there a (here_current a)

pub returns-then-yoke_in-eq0-clause-assigns : goal.returns-then-yoke_in-eq0-clause-assigns
returns-then-yoke_in-eq0-clause-assigns c = λ vs o w l h.
    let a = h.answer _ c.in_ok-x.was in
    stores vs _ a ((rw (ap (λ (l : Lent). l.bodies) c.seen.ensures) at c.in_ok-unyoked.ensures) vs _ _ (bounds_of w _ l) (no_yoke w _ l c.yoke_in.ensures c.if-yoke_in-eq0.true) (here_current a)) w l refl (here_current a) c.keep.ensures.stores_value

pub copy-requires-clause-n_in_bounds : goal.copy-requires-clause-n_in_bounds
copy-requires-clause-n_in_bounds c =
    let a = c.requires.assignable.given.gives.answer _ c.in_ok-x.was in
    (omega (arith, a.cells, lies_long a.lies))

pub copy-requires-clause-n_in_bounds_2 : goal.copy-requires-clause-n_in_bounds_2
copy-requires-clause-n_in_bounds_2 c =
    let a = c.requires.assignable.given.gives.answer _ c.in_ok-x.was in
    (omega (arith, a.cells, a.holds.few_cells))

pub admitted-requires-clause-checkable : goal.admitted-requires-clause-checkable
admitted-requires-clause-checkable c =
    let r = c.requires.assignable in
    rw c.seen-2.ensures (record { store = r.store; running = r.running; there = r.there; has = record { value = _; is = copied_current (r.given.gives.answer _ c.in_ok-x.was) _ c.copy.ensures } })

pub returns-in_err-admitted-clause-assigns : goal.returns-in_err-admitted-clause-assigns
returns-in_err-admitted-clause-assigns c = λ vs o w l h.
    let a = h.answer _ c.in_ok-x.was in
    rw (passed_on _ _ c.from_residual-in_err-admitted.ensures.1) (keeps_fault _ (not_admitted vs _ a ((rw c.seen-2.ensures at c.in_err-admitted.ensures) vs _ w l (copied_current a _ c.copy.ensures)) (error_some _)))

pub keep-requires-2 : goal.keep-requires-2
keep-requires-2 c =
    let r = c.requires.assignable in
    let a = r.given.gives.answer _ c.in_ok-x.was in
    storable r.running _ r.there a (copied_current a _ c.copy.ensures)

pub returns-clause-assigns : goal.returns-clause-assigns
returns-clause-assigns c = λ vs o w l h.
    let a = h.answer _ c.in_ok-x.was in
    stores vs _ a ((rw c.seen-2.ensures at c.in_ok-admitted.ensures) vs _ w l (copied_current a _ c.copy.ensures)) w l refl (copied_current a _ c.copy.ensures) c.keep-2.ensures.stores_value
