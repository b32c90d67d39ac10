-- `take_reading` meets its contract: the number lies on the stack as an evaluated value. Assumes nothing.
use mathlib.Core.Path.{refl}
use native.Mathlib.Omega.{arith}
use mir.ValLaws.{to_z-of_z}
use Rattle.run.proofs.Readings.{out_of_range, taken_is}
use Rattle.run.proofs.Settling.{keeps, settles_as}
use Rattle.checked_row.proofs.Storing.{body_room}
use Rattle.checked_store.proofs.Readings.{counts_by_byte, puts_reading}
use Rattle.checked_store.proofs.reading.take_reading.Goals as goal

pub bounds-memory-n : goal.bounds-memory-n
bounds-memory-n c = omega (arith, body_room c.requires.has_running.running.world.stored c.args.n c.requires.has_running.there)

pub returns-then-not-in_range-clause-assigns : goal.returns-then-not-in_range-clause-assigns
returns-then-not-in_range-clause-assigns c = λ vs w l. keeps 1 (λ e. omega arith) (out_of_range vs c.args.n c.args.z _ (counts_by_byte w.world.stored c.args.n l) _ (simp (to_z-of_z _ _ c.ranges.z) at c.in_range.ensures) c.if-not-in_range.true)

pub assign-requires-clause-assignable : goal.assign-requires-clause-assignable
assign-requires-clause-assignable c =
    let r = c.requires.has_running in
    (record { store = r.store; running = r.running; there = r.there; given = record { outcome = _; gives = (puts_reading _ c.args.stack.now c.args.z _ _ (to_z-of_z _ _ c.ranges.z) (simp (to_z-of_z _ _ c.ranges.z) at c.in_range.ensures) c.if-not-in_range.false (omega (arith, c.requires.count_in_bounds)) c.quantity_body-body.ensures refl) } })

pub returns-clause-assigns : goal.returns-clause-assigns
returns-clause-assigns c = λ vs w l. settles_as (taken_is vs c.args.n c.args.z _ (counts_by_byte w.world.stored c.args.n l) _ (simp (to_z-of_z _ _ c.ranges.z) at c.in_range.ensures) c.if-not-in_range.false) (c.assign.ensures.assigns vs _ w l (puts_reading _ c.args.stack.now c.args.z _ _ (to_z-of_z _ _ c.ranges.z) (simp (to_z-of_z _ _ c.ranges.z) at c.in_range.ensures) c.if-not-in_range.false (omega (arith, c.requires.count_in_bounds)) c.quantity_body-body.ensures refl))
