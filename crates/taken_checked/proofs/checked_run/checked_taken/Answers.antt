-- `taken_checked::checked_run::checked_taken` meets its contract: refused, or as the run of both files ends. Assumes nothing.
use Rattle.pair.proofs.Returns.{passed_on}
use Rattle.taken.proofs.Calling.{as_lent, limits_lie, asks, present_wrong, run_refused, run_done}
use Rattle.taken_checked.proofs.checked_run.checked_taken.Goals as goal

pub returns-then-present-ne-PRESENT_BODIES_LENGTH-clause-run : goal.returns-then-present-ne-PRESENT_BODIES_LENGTH-clause-run
returns-then-present-ne-PRESENT_BODIES_LENGTH-clause-run c = λ prof lims h. present_wrong _ _ _ _ c.if-present-ne-PRESENT_BODIES_LENGTH.true

pub returns-in_err-admitted-clause-run : goal.returns-in_err-admitted-clause-run
returns-in_err-admitted-clause-run c = λ prof lims h. rw (passed_on _ c.from_residual.ensures.1) (run_refused _ _ _ _ c.if-present-ne-PRESENT_BODIES_LENGTH.false (as_lent c.seen.ensures (c.run_refusal.ensures prof lims _ h)) c.in_err-admitted.was)

pub with_limits-from-requires : goal.with_limits-from-requires
with_limits-from-requires c = limits_lie ((c.run_refusal.ensures _ _ _ c.requires.is).admitted _ c.in_ok-admitted.was)

pub checked_lent-requires : goal.checked_lent-requires
checked_lent-requires c =
    let k = asks (c.with_limits-from.ensures.taken _ _ ((as_lent c.seen.ensures (c.run_refusal.ensures _ _ _ c.requires.is)).admitted _ c.in_ok-admitted.was)) in
    record { startable = k.0; is_known = k.1; present_len = c.if-present-ne-PRESENT_BODIES_LENGTH.false }

pub returns-clause-run : goal.returns-clause-run
returns-clause-run c = λ prof lims h.
    let r = as_lent c.seen.ensures (c.run_refusal.ensures prof lims _ h) in
    run_done _ _ _ _ c.if-present-ne-PRESENT_BODIES_LENGTH.false r c.in_ok-admitted.was (c.with_limits-from.ensures.taken _ _ (r.admitted _ c.in_ok-admitted.was)) _ _ _ c.checked_lent.ensures.run
