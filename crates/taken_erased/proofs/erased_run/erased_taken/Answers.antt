-- `taken_erased::erased_run::erased_taken` meets its contract: refused, 17 included, or as the run of both files ends. Assumes nothing.
use Rattle.pair.proofs.Returns.{passed_on}
use Rattle.taken.proofs.Calling.{as_lent, limits_lie, asks, asks_limited, layout_wrong, erased_run_refused, erased_done}
use Rattle.taken_erased.proofs.erased_run.erased_taken.Goals as goal

pub returns-then-layout-ne-LAYOUT_LENGTH-clause-run : goal.returns-then-layout-ne-LAYOUT_LENGTH-clause-run
returns-then-layout-ne-LAYOUT_LENGTH-clause-run c = λ prof lims h. layout_wrong _ _ _ _ c.if-layout-ne-LAYOUT_LENGTH.true

pub returns-in_err-admitted-clause-run : goal.returns-in_err-admitted-clause-run
returns-in_err-admitted-clause-run c = λ prof lims h. rw (passed_on _ c.from_residual.ensures.1) (erased_run_refused _ _ _ _ c.if-layout-ne-LAYOUT_LENGTH.false (as_lent c.seen.ensures (c.run_refusal.ensures prof lims _ h)) c.in_err-admitted.was)

pub with_limits-from-requires : goal.with_limits-from-requires
with_limits-from-requires c = limits_lie ((c.run_refusal.ensures _ _ _ c.requires.is).admitted _ c.in_ok-admitted.was)

pub erased_rows-requires : goal.erased_rows-requires
erased_rows-requires c =
    let t = c.with_limits-from.ensures.taken _ _ ((as_lent c.seen.ensures (c.run_refusal.ensures _ _ _ c.requires.is)).admitted _ c.in_ok-admitted.was) in
    let k = asks t in
    record { startable = k.0; is_known = k.1; layout_len = c.if-layout-ne-LAYOUT_LENGTH.false; quantities_limited = asks_limited t }

pub returns-clause-run : goal.returns-clause-run
returns-clause-run c = λ prof lims h.
    let r = as_lent c.seen.ensures (c.run_refusal.ensures prof lims _ h) in
    erased_done _ _ _ _ c.if-layout-ne-LAYOUT_LENGTH.false r c.in_ok-admitted.was (c.with_limits-from.ensures.taken _ _ (r.admitted _ c.in_ok-admitted.was)) _ _ _ c.erased_rows.ensures.run
