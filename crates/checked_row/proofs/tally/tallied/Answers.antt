-- `tallied` meets its contract: one law of Seeing.antt for each way that it ends. Assumes nothing.
use mathlib.Core.Path.{refl}
use mathlib.Core.Bool.{true, false}
use Rattle.laws.specs.Faults.{passed}
use Rattle.checked_row.proofs.Seeing.{sees_tally, sees_error, more_failed, more_error, sees_other, sees_truth}
use Rattle.checked_row.proofs.tally.tallied.Goals as goal

pub returns-in_err-seen : goal.returns-in_err-seen
returns-in_err-seen c = λ rs o h g. rw (passed _ _ c.from_residual.ensures.1) (sees_error _ (more_failed rs o _ (h.error _ c.in_err-seen.was)))

pub returns-in_err-value : goal.returns-in_err-value
returns-in_err-value c = λ rs o h g.
    rw (passed _ _ c.from_residual-in_err-value.ensures.1) (sees_error _ (more_error (h.answers _ c.in_ok-seen.was) _ (g.error _ c.in_err-value.was)))

pub returns-then-not-is_boolean : goal.returns-then-not-is_boolean
returns-then-not-is_boolean c = λ rs o h g. sees_tally (sees_other (h.answers _ c.in_ok-seen.was) (g.answer _ c.in_ok-value.was) _ c.is_boolean.ensures c.if-not-is_boolean.true)

pub returns-then-seen : goal.returns-then-seen
returns-then-seen c = λ rs o h g. sees_tally (sees_truth (h.answers _ c.in_ok-seen.was) (g.answer _ c.in_ok-value.was) _ c.is_boolean.ensures _ true c.if-seen.true c.if-not-is_boolean.false refl)

pub returns-else-seen : goal.returns-else-seen
returns-else-seen c = λ rs o h g. sees_tally (sees_truth (h.answers _ c.in_ok-seen.was) (g.answer _ c.in_ok-value.was) _ c.is_boolean.ensures _ false c.if-seen.false c.if-not-is_boolean.false c.if-seen.false)
