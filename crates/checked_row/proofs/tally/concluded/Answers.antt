-- `concluded` meets its contract: one law of Seeing.antt for each way that it ends. Assumes nothing.
use borrow.Author.Tests.{not-true, not-false}
use Rattle.laws.specs.Faults.{passed}
use Rattle.checked_row.proofs.Giving.{gives_error, gives_as}
use Rattle.checked_row.proofs.Seeing.{seen_error, seen_other, seen_all}
use Rattle.checked_row.proofs.tally.concluded.Goals as goal

pub returns-in_err-seen : goal.returns-in_err-seen
returns-in_err-seen c = λ rs h. rw (passed _ _ c.from_residual.ensures.1) (gives_error _ (seen_error rs _ (h.error _ c.in_err-seen.was)))

pub returns-then-not-seen : goal.returns-then-not-seen
returns-then-not-seen c = λ rs h. gives_error _ (seen_other (h.answers _ c.in_ok-seen.was) (not-true _ c.if-not-seen.true))

pub returns : goal.returns
returns c = λ rs h. gives_as (seen_all (h.answers _ c.in_ok-seen.was) (not-false _ c.if-not-seen.false)) c.boolean.ensures
