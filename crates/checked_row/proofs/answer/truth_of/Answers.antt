-- `truth_of` meets its contract: one law of Giving.antt for each way that it ends. Assumes nothing.
use mathlib.Core.Path.{sym}
use Rattle.lingua.specs.Faults.{error_number}
use Rattle.laws.specs.Faults.{passed}
use Rattle.checked_row.proofs.Giving.{tells_error, tells_other, tells_truth}
use Rattle.checked_row.proofs.answer.truth_of.Goals as goal

pub returns-in_err-value : goal.returns-in_err-value
returns-in_err-value c = λ o h. rw (passed _ _ c.from_residual.ensures.1) (sym (tells_error _ h _ c.in_err-value.was))

pub returns-then-not-is_boolean : goal.returns-then-not-is_boolean
returns-then-not-is_boolean c = λ o h. sym (tells_other (error_number c.args.other) h _ c.in_ok-value.was _ c.is_boolean.ensures c.if-not-is_boolean.true)

pub returns : goal.returns
returns c = λ o h. sym (tells_truth (error_number c.args.other) h _ c.in_ok-value.was _ c.is_boolean.ensures c.if-not-is_boolean.false)
