-- `typecheck::verdicts::check_call` meets its contract: a call has no entry, and one fault. Assumes nothing.
use mathlib.Core.Path.{sym, ◌∙◌}
use Rattle.typecheck.proofs.Settling.{call_fails, call_passes}
use Rattle.typecheck.proofs.verdicts.check_call.Goals as goal

pub returns-then-not-call_fits : goal.returns-then-not-call_fits
returns-then-not-call_fits c = λ row l e. call_fails row c.args.place e _ _ _ _ _ (sym c.call_fits.ensures ∙ c.if-not-call_fits.true)

pub returns : goal.returns
returns c = λ row l e. call_passes l row _ _ _ _ _ (sym c.call_fits.ensures ∙ c.if-not-call_fits.false)
