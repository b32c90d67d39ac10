-- `taken_erased::erased_run::erased_rows` meets its contract: rule 17, or the run with the table that the type check left. Assumes nothing.
use native.Mathlib.Omega.{arith}
use Rattle.taken.proofs.Calling.{faulted, passed_rows, passed_done}
use Rattle.taken_erased.proofs.erased_run.erased_rows.Goals as goal

pub check_profile-requires-clause-ready : goal.check_profile-requires-clause-ready
check_profile-requires-clause-ready c = record { accepted = c.requires.startable.accepted; types = c.requires.is_known.held }

pub passed_rows-requires-clause-passed_rows : goal.passed_rows-requires-clause-passed_rows
passed_rows-requires-clause-passed_rows c = passed_rows _ _ (c.in-Ok.ensures _) c.copy_from_slice.ensures.after (omega (arith, c.check_profile.auto.layout))

pub returns-in-Ok-clause-run : goal.returns-in-Ok-clause-run
returns-in-Ok-clause-run c = passed_done _ _ _ _ _ _ _ _ (passed_rows _ _ (c.in-Ok.ensures _) c.copy_from_slice.ensures.after (omega (arith, c.check_profile.auto.layout))) _ _ c.passed_rows.ensures.run

pub returns-in-Err-clause-run : goal.returns-in-Err-clause-run
returns-in-Err-clause-run c = faulted _ _ _ _ _ _ _ (c.in-Err.ensures _).is
