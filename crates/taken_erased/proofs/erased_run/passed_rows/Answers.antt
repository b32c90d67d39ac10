-- `taken_erased::erased_run::passed_rows` meets its contract: it is lent no room for bodies. Assumes nothing.
use mathlib.Core.Path.{refl}
use Rattle.taken.specs.Ways.{LendsBy}
use Rattle.taken_erased.proofs.erased_run.passed_rows.Goals as goal

pub run_rows-requires-clause-lends : goal.run_rows-requires-clause-lends
unfolding LendsBy
run_rows-requires-clause-lends c = record { by = record { passed = c.requires.passed_rows; limited = c.requires.quantities_limited; no_types = refl; no_own = refl; no_area = refl } }
