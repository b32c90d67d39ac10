-- `readers` meets its contract: the marks of the rows that were passed are right. Assumes nothing.
use mathlib.Core.Path.{◌≡◌}
use lib.ListN.{length}
use Rattle.decoder.specs.Reads.{Marked}
use Rattle.rules.proofs.places.readers.Given as goal

abbrev pub invariant-loop-r : goal.invariant-loop-r
invariant-loop-r l = (length l.marks ≡ 512) × Marked l.rows l.variable l.r l.marks
