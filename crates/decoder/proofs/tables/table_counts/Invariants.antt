-- `table_counts` meets its contract. The invariant: the procedures that were begun, and each place has the count of its rows among those
-- passed. Assumes nothing.
use mathlib.Core.Path.{◌≡◌}
use Prim.Native.Nat.{ℕ, ◌<◌, min}
use lib.Dec.{eqb}
use lib.ListN.{length, get_or}
use Rattle.lingua.specs.Rows.{count_below, begins_procedure, table_at}
use Rattle.decoder.proofs.tables.table_counts.Given as goal

abbrev pub invariant-loop-i : goal.invariant-loop-i
invariant-loop-i l = (length l.counts ≡ 24) × (l.begun ≡ count_below l.i (λ j. begins_procedure l.rows j)) × ((k : ℕ) → k < 24 → get_or l.counts k 0 ≡ count_below l.i (λ j. eqb (min (table_at l.rows j) 23) k))
