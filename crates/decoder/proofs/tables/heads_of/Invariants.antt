-- `heads_of` meets its contract. The invariant: the beginnings up to k are known. Assumes nothing.
use mathlib.Core.Path.{◌≡◌}
use Prim.Native.Nat.{ℕ, ◌≤◌}
use lib.ListN.{length, get_or}
use Rattle.lingua.specs.Numbers.{header_table}
use Rattle.lingua.specs.Rows.{table_start}
use Rattle.decoder.proofs.tables.heads_of.Given as goal

abbrev pub invariant-loop-k : goal.invariant-loop-k
invariant-loop-k l = (length l.heads ≡ 9) × ((j : ℕ) → j ≤ l.k → get_or l.heads j 0 ≡ table_start l.rows (header_table j))
