-- `keep_limits` meets its contract: from the last row to the first, a turn is `keep_limit`. Assumes nothing.
use mathlib.Core.List.{List}
use Prim.Native.Nat.{ℕ}
use Rattle.run.specs.Kept.{LimitsFrom, Limited}
use Rattle.run.proofs.start.keep_limits.Given as goal

abbrev pub invariant-loop-l : goal.invariant-loop-l
invariant-loop-l l = (rows : List ℕ) → Limited rows l.limits l.owners → LimitsFrom rows l.limits l.kept l.l
