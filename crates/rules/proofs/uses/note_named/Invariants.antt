-- `note_named` meets its contract: what the rows that were passed name is noted. Assumes nothing.
use Rattle.std.proofs.Common.{List, ◌++◌, ℕ}
use Rattle.lingua.specs.Trees.{tabulate}
use Rattle.lingua.specs.Typing.{joined}
use Rattle.rules.specs.Uses.{Counted, Names}
use Rattle.rules.proofs.uses.note_named.Given as goal

abbrev pub invariant-loop-r : goal.invariant-loop-r
invariant-loop-r g l = (names : ℕ → List ℕ) → Names (goal.F-post g l.named) l.n names → (xs : List ℕ) → Counted l.initial.uses xs → Counted l.uses (xs ++ joined (tabulate l.r names))
