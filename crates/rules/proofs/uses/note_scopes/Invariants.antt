-- `note_scopes` meets its contract: the uses of the scopes that were passed are noted. Assumes nothing.
use mathlib.Core.List.{List, ◌++◌}
use Prim.Native.Nat.{ℕ}
use Rattle.lingua.specs.Trees.{tabulate}
use Rattle.lingua.specs.Typing.{joined}
use Rattle.lingua.specs.References.{declared_roots}
use Rattle.rules.specs.Uses.{Counted}
use Rattle.rules.proofs.uses.note_scopes.Given as goal

abbrev pub invariant-loop-s : goal.invariant-loop-s
invariant-loop-s l = ((xs : List ℕ) → Counted l.initial.uses xs → Counted l.uses (xs ++ joined (tabulate l.s (λ k. declared_roots l.rows k))))
