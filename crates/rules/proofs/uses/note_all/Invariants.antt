use Rattle.std.proofs.Common.{◌++◌, take, List, ℕ}
use Rattle.rules.specs.Uses.{Counted}
use Rattle.rules.proofs.uses.note_all.Given as goal

abbrev pub invariant-loop-x : goal.invariant-loop-x
invariant-loop-x l = (xs : List ℕ) → Counted l.initial.uses xs → Counted l.uses (xs ++ take l.x-index l.numbers)
