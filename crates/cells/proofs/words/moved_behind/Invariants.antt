-- `moved_behind` meets its contract: the invariant is `Passed`, for whatever texts the two numbers are, and the measure is
-- the place, which falls. Assumes nothing.
use mathlib.Core.Path.{◌≡◌}
use mathlib.Core.Bool.{true}
use mathlib.Core.List.{List}
use Prim.Native.Nat.{ℕ}
use Rattle.lingua.specs.Numbers.{word_length}
use Rattle.lingua.specs.Value.{is_text, packed_in}
use Rattle.cells.proofs.Glue.{Passed}
use Rattle.cells.proofs.words.moved_behind.Given as goal

abbrev pub invariant-loop-rest : goal.invariant-loop-rest
invariant-loop-rest l =
    (cs ds : List ℕ) → is_text cs ≡ true → is_text ds ≡ true → l.first ≡ packed_in word_length cs → l.second ≡ packed_in word_length ds → Passed cs ds l.rest l.moved l.place

abbrev pub decreases-loop-rest : goal.decreases-loop-rest
decreases-loop-rest l = l.place
