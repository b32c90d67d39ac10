-- A constant's eight bytes as a word. Assumes nothing.
use mathlib.Core.Path.{◌≡◌, ◌∙◌}
use mathlib.Core.Bool.{Bool}
use mathlib.Core.List.{List}
use Prim.Native.Nat.{ℕ}
use lib.ListN.{length}
use Rattle.lingua.specs.Value.{is_character}
use Rattle.lingua.specs.Rows.{word_constant}
use Rattle.lingua.specs.Rules.{padded_by, constant_fits}

-- a word's eight bytes
pub word_is : (bytes cs : List ℕ) {b : Bool} → cs ≡ bytes → length cs ≡ 8 → b ≡ padded_by is_character cs → b ≡ constant_fits (word_constant bytes)
unfolding constant_fits
word_is bytes cs {b} e l h = h ∙ (rw (← e, l))
