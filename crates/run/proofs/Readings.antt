-- A reading: out of its variable's range it is an overflow, in it it is an assignment. Assumes nothing.
use mathlib.Core.Path.{◌≡◌, sym, ap, ◌∙◌}
use mathlib.Core.Bool.{Bool, true, false}
use mathlib.Core.List.{List}
use Prim.Native.Nat.{ℕ}
use lib.IntN.{ℤ}
use Rattle.lingua.specs.Errors.{overflow}
use Rattle.lingua.specs.Outcome.{fail, require, ◌>>◌}
use Rattle.lingua.specs.Value.{in_range_of}
use Rattle.lingua.specs.Store.{Variable, assigned, counts_hundredths, reading_value, reading_taken}
use Rattle.run.specs.Memory.{reading}

-- h says, as the code found it, whether the variable is in hundredths, and t whether the number is in range
module _ (vs : List Variable) (n : ℕ) (z : ℤ) (h : Bool) (counts : h ≡ counts_hundredths vs (reading n z)) (t : Bool) (ranged : t ≡ in_range_of h z) where
  pub out_of_range : t ≡ false → reading_taken vs (reading n z) ≡ fail overflow
  unfolding reading_taken
  out_of_range e =
      ap (λ (k : Bool). require (in_range_of k z) overflow >> assigned vs n (reading_value k z)) (sym counts)
      ∙ ap (λ (b : Bool). require b overflow >> assigned vs n (reading_value h z)) (sym ranged ∙ e)

  pub taken_is : t ≡ true → assigned vs n (reading_value h z) ≡ reading_taken vs (reading n z)
  unfolding reading_taken
  taken_is e =
      sym (ap (λ (k : Bool). require (in_range_of k z) overflow >> assigned vs n (reading_value k z)) (sym counts)
      ∙ ap (λ (b : Bool). require b overflow >> assigned vs n (reading_value h z)) (sym ranged ∙ e))
