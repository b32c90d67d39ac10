-- Characters with zeros behind them: what is left behind the characters is zeros. Assumes nothing.
use mathlib.Core.Path.{◌≡◌, refl}
use mathlib.Core.Bool.{Bool, true, false, not, ◌&&◌}
use mathlib.Core.List.{List, [], ◌∷◌}
use Prim.Native.Nat.{ℕ, suc, ◌+◌}
use native.Mathlib.Omega.{arith}
use lib.Dec.{eqb}
use lib.ListN.{drop}
use Rattle.std.specs.List.{prefix_len}
use Rattle.lingua.specs.Value.{all_of}
use Rattle.lingua.specs.Format.{all_zero}
use Rattle.lingua.specs.Rules.{padded_by}

module _ (p : ℕ → Bool) where
  abbrev pub written : ℕ → Bool
  written c = not (eqb c 0) && p c

  pub padded_is : (bytes : List ℕ) → all_of (λ b. eqb b 0) (drop (prefix_len written bytes) bytes) ≡ padded_by p bytes
  unfolding all_of all_zero padded_by
  padded_is [] = refl
  padded_is (c ∷ cs) = by_tests (padded_is cs) (eqb c 0) (p c) refl refl
    where
      by_tests : all_of (λ b. eqb b 0) (drop (prefix_len written cs) cs) ≡ padded_by p cs → (z q : Bool) → eqb c 0 ≡ z → p c ≡ q
          → all_of (λ b. eqb b 0) (drop (prefix_len written (c ∷ cs)) (c ∷ cs)) ≡ padded_by p (c ∷ cs)
      by_tests rest true q e h = rw (e, e)
      by_tests rest false true e h = let more : 1 + prefix_len written cs ≡ suc (prefix_len written cs) = omega arith in rw (e, h, more) rest
      by_tests rest false false e h = rw (e, h, e)
