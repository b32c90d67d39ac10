-- Which 64 bits, read with a sign, are in a range about zero. Assumes nothing.
use mathlib.Core.Path.{◌≡◌, refl, sym, ◌∙◌}
use mathlib.Core.Bool.{Bool, true, false, ◌&&◌}
use mathlib.Core.Logic.{⊎_elim}
use Prim.Native.Nat.{ℕ, suc, ◌+◌, ◌-◌, ◌^◌, ◌≤◌, ◌<◌}
use native.Mathlib.Omega.{arith}
use lib.Dec.{ltb, leb}
use lib.IntN.{pos, negsuc}
use borrow.Author.Tests.{le-leb, lt-leb, ltb-true, ltb-false}
use mir.Syntax.{w64}
use mir.Val.{to_z, sel}
use Rattle.decoder.proofs.Counting.{order}
use Rattle.row_rules.specs.Range.{about}

module _ (k : ℕ) (half : k < 9223372036854775807) where
  pub small_fits : (n : ℕ) → n ≤ k + 1 → true ≡ about k (to_z w64 n)
  unfolding about
  small_fits n l = go (ltb n (2 ^ 63)) refl
    where
      go : (t : Bool) → ltb n (2 ^ 63) ≡ t → true ≡ about k (sel t (pos n) (negsuc (2 ^ 64 - suc n)))
      go true e = sym (le-leb n (suc k) (omega (arith, l)))
      go false e = absurd (omega (arith, ltb-false n (2 ^ 63) e))

  pub other_fits : (n : ℕ) → k + 1 < n → n < 2 ^ 64 → leb (18446744073709551615 - k) n ≡ about k (to_z w64 n)
  unfolding about
  other_fits n l m = go (ltb n (2 ^ 63)) refl
    where
      low : ℕ
      low = 18446744073709551615 - k

      below : n < low → leb low n ≡ (leb (18446744073709551616 - suc n) k && true)
      below h = rw (lt-leb low n h, lt-leb (18446744073709551616 - suc n) k (omega arith))

      above : low ≤ n → leb low n ≡ (leb (18446744073709551616 - suc n) k && true)
      above h = rw (le-leb low n h, le-leb (18446744073709551616 - suc n) k (omega arith))

      go : (t : Bool) → ltb n (2 ^ 63) ≡ t → leb low n ≡ about k (sel t (pos n) (negsuc (2 ^ 64 - suc n)))
      go true e = lt-leb low n (omega (arith, ltb-true n (2 ^ 63) e)) ∙ sym (lt-leb n (suc k) (omega (arith, l)))
      go false e = ⊎_elim below (λ r. above (⊎_elim (λ q. omega arith) (λ q. omega arith) r)) (order n low)
