-- The machine's way to the nearest whole number: the quotient of the sizes is cut, what is left of the dividend decides whether it goes up
-- by one, and the sign is put back. Assumes nothing.
use mathlib.Core.Path.{◌≡◌, refl, sym, ap, ap₂, ◌∙◌}
use mathlib.Core.Bool.{true, false}
use Prim.Native.Nat.{ℕ, suc, ◌+◌, ◌*◌, ◌/◌, ◌%◌, ◌≤◌, ◌<◌}
use native.Mathlib.Nat.{mul_left_comm, add-mul, div-add-mod', mod-lt, div-eq_of_lt-le, div-le_self}
use native.Mathlib.Omega.{arith}
use borrow.Author.Tests.{ltb-true}
use lib.Dec.{T}
use lib.IntN.{ℤ, pos, negsuc, neg_ℤ, nat_abs, ◌-ℤ◌, +ℤ_idl}
use lib.Signed.{lt_z, non_neg}
use mir.Syntax.{w64}
use mir.Val.{Fits, SFits, to_z, of_z}
use mir.ValLaws.{to_z-of_z}
use Rattle.lingua.specs.Rounding.{nearest_size, nearest}
use Rattle.arith.specs.Sizes.{abs_difference}
use Rattle.arith.proofs.Range.{fits_below}

-- ---- sizes
pub below_zero : (x : ℤ) → lt_z x (pos 0) ≡ true → pos 0 -ℤ x ≡ pos (nat_abs x)
below_zero (pos n) e = absurd (let b : ⊥ = omega (arith, ltb-true n 0 e) in b)
below_zero (negsuc n) e = +ℤ_idl (pos (suc n))

pub from_zero : (x : ℤ) → lt_z x (pos 0) ≡ false → x ≡ pos (nat_abs x)
from_zero (pos n) e = refl
from_zero (negsuc n) e = let k : ◌≡◌ {A = ℕ} 0 1 = cc in absurd (let b : ⊥ = omega arith in b)

pub opposite_fits : (x : ℤ) → nat_abs x ≤ 100000000000000000 → SFits w64 (pos 0 -ℤ x)
opposite_fits x h = fits_below (pos 0 -ℤ x) (omega (arith, abs_difference (pos 0) x))

-- a machine number that is a size can be taken for an unsigned one
pub size_casts : (z : ℤ) (n : ℕ) → z ≡ pos n → n ≤ 10000000000000000 → T (non_neg z) × Fits w64 (nat_abs z)
size_casts z n e h = rw e (tt, record { fits = omega arith })

-- ---- the rest is below half of the divisor, or not
module _ (n d : ℕ) (h : 0 < d) where
  twice : n / d * (2 * d) ≡ 2 * (n / d * d)
  twice = mul_left_comm (n / d) 2 d

  pub kept : 2 * (n % d) < d → n / d ≡ nearest_size n d
  unfolding nearest_size
  kept k =
      let a = div-add-mod' n d in
      sym (div-eq_of_lt-le (2 * d) (omega (arith, a, twice)) (omega (arith, a, twice, add-mul (n / d) 1 (2 * d))))

  pub raised : d ≤ 2 * (n % d) → n / d + 1 ≡ nearest_size n d
  unfolding nearest_size
  raised k =
      let a = div-add-mod' n d in
      let r = mod-lt n h in
      let b = add-mul (n / d) 1 (2 * d) in
      sym (div-eq_of_lt-le (2 * d) (omega (arith, a, twice, r, b)) (omega (arith, a, twice, r, b, add-mul (n / d + 1) 1 (2 * d))))

-- ---- the sign is put back
pub rounded_sizes : (x y x₁ y₁ : ℤ) (n d q : ℕ) → x₁ ≡ x → y₁ ≡ y → n ≡ nat_abs x₁ → d ≡ nat_abs y₁ → q ≡ nearest_size n d → q ≡ nearest_size (nat_abs x) (nat_abs y)
rounded_sizes x y x₁ y₁ n d q p r a b e = e ∙ ap₂ nearest_size (a ∙ ap nat_abs p) (b ∙ ap nat_abs r)

pub rounded_small : (n d q : ℕ) → n ≤ 10000000000000000 → d ≤ 100000000 → q ≡ nearest_size n d → q ≤ 100000000000000000
unfolding nearest_size
rounded_small n d q a b e = omega (arith, e, div-le_self (2 * n + d) (2 * d))

minus : (q : ℕ) → pos 0 -ℤ pos q ≡ neg_ℤ (pos q)
minus q = +ℤ_idl (neg_ℤ (pos q))

never {ℓ} : {A : Type ℓ} → true ≡ false → A
never e = absurd (let k : ◌≡◌ {A = ℕ} 0 1 = cc in let b : ⊥ = omega arith in b)

not_below {ℓ} : {A : Type ℓ} (n : ℕ) → lt_z (pos n) (pos 0) ≡ true → A
not_below n e = absurd (let b : ⊥ = omega (arith, ltb-true n 0 e) in b)

plus_below : (x y : ℤ) → lt_z x (pos 0) ≡ true → lt_z y (pos 0) ≡ true → pos (nearest_size (nat_abs x) (nat_abs y)) ≡ nearest x y
unfolding nearest
plus_below (pos n) y e f = not_below n e
plus_below (negsuc n) (pos d) e f = not_below d f
plus_below (negsuc n) (negsuc d) e f = refl

plus_above : (x y : ℤ) → lt_z x (pos 0) ≡ false → lt_z y (pos 0) ≡ false → pos (nearest_size (nat_abs x) (nat_abs y)) ≡ nearest x y
unfolding nearest
plus_above (pos n) (pos d) e f = refl
plus_above (pos n) (negsuc d) e f = never f
plus_above (negsuc n) y e f = never e

minus_below : (x y : ℤ) → lt_z x (pos 0) ≡ true → lt_z y (pos 0) ≡ false → pos 0 -ℤ pos (nearest_size (nat_abs x) (nat_abs y)) ≡ nearest x y
unfolding nearest
minus_below (pos n) y e f = not_below n e
minus_below (negsuc n) (pos d) e f = minus (nearest_size (suc n) d)
minus_below (negsuc n) (negsuc d) e f = never f

minus_above : (x y : ℤ) → lt_z x (pos 0) ≡ false → lt_z y (pos 0) ≡ true → pos 0 -ℤ pos (nearest_size (nat_abs x) (nat_abs y)) ≡ nearest x y
unfolding nearest
minus_above (pos n) (pos d) e f = not_below d f
minus_above (pos n) (negsuc d) e f = minus (nearest_size n (suc d))
minus_above (negsuc n) y e f = never e

-- ---- the four ways in which it ends, q in the machine
module _ (x y : ℤ) (q : ℕ) (r : q ≡ nearest_size (nat_abs x) (nat_abs y)) (s : q ≤ 100000000000000000) where
  pub q_back : to_z w64 q ≡ pos q
  q_back = to_z-of_z w64 (pos q) (fits_below (pos q) (omega arith))

  pub minus_fits : SFits w64 (pos 0 -ℤ to_z w64 q)
  minus_fits = rw q_back (opposite_fits (pos q) s)

  minus_back : to_z w64 (of_z w64 (pos 0 -ℤ to_z w64 q)) ≡ pos 0 -ℤ pos q
  minus_back = to_z-of_z w64 (pos 0 -ℤ to_z w64 q) minus_fits ∙ ap (λ (z : ℤ). pos 0 -ℤ z) q_back

  pub ends_plus_below : lt_z x (pos 0) ≡ true → lt_z y (pos 0) ≡ true → to_z w64 q ≡ nearest x y
  ends_plus_below e f = q_back ∙ ap pos r ∙ plus_below x y e f

  pub ends_plus_above : lt_z x (pos 0) ≡ false → lt_z y (pos 0) ≡ false → to_z w64 q ≡ nearest x y
  ends_plus_above e f = q_back ∙ ap pos r ∙ plus_above x y e f

  pub ends_minus_below : lt_z x (pos 0) ≡ true → lt_z y (pos 0) ≡ false → to_z w64 (of_z w64 (pos 0 -ℤ to_z w64 q)) ≡ nearest x y
  ends_minus_below e f = minus_back ∙ ap (λ (k : ℕ). pos 0 -ℤ pos k) r ∙ minus_below x y e f

  pub ends_minus_above : lt_z x (pos 0) ≡ false → lt_z y (pos 0) ≡ true → to_z w64 (of_z w64 (pos 0 -ℤ to_z w64 q)) ≡ nearest x y
  ends_minus_above e f = minus_back ∙ ap (λ (k : ℕ). pos 0 -ℤ pos k) r ∙ minus_above x y e f
