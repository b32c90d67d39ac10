-- What `nearest` is, for all operands: x over y rounded to a whole number that is at most half away, and of two such the one that is
-- further from zero; no other number is that. Assumes nothing.
use Rattle.std.specs.Prelude.{◌≡◌, refl, ℕ, zero, suc, ◌+◌, ◌*◌, ◌/◌, ◌≤◌, ◌<◌, ℤ, pos, negsuc, neg_ℤ, nat_abs, ◌-ℤ◌, ◌*ℤ◌}
use Rattle.std.proofs.Common.{sym, ap, ◌∙◌, mul_left_comm, div-mul-le_self, le-div_iff_mul-le, mul-le-mul_right, le_antisymm, arith}
use Rattle.std.proofs.Math.Nat.{lt-div-mul-add}
use Rattle.lingua.specs.Rounding.{nearest_size, nearest}
use Rattle.arith.specs.Sizes.{gap, abs_neg, abs_product, neg_times_pos, neg_times_neg, between_pos, between_neg, down_across, up_across, abs_apart}

-- ---- of sizes
near_size : (n d : ℕ) → 0 < d → 2 * gap (nearest_size n d * d) n ≤ d
unfolding nearest_size
near_size n d h =
    let q = (2 * n + d) / (2 * d) in
    let p : 0 < 2 * d = omega arith in
    omega (arith, mul_left_comm q 2 d, div-mul-le_self (2 * n + d) (2 * d), lt-div-mul-add {a = 2 * n + d} p)

far_size : (m n d : ℕ) → 0 < d → 2 * gap (m * d) n ≤ d → m ≤ nearest_size n d
unfolding nearest_size
far_size m n d h k =
    let p : 0 < 2 * d = omega arith in
    let b : m * (2 * d) ≤ 2 * n + d = omega (arith, mul_left_comm m 2 d) in
    (le-div_iff_mul-le p).1 b

pub nonzero : (y : ℤ) → (y ≡ pos 0 → ⊥) → 0 < nat_abs y
nonzero (pos zero) f = absurd (f refl)
nonzero (pos (suc n)) f = omega arith
nonzero (negsuc n) f = omega arith

-- ---- of whole numbers
pub nearest_abs : (x y : ℤ) → nat_abs (nearest x y) ≡ nearest_size (nat_abs x) (nat_abs y)
unfolding nearest
nearest_abs (pos n) (pos d) = refl
nearest_abs (pos n) (negsuc d) = abs_neg (pos (nearest_size n (suc d)))
nearest_abs (negsuc n) (pos d) = abs_neg (pos (nearest_size (suc n) d))
nearest_abs (negsuc n) (negsuc d) = refl

nearest_gap : (x y : ℤ) → nat_abs ((nearest x y *ℤ y) -ℤ x) ≡ gap (nearest_size (nat_abs x) (nat_abs y) * nat_abs y) (nat_abs x)
unfolding nearest
nearest_gap (pos n) (pos d) = between_pos (nearest_size n d * d) n
nearest_gap (pos n) (negsuc d) = rw (neg_times_neg (nearest_size n (suc d)) d) (between_pos (nearest_size n (suc d) * suc d) n)
nearest_gap (negsuc n) (pos d) = rw (neg_times_pos (nearest_size (suc n) d) d) (between_neg (nearest_size (suc n) d * d) (suc n))
nearest_gap (negsuc n) (negsuc d) = between_neg (nearest_size (suc n) (suc d) * suc d) (suc n)

-- at most half away
pub nearest_near : (x y : ℤ) → (y ≡ pos 0 → ⊥) → 2 * nat_abs ((nearest x y *ℤ y) -ℤ x) ≤ nat_abs y
nearest_near x y f = rw (nearest_gap x y) (near_size (nat_abs x) (nat_abs y) (nonzero y f))

-- a whole number that is at most half away is not further from zero
pub nearest_far : (x y z : ℤ) → (y ≡ pos 0 → ⊥) → 2 * nat_abs ((z *ℤ y) -ℤ x) ≤ nat_abs y → nat_abs z ≤ nat_abs (nearest x y)
nearest_far x y z f h =
    rw (nearest_abs x y) (far_size (nat_abs z) (nat_abs x) (nat_abs y) (nonzero y f)
    (omega (arith, rw (abs_product z y) at (abs_apart (z *ℤ y) x))))

-- so it is the only one: the nearest, and of two the further from zero
across : (m n d : ℕ) → 0 < d → 2 * (suc m * d + n) ≤ d → ⊥
across m n d h k = omega (arith, mul-le-mul_right {m = 1} {n = suc m} d (omega arith))

none_across : (m n d : ℕ) → 0 < d → 2 * (m * d + n) ≤ d → m ≡ 0
none_across zero n d h k = refl
none_across (suc m) n d h k = absurd (across m n d h k)

neg_of : (m q : ℕ) → suc m ≡ q → negsuc m ≡ neg_ℤ (pos q)
neg_of m q e = ap (λ (k : ℕ). neg_ℤ (pos k)) e

zero_neg : (m q : ℕ) → m ≡ 0 → m ≡ q → pos m ≡ neg_ℤ (pos q)
zero_neg m q e f = rw (sym f, e)

by_sign : (x y z : ℤ) → 0 < nat_abs y → 2 * nat_abs ((z *ℤ y) -ℤ x) ≤ nat_abs y → nat_abs z ≡ nearest_size (nat_abs x) (nat_abs y) → z ≡ nearest x y
unfolding nearest
by_sign (pos n) (pos d) (pos m) f h e = ap pos e
by_sign (pos n) (pos d) (negsuc m) f h e = absurd (across m n d f (rw (down_across (suc m * d) n) at h))
by_sign (pos n) (negsuc d) (pos m) f h e = zero_neg m (nearest_size n (suc d)) (none_across m n (suc d) f (rw (down_across (m * suc d) n) at h)) e
by_sign (pos n) (negsuc d) (negsuc m) f h e = neg_of m (nearest_size n (suc d)) e
by_sign (negsuc n) (pos d) (pos m) f h e = zero_neg m (nearest_size (suc n) d) (none_across m (suc n) d f (rw (up_across (m * d) (suc n)) at h)) e
by_sign (negsuc n) (pos d) (negsuc m) f h e = neg_of m (nearest_size (suc n) d) e
by_sign (negsuc n) (negsuc d) (pos m) f h e = ap pos e
by_sign (negsuc n) (negsuc d) (negsuc m) f h e = absurd (across m (suc n) (suc d) f (rw (up_across (suc m * suc d) (suc n)) at h))

pub nearest_only : (x y z : ℤ) → (y ≡ pos 0 → ⊥) → 2 * nat_abs ((z *ℤ y) -ℤ x) ≤ nat_abs y → nat_abs (nearest x y) ≤ nat_abs z → z ≡ nearest x y
nearest_only x y z f h k = by_sign x y z (nonzero y f) h (le_antisymm (nearest_far x y z f h) k ∙ nearest_abs x y)
