-- The size of a whole number, its distance from zero, under the operations. Assumes nothing.
use Rattle.std.specs.Prelude.{◌≡◌, refl, Bool, true, false, cond, ℕ, zero, suc, ◌+◌, ◌-◌, ◌*◌, ◌/◌, ◌≤◌, ltb, ℤ, pos, negsuc, neg_ℤ, nat_abs, ◌+ℤ◌, ◌-ℤ◌, ◌*ℤ◌}
use Rattle.std.proofs.Common.{ap, ◌∙◌, zero-mul, arith, ltb-true, ltb-false}
use Rattle.std.proofs.Math.Nat.{zero-div, div-zero}
use Rattle.std.proofs.Math.IntN.{sub_ℕ, +ℤ_idl, +ℤ_idr}
use Rattle.std.specs.Int.Signed.{quot_z}

-- how far two sizes are apart
abbrev pub gap : ℕ → ℕ → ℕ
gap a b = (a - b) + (b - a)

pub abs_neg : (z : ℤ) → nat_abs (neg_ℤ z) ≡ nat_abs z
abs_neg (pos zero) = refl
abs_neg (pos (suc n)) = refl
abs_neg (negsuc n) = refl

-- ---- products
pub abs_product : (x y : ℤ) → nat_abs (x *ℤ y) ≡ nat_abs x * nat_abs y
abs_product (pos a) (pos b) = refl
abs_product (pos a) (negsuc b) = abs_neg (pos (a * suc b))
abs_product (negsuc a) (pos b) = abs_neg (pos (suc a * b))
abs_product (negsuc a) (negsuc b) = refl

pub neg_times_pos : (a b : ℕ) → neg_ℤ (pos a) *ℤ pos b ≡ neg_ℤ (pos (a * b))
neg_times_pos zero b = rw (zero-mul b)
neg_times_pos (suc a) b = refl

pub neg_times_neg : (a b : ℕ) → neg_ℤ (pos a) *ℤ negsuc b ≡ pos (a * suc b)
neg_times_neg zero b = rw (zero-mul (suc b))
neg_times_neg (suc a) b = refl

-- ---- quotients, cut toward zero
pub abs_quotient : (x y : ℤ) → nat_abs (quot_z x y) ≡ nat_abs x / nat_abs y
abs_quotient (pos a) (pos b) = refl
abs_quotient (pos a) (negsuc b) = abs_neg (pos (a / suc b))
abs_quotient (negsuc a) (pos b) = abs_neg (pos (suc a / b))
abs_quotient (negsuc a) (negsuc b) = refl

pub neg_over_pos : (a b : ℕ) → quot_z (neg_ℤ (pos a)) (pos b) ≡ neg_ℤ (pos (a / b))
neg_over_pos zero b = rw (zero-div b)
neg_over_pos (suc a) b = refl

pub pos_over_neg : (a b : ℕ) → quot_z (pos a) (neg_ℤ (pos b)) ≡ neg_ℤ (pos (a / b))
pos_over_neg a zero = rw (div-zero a)
pos_over_neg a (suc b) = refl

pub neg_over_neg : (a b : ℕ) → quot_z (neg_ℤ (pos a)) (neg_ℤ (pos b)) ≡ pos (a / b)
neg_over_neg zero zero = refl
neg_over_neg zero (suc b) = rw (zero-div (suc b))
neg_over_neg (suc a) zero = rw (div-zero (suc a))
neg_over_neg (suc a) (suc b) = refl

-- ---- sums and differences
abs_cond : (t : Bool) (a b : ℕ) → ltb a b ≡ t → nat_abs (cond t (negsuc (b - suc a)) (pos (a - b))) ≡ gap a b
abs_cond true a b e = omega (arith, ltb-true a b e)
abs_cond false a b e = omega (arith, ltb-false a b e)

abs_sub : (a b : ℕ) → nat_abs (sub_ℕ a b) ≡ gap a b
abs_sub a b = abs_cond (ltb a b) a b refl

pub between_pos : (a b : ℕ) → nat_abs (pos a -ℤ pos b) ≡ gap a b
between_pos a zero = omega arith
between_pos a (suc b) = abs_sub a (suc b)

pub between_neg : (a b : ℕ) → nat_abs (neg_ℤ (pos a) -ℤ neg_ℤ (pos b)) ≡ gap a b
between_neg zero zero = omega arith
between_neg zero (suc b) = omega arith
between_neg (suc a) zero = omega (arith, abs_sub 0 (suc a))
between_neg (suc a) (suc b) = omega (arith, abs_sub (suc b) (suc a))

pub down_across : (a b : ℕ) → nat_abs (neg_ℤ (pos a) -ℤ pos b) ≡ a + b
down_across zero zero = omega arith
down_across zero (suc b) = omega (arith, abs_sub 0 (suc b))
down_across (suc a) zero = omega (arith, abs_sub 0 (suc a))
down_across (suc a) (suc b) = omega arith

pub up_across : (a b : ℕ) → nat_abs (pos a -ℤ neg_ℤ (pos b)) ≡ a + b
up_across a zero = omega arith
up_across a (suc b) = omega arith

below : (m n : ℕ) → m ≡ n → neg_ℤ (pos m) ≡ neg_ℤ (pos n)
below m n e = ap (λ (k : ℕ). neg_ℤ (pos k)) e

pub neg_minus_pos : (a b : ℕ) → neg_ℤ (pos a) -ℤ pos b ≡ neg_ℤ (pos (a + b))
neg_minus_pos zero zero = refl
neg_minus_pos zero (suc b) = +ℤ_idl (negsuc b) ∙ below (suc b) (0 + suc b) (omega arith)
neg_minus_pos (suc a) zero = +ℤ_idr (negsuc a) ∙ below (suc a) (suc a + 0) (omega arith)
neg_minus_pos (suc a) (suc b) = below (suc (suc (a + b))) (suc a + suc b) (omega arith)

pub abs_sum : (x y : ℤ) → nat_abs (x +ℤ y) ≤ nat_abs x + nat_abs y
abs_sum (pos a) (pos b) = omega arith
abs_sum (pos a) (negsuc b) = omega (arith, abs_sub a (suc b))
abs_sum (negsuc a) (pos b) = omega (arith, abs_sub b (suc a))
abs_sum (negsuc a) (negsuc b) = omega arith

pub abs_difference : (x y : ℤ) → nat_abs (x -ℤ y) ≤ nat_abs x + nat_abs y
abs_difference x y = omega (arith, abs_sum x (neg_ℤ y), abs_neg y)

-- two whole numbers are at least as far apart as their sizes
pub abs_apart : (x y : ℤ) → gap (nat_abs x) (nat_abs y) ≤ nat_abs (x -ℤ y)
abs_apart (pos a) (pos b) = omega (arith, between_pos a b)
abs_apart (pos a) (negsuc b) = omega (arith, up_across a (suc b))
abs_apart (negsuc a) (pos b) = omega (arith, down_across (suc a) b)
abs_apart (negsuc a) (negsuc b) = omega (arith, between_neg (suc a) (suc b))
