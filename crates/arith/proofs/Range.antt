-- What the machine's operations give on numbers and counts fits 64 bits, and the ways in which the range check and a division end.
-- Assumes nothing.
use mathlib.Core.Path.{◌≡◌, refl, ap}
use mathlib.Core.Bool.{Bool, true, false, ◌&&◌}
use Prim.Native.Nat.{ℕ, zero, suc, ◌≤◌, ◌<◌}
use native.Mathlib.Nat.{mul-le-mul, div-le_self}
use native.Mathlib.Omega.{arith}
use borrow.Author.Tests.{ltb-true, ltb-false, eq-eqb, ne_eqb, lt-leb, le-leb}
use lib.IntN.{ℤ, pos, negsuc, nat_abs, ◌+ℤ◌, ◌-ℤ◌, ◌*ℤ◌}
use lib.Signed.{lt_z, le_z, quot_z}
use mir.Syntax.{w64}
use mir.Val.{SFits, of_z}
use Rattle.lingua.specs.Value.{whole, in_range, in_counts, in_range_of, quantity}
use Rattle.lingua.specs.Outcome.{ok, fail}
use Rattle.lingua.specs.Rounding.{nearest}
use Rattle.lingua.specs.Compute.{ranged, product, divided, quotient, same_number}
use Rattle.arith.specs.Sizes.{abs_product, abs_sum, abs_difference, abs_quotient}
use Rattle.arith.specs.Ranges.{number_size, quantity_size}

-- ---- the four ways in which the range is told
below_range : (low high : ℤ) (z : ℤ) → lt_z z low ≡ true → false ≡ le_z low z && le_z z high
below_range (pos l) high (pos n) e = rw (lt-leb l n (ltb-true n l e))
below_range (pos l) high (negsuc n) e = refl
below_range (negsuc l) high (negsuc n) e = rw (lt-leb n l (ltb-true l n e))
below_range (negsuc l) high (pos n) e = let k : ◌≡◌ {A = ℕ} 0 1 = cc in absurd (let b : ⊥ = omega arith in b)

from_lowest : (low high : ℤ) (z : ℤ) → lt_z z low ≡ false → le_z z high ≡ le_z low z && le_z z high
from_lowest (pos l) high (pos n) e = rw (le-leb l n (ltb-false n l e))
from_lowest (pos l) high (negsuc n) e = let k : ◌≡◌ {A = ℕ} 0 1 = cc in absurd (let b : ⊥ = omega arith in b)
from_lowest (negsuc l) high (negsuc n) e = rw (le-leb n l (ltb-false l n e))
from_lowest (negsuc l) high (pos n) e = refl

module _ (h : Bool) (z : ℤ) where
  pub count_low : h ≡ true → lt_z z (negsuc 99999999) ≡ true → false ≡ in_range_of h z
  unfolding in_range_of in_counts
  count_low e f = rw e (below_range (negsuc 99999999) (pos 100000000) z f)

  pub count_rest : h ≡ true → lt_z z (negsuc 99999999) ≡ false → le_z z (pos 100000000) ≡ in_range_of h z
  unfolding in_range_of in_counts
  count_rest e f = rw e (from_lowest (negsuc 99999999) (pos 100000000) z f)

  pub number_low : h ≡ false → lt_z z (negsuc 999999) ≡ true → false ≡ in_range_of h z
  unfolding in_range_of in_range
  number_low e f = rw e (below_range (negsuc 999999) (pos 1000000) z f)

  pub number_rest : h ≡ false → lt_z z (negsuc 999999) ≡ false → le_z z (pos 1000000) ≡ in_range_of h z
  unfolding in_range_of in_range
  number_rest e f = rw e (from_lowest (negsuc 999999) (pos 1000000) z f)

  -- ---- the two ways in which the range check ends
  pub checked_within : in_range_of h z ≡ true → ok (quantity h z) ≡ ranged h z
  unfolding ranged
  checked_within e = rw e

  pub checked_out : in_range_of h z ≡ false → fail 1 ≡ ranged h z
  unfolding ranged
  checked_out e = rw e

-- ---- what the machine's operations give fits 64 bits
pub fits_below : (z : ℤ) → nat_abs z ≤ 1000000000000000000 → SFits w64 z
fits_below (pos n) h = record { sfits = omega arith }
fits_below (negsuc n) h = record { sfits = omega arith }

pub product_size : (h : Bool) (x y : ℤ) → in_range_of h x ≡ true → in_range_of h y ≡ true → nat_abs (x *ℤ y) ≤ 10000000000000000
product_size h x y p q = omega (arith, abs_product x y, mul-le-mul (quantity_size h x p) (quantity_size h y q))

pub hundredfold_size : (h : Bool) (x : ℤ) → in_range_of h x ≡ true → nat_abs (pos 100 *ℤ x) ≤ 10000000000
hundredfold_size h x p = omega (arith, abs_product (pos 100) x, quantity_size h x p)

pub hundredfold_fits : (h : Bool) (x : ℤ) → in_range_of h x ≡ true → SFits w64 (pos 100 *ℤ x)
hundredfold_fits h x p = fits_below (pos 100 *ℤ x) (omega (arith, hundredfold_size h x p))

module _ (h : Bool) (x y : ℤ) (p : in_range_of h x ≡ true) (q : in_range_of h y ≡ true) where
  pub add_fits : SFits w64 (x +ℤ y)
  add_fits = fits_below (x +ℤ y) (omega (arith, abs_sum x y, quantity_size h x p, quantity_size h y q))

  pub subtract_fits : SFits w64 (x -ℤ y)
  subtract_fits = fits_below (x -ℤ y) (omega (arith, abs_difference x y, quantity_size h x p, quantity_size h y q))

  pub multiply_fits : SFits w64 (x *ℤ y)
  multiply_fits = fits_below (x *ℤ y) (omega (arith, product_size h x y p q))

pub counted_fits : (x : ℤ) → in_range x ≡ true → SFits w64 (pos 100 *ℤ x)
counted_fits x p = fits_below (pos 100 *ℤ x) (omega (arith, abs_product (pos 100) x, number_size x p))

pub quotient_fits : (x y : ℤ) → nat_abs x ≤ 1000000000000000000 → SFits w64 (quot_z x y)
quotient_fits x y h = fits_below (quot_z x y) (omega (arith, abs_quotient x y, div-le_self (nat_abs x) (nat_abs y)))

-- ---- what a number's bits say of it
pub bits_zero : (z : ℤ) → SFits w64 z → of_z w64 z ≡ 0 → z ≡ pos 0
bits_zero (pos n) f e = ap pos e
bits_zero (negsuc n) f e = absurd (let k : ⊥ = omega (arith, e, f.sfits) in k)

pub zero_bits : (z : ℤ) → (z ≡ pos 0 → ⊥) → SFits w64 z → 0 < of_z w64 z
zero_bits (pos zero) f s = absurd (f refl)
zero_bits (pos (suc n)) f s = omega arith
zero_bits (negsuc n) f s = omega (arith, s.sfits)

-- ---- products
pub product_counts : (h : Bool) (x y : ℤ) → h ≡ true → ranged true (nearest (x *ℤ y) (pos 100)) ≡ ranged h (product h x y)
unfolding product
product_counts h x y e = rw e

pub product_numbers : (h : Bool) (x y : ℤ) → h ≡ false → ranged false (x *ℤ y) ≡ ranged h (product h x y)
unfolding product
product_numbers h x y e = rw e

-- ---- the three ways in which a division ends
same_zero : (y : ℤ) → y ≡ pos 0 → same_number y (pos 0) ≡ true
unfolding same_number
same_zero (pos n) e = eq-eqb n 0 (cc)
same_zero (negsuc n) e = let k : ◌≡◌ {A = ℕ} 0 1 = cc in absurd (let b : ⊥ = omega arith in b)

not_zero : (y : ℤ) → (y ≡ pos 0 → ⊥) → same_number y (pos 0) ≡ false
unfolding same_number
not_zero (pos n) f = ne_eqb n 0 (λ e. f (ap pos e))
not_zero (negsuc n) f = refl

pub divide_zero : (h : Bool) (x y : ℤ) → y ≡ pos 0 → fail 2 ≡ divided h x y
unfolding divided
divide_zero true x y e = rw (same_zero y e)
divide_zero false x y e = rw (same_zero y e)

pub divide_counts : (h : Bool) (x y : ℤ) → h ≡ true → (y ≡ pos 0 → ⊥) → ranged true (nearest (pos 100 *ℤ x) y) ≡ divided h x y
unfolding divided
divide_counts true x y e f = rw (not_zero y f)
divide_counts false x y e f = let k : ◌≡◌ {A = ℕ} 0 1 = cc in absurd (let b : ⊥ = omega arith in b)

pub divide_numbers : (h : Bool) (x y : ℤ) → h ≡ false → (y ≡ pos 0 → ⊥) → ok (whole (quotient x y)) ≡ divided h x y
unfolding divided
divide_numbers true x y e f = let k : ◌≡◌ {A = ℕ} 0 1 = cc in absurd (let b : ⊥ = omega arith in b)
divide_numbers false x y e f = rw (not_zero y f)
