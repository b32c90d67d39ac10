-- The ranges of numbers and counts as bounds on sizes, and that the two conversions stay in range. Assumes nothing.
use Rattle.std.specs.Prelude.{◌≡◌, refl, Bool, true, false, ◌&&◌, ◌≤◌, leb, ℤ, pos, negsuc, nat_abs, ◌*ℤ◌}
use Rattle.std.proofs.Math.Nat.{div-le_of_le-mul}
use Rattle.std.proofs.Common.{arith, leb-true, le-leb}
use Rattle.std.specs.Int.Signed.{quot_z}
use Rattle.lingua.specs.Value.{in_range, in_counts, in_range_of}
use Rattle.lingua.specs.Compute.{counted, whole_part}
use Rattle.arith.specs.Sizes.{abs_product, abs_quotient}

and_left : (s t : Bool) → s && t ≡ true → s ≡ true
and_left true t e = refl
and_left false t e = e

pub number_size : (z : ℤ) → in_range z ≡ true → nat_abs z ≤ 1000000
unfolding in_range
number_size (pos n) h = leb-true n 1000000 h
number_size (negsuc n) h = omega (arith, leb-true n 999999 (and_left (leb n 999999) true h))

pub size_number : (z : ℤ) → nat_abs z ≤ 1000000 → in_range z ≡ true
unfolding in_range
size_number (pos n) h = le-leb n 1000000 h
size_number (negsuc n) h = rw (le-leb n 999999 (omega arith))

pub count_size : (z : ℤ) → in_counts z ≡ true → nat_abs z ≤ 100000000
unfolding in_counts
count_size (pos n) h = leb-true n 100000000 h
count_size (negsuc n) h = omega (arith, leb-true n 99999999 (and_left (leb n 99999999) true h))

pub size_count : (z : ℤ) → nat_abs z ≤ 100000000 → in_counts z ≡ true
unfolding in_counts
size_count (pos n) h = le-leb n 100000000 h
size_count (negsuc n) h = rw (le-leb n 99999999 (omega arith))

-- a count's bound holds of a number too
pub quantity_size : (h : Bool) (z : ℤ) → in_range_of h z ≡ true → nat_abs z ≤ 100000000
unfolding in_range_of
quantity_size true z e = count_size z e
quantity_size false z e = omega (arith, number_size z e)

pub counted_in_range : (z : ℤ) → in_range z ≡ true → in_counts (counted z) ≡ true
unfolding counted
counted_in_range z h = size_count (pos 100 *ℤ z) (omega (arith, abs_product (pos 100) z, number_size z h))

pub whole_part_in_range : (z : ℤ) → in_counts z ≡ true → in_range (whole_part z) ≡ true
unfolding whole_part
whole_part_in_range z h =
    size_number (quot_z z (pos 100)) (rw (abs_quotient z (pos 100)) (div-le_of_le-mul 100 (omega (arith, count_size z h))))
