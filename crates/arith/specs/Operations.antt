-- The distances of the operations themselves, on values: what each gives on two counts, on a number or on a count, for all operands where
-- it gives anything. Counts are whole numbers of hundredths, so each distance stands over whole numbers. Assumes nothing.
use Rattle.std.specs.Prelude.{◌≡◌, ◌*◌, ◌≤◌, ◌<◌, ℤ, pos, nat_abs, ◌+ℤ◌, ◌-ℤ◌, ◌*ℤ◌}
use Rattle.std.proofs.Common.{sym, ◌∙◌}
use Rattle.std.proofs.Math.Path.{ap}
use Rattle.lingua.specs.Outcome.{ok, Result}
use Rattle.lingua.specs.Value.{Value, whole, count, as_whole}
use Rattle.lingua.specs.Operation.{to_hundredths, to_number, add, subtract, multiply, divide}
use Rattle.lingua.specs.Compute.{counted, unary_value, binary_value}
use Rattle.arith.specs.Distances.{sum_exact, difference_exact, multiply_near, multiply_far, divide_near, divide_far, whole_part_near, whole_part_short, counted_and_back}

value_same : {a b : Value} → ◌≡◌ {A = Result Value} (ok a) (ok b) → a ≡ b
value_same e = cc

module _ (x y : ℤ) (v : Value) where
  -- ---- 5 and 6: exact
  pub sum_of_counts : binary_value add (count x) (count y) ≡ ok v → as_whole v ≡ x +ℤ y
  unfolding binary_value as_whole
  sum_of_counts e = sum_exact _ x y v e

  pub difference_of_counts : binary_value subtract (count x) (count y) ≡ ok v → as_whole v ≡ x -ℤ y
  unfolding binary_value as_whole
  difference_of_counts e = difference_exact _ x y v e

  -- ---- 7 and 8: at most half a hundredth away, and any other count as near is no further from zero
  pub product_of_counts : binary_value multiply (count x) (count y) ≡ ok v → 2 * nat_abs ((pos 100 *ℤ as_whole v) -ℤ (x *ℤ y)) ≤ 100
  unfolding binary_value as_whole
  product_of_counts e = multiply_near x y v e

  pub product_further : (z : ℤ) → binary_value multiply (count x) (count y) ≡ ok v → 2 * nat_abs ((pos 100 *ℤ z) -ℤ (x *ℤ y)) ≤ 100 → nat_abs z ≤ nat_abs (as_whole v)
  unfolding binary_value as_whole
  product_further z e h = multiply_far x y z v e h

  pub quotient_of_counts : binary_value divide (count x) (count y) ≡ ok v → 2 * nat_abs ((as_whole v *ℤ y) -ℤ (pos 100 *ℤ x)) ≤ nat_abs y
  unfolding binary_value as_whole
  quotient_of_counts e = divide_near x y v e

  pub quotient_further : (z : ℤ) → binary_value divide (count x) (count y) ≡ ok v → 2 * nat_abs ((z *ℤ y) -ℤ (pos 100 *ℤ x)) ≤ nat_abs y → nat_abs z ≤ nat_abs (as_whole v)
  unfolding binary_value as_whole
  quotient_further z e h = divide_far x y z v e h

module _ (z : ℤ) (v : Value) where
  -- ---- 28: exact; with 29 after it, the number again
  pub hundredths_exact : unary_value to_hundredths (whole z) ≡ ok v → as_whole v ≡ pos 100 *ℤ z
  unfolding unary_value as_whole counted
  hundredths_exact e = ap as_whole (sym (value_same e))

  pub there_and_back : unary_value to_hundredths (whole z) ≡ ok v → unary_value to_number v ≡ ok (whole z)
  unfolding unary_value as_whole
  there_and_back e = ap (λ (w : Value). unary_value to_number w) (sym (value_same e)) ∙ ap (λ (n : ℤ). ok (whole n)) (counted_and_back z)

  -- ---- 29: less than one whole away, and not beyond
  pub number_near : unary_value to_number (count z) ≡ ok v → nat_abs (z -ℤ (pos 100 *ℤ as_whole v)) < 100
  unfolding unary_value as_whole
  number_near e = rw (← value_same e) (whole_part_near z)

  pub number_short : unary_value to_number (count z) ≡ ok v → nat_abs (pos 100 *ℤ as_whole v) ≤ nat_abs z
  unfolding unary_value as_whole
  number_short e = rw (← value_same e) (whole_part_short z)
