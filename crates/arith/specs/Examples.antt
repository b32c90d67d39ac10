-- Worked examples of arithmetic on counts, each computed from the definitions. Assumes nothing.
use Rattle.std.specs.Prelude.{◌≡◌, refl, pos, negsuc}
use Rattle.lingua.specs.Errors.{overflow, division_by_zero}
use Rattle.lingua.specs.Outcome.{ok, fail}
use Rattle.lingua.specs.Value.{count, whole}
use Rattle.lingua.specs.Operation.{add, multiply, divide, to_hundredths, to_number}
use Rattle.lingua.specs.Rounding.{nearest}
use Rattle.lingua.specs.Compute.{unary_value, binary_value}
use Rattle.lingua.specs.Computing.{computing}

-- ---- to the nearest, a half away from zero
half_up : nearest (pos 7) (pos 2) ≡ pos 4
unfolding computing
half_up = refl

half_down : nearest (negsuc 6) (pos 2) ≡ negsuc 3
unfolding computing
half_down = refl

half_over_negative : nearest (pos 7) (negsuc 1) ≡ negsuc 3
unfolding computing
half_over_negative = refl

half_of_two_negatives : nearest (negsuc 6) (negsuc 1) ≡ pos 4
unfolding computing
half_of_two_negatives = refl

-- an odd and an even half alike
even_half : nearest (pos 5) (pos 2) ≡ pos 3
unfolding computing
even_half = refl

third : nearest (pos 7) (pos 3) ≡ pos 2
unfolding computing
third = refl

two_thirds : nearest (pos 8) (pos 3) ≡ pos 3
unfolding computing
two_thirds = refl

-- ---- products: 1.05 by 0.50 is 0.525, so 0.53; -1.05 by 0.50 is -0.53
product_half : binary_value multiply (count (pos 105)) (count (pos 50)) ≡ ok (count (pos 53))
unfolding computing
product_half = refl

product_half_negative : binary_value multiply (count (negsuc 104)) (count (pos 50)) ≡ ok (count (negsuc 52))
unfolding computing
product_half_negative = refl

-- 0.01 by 0.49 is nothing, 0.01 by 0.50 is 0.01
product_small : binary_value multiply (count (pos 1)) (count (pos 49)) ≡ ok (count (pos 0))
unfolding computing
product_small = refl

product_smallest : binary_value multiply (count (pos 1)) (count (pos 50)) ≡ ok (count (pos 1))
unfolding computing
product_smallest = refl

-- ---- quotients: 1.00 by 3.00, by 8.00 (0.125) and by -8.00
quotient_third : binary_value divide (count (pos 100)) (count (pos 300)) ≡ ok (count (pos 33))
unfolding computing
quotient_third = refl

quotient_half : binary_value divide (count (pos 100)) (count (pos 800)) ≡ ok (count (pos 13))
unfolding computing
quotient_half = refl

quotient_half_negative : binary_value divide (count (pos 100)) (count (negsuc 799)) ≡ ok (count (negsuc 12))
unfolding computing
quotient_half_negative = refl

quotient_by_zero : binary_value divide (count (pos 100)) (count (pos 0)) ≡ fail division_by_zero
unfolding computing
quotient_by_zero = refl

-- ---- the range is asked of the rounded result: 1,487.21 by 672.40 is 1,000,000.004, 1,544.33 by 647.53 is 1,000,000.0049, and 666,666.67 by
-- 1.50 is 1,000,000.005
rounds_into_range : binary_value multiply (count (pos 148721)) (count (pos 67240)) ≡ ok (count (pos 100000000))
unfolding computing
rounds_into_range = refl

rounds_into_range_still : binary_value multiply (count (pos 154433)) (count (pos 64753)) ≡ ok (count (pos 100000000))
unfolding computing
rounds_into_range_still = refl

rounds_out_of_range : binary_value multiply (count (pos 66666667)) (count (pos 150)) ≡ fail overflow
unfolding computing
rounds_out_of_range = refl

rounds_into_range_below : binary_value multiply (count (negsuc 154432)) (count (pos 64753)) ≡ ok (count (negsuc 99999999))
unfolding computing
rounds_into_range_below = refl

rounds_out_of_range_below : binary_value multiply (count (negsuc 66666666)) (count (pos 150)) ≡ fail overflow
unfolding computing
rounds_out_of_range_below = refl

-- ---- sums at the ends
highest_sum : binary_value add (count (pos 99999999)) (count (pos 1)) ≡ ok (count (pos 100000000))
unfolding computing
highest_sum = refl

sum_out_of_range : binary_value add (count (pos 100000000)) (count (pos 1)) ≡ fail overflow
unfolding computing
sum_out_of_range = refl

-- ---- conversions: -1.99 is cut to -1
cut : unary_value to_number (count (negsuc 198)) ≡ ok (whole (negsuc 0))
unfolding computing
cut = refl

highest_number_counted : unary_value to_hundredths (whole (pos 1000000)) ≡ ok (count (pos 100000000))
unfolding computing
highest_number_counted = refl
