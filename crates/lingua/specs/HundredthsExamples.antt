-- Worked examples of hundredths (document 02, 5): rounding and the range, conversions, pairs of a number and a count, the layout table, readings
-- and limits in both runs; then the same of files, and the rules. Each is computed and compared. Assumes nothing.
use Rattle.std.specs.Prelude.{◌≡◌, refl, true, false, List, [], ◌∷◌, ◌++◌, ℕ, take, set, replicate, ℤ, pos, negsuc}
use Rattle.std.proofs.Common.{◌∙◌}
use Rattle.std.proofs.Math.Option.{Option, some, none}
use Rattle.lingua.specs.Numbers.{rows_length, present_bodies_length}
use Rattle.lingua.specs.Errors.{overflow, division_by_zero, yoke_not_satisfied, number_expected, no_coherence, not_comparable, bad_form, bad_constant, bad_limit}
use Rattle.lingua.specs.Outcome.{ok, fail}
use Rattle.lingua.specs.Body.{boolean, number, hundredths, list_of, size}
use Rattle.lingua.specs.Value.{whole, count, cells_of, Composite, composite}
use Rattle.lingua.specs.Encode.{encoded}
use Rattle.lingua.specs.Operation.{to_hundredths, to_number, add, subtract, multiply, divide, less, equal}
use Rattle.lingua.specs.Expression.{Expression, constant, variable, current, unary, binary, Yoke, always, yoke, Instruction, skip, assign, sequence, handle}
use Rattle.lingua.specs.Evaluation.{boolean_of, apply_unary, apply_binary, no_current}
use Rattle.lingua.specs.Store.{Limit, Reading, cells_in}
use Rattle.lingua.specs.Run.{Declaration, Profile, run, last_state}
use Rattle.lingua.specs.Erased.{eval_erased, yoke_erased, admitted_erased, assigned_erased, exec_erased, reading_erased, readings_erased, run_erased}
use Rattle.lingua.specs.Typing.{fault, check}
use Rattle.lingua.specs.Meets.{met, run_met}
use Rattle.lingua.specs.Rows.{unary_row, expression_at}
use Rattle.lingua.specs.Format.{profile, limits, file_of}
use Rattle.lingua.specs.Refusal.{limit_fits, reading_wrong, read_refusal, type_check_refusal}
use Rattle.lingua.specs.Answers.{answered, Ending, ending, passed}
use Rattle.lingua.specs.Inputs.{inputs, buffers}
use Rattle.lingua.specs.Calls.{ending_of, run_of, type_check_call, checked_call}
use Rattle.lingua.specs.Edges.{literal, up_to_600, speed}
use Rattle.lingua.specs.Examples.{row, layout_in, fives, example_limits, example_limits_file, limits_made}
use Rattle.lingua.specs.Computing.{computing}
use Rattle.lingua.specs.Quick.{quickly, made, file_made, read_by, read_by_lem, refused_by, refused_by_lem, type_check_by, checked_by_lem}

-- ---- operations
-- so many hundredths, and so many wholes
abbrev pub counts : ℤ → Composite
counts z = composite hundredths (count z)

abbrev pub wholes : ℤ → Composite
wholes z = composite number (whole z)

-- 2.50 + 1.25, 2.50 - 3.75
pub sum_of_counts : apply_binary add (counts (pos 250)) (counts (pos 125)) ≡ ok (counts (pos 375))
unfolding computing
sum_of_counts = refl

pub difference_of_counts : apply_binary subtract (counts (pos 250)) (counts (pos 375)) ≡ ok (counts (negsuc 124))
unfolding computing
difference_of_counts = refl

-- 1.05 * 0.50 is 0.525, a half: away from zero on either side; 1.05 * 0.49 is 0.5145
pub half_up : apply_binary multiply (counts (pos 105)) (counts (pos 50)) ≡ ok (counts (pos 53))
unfolding computing
half_up = refl

pub half_down : apply_binary multiply (counts (negsuc 104)) (counts (pos 50)) ≡ ok (counts (negsuc 52))
unfolding computing
half_down = refl

pub below_half : apply_binary multiply (counts (pos 105)) (counts (pos 49)) ≡ ok (counts (pos 51))
unfolding computing
below_half = refl

-- 7.00 / 3.00, 2.00 / 3.00; 0.01 / -2.00 is half a hundredth below zero
pub nearer_below : apply_binary divide (counts (pos 700)) (counts (pos 300)) ≡ ok (counts (pos 233))
unfolding computing
nearer_below = refl

pub nearer_above : apply_binary divide (counts (pos 200)) (counts (pos 300)) ≡ ok (counts (pos 67))
unfolding computing
nearer_above = refl

pub half_quotient : apply_binary divide (counts (pos 1)) (counts (negsuc 199)) ≡ ok (counts (negsuc 0))
unfolding computing
half_quotient = refl

pub no_divisor : apply_binary divide (counts (pos 100)) (counts (pos 0)) ≡ fail division_by_zero
unfolding computing
no_divisor = refl

-- the range is asked of what was rounded: 1.64 * 609,756.10 is 1,000,000.004, and 1.50 * 666,666.67 is 1,000,000.005
pub rounded_into_range : apply_binary multiply (counts (pos 164)) (counts (pos 60975610)) ≡ ok (counts (pos 100000000))
unfolding computing
rounded_into_range = refl

pub rounded_out_of_range : apply_binary multiply (counts (pos 150)) (counts (pos 66666667)) ≡ fail overflow
unfolding computing
rounded_out_of_range = refl

pub rounded_out_below : apply_binary multiply (counts (negsuc 149)) (counts (pos 66666667)) ≡ fail overflow
unfolding computing
rounded_out_below = refl

-- 1,000,000.00 is a count, 1,000,000.01 is none; a quotient may be out of range
pub sum_too_large : apply_binary add (counts (pos 100000000)) (counts (pos 1)) ≡ fail overflow
unfolding computing
sum_too_large = refl

pub quotient_too_large : apply_binary divide (counts (pos 100000000)) (counts (pos 99)) ≡ fail overflow
unfolding computing
quotient_too_large = refl

-- -0.01 < 0.00; 2.50 = 2.50
pub counts_less : apply_binary less (counts (negsuc 0)) (counts (pos 0)) ≡ ok (boolean_of true)
unfolding computing
counts_less = refl

pub counts_equal : apply_binary equal (counts (pos 250)) (counts (pos 250)) ≡ ok (boolean_of true)
unfolding computing
counts_equal = refl

-- ---- conversions
pub highest_converted : apply_unary to_hundredths (wholes (pos 1000000)) ≡ ok (counts (pos 100000000))
unfolding computing
highest_converted = refl

pub lowest_converted : apply_unary to_hundredths (wholes (negsuc 999999)) ≡ ok (counts (negsuc 99999999))
unfolding computing
lowest_converted = refl

-- 2.99 is cut to 2, -2.99 to -2, -0.99 to 0
pub cut_above : apply_unary to_number (counts (pos 299)) ≡ ok (wholes (pos 2))
unfolding computing
cut_above = refl

pub cut_below : apply_unary to_number (counts (negsuc 298)) ≡ ok (wholes (negsuc 1))
unfolding computing
cut_below = refl

pub cut_to_zero : apply_unary to_number (counts (negsuc 98)) ≡ ok (wholes (pos 0))
unfolding computing
cut_to_zero = refl

pub converted_twice : apply_unary to_hundredths (counts (pos 250)) ≡ fail number_expected
unfolding computing
converted_twice = refl

pub number_cut : apply_unary to_number (wholes (pos 2)) ≡ fail number_expected
unfolding computing
number_cut = refl

-- ---- a number and a count
pub mixed_sum : apply_binary add (counts (pos 250)) (wholes (pos 1)) ≡ fail number_expected
unfolding computing
mixed_sum = refl

pub mixed_less : apply_binary less (wholes (pos 1)) (counts (pos 250)) ≡ fail number_expected
unfolding computing
mixed_less = refl

pub mixed_equal : apply_binary equal (counts (pos 1)) (wholes (pos 1)) ≡ fail not_comparable
unfolding computing
mixed_equal = refl

-- 8 and not 2, whichever the divisor is
pub mixed_by_zero : apply_binary divide (counts (pos 250)) (wholes (pos 0)) ≡ fail number_expected
unfolding computing
mixed_by_zero = refl

pub mixed_by_no_count : apply_binary divide (wholes (pos 2)) (counts (pos 0)) ≡ fail number_expected
unfolding computing
mixed_by_no_count = refl

abbrev pub counted_in : ℕ → ℤ → Expression
counted_in r z = constant r (counts z)

abbrev pub whole_in : ℕ → ℤ → Expression
whole_in r z = constant r (wholes z)

-- the divisor's own 2 is met too, though 8 hides it
pub mixed_met : met (binary 2 divide (counted_in 0 (pos 250)) (whole_in 1 (pos 0))) (λ n. none) no_current ≡ division_by_zero ∷ number_expected ∷ []
unfolding computing
mixed_met = refl

-- ---- bodies
pub body_byte : encoded hundredths ≡ 7 ∷ replicate 95 0
unfolding computing
body_byte = refl

pub count_cell : cells_of hundredths (count (negsuc 298)) ≡ negsuc 298 ∷ []
unfolding computing
count_cell = refl

pub list_of_counts : size (list_of hundredths) ≡ 9
unfolding computing
list_of_counts = refl

-- ---- the layout table
-- rows 2, 4, 6 and 8 add, subtract, multiply and divide; then 29, 28, less
abbrev pub reckoned : (ℕ → ℤ → Expression) → Expression
reckoned in_row =
    binary 8 divide
    (binary 6 multiply (binary 4 subtract (binary 2 add (in_row 0 (pos 1)) (in_row 1 (pos 2))) (in_row 3 (pos 3))) (in_row 5 (pos 5)))
    (in_row 7 (pos 7))

abbrev pub there_and_back : Expression
there_and_back = binary 12 less (unary 10 to_hundredths (unary 9 to_number (reckoned counted_in))) (counted_in 11 (pos 11))

abbrev pub layout_for : Expression → List ℕ
layout_for e = layout_in (check e (λ n. boolean) (some boolean))

-- the second number is 1 where two hundredths are reckoned with, 0 for less and for the conversions, and 0 for numbers
pub counts_layout : take 26 (layout_for there_and_back)
    ≡ 1 ∷ 0 ∷ 1 ∷ 0 ∷ 1 ∷ 1 ∷ 1 ∷ 0 ∷ 1 ∷ 1 ∷ 1 ∷ 0 ∷ 1 ∷ 1 ∷ 1 ∷ 0 ∷ 1 ∷ 1 ∷ 1 ∷ 0 ∷ 1 ∷ 0 ∷ 1 ∷ 0 ∷ 1 ∷ 0 ∷ []
unfolding computing
counts_layout = refl

pub wholes_layout : take 18 (layout_for (reckoned whole_in)) ≡ 1 ∷ 0 ∷ 1 ∷ 0 ∷ 1 ∷ 0 ∷ 1 ∷ 0 ∷ 1 ∷ 0 ∷ 1 ∷ 0 ∷ 1 ∷ 0 ∷ 1 ∷ 0 ∷ 1 ∷ 0 ∷ []
unfolding computing
wholes_layout = refl

pub equal_layout : take 6 (layout_for (binary 2 equal (counted_in 0 (pos 1)) (counted_in 1 (pos 1)))) ≡ 1 ∷ 0 ∷ 1 ∷ 0 ∷ 1 ∷ 0 ∷ []
unfolding computing
equal_layout = refl

-- the type check finds a mixed pair at its row
pub mixed_found : check (binary 2 multiply (counted_in 0 (pos 1)) (whole_in 1 (pos 0))) (λ n. boolean) (some boolean) ≡ fail (fault number_expected 2)
unfolding computing
mixed_found = refl

-- ---- runs of SPEED, in hundredths, and TURN, a number
abbrev pub exact_speed : Yoke → Option Limit → Declaration
exact_speed y l = record { name = 83 ∷ 80 ∷ 69 ∷ 69 ∷ 68 ∷ 0 ∷ 0 ∷ 0 ∷ []; body = hundredths; declared = y; limit = l }

abbrev pub driving : Yoke → Option Limit → Instruction → Profile
driving y l i = record { declarations = exact_speed y l ∷ speed always none ∷ []; procedures = []; instructions = []; program = i }

abbrev pub given : ℕ → ℤ → List Reading
given n z = record { variable = n; number = z } ∷ []

-- how either run ends, and SPEED's cell
pub record Left : Type 0 where
  pub ends : Ending
  pub cell : List ℤ

abbrev pub left : Ending → List ℤ → Left
left e c = record { ends = e; cell = c }

abbrev pub checked_leaves : Profile → List Reading → Left
checked_leaves p rs = left (ending_of 9 (run p rs 9)) (take 1 (cells_in (last_state (run p rs 9)).store))

abbrev pub erased_leaves : Profile → List Reading → Left
erased_leaves p rs = left (ending_of 9 (run_erased p rs 9)) (take 1 (cells_in (last_state (run_erased p rs 9)).store))

-- what the erased run computes by
unfoldable pub erasing : Unit {0}
unfolding eval_erased yoke_erased admitted_erased assigned_erased exec_erased reading_erased readings_erased run_erased
erasing = tt

abbrev pub idle : Profile
idle = driving always none (skip 0)

-- 100,000,000 is a reading for SPEED, 100,000,001 is none; nor is 1,000,001 for TURN
pub highest_reading : checked_leaves idle (given 0 (pos 100000000)) ≡ left (ending 0 0 0 1) (pos 100000000 ∷ [])
unfolding computing
highest_reading = refl

pub reading_too_large : checked_leaves idle (given 0 (pos 100000001)) ≡ left (ending 1 overflow 256 0) (pos 0 ∷ [])
unfolding computing
reading_too_large = refl

pub number_reading : checked_leaves idle (given 1 (pos 1000001)) ≡ left (ending 1 overflow 256 0) (pos 0 ∷ [])
unfolding computing
number_reading = refl

pub highest_reading_erased : erased_leaves idle (given 0 (pos 100000000)) ≡ left (ending 0 0 0 1) (pos 100000000 ∷ [])
unfolding computing erasing
highest_reading_erased = refl

pub reading_too_large_erased : erased_leaves idle (given 0 (pos 100000001)) ≡ left (ending 1 overflow 256 0) (pos 0 ∷ [])
unfolding computing erasing
reading_too_large_erased = refl

pub number_reading_erased : erased_leaves idle (given 1 (pos 1000001)) ≡ left (ending 1 overflow 256 0) (pos 0 ∷ [])
unfolding computing erasing
number_reading_erased = refl

pub reading_met_lem : run_met idle (given 0 (pos 100000001)) 9 ≡ overflow ∷ []
unfolding computing
reading_met_lem = refl

-- a limit is in counts: up to 6.00. SPEED := 6.00, then 6.01
abbrev pub limited_twice : Profile
limited_twice = driving always up_to_600 (sequence 2 (assign 0 0 (counted_in 0 (pos 600))) (assign 1 0 (counted_in 1 (pos 601))))

pub limit_in_counts : checked_leaves limited_twice [] ≡ left (ending 1 yoke_not_satisfied 1 2) (pos 600 ∷ [])
unfolding computing
limit_in_counts = refl

pub limit_in_counts_erased : erased_leaves limited_twice [] ≡ left (ending 1 yoke_not_satisfied 1 2) (pos 600 ∷ [])
unfolding computing erasing
limit_in_counts_erased = refl

pub limit_of_a_reading : checked_leaves (driving always up_to_600 (skip 0)) (given 0 (pos 601)) ≡ left (ending 1 yoke_not_satisfied 256 0) (pos 0 ∷ [])
unfolding computing
limit_of_a_reading = refl

-- nothing is converted: a number is not assigned to SPEED, also where it lies outside the limit, and the limit is not asked
pub number_assigned : checked_leaves (driving always up_to_600 (assign 0 0 (literal (pos 601)))) [] ≡ left (ending 1 no_coherence 0 1) (pos 0 ∷ [])
unfolding computing
number_assigned = refl

pub number_assigned_met : run_met (driving always up_to_600 (assign 0 0 (literal (pos 601)))) [] 9 ≡ no_coherence ∷ []
unfolding computing
number_assigned_met = refl

-- a yoke's current value has the new value's body: value < 5 is 8 on a count, value < 5.00 is a yoke
pub yoke_of_numbers : checked_leaves (driving (yoke (binary 2 less (current 0) (literal (pos 5)))) none (assign 0 0 (counted_in 0 (pos 100)))) [] ≡ left (ending 1 number_expected 0 1) (pos 0 ∷ [])
unfolding computing
yoke_of_numbers = refl

pub yoke_of_counts : checked_leaves (driving (yoke (binary 2 less (current 0) (counted_in 1 (pos 500)))) none (skip 0)) (given 0 (pos 499)) ≡ left (ending 0 0 0 1) (pos 499 ∷ [])
unfolding computing
yoke_of_counts = refl

-- SPEED := SPEED * 1.05, of a reading of 0.50, in both runs; then with an error of the product that a handler clears
abbrev pub faster : Instruction
faster = assign 0 0 (binary 2 multiply (variable 0 0) (counted_in 1 (pos 105)))

pub faster_leaves : checked_leaves (driving always up_to_600 faster) (given 0 (pos 50)) ≡ left (ending 0 0 0 1) (pos 53 ∷ [])
unfolding computing
faster_leaves = refl

pub faster_leaves_erased : erased_leaves (driving always up_to_600 faster) (given 0 (pos 50)) ≡ left (ending 0 0 0 1) (pos 53 ∷ [])
unfolding computing erasing
faster_leaves_erased = refl

pub product_handled : checked_leaves (driving always none (sequence 2 faster (handle 1 overflow (skip 3)))) (given 0 (pos 100000000)) ≡ left (ending 0 0 0 3) (pos 100000000 ∷ [])
unfolding computing
product_handled = refl

-- ---- files
-- SPEED, in hundredths, and TURN, a number; SPEED := 2.50 * 1.05, which is 2.625
unfoldable pub exact_rows : List ℕ
exact_rows =
    row 1 0 (83 ∷ 80 ∷ 69 ∷ 69 ∷ 68 ∷ [])
    ++ (row 1 1 []
    ++ (row 1 0 (84 ∷ 85 ∷ 82 ∷ 78 ∷ [])
    ++ (row 1 1 (1 ∷ [])
    ++ (row 2 7 []
    ++ (row 2 2 []
    ++ (row 3 27 (250 ∷ [])
    ++ (row 3 27 (105 ∷ [])
    ++ (row 3 7 (0 ∷ 0 ∷ 1 ∷ [])
    ++ row 4 2 (0 ∷ 0 ∷ 2 ∷ [])))))))))

abbrev pub exact_file : List ℕ → List ℕ
exact_file rows = file_of profile 7 rows

abbrev pub first_cell : ℕ → List ℤ
first_cell n = pos n ∷ replicate 1023 (pos 0)

-- SPEED is 2.63; its present body is one byte, 7, and TURN's is 2
pub exact_run : checked_call (inputs (exact_file exact_rows) example_limits_file [] []) 9 fives (replicate present_bodies_length 7)
    ≡ record { answer = answered (ending 0 0 0 1); registers = buffers (first_cell 263) (1 ∷ replicate 31 0) (replicate 16384 (pos 0)) (replicate 512 0); bodies = (7 ∷ replicate 95 0) ++ (2 ∷ replicate 26015 0) }
unfolding computing quickly exact_rows example_limits
exact_run = checked_by_lem (file_made profile 7 exact_rows) limits_made 9 fives (replicate present_bodies_length 7) ∙ refl

-- row 2 multiplies counts
pub exact_passes : type_check_call (exact_file exact_rows) example_limits_file (replicate 1024 5)
    ≡ record { answer = answered passed; layout = 1 ∷ 0 ∷ 1 ∷ 0 ∷ 1 ∷ 1 ∷ replicate 1018 0 }
unfolding computing quickly exact_rows example_limits
exact_passes = type_check_by (file_made profile 7 exact_rows) limits_made (replicate 1024 5) ∙ refl

-- the conversions' kinds
pub kind_28 : expression_at (row 3 28 (1 ∷ [])) 0 ≡ unary_row to_hundredths 1
unfolding computing
kind_28 = refl

pub kind_29 : expression_at (row 3 29 (1 ∷ [])) 0 ≡ unary_row to_number 1
unfolding computing
kind_29 = refl

-- readings of files: SPEED's in the wider range, TURN's not
abbrev pub exact_reading : ℕ → ℤ → Ending
exact_reading v z = ending_of 9 (run_of (inputs (exact_file exact_rows) (file_of limits 7 []) (v ∷ []) (z ∷ [])) 9)

pub speed_reading : exact_reading 0 (negsuc 99999999) ≡ ending 0 0 0 1
unfolding computing exact_rows
speed_reading = refl

pub turn_reading : exact_reading 1 (pos 1000001) ≡ ending 1 overflow 256 0
unfolding computing exact_rows
turn_reading = refl

-- ---- rules
abbrev pub exact_reads : List ℕ → ℕ
exact_reads rows = read_refusal profile (exact_file rows) (replicate rows_length 5)

pub exact_reads_by : (rows : List ℕ) → exact_reads rows ≡ read_by profile (made profile 7 rows) (replicate rows_length 5)
exact_reads_by rows = read_by_lem profile (file_made profile 7 rows) (replicate rows_length 5)

-- the first constant's bytes
abbrev pub with_constant : ℕ → ℕ → ℕ → ℕ → List ℕ
with_constant b c d e = set (set (set (set exact_rows 62 b) 63 c) 64 d) 65 e

-- 9: 100,000,000 is a constant in hundredths, 100,000,001 is none
pub highest_constant : exact_reads (with_constant 0 225 245 5) ≡ 0
unfolding computing quickly exact_rows
highest_constant = exact_reads_by (with_constant 0 225 245 5) ∙ refl

pub constant_too_large : exact_reads (with_constant 1 225 245 5) ≡ bad_constant
unfolding computing quickly exact_rows
constant_too_large = exact_reads_by (with_constant 1 225 245 5) ∙ refl

-- 6: type kind 7 has no fields; kinds 28 and 29 have one, and 30 is none. Row 2 becomes 28 of row 0, with a b of 1; then it has kind 30
pub type_with_field : exact_reads (set exact_rows 42 1) ≡ bad_form
unfolding computing quickly exact_rows
type_with_field = exact_reads_by (set exact_rows 42 1) ∙ refl

pub conversion_with_field : exact_reads (set exact_rows 81 28) ≡ bad_form
unfolding computing quickly exact_rows
conversion_with_field = exact_reads_by (set exact_rows 81 28) ∙ refl

pub unknown_kind : exact_reads (set (set exact_rows 81 30) 84 0) ≡ bad_form
unfolding computing quickly exact_rows
unknown_kind = exact_reads_by (set (set exact_rows 81 30) 84 0) ∙ refl

-- 15: limits of SPEED from -100,000,000 to 100,000,000, and by one more at either end
abbrev pub speed_limits : List ℕ → List ℕ
speed_limits ends = row 5 0 (83 ∷ 80 ∷ 69 ∷ 69 ∷ 68 ∷ []) ++ row 5 1 ends

unfoldable pub wide_limits : List ℕ
wide_limits = speed_limits (0 ∷ 31 ∷ 10 ∷ 250 ∷ 0 ∷ 225 ∷ 245 ∷ 5 ∷ [])

unfoldable pub wider_limits : List ℕ
wider_limits = speed_limits (0 ∷ 31 ∷ 10 ∷ 250 ∷ 1 ∷ 225 ∷ 245 ∷ 5 ∷ [])

abbrev pub lower_limits : List ℕ
lower_limits = speed_limits (255 ∷ 30 ∷ 10 ∷ 250 ∷ 0 ∷ 225 ∷ 245 ∷ 5 ∷ [])

-- SPEED a number: -1,000,000 to 1,000,000, and by one more at either end
abbrev pub number_rows : List ℕ
number_rows = set exact_rows 12 1

pub wide_fits : limit_fits exact_rows wide_limits 0 ≡ true
unfolding computing exact_rows wide_limits
wide_fits = refl

pub wider_does_not_fit : limit_fits exact_rows wider_limits 0 ≡ false
unfolding computing exact_rows wider_limits
wider_does_not_fit = refl

pub lower_does_not_fit : limit_fits exact_rows lower_limits 0 ≡ false
unfolding computing exact_rows
lower_does_not_fit = refl

pub million_for_a_number : limit_fits number_rows (speed_limits (192 ∷ 189 ∷ 240 ∷ 255 ∷ 64 ∷ 66 ∷ 15 ∷ 0 ∷ [])) 0 ≡ true
unfolding computing exact_rows
million_for_a_number = refl

pub high_for_a_number : limit_fits number_rows (speed_limits (192 ∷ 189 ∷ 240 ∷ 255 ∷ 65 ∷ 66 ∷ 15 ∷ 0 ∷ [])) 0 ≡ false
unfolding computing exact_rows
high_for_a_number = refl

pub low_for_a_number : limit_fits number_rows (speed_limits (191 ∷ 189 ∷ 240 ∷ 255 ∷ 64 ∷ 66 ∷ 15 ∷ 0 ∷ [])) 0 ≡ false
unfolding computing exact_rows
low_for_a_number = refl

-- the same of both files; the reader lets any ends pass
abbrev pub pair_refused : List ℕ → List ℕ → ℕ
pair_refused rows lims = type_check_refusal (exact_file rows) (file_of limits 7 lims) (replicate 1024 5)

pub pair_by : (rows lims : List ℕ) → pair_refused rows lims ≡ refused_by (made profile 7 rows) (made limits 7 lims) (replicate 1024 5)
pair_by rows lims = refused_by_lem (file_made profile 7 rows) (file_made limits 7 lims) (replicate 1024 5)

pub wide_taken : pair_refused exact_rows wide_limits ≡ 0
unfolding computing quickly exact_rows wide_limits
wide_taken = pair_by exact_rows wide_limits ∙ refl

pub wide_refused : pair_refused number_rows wide_limits ≡ bad_limit
unfolding computing quickly exact_rows wide_limits
wide_refused = pair_by number_rows wide_limits ∙ refl

pub wider_read : read_refusal limits (file_of limits 7 wider_limits) (replicate rows_length 5) ≡ 0
unfolding computing quickly wider_limits
wider_read = read_by_lem limits (file_made limits 7 wider_limits) (replicate rows_length 5) ∙ refl

-- 16: readings for SPEED and for TURN, and none for a third
pub both_readings : reading_wrong exact_rows (0 ∷ 1 ∷ []) ≡ false
unfolding computing exact_rows
both_readings = refl

pub third_reading : reading_wrong exact_rows (2 ∷ []) ≡ true
unfolding computing exact_rows
third_reading = refl
