-- The operations' half on values: the operands' values give the result's value, or a run error (document 01, Evaluation).
-- It is asked only where the half on bodies has passed, so it reads each operand as its body says and knows no bodies.
-- Assumes nothing: these are definitions.
use Rattle.std.specs.Prelude.{Bool, true, false, not, ◌&&◌, List, [], ◌∷◌, ◌++◌, ℕ, ◌+◌, eqb, ltb, leb, length, ℤ, pos, negsuc, ◌+ℤ◌, ◌-ℤ◌, ◌*ℤ◌, if◌then◌else◌}
use Rattle.std.specs.Bool.{beq}
use Rattle.std.specs.Int.Signed.{lt_z, quot_z}
use Rattle.lingua.specs.Numbers.{parts_of_one, word_length, list_places}
use Rattle.lingua.specs.Errors.{overflow, division_by_zero, list_empty, list_full, word_too_long}
use Rattle.lingua.specs.Outcome.{ok, fail, Result, require, ◌>>◌}
use Rattle.lingua.specs.Value.{Value, truth, whole, count, text, items, fields, Values, no_items, item, Fields, no_fields, field, count_values, in_range_of, is_count, quantity, as_truth, as_whole, as_text, as_items, as_fields}
use Rattle.lingua.specs.Rounding.{nearest}
use Rattle.lingua.specs.Operation.{Unary, negation, make_record, select, make_list, top, pop, remove, to_hundredths, to_number, Binary, add, subtract, multiply, divide, less, equal, glue, expand, change, push}

-- ---- numbers, and hundredths: h says that hundredths are counted
unfoldable pub ranged : Bool → ℤ → Result Value
ranged h z = do
  require (in_range_of h z) overflow
  ok (quantity h z)

unfoldable pub same_number : ℤ → ℤ → Bool
same_number (pos m) (pos n) = eqb m n
same_number (pos m) (negsuc n) = false
same_number (negsuc m) (pos n) = false
same_number (negsuc m) (negsuc n) = eqb m n

-- cut toward zero
unfoldable pub quotient : ℤ → ℤ → ℤ
quotient x y = quot_z x y

-- the exact product and quotient of two counts may lie between two counts; the nearest is taken before the range is asked. A quotient of numbers
-- is in range
unfoldable pub product : Bool → ℤ → ℤ → ℤ
product true x y = nearest (x *ℤ y) (pos parts_of_one)
product false x y = x *ℤ y

unfoldable pub divided : Bool → ℤ → ℤ → Result Value
divided true x y = do
  require (not (same_number y (pos 0))) division_by_zero
  ranged true (nearest (pos parts_of_one *ℤ x) y)
divided false x y = do
  require (not (same_number y (pos 0))) division_by_zero
  ok (whole (quotient x y))

-- a number's count of hundredths, and a count's number, cut toward zero
unfoldable pub counted : ℤ → ℤ
counted z = pos parts_of_one *ℤ z

unfoldable pub whole_part : ℤ → ℤ
whole_part z = quot_z z (pos parts_of_one)

-- ---- words
unfoldable pub same_text : List ℕ → List ℕ → Bool
same_text [] [] = true
same_text [] (d ∷ ds) = false
same_text (c ∷ cs) [] = false
same_text (c ∷ cs) (d ∷ ds) = eqb c d && same_text cs ds

unfoldable pub glued : List ℕ → List ℕ → Result Value
glued cs ds = do
  require (leb (length cs + length ds) word_length) word_too_long
  ok (text (cs ++ ds))

-- two values of one simple body
unfoldable pub same_value : Value → Value → Bool
same_value (truth t) y = beq t (as_truth y)
same_value (whole z) y = same_number z (as_whole y)
same_value (count z) y = same_number z (as_whole y)
same_value (text cs) y = same_text cs (as_text y)
same_value (items vs) y = false
same_value (fields xs) y = false

-- ---- lists
unfoldable pub with_last : Values → Value → Values
with_last no_items x = item x no_items
with_last (item v vs) x = item v (with_last vs x)

unfoldable pub pushed : Values → Value → Result Value
pushed vs x = do
  require (ltb (count_values vs) list_places) list_full
  ok (items (with_last vs x))

-- the last of an element and those after it
unfoldable pub last_from : Value → Values → Value
last_from v no_items = v
last_from v (item w vs) = last_from w vs

unfoldable pub without_last : Value → Values → Values
without_last v no_items = no_items
without_last v (item w vs) = item v (without_last w vs)

unfoldable pub top_of : Values → Result Value
top_of no_items = fail list_empty
top_of (item v vs) = ok (last_from v vs)

unfoldable pub pop_of : Values → Result Value
pop_of no_items = fail list_empty
pop_of (item v vs) = ok (items (without_last v vs))

-- ---- records
unfoldable pub field_value : ℕ → Fields → Value
field_value n no_fields = truth false
field_value n (field m v xs) = if eqb n m then v else field_value n xs

unfoldable pub insert_field : ℕ → Value → Fields → Fields
insert_field n v no_fields = field n v no_fields
insert_field n v (field m w xs) = if ltb n m then field n v (field m w xs) else field m w (insert_field n v xs)

unfoldable pub change_field : ℕ → Value → Fields → Fields
change_field n v no_fields = no_fields
change_field n v (field m w xs) = if eqb n m then field m v xs else field m w (change_field n v xs)

unfoldable pub remove_field : ℕ → Fields → Fields
remove_field n no_fields = no_fields
remove_field n (field m w xs) = if eqb n m then xs else field m w (remove_field n xs)

-- ---- the halves
unfoldable pub unary_value : Unary → Value → Result Value
unary_value negation x = ok (truth (not (as_truth x)))
unary_value (make_record n) x = ok (fields (field n x no_fields))
unary_value (select n) x = ok (field_value n (as_fields x))
unary_value make_list x = ok (items (item x no_items))
unary_value top x = top_of (as_items x)
unary_value pop x = pop_of (as_items x)
unary_value (remove n) x = ok (fields (remove_field n (as_fields x)))
unary_value to_hundredths x = ok (count (counted (as_whole x)))
unary_value to_number x = ok (whole (whole_part (as_whole x)))

unfoldable pub binary_value : Binary → Value → Value → Result Value
binary_value add x y = ranged (is_count x) (as_whole x +ℤ as_whole y)
binary_value subtract x y = ranged (is_count x) (as_whole x -ℤ as_whole y)
binary_value multiply x y = ranged (is_count x) (product (is_count x) (as_whole x) (as_whole y))
binary_value divide x y = divided (is_count x) (as_whole x) (as_whole y)
binary_value less x y = ok (truth (lt_z (as_whole x) (as_whole y)))
binary_value equal x y = ok (truth (same_value x y))
binary_value glue x y = glued (as_text x) (as_text y)
binary_value (expand n) x y = ok (fields (insert_field n y (as_fields x)))
binary_value (change n) x y = ok (fields (change_field n y (as_fields x)))
binary_value push x y = pushed (as_items x) y
