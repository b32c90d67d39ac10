-- The operations of expression kinds 5 to 23 but and, or, if, and of 26, 28 and 29, and their half on bodies: the operands' bodies give the
-- result's body, or the lowest type error that applies (document 01, Evaluation). Assumes nothing: these are definitions.
use Rattle.std.specs.Prelude.{Bool, not, ◌&&◌, ℕ, ltb}
use Rattle.lingua.specs.Errors.{number_expected, boolean_expected, word_expected, list_expected, record_expected, no_such_attribute, attribute_present, no_coherence, not_comparable, body_too_large, last_attribute}
use Rattle.lingua.specs.Outcome.{ok, Result, require, or_fail, is_some, ◌>>=◌, ◌>>◌}
use Rattle.lingua.specs.Body.{Body, boolean, number, word, hundredths, list_of, record_of, Attributes, end, attribute, same_body, is_boolean, is_number, is_word, is_hundredths, is_quantity, is_simple, element_body, attributes_of, count_attributes, attribute_body, insert_attribute, remove_attribute, too_large}

-- of one operand: kinds 14, 16, 18, 20, 22, 23, 26, 28, 29; a record's operations name an attribute
pub data Unary : Type 0 where
  negation : Unary
  make_record : ℕ → Unary
  select : ℕ → Unary
  make_list top pop : Unary
  remove : ℕ → Unary
  to_hundredths to_number : Unary

-- of two operands: kinds 5 to 10, 13, 17, 19, 21
pub data Binary : Type 0 where
  add subtract multiply divide less equal glue : Binary
  expand : ℕ → Binary
  change : ℕ → Binary
  push : Binary

-- a body within its bounds
unfoldable pub bounded : Body → Result Body
bounded b = do
  require (not (too_large b)) body_too_large
  ok b

unfoldable pub present : ℕ → Attributes → Bool
present n fs = is_some (attribute_body n fs)

unfoldable pub unary_body : Unary → Body → Result Body
unary_body negation b = do
  require (is_boolean b) boolean_expected
  ok boolean
unary_body (make_record n) b = bounded (record_of (attribute n b end))
unary_body (select n) b = do
  fs ← or_fail (attributes_of b) record_expected
  or_fail (attribute_body n fs) no_such_attribute
unary_body make_list b = bounded (list_of b)
unary_body top b = or_fail (element_body b) list_expected
unary_body pop b = do
  e ← or_fail (element_body b) list_expected
  ok b
unary_body (remove n) b = do
  fs ← or_fail (attributes_of b) record_expected
  require (present n fs) no_such_attribute
  require (ltb 1 (count_attributes fs)) last_attribute
  ok (record_of (remove_attribute n fs))
unary_body to_hundredths b = do
  require (is_number b) number_expected
  ok hundredths
unary_body to_number b = do
  require (is_hundredths b) number_expected
  ok number

-- two numbers, or two hundredths; a pair of one and the other is neither
unfoldable pub quantities_to : Body → Body → Body → Result Body
quantities_to d b c = do
  require (is_quantity b && same_body b c) number_expected
  ok d

unfoldable pub binary_body : Binary → Body → Body → Result Body
binary_body add b c = quantities_to b b c
binary_body subtract b c = quantities_to b b c
binary_body multiply b c = quantities_to b b c
binary_body divide b c = quantities_to b b c
binary_body less b c = quantities_to boolean b c
binary_body equal b c = do
  require (is_simple b && same_body b c) not_comparable
  ok boolean
binary_body glue b c = do
  require (is_word b && is_word c) word_expected
  ok word
binary_body (expand n) b c = do
  fs ← or_fail (attributes_of b) record_expected
  require (not (present n fs)) attribute_present
  bounded (record_of (insert_attribute n c fs))
binary_body (change n) b c = do
  fs ← or_fail (attributes_of b) record_expected
  d ← or_fail (attribute_body n fs) no_such_attribute
  require (same_body d c) no_coherence
  ok b
binary_body push b c = do
  d ← or_fail (element_body b) list_expected
  require (same_body d c) no_coherence
  ok b
