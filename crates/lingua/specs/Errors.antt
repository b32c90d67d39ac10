-- Error numbers of runs and of the type check with their two classes, and refusal numbers. Assumes nothing: these are definitions.
use Rattle.std.specs.Prelude.{Bool, false, ◌||◌, List, [], ◌∷◌, ℕ, eqb}

-- no error
abbrev pub no_error : ℕ
no_error = 0

-- ---- run errors
abbrev pub overflow : ℕ
overflow = 1

abbrev pub division_by_zero : ℕ
division_by_zero = 2

abbrev pub yoke_not_satisfied : ℕ
yoke_not_satisfied = 3

abbrev pub list_empty : ℕ
list_empty = 4

abbrev pub list_full : ℕ
list_full = 5

abbrev pub word_too_long : ℕ
word_too_long = 6

abbrev pub not_filled : ℕ
not_filled = 7

-- ---- type errors (document 01: errors of bodies)
abbrev pub number_expected : ℕ
number_expected = 8

abbrev pub boolean_expected : ℕ
boolean_expected = 9

abbrev pub word_expected : ℕ
word_expected = 10

abbrev pub list_expected : ℕ
list_expected = 11

abbrev pub record_expected : ℕ
record_expected = 12

abbrev pub no_such_attribute : ℕ
no_such_attribute = 13

abbrev pub attribute_present : ℕ
attribute_present = 14

abbrev pub no_coherence : ℕ
no_coherence = 15

abbrev pub yoke_expected : ℕ
yoke_expected = 16

abbrev pub not_comparable : ℕ
not_comparable = 17

abbrev pub body_too_large : ℕ
body_too_large = 18

abbrev pub last_attribute : ℕ
last_attribute = 19

-- ---- a run error again: one call more than may be open
abbrev pub too_deep : ℕ
too_deep = 20

-- ---- the two classes: whatever speaks of a class asks one of these tests
abbrev pub run_errors : List ℕ
run_errors = overflow ∷ division_by_zero ∷ yoke_not_satisfied ∷ list_empty ∷ list_full ∷ word_too_long ∷ not_filled ∷ too_deep ∷ []

abbrev pub type_errors : List ℕ
type_errors =
    number_expected ∷ boolean_expected ∷ word_expected ∷ list_expected ∷ record_expected ∷ no_such_attribute
    ∷ attribute_present ∷ no_coherence ∷ yoke_expected ∷ not_comparable ∷ body_too_large ∷ last_attribute ∷ []

unfoldable pub is_among : List ℕ → ℕ → Bool
is_among [] n = false
is_among (m ∷ ms) n = eqb n m || is_among ms n

unfoldable pub is_run_error : ℕ → Bool
is_run_error n = is_among run_errors n

unfoldable pub is_type_error : ℕ → Bool
is_type_error n = is_among type_errors n

-- of either class: what a handler may name
unfoldable pub is_error : ℕ → Bool
is_error n = is_run_error n || is_type_error n

-- all of them are below this
abbrev pub error_numbers : ℕ
error_numbers = 21

-- ---- refusals
abbrev pub bad_buffer : ℕ
bad_buffer = 1

abbrev pub bad_length : ℕ
bad_length = 2

abbrev pub bad_marker : ℕ
bad_marker = 3

abbrev pub bad_header : ℕ
bad_header = 4

abbrev pub bad_check : ℕ
bad_check = 5

abbrev pub bad_form : ℕ
bad_form = 6

abbrev pub bad_count : ℕ
bad_count = 7

abbrev pub bad_name : ℕ
bad_name = 8

abbrev pub bad_constant : ℕ
bad_constant = 9

abbrev pub bad_reference : ℕ
bad_reference = 10

abbrev pub bad_use : ℕ
bad_use = 11

abbrev pub misplaced : ℕ
misplaced = 12

abbrev pub bad_type : ℕ
bad_type = 13

abbrev pub models_differ : ℕ
models_differ = 14

abbrev pub bad_limit : ℕ
bad_limit = 15

abbrev pub bad_reading : ℕ
bad_reading = 16

abbrev pub type_error_found : ℕ
type_error_found = 17

abbrev pub bad_parameters : ℕ
bad_parameters = 18

abbrev pub repeated_reference : ℕ
repeated_reference = 19

-- the order in which a refusal wins over another; 0, which is none, stands before them
abbrev pub refusal_order : List ℕ
refusal_order =
    no_error ∷ bad_buffer ∷ bad_length ∷ bad_marker ∷ bad_header ∷ bad_check ∷ bad_form ∷ bad_count ∷ bad_name ∷ bad_constant ∷ bad_reference
    ∷ bad_use ∷ misplaced ∷ bad_type ∷ bad_parameters ∷ repeated_reference ∷ models_differ ∷ bad_limit ∷ bad_reading ∷ type_error_found ∷ []
