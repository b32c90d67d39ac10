-- The refusal of each call: of the rules that apply, the first in order (document 01, What refuses). Assumes nothing: these are definitions.
use Rattle.std.specs.Prelude.{Bool, true, false, not, ◌&&◌, ◌||◌, List, [], ◌∷◌, ◌++◌, ℕ, suc, ◌%◌, eqb, ltb, length, if◌then◌else◌}
use Rattle.std.specs.Int.Signed.{le_z}
use Rattle.lingua.specs.Numbers.{row_bytes, rows_length, cells_length, states_length, layout_length, open_cells_length, open_states_length, present_bodies_length, most_readings, declaration_section, limit_section}
use Rattle.lingua.specs.Errors.{no_error, bad_buffer, bad_length, bad_marker, bad_header, bad_check, bad_form, bad_count, bad_name, bad_constant, bad_reference, bad_use, misplaced, bad_type, models_differ, bad_limit, bad_reading, type_error_found, bad_parameters, repeated_reference, refusal_order}
use Rattle.lingua.specs.Outcome.{ok, fail, Result, is_ok}
use Rattle.lingua.specs.Body.{Body, is_hundredths, is_quantity}
use Rattle.lingua.specs.Value.{in_range_of, all_of}
use Rattle.lingua.specs.Compute.{same_text}
use Rattle.lingua.specs.Typing.{check_profile}
use Rattle.lingua.specs.Rows.{row_count, pair_count}
use Rattle.lingua.specs.Store.{Limit}
use Rattle.lingua.specs.Trees.{declared_body, limit_row, name_at, profile_of}
use Rattle.lingua.specs.Format.{File, profile, limits, model_of, rows_of, file_length, every_below, length_wrong, marker_wrong, header_wrong, block_check_wrong}
use Rattle.lingua.specs.Inputs.{Inputs, Buffers}
use Rattle.lingua.specs.Rules.{form_wrong, count_wrong, name_wrong, constant_wrong}
use Rattle.lingua.specs.References.{reference_wrong, use_wrong, place_wrong, type_wrong, parameters_wrong, references_wrong}

-- a rule's number and whether it applies
pub record Rule : Type 0 where
  pub number : ℕ
  pub applies : Bool

abbrev pub rule : ℕ → Bool → Rule
rule n b = record { number = n; applies = b }

-- where a number stands in a list
unfoldable pub place_in : List ℕ → ℕ → ℕ
place_in [] n = 0
place_in (m ∷ ms) n = if eqb n m then 0 else suc (place_in ms n)

unfoldable pub rank : ℕ → ℕ
rank n = place_in refusal_order n

abbrev pub lower_of : ℕ → Bool → ℕ → ℕ
lower_of n true m = if eqb m no_error then n else (if ltb (rank n) (rank m) then n else m)
lower_of n false m = m

-- of the numbers that apply the first in order (document 01: the lowest), 0 where none does
unfoldable pub lowest : List Rule → ℕ
lowest [] = no_error
lowest (r ∷ rs) = lower_of r.number r.applies (lowest rs)

-- ---- one file
-- 2 to 5, of a file's bytes
unfoldable pub file_rules : File → List ℕ → List Rule
file_rules f file =
    rule bad_length (length_wrong f file)
    ∷ rule bad_marker (marker_wrong f file)
    ∷ rule bad_header (header_wrong f file)
    ∷ rule bad_check (block_check_wrong file)
    ∷ []

-- 6 to 13, 18 and 19, of its rows; a limits file has 6 to 9
unfoldable pub row_rules : File → List ℕ → List Rule
row_rules profile rows =
    rule bad_form (form_wrong profile rows)
    ∷ rule bad_count (count_wrong profile rows)
    ∷ rule bad_name (name_wrong profile rows)
    ∷ rule bad_constant (constant_wrong profile rows)
    ∷ rule bad_reference (reference_wrong rows)
    ∷ rule bad_use (use_wrong rows)
    ∷ rule misplaced (place_wrong rows)
    ∷ rule bad_type (type_wrong rows)
    ∷ rule bad_parameters (parameters_wrong rows)
    ∷ rule repeated_reference (references_wrong rows)
    ∷ []
row_rules limits rows =
    rule bad_form (form_wrong limits rows)
    ∷ rule bad_count (count_wrong limits rows)
    ∷ rule bad_name (name_wrong limits rows)
    ∷ rule bad_constant (constant_wrong limits rows)
    ∷ []

unfoldable pub whole_file_rules : File → List ℕ → List Rule
whole_file_rules f file = file_rules f file ++ row_rules f (rows_of file)

-- ---- both files
abbrev pub body_has : (Body → Bool) → Result Body → Bool
body_has p (ok b) = p b
body_has p (fail n) = false

-- whether declaration d is a variable whose body has the property
unfoldable pub is_variable_of : (Body → Bool) → List ℕ → ℕ → Bool
is_variable_of p rows d = ltb d (pair_count rows declaration_section) && body_has p (declared_body rows d)

-- a number variable, or one in hundredths
unfoldable pub is_quantity_variable : List ℕ → ℕ → Bool
is_quantity_variable rows d = is_variable_of is_quantity rows d

-- a value of the body may have either end
unfoldable pub ends_fit : Limit → Body → Bool
ends_fit l b = is_quantity b && in_range_of (is_hundredths b) l.low && in_range_of (is_hundredths b) l.high

-- some declaration has the name and is a variable whose body has the property
unfoldable pub names_one : (Body → Bool) → List ℕ → List ℕ → Bool
names_one p rows name =
    not (every_below (pair_count rows declaration_section) (λ d. not (same_text (name_at rows declaration_section d) name && is_variable_of p rows d)))

unfoldable pub limit_fits : List ℕ → List ℕ → ℕ → Bool
limit_fits rows limitRows l =
    le_z (limit_row limitRows l).low (limit_row limitRows l).high
    && names_one (ends_fit (limit_row limitRows l)) rows (name_at limitRows limit_section l)

unfoldable pub limit_wrong : List ℕ → List ℕ → Bool
limit_wrong rows limitRows = not (every_below (pair_count limitRows limit_section) (λ l. limit_fits rows limitRows l))

-- 2 to 15, 18 and 19, of a profile and a limits file
unfoldable pub pair_rules : List ℕ → List ℕ → List Rule
pair_rules prof lims =
    whole_file_rules profile prof
    ++ (whole_file_rules limits lims
    ++ (rule models_differ (not (eqb (model_of prof) (model_of lims)))
    ∷ rule bad_limit (limit_wrong (rows_of prof) (rows_of lims))
    ∷ []))

-- ---- readings
unfoldable pub reading_wrong : List ℕ → List ℕ → Bool
reading_wrong rows variables =
    ltb most_readings (length variables) || not (all_of (λ v. is_quantity_variable rows v) variables)

-- ---- the calls
unfoldable pub read_refusal : File → List ℕ → List ℕ → ℕ
read_refusal f file buffer = lowest (rule bad_buffer (not (eqb (length buffer) rows_length)) ∷ whole_file_rules f file)

-- a search for a name asks the reader's rules of the profile; no buffer is lent
unfoldable pub find_refusal : List ℕ → ℕ
find_refusal file = lowest (whole_file_rules profile file)

unfoldable pub write_refusal : File → List ℕ → List ℕ → ℕ
write_refusal f rows buffer =
    lowest
    (rule bad_buffer (not (eqb (length rows % row_bytes) 0 && eqb (length buffer) (file_length f (row_count rows))))
    ∷ row_rules f rows)

unfoldable pub type_check_refusal : List ℕ → List ℕ → List ℕ → ℕ
type_check_refusal prof lims layout = lowest (rule bad_buffer (not (eqb (length layout) layout_length)) ∷ pair_rules prof lims)

-- whether a run's buffers are as listed, and its two slices of readings of one length
unfoldable pub run_fits : Inputs → Buffers → Bool
run_fits i b =
    eqb (length i.variables) (length i.numbers)
    && eqb (length b.cells) cells_length
    && eqb (length b.states) states_length
    && eqb (length b.open_cells) open_cells_length
    && eqb (length b.open_states) open_states_length

-- 1 to 16, of a run whose buffers fit or don't
unfoldable pub run_rules : Bool → Inputs → List Rule
run_rules fits i =
    rule bad_buffer (not fits)
    ∷ (pair_rules i.profile i.limits
    ++ (rule bad_reading (reading_wrong (rows_of i.profile) i.variables)
    ∷ []))

-- the rules that both runs share
unfoldable pub run_refusal : Inputs → Buffers → ℕ
run_refusal i b = lowest (run_rules (run_fits i b) i)

-- a checked run's buffers have the present bodies too
unfoldable pub checked_refusal : Inputs → Buffers → List ℕ → ℕ
checked_refusal i b bodies = lowest (run_rules (eqb (length bodies) present_bodies_length && run_fits i b) i)

-- an erased run's buffers have the layout table too, and the type check must pass (17)
unfoldable pub erased_refusal : Inputs → Buffers → List ℕ → ℕ
erased_refusal i b layout =
    lowest
    (run_rules (eqb (length layout) layout_length && run_fits i b) i
    ++ (rule type_error_found (not (is_ok (check_profile (profile_of (rows_of i.profile) (rows_of i.limits)))))
    ∷ []))
