-- Rules 6 to 9: what is wrong with a file's rows, each by itself (document 01, What refuses). Each rule is a test of its own, total on any
-- bytes; where a lower rule applies, it may say anything. Assumes nothing: these are definitions.
use Rattle.std.specs.Prelude.{Bool, true, false, not, ◌&&◌, ◌||◌, List, [], ◌∷◌, ℕ, suc, ◌+◌, ◌-◌, ◌%◌, eqb, ltb, leb, length, get_or, drop, if◌then◌else◌}
use Rattle.std.specs.Bool.{beq}
use Rattle.std.proofs.Math.Option.{Option, some, none}
use Rattle.lingua.specs.Numbers.{attribute_numbers, word_length, most_variables, most_types, most_expressions, most_instructions, most_limits, most_procedures, declaration_section, type_section, expression_section, instruction_section, limit_section, procedure_section, scope_table}
use Rattle.lingua.specs.Errors.{is_error}
use Rattle.lingua.specs.Value.{in_range, in_counts, is_character, all_of}
use Rattle.lingua.specs.Operation.{Unary, negation, make_record, select, make_list, top, pop, remove, to_hundredths, to_number, Binary, add, subtract, multiply, divide, less, equal, glue, expand, change, push}
use Rattle.lingua.specs.Compute.{same_text}
use Rattle.lingua.specs.Rows.{row_count, section_at, kind_at, bytes_at, row_in, procedure_kind, table_count, pair_count, procedure_count, numbered, used_of, TypeRow, simple_type, list_type, record_type, expand_type, unknown_type, type_kinds, type_row, Constant, boolean_constant, number_constant, word_constant, hundredths_constant, ExpressionRow, constant_row, variable_row, current_row, unary_row, binary_row, lazy_row, choice_row, all_list_row, unknown_expression, expression_kinds, expression_row, InstructionRow, skip_row, assign_row, set_yoke_row, sequence_row, branch_row, loop_row, handle_row, call_row, unknown_instruction, instruction_kinds, instruction_row}
use Rattle.lingua.specs.Trees.{name_at}
use Rattle.lingua.specs.Format.{File, profile, limits, all_zero, every_below}

-- ---- 6: form
-- how many of its eight bytes a row uses, and none where the section has no such kind; declarations and limits have kinds 0 and 1, and
-- procedures kind 2 besides
unfoldable pub used_bytes : ℕ → ℕ → Option ℕ
used_bytes section kind =
    if eqb section declaration_section then get_or (some 8 ∷ some 4 ∷ []) kind none
    else (if eqb section type_section then used_of (numbered kind type_kinds)
    else (if eqb section expression_section then used_of (numbered kind expression_kinds)
    else (if eqb section instruction_section then used_of (numbered kind instruction_kinds)
    else (if eqb section limit_section then get_or (some 8 ∷ some 8 ∷ []) kind none
    else (if eqb section procedure_section then get_or (some 8 ∷ some 4 ∷ some 6 ∷ []) kind none
    else none)))))

-- limits stand alone in limits files; a profile has the sections before them, and the procedures behind
unfoldable pub section_belongs : File → ℕ → Bool
section_belongs profile section = (leb declaration_section section && leb section instruction_section) || eqb section procedure_section
section_belongs limits section = eqb section limit_section

-- a kind of the section, and unused bytes 0
unfoldable pub bytes_fit : Option ℕ → List ℕ → Bool
bytes_fit none bytes = false
bytes_fit (some n) bytes = all_zero (drop n bytes)

unfoldable pub row_fits : File → List ℕ → ℕ → Bool
row_fits f rows i =
    section_belongs f (section_at rows i) && bytes_fit (used_bytes (section_at rows i) (kind_at rows i)) (bytes_at rows i)

-- sections ascend: each row's is at least that of the row before
unfoldable pub ascending : List ℕ → Bool
ascending rows = every_below (row_count rows - 1) (λ i. leb (section_at rows i) (section_at rows (i + 1)))

-- kinds 0 and 1 in turn, and a whole number of pairs
unfoldable pub paired : List ℕ → ℕ → Bool
paired rows s =
    every_below (table_count rows s) (λ r. eqb (kind_at rows (row_in rows s r)) (r % 2)) && eqb (table_count rows s % 2) 0

-- section 6 begins with a procedure, and in it each row of kind 0, and no other, has one of kind 1 behind it
unfoldable pub procedure_pairs : List ℕ → Bool
procedure_pairs rows =
    eqb (table_count rows procedure_section) 0
    && every_below (row_count rows) (λ i. beq (procedure_kind 0 rows i) (ltb (suc i) (row_count rows) && procedure_kind 1 rows (suc i)))

unfoldable pub form_wrong : File → List ℕ → Bool
form_wrong f rows =
    not (every_below (row_count rows) (λ i. row_fits f rows i)
    && ascending rows
    && paired rows declaration_section
    && paired rows limit_section
    && procedure_pairs rows)

-- ---- 7: counts
abbrev pub between : ℕ → ℕ → ℕ → Bool
between low high n = leb low n && leb n high

unfoldable pub count_wrong : File → List ℕ → Bool
count_wrong profile rows =
    not (between 1 most_variables (pair_count rows declaration_section)
    && between 1 most_types (table_count rows type_section)
    && between 0 most_expressions (table_count rows expression_section)
    && between 1 most_instructions (table_count rows instruction_section)
    && between 0 most_procedures (procedure_count rows))
count_wrong limits rows = not (between 0 most_limits (pair_count rows limit_section))

-- ---- 8: names
-- bytes with the property, then zeros only
unfoldable pub padded_by : (ℕ → Bool) → List ℕ → Bool
padded_by p [] = true
padded_by p (c ∷ cs) = if eqb c 0 then all_zero cs else p c && padded_by p cs

unfoldable pub is_capital : ℕ → Bool
is_capital c = between 65 90 c

-- 1 to 8 capital letters, zeros after
unfoldable pub is_name : List ℕ → Bool
is_name name = not (eqb (get_or name 0 0) 0) && padded_by is_capital name

-- no lower pair has the name of pair d
unfoldable pub is_new : List ℕ → ℕ → ℕ → Bool
is_new rows s d = every_below d (λ e. not (same_text (name_at rows s e) (name_at rows s d)))

unfoldable pub names_fit : List ℕ → ℕ → Bool
names_fit rows s = every_below (pair_count rows s) (λ d. is_name (name_at rows s d) && is_new rows s d)

-- the profile's variables, and each procedure's by themselves
unfoldable pub name_wrong : File → List ℕ → Bool
name_wrong profile rows = not (every_below (suc (procedure_count rows)) (λ s. names_fit rows (scope_table s)))
name_wrong limits rows = not (names_fit rows limit_section)

-- ---- 9: constants, attributes, handled errors
unfoldable pub constant_fits : Constant → Bool
constant_fits (boolean_constant n) = leb n 1
constant_fits (number_constant z) = in_range z
constant_fits (hundredths_constant z) = in_counts z
constant_fits (word_constant cs) = leb (length cs) word_length && padded_by is_character cs

-- other rows have no constant
unfoldable pub row_constant_fits : ExpressionRow → Bool
row_constant_fits (constant_row c) = constant_fits c
row_constant_fits (variable_row n) = true
row_constant_fits current_row = true
row_constant_fits (unary_row o a) = true
row_constant_fits (binary_row o a b) = true
row_constant_fits (lazy_row k a b) = true
row_constant_fits (choice_row a b c) = true
row_constant_fits (all_list_row a) = true
row_constant_fits unknown_expression = true

unfoldable pub unary_attribute : Unary → List ℕ
unary_attribute negation = []
unary_attribute (make_record n) = n ∷ []
unary_attribute (select n) = n ∷ []
unary_attribute make_list = []
unary_attribute top = []
unary_attribute pop = []
unary_attribute (remove n) = n ∷ []
unary_attribute to_hundredths = []
unary_attribute to_number = []

unfoldable pub binary_attribute : Binary → List ℕ
binary_attribute add = []
binary_attribute subtract = []
binary_attribute multiply = []
binary_attribute divide = []
binary_attribute less = []
binary_attribute equal = []
binary_attribute glue = []
binary_attribute (expand n) = n ∷ []
binary_attribute (change n) = n ∷ []
binary_attribute push = []

-- the attributes that a row names
unfoldable pub expression_attributes : ExpressionRow → List ℕ
expression_attributes (constant_row c) = []
expression_attributes (variable_row n) = []
expression_attributes current_row = []
expression_attributes (unary_row o a) = unary_attribute o
expression_attributes (binary_row o a b) = binary_attribute o
expression_attributes (lazy_row k a b) = []
expression_attributes (choice_row a b c) = []
expression_attributes (all_list_row a) = []
expression_attributes unknown_expression = []

unfoldable pub type_attributes : TypeRow → List ℕ
type_attributes (simple_type b) = []
type_attributes (list_type a) = []
type_attributes (record_type n b) = n ∷ []
type_attributes (expand_type a n c) = n ∷ []
type_attributes unknown_type = []

unfoldable pub handled_errors : InstructionRow → List ℕ
handled_errors skip_row = []
handled_errors (assign_row n e) = []
handled_errors (set_yoke_row n y) = []
handled_errors (sequence_row i j) = []
handled_errors (branch_row e i j) = []
handled_errors (loop_row e i) = []
handled_errors (handle_row n i) = n ∷ []
handled_errors (call_row k b c) = []
handled_errors unknown_instruction = []

abbrev pub attributes_fit : List ℕ → Bool
attributes_fit ns = all_of (λ n. ltb n attribute_numbers) ns

-- a limits file has no such numbers
unfoldable pub constant_wrong : File → List ℕ → Bool
constant_wrong profile rows =
    not (every_below (table_count rows type_section) (λ r. attributes_fit (type_attributes (type_row rows r)))
    && every_below (table_count rows expression_section) (λ r. row_constant_fits (expression_row rows r) && attributes_fit (expression_attributes (expression_row rows r)))
    && every_below (table_count rows instruction_section) (λ r. all_of is_error (handled_errors (instruction_row rows r))))
constant_wrong limits rows = false
