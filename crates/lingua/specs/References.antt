-- Rules 10 to 13, 18 and 19: what is wrong with what a profile's rows name (document 01, What refuses; document 02, 3). Each rule is a test of its own, total on any
-- bytes; where a lower rule applies, it may say anything. Assumes nothing: these are definitions.
use Rattle.std.specs.Prelude.{Bool, true, false, not, ◌&&◌, ◌||◌, List, [], ◌∷◌, ◌++◌, ℕ, suc, ◌+◌, ◌/◌, ◌^◌, pred, min, eqb, ltb, leb, if◌then◌else◌}
use Rattle.lingua.specs.Numbers.{most_variables, most_parameters, declaration_section, type_section, expression_section, instruction_section, variable_table, scope_table}
use Rattle.lingua.specs.Errors.{is_among}
use Rattle.lingua.specs.Outcome.{is_ok}
use Rattle.lingua.specs.Value.{all_of}
use Rattle.lingua.specs.Expression.{Expression, constant, variable, current, unary, binary, lazy, choice, all_list}
use Rattle.lingua.specs.Typing.{joined}
use Rattle.lingua.specs.Rows.{a_at, b_at, table_count, pair_count, detail_row, procedure_count, body_row, value_count, reference_count, TypeRow, simple_type, list_type, record_type, expand_type, unknown_type, type_row, ExpressionRow, constant_row, variable_row, current_row, unary_row, binary_row, lazy_row, choice_row, all_list_row, unknown_expression, expression_row, operands, InstructionRow, skip_row, assign_row, set_yoke_row, sequence_row, branch_row, loop_row, handle_row, call_row, unknown_instruction, instruction_row, parts, evaluated, yoke_root, yoke_set}
use Rattle.lingua.specs.Trees.{tabulate, type_body, expression_tree, given_values, given_references, instruction_scope, expression_scope}
use Rattle.lingua.specs.Format.{every_below}

-- ---- 10: references
abbrev pub all_below : ℕ → List ℕ → Bool
all_below n rs = all_of (λ r. ltb r n) rs

-- the type rows that a type row names
unfoldable pub type_parts : TypeRow → List ℕ
type_parts (simple_type b) = []
type_parts (list_type a) = a ∷ []
type_parts (record_type n b) = b ∷ []
type_parts (expand_type a n c) = a ∷ c ∷ []
type_parts unknown_type = []

unfoldable pub expression_variables : ExpressionRow → List ℕ
expression_variables (constant_row c) = []
expression_variables (variable_row n) = n ∷ []
expression_variables current_row = []
expression_variables (unary_row o a) = []
expression_variables (binary_row o a b) = []
expression_variables (lazy_row k a b) = []
expression_variables (choice_row a b c) = []
expression_variables (all_list_row a) = []
expression_variables unknown_expression = []

-- the variable that is assigned to, or whose yoke is set; a call's are asked apart
unfoldable pub instruction_variables : InstructionRow → List ℕ
instruction_variables skip_row = []
instruction_variables (assign_row n e) = n ∷ []
instruction_variables (set_yoke_row n y) = n ∷ []
instruction_variables (sequence_row i j) = []
instruction_variables (branch_row e i j) = []
instruction_variables (loop_row e i) = []
instruction_variables (handle_row n i) = []
instruction_variables (call_row k b c) = []
instruction_variables unknown_instruction = []

-- what a row has to fulfil where it calls procedure k with the variables b by value and c by reference
abbrev pub on_call : InstructionRow → (ℕ → ℕ → ℕ → Bool) → Bool
on_call skip_row f = true
on_call (assign_row n e) f = true
on_call (set_yoke_row n y) f = true
on_call (sequence_row i j) f = true
on_call (branch_row e i j) f = true
on_call (loop_row e i) f = true
on_call (handle_row n i) f = true
on_call (call_row k b c) f = f k b c
on_call unknown_instruction f = true

-- the declared yoke of pair d in a table, as in the marks
unfoldable pub yoke_in : List ℕ → ℕ → ℕ → ℕ
yoke_in rows s d = b_at rows (detail_row rows s d)

abbrev pub declared_yoke : List ℕ → ℕ → ℕ
declared_yoke rows d = yoke_in rows declaration_section d

-- a declaration names a type row, and with its yoke an expression row
unfoldable pub declaration_refers : List ℕ → ℕ → ℕ → Bool
declaration_refers rows s d =
    ltb (a_at rows (detail_row rows s d)) (table_count rows type_section) && all_below (table_count rows expression_section) (yoke_root (yoke_in rows s d))

-- the profile's and the procedures' declarations
unfoldable pub declarations_refer : List ℕ → ℕ → Bool
declarations_refer rows s = every_below (pair_count rows (scope_table s)) (λ d. declaration_refers rows (scope_table s) d)

unfoldable pub instruction_refers : List ℕ → ℕ → Bool
instruction_refers rows r =
    all_below r (parts (instruction_row rows r))
    && all_below (table_count rows expression_section) (evaluated (instruction_row rows r) ++ yoke_set (instruction_row rows r))
    && on_call (instruction_row rows r) (λ k b c. ltb k (procedure_count rows))

-- what rows name by number exists, and within a table it is a lower row; a procedure's body is not the last instruction row
unfoldable pub rows_refer : List ℕ → Bool
rows_refer rows =
    every_below (suc (procedure_count rows)) (λ s. declarations_refer rows s)
    && every_below (table_count rows type_section) (λ r. all_below r (type_parts (type_row rows r)))
    && every_below (table_count rows expression_section) (λ r. all_below r (operands (expression_row rows r)))
    && every_below (table_count rows instruction_section) (λ r. instruction_refers rows r)
    && every_below (procedure_count rows) (λ k. ltb (body_row rows k) (pred (table_count rows instruction_section)))

-- ---- whose variables a row names
-- how many variables a row may name
unfoldable pub variables_seen : List ℕ → ℕ → ℕ
variables_seen rows s = pair_count rows (scope_table s)

unfoldable pub variables_fit : List ℕ → ℕ → Bool
variables_fit rows r =
    all_below (variables_seen rows (instruction_scope rows r)) (instruction_variables (instruction_row rows r))
    && on_call (instruction_row rows r)
    (λ k b c. all_below (variables_seen rows (instruction_scope rows r)) (given_values rows k b ++ given_references rows k c))

unfoldable pub variables_wrong : List ℕ → Bool
variables_wrong rows =
    not (every_below (table_count rows expression_section) (λ r. all_below (variables_seen rows (expression_scope rows r)) (expression_variables (expression_row rows r)))
    && every_below (table_count rows instruction_section) (λ r. variables_fit rows r))

unfoldable pub reference_wrong : List ℕ → Bool
reference_wrong rows = not (rows_refer rows) || variables_wrong rows

-- ---- 11: uses
unfoldable pub occurrences : ℕ → List ℕ → ℕ
occurrences r [] = 0
occurrences r (x ∷ xs) = (if eqb r x then 1 else 0) + occurrences r xs

-- the roots of expressions: those under a declared or set yoke, and the others
unfoldable pub declared_roots : List ℕ → ℕ → List ℕ
declared_roots rows s = joined (tabulate (pair_count rows (scope_table s)) (λ d. yoke_root (yoke_in rows (scope_table s) d)))

unfoldable pub yoke_roots : List ℕ → List ℕ
yoke_roots rows =
    joined (tabulate (suc (procedure_count rows)) (λ s. declared_roots rows s))
    ++ joined (tabulate (table_count rows instruction_section) (λ r. yoke_set (instruction_row rows r)))

unfoldable pub plain_roots : List ℕ → List ℕ
plain_roots rows = joined (tabulate (table_count rows instruction_section) (λ r. evaluated (instruction_row rows r)))

unfoldable pub expression_uses : List ℕ → List ℕ
expression_uses rows =
    yoke_roots rows ++ (plain_roots rows ++ joined (tabulate (table_count rows expression_section) (λ r. operands (expression_row rows r))))

-- a procedure uses its body
unfoldable pub instruction_uses : List ℕ → List ℕ
instruction_uses rows =
    joined (tabulate (table_count rows instruction_section) (λ r. parts (instruction_row rows r)))
    ++ tabulate (procedure_count rows) (λ k. body_row rows k)

-- the last instruction row is the program, and no row names it
unfoldable pub use_wrong : List ℕ → Bool
use_wrong rows =
    not (every_below (table_count rows expression_section) (λ r. eqb (occurrences r (expression_uses rows)) 1)
    && every_below (pred (table_count rows instruction_section)) (λ r. eqb (occurrences r (instruction_uses rows)) 1))

-- ---- 12: variables are read outside yokes, the current value and its elements inside
unfoldable pub reads_variable : Expression → Bool
reads_variable (constant r c) = false
reads_variable (variable r n) = true
reads_variable (current r) = false
reads_variable (unary r o e) = reads_variable e
reads_variable (binary r o e f) = reads_variable e || reads_variable f
reads_variable (lazy r k e f) = reads_variable e || reads_variable f
reads_variable (choice r t e f) = reads_variable t || (reads_variable e || reads_variable f)
reads_variable (all_list r e) = reads_variable e

unfoldable pub reads_current : Expression → Bool
reads_current (constant r c) = false
reads_current (variable r n) = false
reads_current (current r) = true
reads_current (unary r o e) = reads_current e
reads_current (binary r o e f) = reads_current e || reads_current f
reads_current (lazy r k e f) = reads_current e || reads_current f
reads_current (choice r t e f) = reads_current t || (reads_current e || reads_current f)
reads_current (all_list r e) = true

unfoldable pub place_wrong : List ℕ → Bool
place_wrong rows =
    not (all_of (λ r. not (reads_variable (expression_tree rows r))) (yoke_roots rows)
    && all_of (λ r. not (reads_current (expression_tree rows r))) (plain_roots rows))

-- ---- 13: types
unfoldable pub type_wrong : List ℕ → Bool
type_wrong rows = not (every_below (table_count rows type_section) (λ r. is_ok (type_body rows r)))

-- ---- 18: parameters
-- at most 4 of a sort, and no more than variables, of which there are at most 16
unfoldable pub parameters_fit : List ℕ → ℕ → Bool
parameters_fit rows k =
    leb (value_count rows k) most_parameters
    && leb (reference_count rows k) most_parameters
    && leb (value_count rows k + reference_count rows k) (pair_count rows (variable_table k))
    && leb (pair_count rows (variable_table k)) most_variables

-- the bits above the first n groups of four
unfoldable pub bits_above : ℕ → ℕ → ℕ
bits_above n w = w / 16 ^ min most_parameters n

unfoldable pub parameters_wrong : List ℕ → Bool
parameters_wrong rows =
    not (every_below (procedure_count rows) (λ k. parameters_fit rows k)
    && every_below (table_count rows instruction_section) (λ r. on_call (instruction_row rows r)
    (λ k b c. eqb (bits_above (value_count rows k) b) 0 && eqb (bits_above (reference_count rows k) c) 0)))

-- ---- 19: no variable twice by reference
unfoldable pub all_different : List ℕ → Bool
all_different [] = true
all_different (n ∷ ns) = not (is_among ns n) && all_different ns

unfoldable pub references_wrong : List ℕ → Bool
references_wrong rows =
    not (every_below (table_count rows instruction_section) (λ r. on_call (instruction_row rows r) (λ k b c. all_different (given_references rows k c))))
