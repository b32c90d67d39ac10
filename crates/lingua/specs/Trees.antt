-- From accepted rows to trees: types to bodies, expressions, instructions, and both files to a profile (document 01, Files).
-- Assumes nothing: these are definitions.
use Rattle.std.specs.Prelude.{Bool, true, false, List, [], ◌∷◌, ◌++◌, ℕ, zero, suc, pred, min, ltb}
use Rattle.std.proofs.Math.Option.{Option, some, none}
use Rattle.lingua.specs.Numbers.{most_parameters, declaration_section, instruction_section, limit_section, variable_table}
use Rattle.lingua.specs.Outcome.{ok, fail, Result, ◌>>=◌}
use Rattle.lingua.specs.Errors.{record_expected, is_among}
use Rattle.lingua.specs.Body.{Body, boolean}
use Rattle.lingua.specs.Operation.{make_record, make_list, expand, unary_body, binary_body}
use Rattle.lingua.specs.Compute.{same_text}
use Rattle.lingua.specs.Expression.{Expression, constant, variable, current, unary, binary, lazy, choice, all_list, Yoke, always, yoke, Instruction, skip, assign, set_yoke, sequence, branch, loop, handle, call}
use Rattle.lingua.specs.Evaluation.{no_current}
use Rattle.lingua.specs.Store.{Limit}
use Rattle.lingua.specs.Run.{Declaration, Procedure, scoped, Profile}
use Rattle.lingua.specs.Rows.{a_at, b_at, low_at, high_at, bytes_at, table_count, pair_count, name_row, detail_row, procedure_count, body_row, value_count, reference_count, groups, TypeRow, simple_type, list_type, record_type, expand_type, unknown_type, type_row, constant_value, ExpressionRow, constant_row, variable_row, current_row, unary_row, binary_row, lazy_row, choice_row, all_list_row, unknown_expression, expression_row, InstructionRow, skip_row, assign_row, set_yoke_row, sequence_row, branch_row, loop_row, handle_row, call_row, unknown_instruction, instruction_row}

-- f at 0 to n - 1
unfoldable pub tabulate_from : {A : Type 0} → ℕ → ℕ → (ℕ → A) → List A
tabulate_from i zero f = []
tabulate_from i (suc n) f = f i ∷ tabulate_from (suc i) n f

unfoldable pub tabulate : {A : Type 0} → ℕ → (ℕ → A) → List A
tabulate n f = tabulate_from 0 n f

-- f of a lower row; what stands for another does not matter, since rule 10 refuses it
abbrev pub below : {A : Type 0} → Bool → (ℕ → A) → A → ℕ → A
below true f other a = f a
below false f other a = other

abbrev pub lower : {A : Type 0} → ℕ → (ℕ → A) → A → ℕ → A
lower r f other a = below (ltb a r) f other a

-- ---- types: the bodies' half of the operation that makes such a value
unfoldable pub type_body_of : TypeRow → (ℕ → Result Body) → Result Body
type_body_of (simple_type b) look = ok b
type_body_of (list_type a) look = do
  b ← look a
  unary_body make_list b
type_body_of (record_type n b) look = do
  c ← look b
  unary_body (make_record n) c
type_body_of (expand_type a n c) look = do
  b ← look a
  d ← look c
  binary_body (expand n) b d
type_body_of unknown_type look = ok boolean

-- n bounds how deep the types refer; a row refers to lower rows, so one more than its number is enough
unfoldable pub type_body_in : ℕ → List ℕ → ℕ → Result Body
type_body_in zero rows r = fail record_expected
type_body_in (suc n) rows r = type_body_of (type_row rows r) (lower r (λ a. type_body_in n rows a) (fail record_expected))

unfoldable pub type_body : List ℕ → ℕ → Result Body
type_body rows r = type_body_in (suc r) rows r

-- ---- expressions
abbrev pub no_expression : ℕ → Expression
no_expression r = constant r no_current

unfoldable pub expression_of : ℕ → ExpressionRow → (ℕ → Expression) → Expression
expression_of r (constant_row c) look = constant r (constant_value c)
expression_of r (variable_row n) look = variable r n
expression_of r current_row look = current r
expression_of r (unary_row o a) look = unary r o (look a)
expression_of r (binary_row o a b) look = binary r o (look a) (look b)
expression_of r (lazy_row k a b) look = lazy r k (look a) (look b)
expression_of r (choice_row a b c) look = choice r (look a) (look b) (look c)
expression_of r (all_list_row a) look = all_list r (look a)
expression_of r unknown_expression look = no_expression r

unfoldable pub expression_in : ℕ → List ℕ → ℕ → Expression
expression_in zero rows r = no_expression r
expression_in (suc n) rows r = expression_of r (expression_row rows r) (lower r (λ a. expression_in n rows a) (no_expression r))

unfoldable pub expression_tree : List ℕ → ℕ → Expression
expression_tree rows r = expression_in (suc r) rows r

-- a yoke as in the marks
unfoldable pub yoke_tree : List ℕ → ℕ → Yoke
yoke_tree rows zero = always
yoke_tree rows (suc r) = yoke (expression_tree rows r)

-- ---- instructions
-- the variables that a call of procedure k gives: as many as it has parameters of the sort, and at most 4
unfoldable pub given_values : List ℕ → ℕ → ℕ → List ℕ
given_values rows k b = groups (min most_parameters (value_count rows k)) b

unfoldable pub given_references : List ℕ → ℕ → ℕ → List ℕ
given_references rows k c = groups (min most_parameters (reference_count rows k)) c

unfoldable pub instruction_of : List ℕ → ℕ → InstructionRow → (ℕ → Instruction) → Instruction
instruction_of rows r skip_row look = skip r
instruction_of rows r (assign_row n e) look = assign r n (expression_tree rows e)
instruction_of rows r (set_yoke_row n y) look = set_yoke r n (yoke_tree rows y)
instruction_of rows r (sequence_row i j) look = sequence r (look i) (look j)
instruction_of rows r (branch_row e i j) look = branch r (expression_tree rows e) (look i) (look j)
instruction_of rows r (loop_row e i) look = loop r (expression_tree rows e) (look i)
instruction_of rows r (handle_row n i) look = handle r n (look i)
instruction_of rows r (call_row k b c) look = call r k (given_values rows k b) (given_references rows k c)
instruction_of rows r unknown_instruction look = skip r

unfoldable pub instruction_in : ℕ → List ℕ → ℕ → Instruction
instruction_in zero rows r = skip r
instruction_in (suc n) rows r = instruction_of rows r (instruction_row rows r) (lower r (λ a. instruction_in n rows a) (skip r))

unfoldable pub instruction_tree : List ℕ → ℕ → Instruction
instruction_tree rows r = instruction_in (suc r) rows r

-- ---- whose variables a row names
-- the rows of an expression, and those of an instruction: instructions, and the expressions that they evaluate or set
unfoldable pub expression_rows : Expression → List ℕ
expression_rows (constant r c) = r ∷ []
expression_rows (variable r n) = r ∷ []
expression_rows (current r) = r ∷ []
expression_rows (unary r o e) = r ∷ expression_rows e
expression_rows (binary r o e f) = r ∷ (expression_rows e ++ expression_rows f)
expression_rows (lazy r k e f) = r ∷ (expression_rows e ++ expression_rows f)
expression_rows (choice r t e f) = r ∷ (expression_rows t ++ (expression_rows e ++ expression_rows f))
expression_rows (all_list r e) = r ∷ expression_rows e

unfoldable pub yoke_rows : Yoke → List ℕ
yoke_rows always = []
yoke_rows (yoke e) = expression_rows e

unfoldable pub instruction_rows : Instruction → List ℕ
instruction_rows (skip r) = r ∷ []
instruction_rows (assign r n e) = r ∷ []
instruction_rows (set_yoke r n y) = r ∷ []
instruction_rows (sequence r i j) = r ∷ (instruction_rows i ++ instruction_rows j)
instruction_rows (branch r e i j) = r ∷ (instruction_rows i ++ instruction_rows j)
instruction_rows (loop r e i) = r ∷ instruction_rows i
instruction_rows (handle r n i) = r ∷ instruction_rows i
instruction_rows (call r k vs rs) = r ∷ []

unfoldable pub used_expressions : Instruction → List ℕ
used_expressions (skip r) = []
used_expressions (assign r n e) = expression_rows e
used_expressions (set_yoke r n y) = yoke_rows y
used_expressions (sequence r i j) = used_expressions i ++ used_expressions j
used_expressions (branch r e i j) = expression_rows e ++ (used_expressions i ++ used_expressions j)
used_expressions (loop r e i) = expression_rows e ++ used_expressions i
used_expressions (handle r n i) = used_expressions i
used_expressions (call r k vs rs) = []

abbrev pub body_tree : List ℕ → ℕ → Instruction
body_tree rows k = instruction_tree rows (body_row rows k)

-- 1 + the lowest k below n with the property, and 0 where none has it
abbrev pub else_at : ℕ → Bool → ℕ → ℕ
else_at zero true n = suc n
else_at zero false n = 0
else_at (suc k) t n = suc k

unfoldable pub first_below : ℕ → (ℕ → Bool) → ℕ
first_below zero p = 0
first_below (suc n) p = else_at (first_below n p) (p n) n

-- a row under several procedures' bodies names the first's variables, one under none the profile's
unfoldable pub instruction_scope : List ℕ → ℕ → ℕ
instruction_scope rows r = first_below (procedure_count rows) (λ k. is_among (instruction_rows (body_tree rows k)) r)

unfoldable pub expression_scope : List ℕ → ℕ → ℕ
expression_scope rows r = first_below (procedure_count rows) (λ k. is_among (used_expressions (body_tree rows k)) r)

-- ---- both files
-- the body of declaration d in a table
unfoldable pub body_in : List ℕ → ℕ → ℕ → Result Body
body_in rows s d = type_body rows (a_at rows (detail_row rows s d))

abbrev pub declared_body : List ℕ → ℕ → Result Body
declared_body rows d = body_in rows declaration_section d

abbrev pub body_or : Result Body → Body
body_or (ok b) = b
body_or (fail n) = boolean

unfoldable pub limit_row : List ℕ → ℕ → Limit
limit_row limits l = record { low = low_at limits (detail_row limits limit_section l); high = high_at limits (detail_row limits limit_section l) }

-- the name of declaration or limit d, eight bytes
unfoldable pub name_at : List ℕ → ℕ → ℕ → List ℕ
name_at rows s d = bytes_at rows (name_row rows s d)

abbrev pub limit_if : Bool → Limit → Option Limit → Option Limit
limit_if true l o = some l
limit_if false l o = o

-- the limit of a name, among the last n of the file's limits
unfoldable pub limit_from : ℕ → ℕ → List ℕ → List ℕ → Option Limit
limit_from l zero limits name = none
limit_from l (suc n) limits name =
    limit_if (same_text (name_at limits limit_section l) name) (limit_row limits l) (limit_from (suc l) n limits name)

unfoldable pub limit_of : List ℕ → List ℕ → Option Limit
limit_of limits name = limit_from 0 (pair_count limits limit_section) limits name

-- declaration d of a table, with its limit
unfoldable pub declaration_in : List ℕ → ℕ → Option Limit → ℕ → Declaration
declaration_in rows s l d =
    record { name = name_at rows s d; body = body_or (body_in rows s d); declared = yoke_tree rows (b_at rows (detail_row rows s d)); limit = l }

-- the profile's
unfoldable pub declaration_at : List ℕ → List ℕ → ℕ → Declaration
declaration_at rows limits d = declaration_in rows declaration_section (limit_of limits (name_at rows declaration_section d)) d

-- procedure k: its variables have no limits, whatever their names
unfoldable pub procedure_of : List ℕ → ℕ → Procedure
procedure_of rows k =
    record { variables = tabulate (pair_count rows (variable_table k)) (λ d. declaration_in rows (variable_table k) none d); body = body_tree rows k }

unfoldable pub profile_of : List ℕ → List ℕ → Profile
profile_of rows limits =
    record { declarations = tabulate (pair_count rows declaration_section) (λ d. declaration_at rows limits d); procedures = tabulate (procedure_count rows) (λ k. procedure_of rows k); instructions = tabulate (table_count rows instruction_section) (λ r. scoped (instruction_scope rows r) (instruction_tree rows r)); program = instruction_tree rows (pred (table_count rows instruction_section)) }
