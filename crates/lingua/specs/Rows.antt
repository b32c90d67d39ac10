-- Rows of 10 bytes and what each says: the fields, the tables, and for each table of rows its kinds (document 01, Files).
-- Total on any bytes; what a malformed row reads as does not matter, since it is refused. Assumes nothing: these are definitions.
use Rattle.std.specs.Prelude.{Bool, not, ◌&&◌, List, [], ◌∷◌, ℕ, zero, suc, ◌+◌, ◌*◌, ◌/◌, ◌%◌, eqb, ltb, length, get_or, take, drop, ℤ, if◌then◌else◌}
use Rattle.std.proofs.Math.Option.{Option, some, none}
use Rattle.std.specs.Int.{w32, w64}
use Rattle.std.proofs.Common.{to_z}
use Rattle.lingua.specs.Numbers.{row_bytes, type_section, expression_section, instruction_section, procedure_section, header_table}
use Rattle.lingua.specs.Body.{Body, boolean, number, word, hundredths}
use Rattle.lingua.specs.Value.{truth, whole, count, text, Composite, composite}
use Rattle.lingua.specs.Operation.{Unary, negation, make_record, select, make_list, top, pop, remove, to_hundredths, to_number, Binary, add, subtract, multiply, divide, less, equal, glue, expand, change, push}
use Rattle.lingua.specs.Expression.{Connective, conjunction, disjunction}

-- ---- fields
-- integers have the low byte first
unfoldable pub word16 : List ℕ → ℕ → ℕ
word16 bytes i = get_or bytes i 0 + 256 * get_or bytes (i + 1) 0

unfoldable pub word32 : List ℕ → ℕ → ℕ
word32 bytes i = word16 bytes i + 65536 * word16 bytes (i + 2)

unfoldable pub word64 : List ℕ → ℕ → ℕ
word64 bytes i = word32 bytes i + 4294967296 * word32 bytes (i + 4)

unfoldable pub row_count : List ℕ → ℕ
row_count rows = length rows / row_bytes

unfoldable pub section_at : List ℕ → ℕ → ℕ
section_at rows i = get_or rows (row_bytes * i) 0

unfoldable pub kind_at : List ℕ → ℕ → ℕ
kind_at rows i = get_or rows (row_bytes * i + 1) 0

-- the fields a, b, c
unfoldable pub a_at : List ℕ → ℕ → ℕ
a_at rows i = word16 rows (row_bytes * i + 2)

unfoldable pub b_at : List ℕ → ℕ → ℕ
b_at rows i = word16 rows (row_bytes * i + 4)

unfoldable pub c_at : List ℕ → ℕ → ℕ
c_at rows i = word16 rows (row_bytes * i + 6)

-- the eight bytes, as one number without sign, and with one; as two 32-bit numbers; as they are
unfoldable pub wide_at : List ℕ → ℕ → ℕ
wide_at rows i = word64 rows (row_bytes * i + 2)

unfoldable pub number_at : List ℕ → ℕ → ℤ
number_at rows i = to_z w64 (wide_at rows i)

unfoldable pub low_at : List ℕ → ℕ → ℤ
low_at rows i = to_z w32 (word32 rows (row_bytes * i + 2))

unfoldable pub high_at : List ℕ → ℕ → ℤ
high_at rows i = to_z w32 (word32 rows (row_bytes * i + 6))

unfoldable pub bytes_at : List ℕ → ℕ → List ℕ
bytes_at rows i = take 8 (drop (row_bytes * i + 2) rows)

-- a name or word without the zeros after it
unfoldable pub until_zero : List ℕ → List ℕ
until_zero [] = []
until_zero (c ∷ cs) = if eqb c 0 then [] else c ∷ until_zero cs

-- ---- tables: sections ascend, and so do tables; a table's rows begin behind all lower tables' rows
-- how many i below n have the property
unfoldable pub count_below : ℕ → (ℕ → Bool) → ℕ
count_below zero p = 0
count_below (suc n) p = count_below n p + (if p n then 1 else 0)

-- a row of section 6 and kind k
unfoldable pub procedure_kind : ℕ → List ℕ → ℕ → Bool
procedure_kind k rows i = eqb (section_at rows i) procedure_section && eqb (kind_at rows i) k

-- kind 2 begins a procedure
unfoldable pub begins_procedure : List ℕ → ℕ → Bool
begins_procedure rows i = procedure_kind 2 rows i

-- the table that row i is in: its section is one, but for procedures, each of which has two, the row that begins it and its variables
unfoldable pub table_at : List ℕ → ℕ → ℕ
table_at rows i =
    if ltb (section_at rows i) procedure_section
    then section_at rows i
    else procedure_section + (2 * count_below i (λ j. begins_procedure rows j) + (if begins_procedure rows i then 1 else 0))

unfoldable pub table_start : List ℕ → ℕ → ℕ
table_start rows s = count_below (row_count rows) (λ i. ltb (table_at rows i) s)

unfoldable pub table_count : List ℕ → ℕ → ℕ
table_count rows s = count_below (row_count rows) (λ i. eqb (table_at rows i) s)

-- row r of a table, counted from the file's first row
unfoldable pub row_in : List ℕ → ℕ → ℕ → ℕ
row_in rows s r = table_start rows s + r

-- declarations and limits take two rows each
unfoldable pub pair_count : List ℕ → ℕ → ℕ
pair_count rows s = table_count rows s / 2

unfoldable pub name_row : List ℕ → ℕ → ℕ → ℕ
name_row rows s d = row_in rows s (2 * d)

unfoldable pub detail_row : List ℕ → ℕ → ℕ → ℕ
detail_row rows s d = row_in rows s (2 * d + 1)

-- ---- procedures
unfoldable pub procedure_count : List ℕ → ℕ
procedure_count rows = count_below (row_count rows) (λ i. begins_procedure rows i)

-- the row that begins procedure k
unfoldable pub header_row : List ℕ → ℕ → ℕ
header_row rows k = row_in rows (header_table k) 0

-- its body's instruction row, and its numbers of value and reference parameters
unfoldable pub body_row : List ℕ → ℕ → ℕ
body_row rows k = a_at rows (header_row rows k)

unfoldable pub value_count : List ℕ → ℕ → ℕ
value_count rows k = b_at rows (header_row rows k)

unfoldable pub reference_count : List ℕ → ℕ → ℕ
reference_count rows k = c_at rows (header_row rows k)

-- the first n groups of four bits, from the lowest
unfoldable pub groups : ℕ → ℕ → List ℕ
groups zero w = []
groups (suc n) w = w % 16 ∷ groups n (w / 16)

-- ---- kinds
-- a kind of row: its number, how many of a row's eight bytes it uses, and what row i of the rows says
pub record RowKind (R : Type 0) : Type 0 where
  pub kind : ℕ
  pub used : ℕ
  pub says : List ℕ → ℕ → R

-- a kind whose rows are read by their fields a, b, c
abbrev pub field_kind : {R : Type 0} → ℕ → ℕ → (ℕ → ℕ → ℕ → R) → RowKind R
field_kind k n f = record { kind = k; used = n; says = λ rows i. f (a_at rows i) (b_at rows i) (c_at rows i) }

unfoldable pub numbered : {R : Type 0} → ℕ → List (RowKind R) → Option (RowKind R)
numbered k [] = none
numbered k (e ∷ es) = if eqb k e.kind then some e else numbered k es

-- what row i says, where its kind is one of the table's; otherwise it is unknown
unfoldable pub said : {R : Type 0} → R → Option (RowKind R) → List ℕ → ℕ → R
said unknown none rows i = unknown
said unknown (some e) rows i = e.says rows i

-- how many bytes a row of kind k uses, and none where the table has no such kind
unfoldable pub used_of : {R : Type 0} → Option (RowKind R) → Option ℕ
used_of none = none
used_of (some e) = some e.used

-- ---- a type row
pub data TypeRow : Type 0 where
  simple_type : Body → TypeRow
  list_type : ℕ → TypeRow
  -- the attribute, then its type
  record_type : ℕ → ℕ → TypeRow
  -- the record's type, the attribute, its type
  expand_type : ℕ → ℕ → ℕ → TypeRow
  unknown_type : TypeRow

unfoldable pub type_kinds : List (RowKind TypeRow)
type_kinds =
    field_kind 1 0 (λ a b c. simple_type boolean)
    ∷ field_kind 2 0 (λ a b c. simple_type number)
    ∷ field_kind 3 0 (λ a b c. simple_type word)
    ∷ field_kind 4 2 (λ a b c. list_type a)
    ∷ field_kind 5 4 (λ a b c. record_type a b)
    ∷ field_kind 6 6 (λ a b c. expand_type a b c)
    ∷ field_kind 7 0 (λ a b c. simple_type hundredths)
    ∷ []

unfoldable pub type_at : List ℕ → ℕ → TypeRow
type_at rows i = said unknown_type (numbered (kind_at rows i) type_kinds) rows i

unfoldable pub type_row : List ℕ → ℕ → TypeRow
type_row rows r = type_at rows (row_in rows type_section r)

-- ---- an expression row, its operands given by row
-- a constant as its row has it: the eight bytes as a number without sign, as one with a sign, as they are
pub data Constant : Type 0 where
  boolean_constant : ℕ → Constant
  number_constant : ℤ → Constant
  word_constant : List ℕ → Constant
  hundredths_constant : ℤ → Constant

unfoldable pub constant_value : Constant → Composite
constant_value (boolean_constant n) = composite boolean (truth (not (eqb n 0)))
constant_value (number_constant z) = composite number (whole z)
constant_value (word_constant cs) = composite word (text (until_zero cs))
constant_value (hundredths_constant z) = composite hundredths (count z)

pub data ExpressionRow : Type 0 where
  constant_row : Constant → ExpressionRow
  variable_row : ℕ → ExpressionRow
  current_row : ExpressionRow
  unary_row : Unary → ℕ → ExpressionRow
  binary_row : Binary → ℕ → ℕ → ExpressionRow
  lazy_row : Connective → ℕ → ℕ → ExpressionRow
  choice_row : ℕ → ℕ → ℕ → ExpressionRow
  all_list_row : ℕ → ExpressionRow
  unknown_expression : ExpressionRow

-- a kind of constant
abbrev pub constant_kind : ℕ → (List ℕ → ℕ → Constant) → RowKind ExpressionRow
constant_kind k f = record { kind = k; used = 8; says = λ rows i. constant_row (f rows i) }

unfoldable pub expression_kinds : List (RowKind ExpressionRow)
expression_kinds =
    constant_kind 1 (λ rows i. boolean_constant (wide_at rows i))
    ∷ constant_kind 2 (λ rows i. number_constant (number_at rows i))
    ∷ constant_kind 3 (λ rows i. word_constant (bytes_at rows i))
    ∷ field_kind 4 2 (λ a b c. variable_row a)
    ∷ field_kind 5 4 (λ a b c. binary_row add a b)
    ∷ field_kind 6 4 (λ a b c. binary_row subtract a b)
    ∷ field_kind 7 4 (λ a b c. binary_row multiply a b)
    ∷ field_kind 8 4 (λ a b c. binary_row divide a b)
    ∷ field_kind 9 4 (λ a b c. binary_row less a b)
    ∷ field_kind 10 4 (λ a b c. binary_row equal a b)
    ∷ field_kind 11 4 (λ a b c. lazy_row conjunction a b)
    ∷ field_kind 12 4 (λ a b c. lazy_row disjunction a b)
    ∷ field_kind 13 4 (λ a b c. binary_row glue a b)
    ∷ field_kind 14 2 (λ a b c. unary_row negation a)
    ∷ field_kind 15 6 (λ a b c. choice_row a b c)
    ∷ field_kind 16 4 (λ a b c. unary_row (make_record a) b)
    ∷ field_kind 17 6 (λ a b c. binary_row (expand b) a c)
    ∷ field_kind 18 4 (λ a b c. unary_row (select b) a)
    ∷ field_kind 19 6 (λ a b c. binary_row (change b) a c)
    ∷ field_kind 20 2 (λ a b c. unary_row make_list a)
    ∷ field_kind 21 4 (λ a b c. binary_row push a b)
    ∷ field_kind 22 2 (λ a b c. unary_row top a)
    ∷ field_kind 23 2 (λ a b c. unary_row pop a)
    ∷ field_kind 24 0 (λ a b c. current_row)
    ∷ field_kind 25 2 (λ a b c. all_list_row a)
    ∷ field_kind 26 4 (λ a b c. unary_row (remove b) a)
    ∷ constant_kind 27 (λ rows i. hundredths_constant (number_at rows i))
    ∷ field_kind 28 2 (λ a b c. unary_row to_hundredths a)
    ∷ field_kind 29 2 (λ a b c. unary_row to_number a)
    ∷ []

unfoldable pub expression_at : List ℕ → ℕ → ExpressionRow
expression_at rows i = said unknown_expression (numbered (kind_at rows i) expression_kinds) rows i

unfoldable pub expression_row : List ℕ → ℕ → ExpressionRow
expression_row rows r = expression_at rows (row_in rows expression_section r)

-- the rows that an expression row uses
unfoldable pub operands : ExpressionRow → List ℕ
operands (constant_row c) = []
operands (variable_row n) = []
operands current_row = []
operands (unary_row o a) = a ∷ []
operands (binary_row o a b) = a ∷ b ∷ []
operands (lazy_row k a b) = a ∷ b ∷ []
operands (choice_row a b c) = a ∷ b ∷ c ∷ []
operands (all_list_row a) = a ∷ []
operands unknown_expression = []

-- ---- an instruction row: a variable, an error, expressions and parts, by number
pub data InstructionRow : Type 0 where
  skip_row : InstructionRow
  assign_row : ℕ → ℕ → InstructionRow
  -- the variable, then the yoke as in the marks
  set_yoke_row : ℕ → ℕ → InstructionRow
  sequence_row : ℕ → ℕ → InstructionRow
  branch_row : ℕ → ℕ → ℕ → InstructionRow
  loop_row : ℕ → ℕ → InstructionRow
  handle_row : ℕ → ℕ → InstructionRow
  -- the procedure, then the variables given by value and by reference, four bits each
  call_row : ℕ → ℕ → ℕ → InstructionRow
  unknown_instruction : InstructionRow

unfoldable pub instruction_kinds : List (RowKind InstructionRow)
instruction_kinds =
    field_kind 1 0 (λ a b c. skip_row)
    ∷ field_kind 2 4 (λ a b c. assign_row a b)
    ∷ field_kind 3 4 (λ a b c. set_yoke_row a b)
    ∷ field_kind 4 4 (λ a b c. sequence_row a b)
    ∷ field_kind 5 6 (λ a b c. branch_row a b c)
    ∷ field_kind 6 4 (λ a b c. loop_row a b)
    ∷ field_kind 7 4 (λ a b c. handle_row a b)
    ∷ field_kind 8 6 (λ a b c. call_row a b c)
    ∷ []

unfoldable pub instruction_at : List ℕ → ℕ → InstructionRow
instruction_at rows i = said unknown_instruction (numbered (kind_at rows i) instruction_kinds) rows i

unfoldable pub instruction_row : List ℕ → ℕ → InstructionRow
instruction_row rows r = instruction_at rows (row_in rows instruction_section r)

-- the instruction rows that it uses
unfoldable pub parts : InstructionRow → List ℕ
parts skip_row = []
parts (assign_row n e) = []
parts (set_yoke_row n y) = []
parts (sequence_row i j) = i ∷ j ∷ []
parts (branch_row e i j) = i ∷ j ∷ []
parts (loop_row e i) = i ∷ []
parts (handle_row n i) = i ∷ []
parts (call_row k b c) = []
parts unknown_instruction = []

-- the expression row that it evaluates outside yokes
unfoldable pub evaluated : InstructionRow → List ℕ
evaluated skip_row = []
evaluated (assign_row n e) = e ∷ []
evaluated (set_yoke_row n y) = []
evaluated (sequence_row i j) = []
evaluated (branch_row e i j) = e ∷ []
evaluated (loop_row e i) = e ∷ []
evaluated (handle_row n i) = []
evaluated (call_row k b c) = []
evaluated unknown_instruction = []

-- the expression row of a yoke as in the marks: 0 has none
unfoldable pub yoke_root : ℕ → List ℕ
yoke_root zero = []
yoke_root (suc r) = r ∷ []

-- the yoke that an instruction row sets
unfoldable pub yoke_set : InstructionRow → List ℕ
yoke_set skip_row = []
yoke_set (assign_row n e) = []
yoke_set (set_yoke_row n y) = yoke_root y
yoke_set (sequence_row i j) = []
yoke_set (branch_row e i j) = []
yoke_set (loop_row e i) = []
yoke_set (handle_row n i) = []
yoke_set (call_row k b c) = []
yoke_set unknown_instruction = []
