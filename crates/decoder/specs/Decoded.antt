-- What the code's rows mean, and when they say what the definitions do. Assumes nothing: these are definitions.
use Rattle.std.specs.Prelude.{◌≡◌, refl, Bool, true, false, List, [], ◌∷◌, ℕ, min, Option, Some, None}
use Rattle.std.proofs.Math.Option.{Option as Maybe, some, none}
use Rattle.lingua.specs.Body.{Body, boolean, number, word, hundredths}
use Rattle.lingua.specs.Operation.{Unary, negation, make_record, select, make_list, top, pop, remove, to_hundredths, to_number, Binary, add, subtract, multiply, divide, less, equal, glue, expand, change, push}
use Rattle.lingua.specs.Operations.{unary_meaning, binary_meaning}
use Rattle.lingua.specs.Expression.{Connective, conjunction, disjunction}
use Rattle.lingua.specs.Rows.{kind_at, wide_at, number_at, bytes_at, numbered, used_of, TypeRow, simple_type, list_type, record_type, expand_type, unknown_type, type_kinds, type_at, Constant, boolean_constant, number_constant, word_constant, hundredths_constant, ExpressionRow, constant_row, variable_row, current_row, unary_row, binary_row, lazy_row, choice_row, all_list_row, unknown_expression, expression_kinds, expression_at, InstructionRow, skip_row, assign_row, set_yoke_row, sequence_row, branch_row, loop_row, handle_row, call_row, unknown_instruction, instruction_kinds, instruction_at}
use Rattle.lingua.specs.Rules.{unary_attribute, binary_attribute}
use Rattle.decoder.specs.declared.decode.Simple.{Simple}
use Rattle.decoder.specs.declared.decode.Simple.TheVariants as simple
use Rattle.decoder.specs.declared.decode.TypeRow.{TypeRow as CodeType}
use Rattle.decoder.specs.declared.decode.TypeRow.TheVariants as type
use Rattle.decoder.specs.declared.decode.ExpressionRow.{ExpressionRow as CodeRow}
use Rattle.decoder.specs.declared.decode.ExpressionRow.TheVariants as code
use Rattle.decoder.specs.declared.decode.InstructionRow.{InstructionRow as CodeInstruction}
use Rattle.decoder.specs.declared.decode.InstructionRow.TheVariants as does

-- ---- what was decoded: nothing where the kind is unknown, else the bytes that the row uses, and the row
abbrev pub Decoded : Type 0 → Type 0
Decoded C = Option (ℕ × C)

-- the row that it means
unfoldable pub decoded : {C R : Type 0} → R → (C → R) → Decoded C → R
decoded unknown meaning None = unknown
decoded unknown meaning (Some d) = meaning d.1

-- the bytes that it uses
unfoldable pub uses : {C : Type 0} → Decoded C → Maybe ℕ
uses None = none
uses (Some d) = some d.0

-- it means a row, and uses what rows of its kind do
pub record Says {C R : Type 0} (unknown : R) (meaning : C → R) (row : R) (used : Maybe ℕ) (d : Decoded C) : Type 0 where
  pub says : decoded unknown meaning d ≡ row
  pub uses : uses d ≡ used

-- ---- types
unfoldable pub simple_meaning : Simple → Body
simple_meaning simple.Boolean = boolean
simple_meaning simple.Number = number
simple_meaning simple.Word = word
simple_meaning simple.Hundredths = hundredths

unfoldable pub type_meaning : CodeType → TypeRow
type_meaning (type.Simple s) = simple_type (simple_meaning s)
type_meaning (type.List a) = list_type a
type_meaning (type.Record n a) = record_type n a
type_meaning (type.Expand a n b) = expand_type a n b

-- row i of the rows is what was decoded, and uses its bytes
abbrev pub TypeSays : List ℕ → ℕ → Decoded CodeType → Type 0
TypeSays rows i d = Says unknown_type type_meaning (type_at rows i) (used_of (numbered (kind_at rows i) type_kinds)) d

-- ---- expressions
abbrev pub connective : Bool → Connective
connective false = conjunction
connective true = disjunction

-- a constant's bytes are those of row i
unfoldable pub constant_meaning : List ℕ → ℕ → Simple → Constant
constant_meaning rows i simple.Boolean = boolean_constant (wide_at rows i)
constant_meaning rows i simple.Number = number_constant (number_at rows i)
constant_meaning rows i simple.Word = word_constant (bytes_at rows i)
constant_meaning rows i simple.Hundredths = hundredths_constant (number_at rows i)

unfoldable pub expression_meaning : List ℕ → ℕ → CodeRow → ExpressionRow
expression_meaning rows i (code.Constant s) = constant_row (constant_meaning rows i s)
expression_meaning rows i (code.Variable n) = variable_row n
expression_meaning rows i code.Current = current_row
expression_meaning rows i (code.Unary o a) = unary_row (unary_meaning o) a
expression_meaning rows i (code.Binary o a b) = binary_row (binary_meaning o) a b
expression_meaning rows i (code.Lazy t a b) = lazy_row (connective t) a b
expression_meaning rows i (code.Choice a b c) = choice_row a b c
expression_meaning rows i (code.AllList a) = all_list_row a

-- an attribute takes a byte of the code's row: what is above is 255, and no more an attribute than before
abbrev pub byte : ℕ → ℕ
byte n = min n 255

-- an operation names no attribute, or one: with any other in its place it names that other
pub data Naming {O : Type 0} (attributes : O → List ℕ) : O → Type 0 where
  names_none : {o : O} → attributes o ≡ [] → Naming attributes o
  names_one_lem : (f : ℕ → O) (n : ℕ) → ((m : ℕ) → attributes (f m) ≡ m ∷ []) → Naming attributes (f n)

unfoldable pub unary_naming : (o : Unary) → Naming unary_attribute o
unfolding unary_attribute
unary_naming negation = names_none refl
unary_naming (make_record n) = names_one_lem make_record n (λ m. refl)
unary_naming (select n) = names_one_lem select n (λ m. refl)
unary_naming make_list = names_none refl
unary_naming top = names_none refl
unary_naming pop = names_none refl
unary_naming (remove n) = names_one_lem remove n (λ m. refl)
unary_naming to_hundredths = names_none refl
unary_naming to_number = names_none refl

unfoldable pub binary_naming : (o : Binary) → Naming binary_attribute o
unfolding binary_attribute
binary_naming add = names_none refl
binary_naming subtract = names_none refl
binary_naming multiply = names_none refl
binary_naming divide = names_none refl
binary_naming less = names_none refl
binary_naming equal = names_none refl
binary_naming glue = names_none refl
binary_naming (expand n) = names_one_lem expand n (λ m. refl)
binary_naming (change n) = names_one_lem change n (λ m. refl)
binary_naming push = names_none refl

-- the operation with its attribute's byte
abbrev pub renamed : {O : Type 0} {attributes : O → List ℕ} {o : O} → Naming attributes o → O
renamed (names_none {o} e) = o
renamed (names_one_lem f n e) = f (byte n)

unfoldable pub unary_in_bytes : Unary → Unary
unary_in_bytes o = renamed (unary_naming o)

unfoldable pub binary_in_bytes : Binary → Binary
binary_in_bytes o = renamed (binary_naming o)

unfoldable pub in_bytes : ExpressionRow → ExpressionRow
in_bytes (constant_row c) = constant_row c
in_bytes (variable_row n) = variable_row n
in_bytes current_row = current_row
in_bytes (unary_row o a) = unary_row (unary_in_bytes o) a
in_bytes (binary_row o a b) = binary_row (binary_in_bytes o) a b
in_bytes (lazy_row k a b) = lazy_row k a b
in_bytes (choice_row a b c) = choice_row a b c
in_bytes (all_list_row a) = all_list_row a
in_bytes unknown_expression = unknown_expression

abbrev pub ExpressionSays : List ℕ → ℕ → Decoded CodeRow → Type 0
ExpressionSays rows i d = Says unknown_expression (expression_meaning rows i) (in_bytes (expression_at rows i)) (used_of (numbered (kind_at rows i) expression_kinds)) d

-- ---- instructions
unfoldable pub instruction_meaning : CodeInstruction → InstructionRow
instruction_meaning does.Skip = skip_row
instruction_meaning (does.Assign n e) = assign_row n e
instruction_meaning (does.SetYoke n y) = set_yoke_row n y
instruction_meaning (does.Sequence i j) = sequence_row i j
instruction_meaning (does.Branch e i j) = branch_row e i j
instruction_meaning (does.Loop e i) = loop_row e i
instruction_meaning (does.Handle n i) = handle_row n i
instruction_meaning (does.Call k b c) = call_row k b c

abbrev pub InstructionSays : List ℕ → ℕ → Decoded CodeInstruction → Type 0
InstructionSays rows i d = Says unknown_instruction instruction_meaning (instruction_at rows i) (used_of (numbered (kind_at rows i) instruction_kinds)) d
