-- What decoding a row by its kind gives: a known kind's arm says what the table has for it, and where no arm's kind is the row's, the
-- table has none. What a decoded row names is what the row names, but for attributes above a byte. Assumes nothing.
use mathlib.Core.Path.{◌≡◌, refl, sym, ap, ◌∙◌, subst}
use mathlib.Core.Logic.{◌≢◌, ⊎_elim}
use mathlib.Core.Bool.{Bool, true, ◌&&◌}
use mathlib.Core.List.{List, [], ◌∷◌}
use mathlib.Core.Option.{Option as Maybe, some, none}
use Rattle.std.specs.Prelude.{None}
use Prim.Native.Nat.{ℕ, ◌+◌, ◌<◌, ◌≤◌}
use native.Mathlib.Omega.{arith}
use lib.Dec.{ltb}
use borrow.Author.Tests.{ne_eqb, lt-ltb, le-ltb}
use Rattle.lingua.specs.Value.{all_of}
use Rattle.lingua.specs.Operation.{Unary, Binary}
use Rattle.lingua.specs.Rows.{TypeRow, InstructionRow, unknown_type, unknown_instruction, parts, evaluated, yoke_set, kind_at, a_at, b_at, c_at, row_in, RowKind, numbered, said, used_of, ExpressionRow, constant_row, variable_row, current_row, unary_row, binary_row, lazy_row, choice_row, all_list_row, unknown_expression, operands}
use Rattle.lingua.specs.Rules.{row_constant_fits, attributes_fit, type_attributes, expression_attributes, handled_errors}
use Rattle.lingua.specs.References.{type_parts, expression_variables, instruction_variables, on_call}
use Rattle.decoder.specs.Tables.{IsTable}
use Rattle.decoder.specs.Reads.{reads_row}
use Rattle.decoder.specs.Decoded.{byte, Naming, names_none, names_one_lem, unary_naming, binary_naming, renamed, Decoded, decoded, uses, Says, unary_in_bytes, binary_in_bytes, in_bytes, type_meaning, expression_meaning, instruction_meaning}
use Rattle.decoder.specs.Mentions.{TypeAlike, ExpressionAlike, InstructionAlike}
use Rattle.decoder.specs.declared.decode.Simple.TheVariants as simple
use Rattle.decoder.specs.declared.decode.TypeRow.{TypeRow as CodeType}
use Rattle.decoder.specs.declared.decode.TypeRow.TheVariants as type
use Rattle.decoder.specs.declared.decode.ExpressionRow.{ExpressionRow as CodeRow}
use Rattle.decoder.specs.declared.decode.ExpressionRow.TheVariants as code
use Rattle.decoder.specs.declared.decode.InstructionRow.{InstructionRow as CodeInstruction}
use Rattle.decoder.specs.declared.decode.InstructionRow.TheVariants as does
use Rattle.decoder.specs.declared.tables.Table.{Table}
use Rattle.decoder.proofs.Counting.{order}

-- ---- a table's kinds
-- a number that no kind of a table has, as a match tells it where no arm is taken: the last arm's outermost, and B before the first
abbrev pub Apart : {R : Type 0} → Type 0 → ℕ → List (RowKind R) → Type 0
Apart B k [] = B
Apart B k (e ∷ es) = Apart (B × (k ≢ e.kind)) k es

apart_before : {R : Type 0} (B : Type 0) (k : ℕ) (kinds : List (RowKind R)) → Apart B k kinds → B
apart_before B k [] h = h
apart_before B k (e ∷ es) h = (apart_before (B × (k ≢ e.kind)) k es h).0

none_numbered : {R : Type 0} (B : Type 0) (k : ℕ) (kinds : List (RowKind R)) → Apart B k kinds → numbered k kinds ≡ none
unfolding numbered
none_numbered B k [] h = refl
none_numbered B k (e ∷ es) h = rw (ne_eqb k e.kind (apart_before (B × (k ≢ e.kind)) k es h).1) (none_numbered (B × (k ≢ e.kind)) k es h)

-- ---- an arm of the decoder: D is what it gives for the fields a, b, c
module _ (rows : List ℕ) (i k a b c : ℕ) (ek : k ≡ kind_at rows i) (ea : a ≡ a_at rows i) (eb : b ≡ b_at rows i) (ec : c ≡ c_at rows i)
    {C R : Type 0} (unknown : R) (meaning : C → R) (shown : R → R) (kinds : List (RowKind R)) where
  -- row i as the table's kinds have it
  abbrev row_said : R
  row_said = shown (said unknown (numbered (kind_at rows i) kinds) rows i)

  abbrev IsSaid : Decoded C → Type 0
  IsSaid d = Says unknown meaning row_said (used_of (numbered (kind_at rows i) kinds)) d

  by_fields : (d : ℕ → ℕ → ℕ → Decoded C) → IsSaid (d (a_at rows i) (b_at rows i) (c_at rows i)) → IsSaid (d a b c)
  by_fields d h = rw (ea, eb, ec) h

  pub known_arm : (n : ℕ) (x : RowKind R) (d : ℕ → ℕ → ℕ → Decoded C) → k ≡ n → numbered n kinds ≡ some x
      → decoded unknown meaning (d (a_at rows i) (b_at rows i) (c_at rows i)) ≡ shown (x.says rows i) → uses (d (a_at rows i) (b_at rows i) (c_at rows i)) ≡ some x.used → IsSaid (d a b c)
  unfolding said used_of
  known_arm n x d e q s u =
      let m : kind_at rows i ≡ n = sym ek ∙ e in
      by_fields d (record { says = rw (m, q) s; uses = rw (m, q) u })

-- ---- where no arm's kind is the row's
pub unknown_arm : (rows : List ℕ) (i k : ℕ) (ek : k ≡ kind_at rows i) {C R : Type 0} (unknown : R) (meaning : C → R) (shown : R → R) (kinds : List (RowKind R)) → unknown ≡ shown unknown → (B : Type 0) → Apart B k kinds
    → Says unknown meaning (shown (said unknown (numbered (kind_at rows i) kinds) rows i)) (used_of (numbered (kind_at rows i) kinds)) None
unfolding said used_of decoded uses
unknown_arm rows i k ek unknown meaning shown kinds same B h =
    let q : numbered (kind_at rows i) kinds ≡ none = rw (← ek) (none_numbered B k kinds h) in
    record { says = rw q same; uses = rw q }

-- ---- what is said of a row that does not depend on how far its attributes go
module _ {X : Type 0} (F : ExpressionRow → X) (unary : (o : Unary) (a : ℕ) → F (unary_row (unary_in_bytes o) a) ≡ F (unary_row o a))
    (binary : (o : Binary) (a b : ℕ) → F (binary_row (binary_in_bytes o) a b) ≡ F (binary_row o a b)) where
  in_bytes_lem : (row : ExpressionRow) → F (in_bytes row) ≡ F row
  unfolding in_bytes
  in_bytes_lem (constant_row c) = refl
  in_bytes_lem (variable_row n) = refl
  in_bytes_lem current_row = refl
  in_bytes_lem (unary_row o a) = unary o a
  in_bytes_lem (binary_row o a b) = binary o a b
  in_bytes_lem (lazy_row k a b) = refl
  in_bytes_lem (choice_row a b c) = refl
  in_bytes_lem (all_list_row a) = refl
  in_bytes_lem unknown_expression = refl

pub operands_in_bytes : (row : ExpressionRow) → operands (in_bytes row) ≡ operands row
unfolding operands
operands_in_bytes = in_bytes_lem operands (λ o a. refl) (λ o a b. refl)

pub variables_in_bytes : (row : ExpressionRow) → expression_variables (in_bytes row) ≡ expression_variables row
unfolding expression_variables
variables_in_bytes = in_bytes_lem expression_variables (λ o a. refl) (λ o a b. refl)

pub constant_in_bytes : (row : ExpressionRow) → row_constant_fits (in_bytes row) ≡ row_constant_fits row
unfolding row_constant_fits
constant_in_bytes = in_bytes_lem row_constant_fits (λ o a. refl) (λ o a b. refl)

pub reads_in_bytes : (v : Bool) (row : ExpressionRow) → reads_row v (in_bytes row) ≡ reads_row v row
unfolding reads_row
reads_in_bytes v = in_bytes_lem (reads_row v) (λ o a. refl) (λ o a b. refl)

-- an attribute is below 64, or it is not and its byte is not either
byte_fits : (n : ℕ) → attributes_fit (byte n ∷ []) ≡ attributes_fit (n ∷ [])
unfolding all_of
byte_fits n = ap (λ (b : Bool). b && true) (⊎_elim (λ l. below l) (λ q. above (⊎_elim (λ e. omega arith) (λ l. omega arith) q)) (order n 64))
  where
    below : n < 64 → ltb (byte n) 64 ≡ ltb n 64
    below l = lt-ltb (byte n) 64 (omega arith) ∙ sym (lt-ltb n 64 l)

    above : 64 ≤ n → ltb (byte n) 64 ≡ ltb n 64
    above l = le-ltb (byte n) 64 (omega arith) ∙ sym (le-ltb n 64 l)

-- so an operation's attribute fits exactly where its byte does
renamed_fits : {O : Type 0} {attributes : O → List ℕ} {o : O} (w : Naming attributes o) → attributes_fit (attributes (renamed w)) ≡ attributes_fit (attributes o)
renamed_fits (names_none e) = refl
renamed_fits (names_one_lem f n e) = rw (e (byte n), e n) (byte_fits n)

pub attributes_in_bytes : (row : ExpressionRow) → attributes_fit (expression_attributes (in_bytes row)) ≡ attributes_fit (expression_attributes row)
unfolding expression_attributes unary_in_bytes binary_in_bytes
attributes_in_bytes =
    in_bytes_lem (λ row. attributes_fit (expression_attributes row)) (λ o a. renamed_fits (unary_naming o)) (λ o a b. renamed_fits (binary_naming o))

-- ---- a row of a table
pub place : (rows : List ℕ) (s : ℕ) (t : Table) (r : ℕ) → IsTable rows s t → t.start + r ≡ row_in rows s r
unfolding row_in
place rows s t r h = rw (← h.start)

-- what was decoded there means what the definitions have for the table's row
pub row_decoded : {C R : Type 0} {unknown : R} {meaning : C → R} {used : Maybe ℕ} {d : Decoded C} {i j : ℕ} (at : ℕ → R) → i ≡ j → Says unknown meaning (at i) used d → decoded unknown meaning d ≡ at j
row_decoded at e s = s.says ∙ ap at e

-- ---- what a decoded row names: an unknown row is taken for one that names nothing
pub type_alike : {row : CodeType} {x : TypeRow} → type_meaning row ≡ x → TypeAlike row x
type_alike e = record { attributes = ap type_attributes e; parts = ap type_parts e }

pub no_type_alike : {x : TypeRow} → unknown_type ≡ x → TypeAlike (type.Simple simple.Boolean) x
unfolding type_attributes type_parts type_meaning
no_type_alike {x} e = subst (λ y. TypeAlike (type.Simple simple.Boolean) y) e (record { attributes = refl; parts = refl })

pub instruction_alike : {row : CodeInstruction} {x : InstructionRow} → instruction_meaning row ≡ x → InstructionAlike row x
instruction_alike e =
    record {
      handled = ap handled_errors e;
      parts = ap parts e;
      evaluated = ap evaluated e;
      assigned = ap instruction_variables e;
      yoke = ap yoke_set e;
      calls = λ f. ap (λ y. on_call y f) e;
    }

pub no_instruction_alike : {x : InstructionRow} → unknown_instruction ≡ x → InstructionAlike does.Skip x
unfolding handled_errors parts evaluated instruction_variables yoke_set instruction_meaning
no_instruction_alike {x} e =
    subst (λ y. InstructionAlike does.Skip y) e (record { handled = refl; parts = refl; evaluated = refl; assigned = refl; yoke = refl; calls = λ f. refl })

pub expression_alike : {rows : List ℕ} {i : ℕ} {row : CodeRow} {x : ExpressionRow} → expression_meaning rows i row ≡ in_bytes x → ExpressionAlike rows i row x
expression_alike {rows} {i} {row} {x} e =
    record {
      operands = ap operands e ∙ operands_in_bytes x;
      attributes = ap (λ y. attributes_fit (expression_attributes y)) e ∙ attributes_in_bytes x;
      variables = ap expression_variables e ∙ variables_in_bytes x;
      reads = λ v. ap (reads_row v) e ∙ reads_in_bytes v x;
    }

pub no_expression_alike : {rows : List ℕ} {i : ℕ} {x : ExpressionRow} → unknown_expression ≡ in_bytes x → ExpressionAlike rows i (code.Constant simple.Boolean) x
unfolding operands expression_attributes expression_variables reads_row expression_meaning
no_expression_alike {rows} {i} {x} e =
    record {
      operands = ap operands e ∙ operands_in_bytes x;
      attributes = ap (λ y. attributes_fit (expression_attributes y)) e ∙ attributes_in_bytes x;
      variables = ap expression_variables e ∙ variables_in_bytes x;
      reads = λ v. ap (reads_row v) e ∙ reads_in_bytes v x;
    }
