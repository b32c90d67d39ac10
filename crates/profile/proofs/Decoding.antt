-- What a decoded row says where its kind is known and its attributes fit. Assumes nothing.
use mathlib.Core.Path.{◌≡◌, refl, sym, ap, ◌∙◌}
use mathlib.Core.Bool.{Bool, true, false}
use mathlib.Core.List.{List, [], ◌∷◌}
use mathlib.Core.Option.{Option, some, none}
use Rattle.std.specs.Prelude.{Some, None}
use Prim.Native.Nat.{ℕ, ◌+◌, ◌<◌}
use native.Mathlib.Omega.{arith}
use Rattle.lingua.specs.Numbers.{expression_section, instruction_section, attribute_numbers}
use Rattle.lingua.specs.Operation.{Unary, Binary}
use Rattle.lingua.specs.Rows.{row_in, ExpressionRow, constant_row, variable_row, current_row, unary_row, binary_row, lazy_row, choice_row, all_list_row, unknown_expression, expression_row, instruction_at, instruction_row}
use Rattle.lingua.specs.Rules.{attributes_fit, expression_attributes}
use Rattle.laws.specs.Outcomes.{false_is_true}
use Rattle.decoder.specs.Tables.{IsTable}
use Rattle.decoder.specs.Decoded.{byte, Naming, names_none, names_one_lem, unary_naming, binary_naming, renamed, expression_meaning, unary_in_bytes, binary_in_bytes, in_bytes, ExpressionSays, instruction_meaning, decoded, uses, InstructionSays}
use Rattle.decoder.specs.declared.tables.Table.{Table}
use Rattle.decoder.specs.declared.decode.ExpressionRow.{ExpressionRow as CodeRow}
use Rattle.decoder.specs.declared.decode.InstructionRow.{InstructionRow as CodeInstruction}
use Rattle.decoder.proofs.Decoding.{place}
use Rattle.rules.proofs.TypeRows.{one_fits}
use Rattle.profile.specs.Row.{KnownExpression, KnownInstruction, RowSays}

-- ---- attributes that fit are bytes
byte_same : (n : ℕ) → attributes_fit (n ∷ []) ≡ true → byte n ≡ n
byte_same n e = let l : n < attribute_numbers = one_fits n e in omega arith

renamed_same : {O : Type 0} {attributes : O → List ℕ} {o : O} (w : Naming attributes o) → attributes_fit (attributes o) ≡ true → renamed w ≡ o
renamed_same (names_none e) h = refl
renamed_same (names_one_lem f n e) h = ap f (byte_same n (ap (λ (l : List ℕ). attributes_fit l) (sym (e n)) ∙ h))

row_same : (row : ExpressionRow) → attributes_fit (expression_attributes row) ≡ true → in_bytes row ≡ row
unfolding expression_attributes in_bytes unary_in_bytes binary_in_bytes
row_same (constant_row c) e = refl
row_same (variable_row n) e = refl
row_same current_row e = refl
row_same (unary_row o a) e = ap (λ (p : Unary). unary_row p a) (renamed_same (unary_naming o) e)
row_same (binary_row o a b) e = ap (λ (p : Binary). binary_row p a b) (renamed_same (binary_naming o) e)
row_same (lazy_row k a b) e = refl
row_same (choice_row a b c) e = refl
row_same (all_list_row a) e = refl
row_same unknown_expression e = refl

-- ---- a row of a table
no_bytes : {n : ℕ} {o : Option ℕ} → none ≡ o → o ≡ some n → ⊥
no_bytes {n} p q = false_is_true (ap is_some_lem (p ∙ q))
  where
    is_some_lem : Option ℕ → Bool
    is_some_lem none = false
    is_some_lem (some m) = true

module _ (rows : List ℕ) (t : Table) (r : ℕ) (h : IsTable rows expression_section t) where
  pub expression_says : {n : ℕ} {row : CodeRow} → ExpressionSays rows (t.start + r) (Some (n, row)) → KnownExpression rows r → RowSays rows r row
  unfolding decoded expression_row
  expression_says {n} {row} s k =
      let p : expression_meaning rows (row_in rows expression_section r) row ≡ in_bytes (expression_row rows r) = rw (← place rows expression_section t r h) s.says in
      record { says = p ∙ row_same (expression_row rows r) k.attributes }

  pub expression_not_unknown : ExpressionSays rows (t.start + r) None → KnownExpression rows r → ⊥
  unfolding uses
  expression_not_unknown s k = no_bytes {n = k.kind.bytes} s.uses (rw (place rows expression_section t r h) k.kind.is)

module _ (rows : List ℕ) (t : Table) (r : ℕ) (h : IsTable rows instruction_section t) where
  pub instruction_says : {n : ℕ} {row : CodeInstruction} → InstructionSays rows (t.start + r) (Some (n, row)) → instruction_meaning row ≡ instruction_row rows r
  unfolding decoded instruction_row
  instruction_says s = s.says ∙ ap (instruction_at rows) (place rows instruction_section t r h)

  pub instruction_not_unknown : InstructionSays rows (t.start + r) None → KnownInstruction rows r → ⊥
  unfolding uses
  instruction_not_unknown s k = no_bytes {n = k.kind.bytes} s.uses (rw (place rows instruction_section t r h) k.kind.is)
