-- Which constant a row has, its composite and its cell. Assumes nothing.
use mathlib.Core.Path.{◌≡◌, refl, sym, ap, ◌∙◌, subst}
use mathlib.Core.Logic.{◌≢◌}
use mathlib.Core.Bool.{Bool, true, false, not}
use mathlib.Core.List.{List, [], ◌∷◌}
use Rattle.std.specs.Prelude.{Some, None}
use Prim.Native.Nat.{ℕ, ◌+◌}
use native.Mathlib.Omega.{arith}
use lib.Dec.{leb}
use lib.ListN.{length}
use lib.IntN.{ℤ, pos}
use mir.Syntax.{w64}
use mir.Val.{to_z}
use borrow.Author.Tests.{eq-eqb, ne_eqb}
use Rattle.lingua.specs.Numbers.{expression_section, word_length, body_bytes}
use Rattle.lingua.specs.Body.{Body, boolean, number, word, hundredths, size, nodes}
use Rattle.lingua.specs.Value.{as_truth, as_whole, as_text, is_character, is_text, bit, packed, cells_of, pad, Composite}
use Rattle.lingua.specs.Encode.{bytes, encoded}
use Rattle.lingua.specs.Rows.{wide_at, number_at, bytes_at, until_zero, constant_value, ExpressionRow, constant_row, variable_row, current_row, unary_row, binary_row, lazy_row, choice_row, all_list_row, unknown_expression, expression_at, expression_row}
use Rattle.lingua.specs.Rules.{padded_by, constant_fits, row_constant_fits}
use Rattle.laws.specs.Outcomes.{and_right, false_is_true}
use Rattle.laws.specs.Sound.{fit_word}
use Rattle.body.specs.Encode.{Holds}
use Rattle.safety.specs.Constants.{Fitting}
use Rattle.decoder.specs.Tables.{IsTable}
use Rattle.decoder.specs.Decoded.{simple_meaning, constant_meaning, expression_meaning, Decoded, decoded, in_bytes, ExpressionSays}
use Rattle.decoder.specs.declared.tables.Table.{Table}
use Rattle.decoder.specs.declared.decode.Simple.{Simple}
use Rattle.decoder.specs.declared.decode.Simple.TheVariants as simple
use Rattle.decoder.specs.declared.decode.ExpressionRow.{ExpressionRow as CodeRow}
use Rattle.profile.specs.Row.{value_of, constant_of}
use Rattle.profile.specs.Constants.{SimpleIn, ConstantSays, ConstantRow, IsCell}
use Rattle.decoder.proofs.Decoding.{place}

-- ---- which constant a row has
unfoldable pub is_constant : ExpressionRow → Bool
is_constant (constant_row c) = true
is_constant (variable_row n) = false
is_constant current_row = false
is_constant (unary_row o a) = false
is_constant (binary_row o a b) = false
is_constant (lazy_row k a b) = false
is_constant (choice_row a b c) = false
is_constant (all_list_row a) = false
is_constant unknown_expression = false

body_is : (rows : List ℕ) (i : ℕ) (k : Simple) → (constant_value (constant_meaning rows i k)).body ≡ simple_meaning k
unfolding constant_value constant_meaning simple_meaning
body_is rows i simple.Boolean = refl
body_is rows i simple.Number = refl
body_is rows i simple.Word = refl
body_is rows i simple.Hundredths = refl

pub simple_constant : (rows : List ℕ) (i : ℕ) (s : Simple) → SimpleIn (constant_row (constant_meaning rows i s)) rows i s
unfolding value_of
simple_constant rows i s = record { body = body_is rows i s; says = λ c e. refl }

pub simple_none : (row : ExpressionRow) (rows : List ℕ) (i : ℕ) → (value_of row).body ≡ boolean → is_constant row ≡ false → SimpleIn row rows i simple.Boolean
unfolding simple_meaning is_constant
simple_none row rows i v n = record { body = v; says = λ c e. false_is_true (sym n ∙ ap is_constant e) }

-- how far attributes go does not matter
simple_in_bytes : (row : ExpressionRow) (rows : List ℕ) (i : ℕ) (s : Simple) → SimpleIn (in_bytes row) rows i s → SimpleIn row rows i s
unfolding in_bytes value_of is_constant
simple_in_bytes (constant_row c) rows i s h = h
simple_in_bytes (variable_row n) rows i s h = h
simple_in_bytes current_row rows i s h = h
simple_in_bytes (unary_row o a) rows i s h = record { body = h.body; says = λ c e. false_is_true (ap is_constant e) }
simple_in_bytes (binary_row o a b) rows i s h = record { body = h.body; says = λ c e. false_is_true (ap is_constant e) }
simple_in_bytes (lazy_row k a b) rows i s h = h
simple_in_bytes (choice_row a b c) rows i s h = h
simple_in_bytes (all_list_row a) rows i s h = h
simple_in_bytes unknown_expression rows i s h = h

module _ (rows : List ℕ) (t : Table) (r : ℕ) (h : IsTable rows expression_section t) where
  simple_at : (d : Decoded CodeRow) (s : Simple) → ExpressionSays rows (t.start + r) d → SimpleIn (decoded unknown_expression (expression_meaning rows (t.start + r)) d) rows (t.start + r) s → ConstantSays rows r s
  unfolding ConstantSays expression_row
  simple_at d s e q =
      let p : SimpleIn (in_bytes (expression_at rows (t.start + r))) rows (t.start + r) s = subst (λ (x : ExpressionRow). SimpleIn x rows (t.start + r) s) e.says q in
      subst (λ (i : ℕ). SimpleIn (expression_at rows i) rows i s) (place rows expression_section t r h) (simple_in_bytes (expression_at rows (t.start + r)) rows (t.start + r) s p)

  pub simple_unknown : ExpressionSays rows (t.start + r) None → ConstantSays rows r simple.Boolean
  unfolding decoded value_of is_constant
  simple_unknown e = simple_at None simple.Boolean e (simple_none unknown_expression rows (t.start + r) refl refl)

  pub simple_known : {n : ℕ} {row : CodeRow} (s : Simple) → ExpressionSays rows (t.start + r) (Some (n, row)) → SimpleIn (expression_meaning rows (t.start + r) row) rows (t.start + r) s → ConstantSays rows r s
  unfolding decoded
  simple_known {n} {row} s e q = simple_at (Some (n, row)) s e q

  -- ---- its composite
  module _ (s : Simple) (says : ConstantSays rows r s) where
    row_is : ConstantRow rows r → expression_row rows r ≡ constant_row (constant_meaning rows (t.start + r) s)
    unfolding ConstantSays
    row_is row = says.says row.constant row.is ∙ ap (λ (i : ℕ). constant_row (constant_meaning rows i s)) (sym (place rows expression_section t r h))

    value_is : (k : Simple) → s ≡ k → ConstantRow rows r → constant_of rows r ≡ constant_value (constant_meaning rows (t.start + r) k)
    unfolding constant_of value_of
    value_is k e row = ap value_of (row_is row) ∙ ap (λ (j : Simple). constant_value (constant_meaning rows (t.start + r) j)) e

    cell_is : (z : ℤ) (x : Composite) → constant_of rows r ≡ x → cells_of x.body x.value ≡ z ∷ [] → IsCell z (constant_of rows r)
    cell_is z x q k = record { is = ap (λ (y : Composite). cells_of y.body y.value) q ∙ k }

    pub cell_false : (n : ℕ) → s ≡ simple.Boolean → n ≡ wide_at rows (t.start + r) → n ≡ 0 → ConstantRow rows r → IsCell (pos 0) (constant_of rows r)
    unfolding cells_of as_truth constant_value constant_meaning
    cell_false n p q z row =
        cell_is (pos 0) _ (value_is simple.Boolean p row) (ap (λ (u : Bool). bit (not u) ∷ []) (eq-eqb (wide_at rows (t.start + r)) 0 (sym q ∙ z)))

    pub cell_true : (n : ℕ) → s ≡ simple.Boolean → n ≡ wide_at rows (t.start + r) → n ≢ 0 → ConstantRow rows r → IsCell (pos 1) (constant_of rows r)
    unfolding cells_of as_truth constant_value constant_meaning
    cell_true n p q z row =
        cell_is (pos 1) _ (value_is simple.Boolean p row) (ap (λ (u : Bool). bit (not u) ∷ []) (ne_eqb (wide_at rows (t.start + r)) 0 (λ w. z (q ∙ w))))

    pub cell_number : (n : ℕ) (z : ℤ) → s ≡ simple.Number → n ≡ wide_at rows (t.start + r) → z ≡ to_z w64 n → ConstantRow rows r → IsCell z (constant_of rows r)
    unfolding cells_of as_whole number_at constant_value constant_meaning
    cell_number n z p q k row =
        cell_is z _ (value_is simple.Number p row) (ap (λ (y : ℤ). y ∷ []) (ap (λ (m : ℕ). to_z w64 m) (sym q) ∙ sym k))

    pub cell_count : (n : ℕ) (z : ℤ) → s ≡ simple.Hundredths → n ≡ wide_at rows (t.start + r) → z ≡ to_z w64 n → ConstantRow rows r → IsCell z (constant_of rows r)
    unfolding cells_of as_whole number_at constant_value constant_meaning
    cell_count n z p q k row =
        cell_is z _ (value_is simple.Hundredths p row) (ap (λ (y : ℤ). y ∷ []) (ap (λ (m : ℕ). to_z w64 m) (sym q) ∙ sym k))

    pub cell_word : (cs : List ℕ) (z : ℤ) → s ≡ simple.Word → cs ≡ bytes_at rows (t.start + r) → z ≡ packed (until_zero cs) → ConstantRow rows r → IsCell z (constant_of rows r)
    unfolding cells_of as_text constant_value constant_meaning
    cell_word cs z p k w row =
        cell_is z _ (value_is simple.Word p row) (ap (λ (y : ℤ). y ∷ []) (ap (λ (l : List ℕ). packed (until_zero l)) (sym k) ∙ sym w))

    -- ---- what a word's row has
    pub word_text : (cs : List ℕ) → s ≡ simple.Word → cs ≡ bytes_at rows (t.start + r) → ConstantRow rows r → is_text (until_zero cs) ≡ true
    unfolding as_text constant_value constant_meaning
    word_text cs p k row =
        ap (λ (l : List ℕ). is_text (until_zero l)) k ∙ fit_word (subst Fitting (value_is simple.Word p row) row.fits)

    pub word_padded : (cs : List ℕ) → s ≡ simple.Word → cs ≡ bytes_at rows (t.start + r) → ConstantRow rows r → padded_by is_character cs ≡ true
    unfolding constant_fits row_constant_fits constant_meaning
    word_padded cs p k row =
        let f : row_constant_fits (expression_row rows r) ≡ true = ap row_constant_fits row.is ∙ row.bytes_fit_lem in
        let g : row_constant_fits (constant_row (constant_meaning rows (t.start + r) simple.Word)) ≡ true =
        ap (λ (j : Simple). row_constant_fits (constant_row (constant_meaning rows (t.start + r) j))) (sym p) ∙ (ap row_constant_fits (sym (row_is row)) ∙ f) in
        ap (padded_by is_character) k ∙ and_right (leb (length (bytes_at rows (t.start + r))) word_length) (padded_by is_character (bytes_at rows (t.start + r))) g

-- ---- bodies
module _ (rows : List ℕ) (r : ℕ) (s : Simple) (says : ConstantSays rows r s) where
  held : (k : Simple) (b : Body) (out : List ℕ) → s ≡ k → simple_meaning k ≡ b → out ≡ encoded b → size b ≡ 1 → nodes b ≡ 1 → Holds out (constant_of rows r).body
  unfolding ConstantSays constant_of
  held k b out e q o u v =
      subst (λ (c : Body). Holds out c) (sym (says.body ∙ (ap simple_meaning e ∙ q))) (record { is = o; few_cells = omega arith; few_nodes = omega arith })

  pub body_boolean : (out : List ℕ) → s ≡ simple.Boolean → out ≡ pad body_bytes 0 (1 ∷ []) → Holds out (constant_of rows r).body
  unfolding encoded bytes size nodes simple_meaning
  body_boolean out p k = held simple.Boolean boolean out p refl k refl refl

  pub body_number : (out : List ℕ) → s ≡ simple.Number → out ≡ pad body_bytes 0 (2 ∷ []) → Holds out (constant_of rows r).body
  unfolding encoded bytes size nodes simple_meaning
  body_number out p k = held simple.Number number out p refl k refl refl

  pub body_word : (out : List ℕ) → s ≡ simple.Word → out ≡ pad body_bytes 0 (3 ∷ []) → Holds out (constant_of rows r).body
  unfolding encoded bytes size nodes simple_meaning
  body_word out p k = held simple.Word word out p refl k refl refl

  pub body_hundredths : (out : List ℕ) → s ≡ simple.Hundredths → out ≡ pad body_bytes 0 (7 ∷ []) → Holds out (constant_of rows r).body
  unfolding encoded bytes size nodes simple_meaning
  body_hundredths out p k = held simple.Hundredths hundredths out p refl k refl refl
