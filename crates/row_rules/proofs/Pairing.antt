-- The pairs of procedures: what each row tells of the row behind it, and where section 6 begins. Assumes nothing.
use mathlib.Core.Path.{◌≡◌, sym, ap, ◌∙◌}
use mathlib.Core.Bool.{Bool, false, ◌&&◌, beq}
use mathlib.Core.List.{List}
use Prim.Native.Nat.{ℕ, suc, ◌+◌, ◌≤◌, ◌<◌}
use native.Mathlib.Numerals.{add-one}
use native.Mathlib.Omega.{arith}
use lib.Dec.{ltb}
use lib.ListN.{get_or}
use borrow.Author.Tests.{eq-eqb, ne_eqb, lt-ltb, le-ltb}
use Rattle.lingua.specs.Numbers.{procedure_section}
use Rattle.lingua.specs.Rows.{row_count, procedure_kind, table_count}
use Rattle.lingua.specs.Format.{every_below}
use Rattle.lingua.specs.Rules.{procedure_pairs}
use Rattle.decoder.specs.Tables.{AreTables}
use Rattle.decoder.specs.Headers.{start_more}
use Rattle.decoder.specs.declared.tables.Tables.{Tables}

-- ---- the row behind one
module _ (rows : List ℕ) (i : ℕ) where
  abbrev pub behind : Bool
  behind = ltb (suc i) (row_count rows) && procedure_kind 1 rows (suc i)

  pub behind_last : row_count rows ≤ i + 1 → false ≡ behind
  behind_last h = sym (ap (λ (t : Bool). t && procedure_kind 1 rows (suc i)) (le-ltb (suc i) (row_count rows) (omega arith)))

  pub behind_told : (detail : Bool) → i + 1 < row_count rows → detail ≡ procedure_kind 1 rows (i + 1) → detail ≡ behind
  behind_told detail h e =
      e
      ∙ ap (λ (j : ℕ). procedure_kind 1 rows j) (add-one i)
      ∙ sym (ap (λ (t : Bool). t && procedure_kind 1 rows (suc i)) (lt-ltb (suc i) (row_count rows) (omega arith)))

-- ---- the whole section
module _ (rows : List ℕ) (t : Tables) (tables : AreTables rows t) where
  strays : get_or t.procedures.heads 0 0 ≡ t.limits.start + t.limits.count + table_count rows procedure_section
  strays = omega (arith, tables.heads 0 (omega arith), tables.limits.start, tables.limits.count, start_more rows 5, start_more rows 6)

  abbrev pub pairs : Bool
  pairs = every_below (row_count rows) (λ i. beq (procedure_kind 0 rows i) (ltb (suc i) (row_count rows) && procedure_kind 1 rows (suc i)))

  pub paired_late : (get_or t.procedures.heads 0 0 ≡ t.limits.start + t.limits.count → ⊥) → false ≡ procedure_pairs rows
  unfolding procedure_pairs
  paired_late n = sym (ap (λ (u : Bool). u && pairs) (ne_eqb (table_count rows procedure_section) 0 (λ e. n (omega (arith, strays)))))

  pub paired_rows : get_or t.procedures.heads 0 0 ≡ t.limits.start + t.limits.count → pairs ≡ procedure_pairs rows
  unfolding procedure_pairs
  paired_rows e = sym (ap (λ (u : Bool). u && pairs) (eq-eqb (table_count rows procedure_section) 0 (omega (arith, strays))))
