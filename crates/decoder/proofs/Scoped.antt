-- The row that begins a procedure and the table of its variables, from where procedures begin. Carried by what stands in a procedure's
-- tables: one row, then its variables. Assumes nothing.
use mathlib.Core.Path.{◌≡◌, refl, sym, ap, ◌∙◌, subst}
use mathlib.Core.List.{List}
use Prim.Native.Nat.{ℕ, zero, suc, ◌+◌, ◌-◌, ◌*◌, ◌≤◌, ◌<◌}
use native.Mathlib.Numerals.{add-one}
use native.Mathlib.Omega.{arith}
use lib.ListN.{length, get_or}
use Rattle.lingua.specs.Numbers.{most_procedures, header_table, variable_table, scope_table}
use Rattle.lingua.specs.Rows.{a_at, b_at, c_at, table_start, procedure_count, header_row, row_in, body_row, value_count, reference_count}
use Rattle.decoder.specs.Tables.{IsTable, AreTables, IsProcedure}
use Rattle.decoder.specs.Headers.{variables_start, next_start, header_within}
use Rattle.decoder.specs.declared.tables.Table.{Table}
use Rattle.decoder.specs.declared.tables.Tables.{Tables}
use Rattle.decoder.proofs.Counting.{table_is}

module _ (rows : List ℕ) (t : Tables) (k : ℕ) (tables : AreTables rows t) (begun : k < procedure_count rows) (few : k < most_procedures) where
  abbrev head : ℕ
  head = get_or t.procedures.heads k 0

  abbrev next : ℕ
  next = get_or t.procedures.heads (k + 1) 0

  head_row : head ≡ header_row rows k
  unfolding header_row row_in
  head_row = tables.heads k (omega arith) ∙ (let e : table_start rows (header_table k) ≡ table_start rows (header_table k) + 0 = omega arith in e)

  next_head : next ≡ table_start rows (header_table (suc k))
  next_head = tables.heads (k + 1) (omega arith) ∙ ap (λ (n : ℕ). table_start rows (header_table n)) (add-one k)

  pub head_place : 10 * head + 10 ≤ length rows
  head_place = omega (arith, head_row, header_within rows k begun)

  -- behind the row that begins it
  pub head_before : head + 1 ≤ next
  head_before = omega (arith, tables.heads k (omega arith), next_head, next_start rows k begun)

  pub is_procedure : (a b c : ℕ) → (a ≡ a_at rows head) × (a < 65536) → (b ≡ b_at rows head) × (b < 65536) → (c ≡ c_at rows head) × (c < 65536) → IsProcedure rows k (record { body = a; values = b; references = c })
  unfolding body_row value_count reference_count
  is_procedure a b c p q r =
      record {
        body = p.0 ∙ ap (λ (i : ℕ). a_at rows i) head_row;
        values = q.0 ∙ ap (λ (i : ℕ). b_at rows i) head_row;
        references = r.0 ∙ ap (λ (i : ℕ). c_at rows i) head_row;
        few_values = q.1;
        few_references = r.1;
      }

  pub are_variables : IsTable rows (variable_table k) (record { section = 8 + 2 * k; start = next - (next - head - 1); count = next - head - 1 })
  are_variables =
      table_is rows (variable_table k) (next - (next - head - 1)) (next - head - 1)
      (omega (arith, head_before, tables.heads k (omega arith), variables_start rows k begun))
      (omega (arith, tables.heads k (omega arith), next_head, next_start rows k begun))

-- the scope's table, from the procedure's
pub scope_own : (rows : List ℕ) (s : ℕ) (r : Table) → (s ≡ 0 → ⊥) → IsTable rows (variable_table (s - 1)) r → IsTable rows (scope_table s) r
scope_own rows zero r n i = absurd (n refl)
scope_own rows (suc s) r n i = subst (λ (m : ℕ). IsTable rows (variable_table m) r) (let e : suc s - 1 ≡ s = omega arith in e) i

pub scope_profile : (rows : List ℕ) (s : ℕ) (r : Table) → s ≡ 0 → IsTable rows (scope_table 0) r → IsTable rows (scope_table s) r
scope_profile rows s r e i = subst (λ (m : ℕ). IsTable rows (scope_table m) r) (sym e) i
