-- References as the code asks them: a row's own numbers against the tables' counts. Assumes nothing.
use mathlib.Core.Path.{◌≡◌}
use mathlib.Core.Bool.{◌&&◌}
use mathlib.Core.List.{List}
use Prim.Native.Nat.{ℕ, ◌+◌, ◌*◌, ◌/◌}
use lib.Dec.{ltb}
use Rattle.lingua.specs.Numbers.{type_section, expression_section, scope_table}
use Rattle.lingua.specs.Rows.{a_at, b_at, row_in, detail_row, table_count, pair_count, yoke_root}
use Rattle.lingua.specs.Format.{every_below}
use Rattle.lingua.specs.References.{all_below, yoke_in, declaration_refers, declarations_refer}
use Rattle.decoder.specs.Tables.{IsTable}
use Rattle.decoder.specs.declared.tables.Table.{Table}

-- ---- a scope's table
module _ (rows : List ℕ) (s : ℕ) (own : Table) (h : IsTable rows (scope_table s) own) where
  -- its declarations, each by its second row
  pub declarations_from : declarations_refer rows s ≡ every_below (own.count / 2) (λ d. ltb (a_at rows (own.start + (2 * d + 1))) (table_count rows type_section) && all_below (table_count rows expression_section) (yoke_root (b_at rows (own.start + (2 * d + 1)))))
  unfolding declarations_refer declaration_refers yoke_in detail_row row_in pair_count
  declarations_from = rw (h.count, h.start)

pub yoke_in_lem : (rows : List ℕ) (s : ℕ) (t : Table) (d : ℕ) → IsTable rows s t → yoke_in rows s d ≡ b_at rows (t.start + (2 * d + 1))
unfolding yoke_in detail_row row_in
yoke_in_lem rows s t d h = rw h.start
