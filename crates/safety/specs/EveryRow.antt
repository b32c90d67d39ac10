-- Every expression row of an accepted profile stands in the trees that the type check goes through, just once (`row_occurs`). So a check that
-- passes records an entry of each row, and the layout table holds its two numbers (`row_entry`, `accepted_entry`). Carried by rule 11, from
-- the highest row down: a row is a root, or a higher row uses it. Assumes nothing.
use Rattle.std.specs.Prelude.{◌≡◌, Bool, ℕ, zero, suc, ◌+◌, ◌≤◌, ◌<◌, eqb}
use Rattle.std.proofs.Math.Path.{refl, ap}
use Rattle.std.proofs.Common.{sym, ◌∙◌, arith}
use Rattle.std.proofs.Math.Bool.{true, false}
use mathlib.Core.List.{List, [], ◌∷◌, map, Memᴰ}
use Rattle.std.proofs.Math.Dec.{ltb}
use borrow.Author.Tests.{eqb-true, ltb-true, ltb-false}
use Rattle.lingua.specs.Numbers.{expression_section}
use Rattle.lingua.specs.Outcome.{ok, if◌then◌else◌}
use Rattle.lingua.specs.Typing.{Entry, joined, check_profile, layout_of}
use Rattle.lingua.specs.Rows.{table_count}
use Rattle.lingua.specs.Trees.{tabulate_from, tabulate, profile_of}
use Rattle.lingua.specs.Format.{rows_of}
use Rattle.lingua.specs.References.{occurrences}
use Rattle.lingua.specs.Refusal.{lowest, pair_rules}
use Rattle.safety.specs.Every.{every_at}
use Rattle.safety.specs.Accepted.{AcceptedRows, accepted_pair, used_once}
use Rattle.safety.specs.Layout.{HoldsIn, Once, entry_row}
use Rattle.safety.specs.EntryRows.{checked_rows, entries_rows}
use Rattle.safety.specs.Once.{count_append, used_by, uses, roots, forest, count_roots, profile_forest, forest_reached, no_use, forest_once, profile_layout}

-- ---- what occurs
-- a number of a table's part
record InPart (x i n : ℕ) (f : ℕ → List ℕ) : Type 0 where
  part : ℕ
  there : part < i + n
  occurs : 1 ≤ occurrences x (f part)

in_part : (x i n : ℕ) (f : ℕ → List ℕ) → 1 ≤ occurrences x (joined (tabulate_from i n f)) → InPart x i n f
unfolding joined tabulate_from occurrences
in_part x i zero f l = absurd (let z : ⊥ = omega arith in z)
in_part x i (suc n) f l = by (ltb 0 (occurrences x (f i))) refl (λ m. in_part x (suc i) n f m)
  where
    by : (t : Bool) → ltb 0 (occurrences x (f i)) ≡ t → (1 ≤ occurrences x (joined (tabulate_from (suc i) n f)) → InPart x (suc i) n f) → InPart x i (suc n) f
    by true e ih = record { part = i; there = omega arith; occurs = ltb-true 0 (occurrences x (f i)) e }
    by false e ih =
        let none : occurrences x (f i) ≤ 0 = ltb-false 0 (occurrences x (f i)) e in
        let p = ih (omega (arith, count_append x (f i) (joined (tabulate_from (suc i) n f)))) in
        record { part = p.part; there = omega (arith, p.there); occurs = p.occurs }

-- what a row of a list uses is used
used_among : (rows : List ℕ) (x k : ℕ) (ks : List ℕ) → 1 ≤ occurrences k ks → occurrences x (used_by rows k) ≤ occurrences x (uses rows ks)
unfolding uses joined occurrences
used_among rows x k [] l = absurd (let z : ⊥ = omega arith in z)
used_among rows x k (j ∷ ks) l = by (eqb k j) refl l (λ m. used_among rows x k ks m)
  where
    by : (t : Bool) → eqb k j ≡ t → 1 ≤ (if t then 1 else 0) + occurrences k ks → (1 ≤ occurrences k ks → occurrences x (used_by rows k) ≤ occurrences x (uses rows ks))
        → occurrences x (used_by rows k) ≤ occurrences x (uses rows (j ∷ ks))
    by true e m ih =
        let same : occurrences x (used_by rows k) ≡ occurrences x (used_by rows j) = ap (λ (i : ℕ). occurrences x (used_by rows i)) (eqb-true k j e) in
        omega (arith, count_append x (used_by rows j) (uses rows ks))
    by false e m ih = omega (arith, count_append x (used_by rows j) (uses rows ks), ih (omega arith))

-- ---- every row occurs
module _ (rows : List ℕ) (accepted : AcceptedRows rows) where
  occurs_from : (m x : ℕ) → table_count rows expression_section ≤ x + m → x < table_count rows expression_section → 1 ≤ occurrences x (forest rows)
  occurs_from zero x l h = absurd (let z : ⊥ = omega arith in z)
  occurs_from (suc m) x l h = by (ltb 0 (occurrences x (roots rows))) refl (λ k p q. occurs_from m k p q)
    where
      count : ℕ
      count = table_count rows expression_section

      by : (t : Bool) → ltb 0 (occurrences x (roots rows)) ≡ t → ((k : ℕ) → count ≤ k + m → k < count → 1 ≤ occurrences k (forest rows)) → 1 ≤ occurrences x (forest rows)
      by true e ih = omega (arith, forest_reached rows accepted x, ltb-true 0 (occurrences x (roots rows)) e)
      by false e ih =
          let none : occurrences x (roots rows) ≤ 0 = ltb-false 0 (occurrences x (roots rows)) e in
          let p = in_part x 0 count (used_by rows) (unfold tabulate in omega (arith, count_roots rows x, used_once rows accepted x h)) in
          user p.part (omega (arith, p.there)) p.occurs
        where
          user : (k : ℕ) → k < count → 1 ≤ occurrences x (used_by rows k) → 1 ≤ occurrences x (forest rows)
          user k q o = higher (ltb x k) refl
            where
              higher : (t : Bool) → ltb x k ≡ t → 1 ≤ occurrences x (forest rows)
              higher true u =
                  let above : x < k = ltb-true x k u in
                  omega (arith, forest_reached rows accepted x, used_among rows x k (forest rows) (ih k (omega arith) q))
              higher false u = let below : k ≤ x = ltb-false x k u in absurd (let z : ⊥ = omega (arith, no_use rows accepted x k q below) in z)

  -- each expression row stands once in the trees of the declared yokes and the instruction rows
  pub row_occurs : (lims : List ℕ) (r : ℕ) → r < table_count rows expression_section → occurrences r (checked_rows (profile_of rows lims)) ≡ 1
  unfolding Once
  row_occurs lims r l =
      let e : occurrences r (checked_rows (profile_of rows lims)) ≡ occurrences r (forest rows) = ap (occurrences r) (profile_forest rows lims) in
      omega (arith, e, forest_once rows accepted r, occurs_from (table_count rows expression_section) r (omega arith) l)

-- ---- so each has its entry
-- the entry of row r, and its two numbers in the layout table
pub record RowEntry (es : List Entry) (r : ℕ) : Type 0 where
  pub entry : Entry
  pub among : Memᴰ entry es
  pub at_row : entry.row ≡ r
  pub laid_out : HoldsIn (layout_of es) entry

find_entry : (r : ℕ) (es : List Entry) → 1 ≤ occurrences r (map entry_row es) → (x : Entry) × Memᴰ x es × (x.row ≡ r)
unfolding occurrences
find_entry r [] l = absurd (let z : ⊥ = omega arith in z)
find_entry r (x ∷ es) l = by (eqb r x.row) refl l (λ m. find_entry r es m)
  where
    by : (t : Bool) → eqb r x.row ≡ t → 1 ≤ (if t then 1 else 0) + occurrences r (map entry_row es) → (1 ≤ occurrences r (map entry_row es) → (y : Entry) × Memᴰ y es × (y.row ≡ r))
        → (y : Entry) × Memᴰ y (x ∷ es) × (y.row ≡ r)
    by true e m ih = (x, Memᴰ.head refl, sym (eqb-true r x.row e))
    by false e m ih = let p = ih (omega arith) in (p.0, Memᴰ.tail p.1, p.2)

pub row_entry : (rows : List ℕ) → AcceptedRows rows → (lims : List ℕ) (es : List Entry) → check_profile (profile_of rows lims) ≡ ok es
    → (r : ℕ) → r < table_count rows expression_section → RowEntry es r
row_entry rows accepted lims es e r l =
    let n : occurrences r (map entry_row es) ≡ 1 = ap (occurrences r) (entries_rows (profile_of rows lims) es e) ∙ row_occurs rows accepted lims r l in
    let p = find_entry r es (omega arith) in
    record { entry = p.0; among = p.1; at_row = p.2; laid_out = every_at (profile_layout rows accepted lims es e) p.1 }

-- a pair of files that no rule refuses and the type check passes
pub accepted_entry : (prof lims : List ℕ) → lowest (pair_rules prof lims) ≡ 0 → (es : List Entry) → check_profile (profile_of (rows_of prof) (rows_of lims)) ≡ ok es
    → (r : ℕ) → r < table_count (rows_of prof) expression_section → RowEntry es r
accepted_entry prof lims e es passed r l = row_entry (rows_of prof) (accepted_pair prof lims e) (rows_of lims) es passed r l
