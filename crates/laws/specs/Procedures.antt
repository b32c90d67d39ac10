-- How many rows procedures have: where each row of kind 0 in section 6, and no other, has one of kind 1 behind it, a procedure's variables
-- are whole pairs, so that one with at most 16 of them has at most 33 rows. Carried by counting one row more at a time. Assumes nothing.
use Rattle.std.specs.Prelude.{◌≡◌, Bool, ◌&&◌, List, ◌⊎◌, if◌then◌else◌}
use Rattle.std.proofs.Math.Path.{refl, sym, ap}
use Rattle.std.proofs.Common.{◌∙◌}
use Rattle.std.proofs.Math.Bool.{true, false}
use Rattle.std.proofs.Math.Logic.{⊎_elim}
use Prim.Native.Nat.{ℕ, zero, suc, ◌+◌, ◌*◌, ◌%◌, ◌≤◌, ◌<◌}
use native.Mathlib.Omega.{arith}
use Rattle.std.proofs.Math.Dec.{eqb, ltb}
use borrow.Author.Tests.{eqb-true, ltb-true, ltb-false, lt-ltb, le-ltb}
use Rattle.lingua.specs.Numbers.{most_variables, procedure_section, header_table, variable_table}
use Rattle.lingua.specs.Rows.{row_count, section_at, kind_at, count_below, procedure_kind, begins_procedure, table_at, table_start, table_count, pair_count, procedure_count}
use Rattle.laws.specs.Outcomes.{and_left, and_right, and_both}
use Rattle.laws.specs.Tests.{not_true_false, true_not_false, below_or}
use Rattle.laws.specs.Headers.{begins_table, next_start}

-- ---- counting
abbrev one : Bool → ℕ
one t = if t then 1 else 0

pub count_all : (n : ℕ) (p : ℕ → Bool) → ((i : ℕ) → i < n → p i ≡ true) → count_below n p ≡ n
unfolding count_below
count_all zero p h = refl
count_all (suc n) p h =
    let before = count_all n p (λ i l. h i (let q : i < suc n = omega arith in q)) in
    let here : one (p n) ≡ 1 = ap one (h n (let q : n < suc n = omega arith in q)) in
    omega (arith, before, here)

one_at_most : (t : Bool) → one t ≤ 1
one_at_most true = omega arith
one_at_most false = omega arith

count_grows : (m n : ℕ) (p : ℕ → Bool) → n ≤ m → count_below n p ≤ count_below m p
unfolding count_below
count_grows zero n p h = let q : count_below n p ≡ 0 = ap (λ (k : ℕ). count_below k p) (let z : n ≡ 0 = omega arith in z) in omega (arith, q)
count_grows (suc m) n p h =
    ⊎_elim
    (λ l. let q : count_below n p ≡ count_below (suc m) p = ap (λ (k : ℕ). count_below k p) (let z : n ≡ suc m = omega arith in z) in omega (arith, q))
    (λ l. omega (arith, count_grows m n p l))
    (below_or m n)

module _ (rows : List ℕ) where
  abbrev begun : ℕ → ℕ
  begun i = count_below i (λ j. begins_procedure rows j)

  -- ---- a row of section 6, and its table
  of_kind : (k i : ℕ) → procedure_kind k rows i ≡ true → (section_at rows i ≡ procedure_section) × (kind_at rows i ≡ k)
  unfolding procedure_kind
  of_kind k i e = (
    eqb-true (section_at rows i) procedure_section (and_left (eqb (section_at rows i) procedure_section) (eqb (kind_at rows i) k) e),
    eqb-true (kind_at rows i) k (and_right (eqb (section_at rows i) procedure_section) (eqb (kind_at rows i) k) e),
  )

  not_of_kind : (k l i : ℕ) → procedure_kind k rows i ≡ true → (k ≡ l → ⊥) → procedure_kind l rows i ≡ false
  not_of_kind k l i e apart =
      not_true_false (procedure_kind l rows i) (λ f. apart (sym (of_kind k i e).1 ∙ (of_kind l i f).1))

  abbrev table_by : Bool → Bool → ℕ → ℕ
  table_by low begins i = if low then section_at rows i else procedure_section + (2 * begun i + (if begins then 1 else 0))

  -- one that begins no procedure
  plain_table : (i : ℕ) → section_at rows i ≡ procedure_section → begins_procedure rows i ≡ false → table_at rows i ≡ 6 + 2 * begun i
  unfolding table_at
  plain_table i s e =
      ap (λ (t : Bool). table_by t (begins_procedure rows i) i) (le-ltb (section_at rows i) procedure_section (omega arith))
      ∙ ap (λ (t : Bool). table_by false t i) e
      ∙ (let q : 6 + (2 * begun i + 0) ≡ 6 + 2 * begun i = omega arith in q)

  not_begun : (k i : ℕ) → procedure_kind k rows i ≡ true → (k ≡ 2 → ⊥) → begins_procedure rows i ≡ false
  unfolding begins_procedure
  not_begun k i e apart = not_of_kind k 2 i e apart

  -- the row behind a row of kind 0 is in its table
  same_table : (i : ℕ) → procedure_kind 0 rows i ≡ true → procedure_kind 1 rows (suc i) ≡ true → table_at rows (suc i) ≡ table_at rows i
  unfolding count_below
  same_table i e f =
      let none = not_begun 0 i e (λ q. omega arith) in
      let more : begun (suc i) ≡ begun i = ap (λ (t : Bool). begun i + (if t then 1 else 0)) none ∙ (let q : begun i + 0 ≡ begun i = omega arith in q) in
      plain_table (suc i) (of_kind 1 (suc i) f).0 (not_begun 1 (suc i) f (λ q. omega arith))
      ∙ ap (λ (n : ℕ). 6 + 2 * n) more
      ∙ sym (plain_table i (of_kind 0 i e).0 none)

  -- ---- a procedure's variables are pairs
  module _
      (behind : (i : ℕ) → i < row_count rows → procedure_kind 0 rows i ≡ true → (suc i < row_count rows) × (procedure_kind 1 rows (suc i) ≡ true))
      (above : (i : ℕ) → suc i < row_count rows → procedure_kind 1 rows (suc i) ≡ true → procedure_kind 0 rows i ≡ true)
      (kinds : (i : ℕ) → i < row_count rows → procedure_section ≤ section_at rows i → (procedure_kind 0 rows i ≡ true) ⊎ ((procedure_kind 1 rows i ≡ true) ⊎ (begins_procedure rows i ≡ true)))
      (k : ℕ) where
    abbrev here : ℕ → Bool
    here i = eqb (table_at rows i) (variable_table k)

    abbrev counted : ℕ → ℕ
    counted m = count_below m here

    -- whether the last of the first m rows wants one behind it
    abbrev wanting : ℕ → Bool
    wanting zero = false
    wanting (suc i) = procedure_kind 0 rows i && here i

    section_here : (i : ℕ) → here i ≡ true → procedure_section ≤ section_at rows i
    unfolding table_at
    section_here i e = by_test (ltb (section_at rows i) procedure_section) refl
      where
        by_test : (t : Bool) → ltb (section_at rows i) procedure_section ≡ t → procedure_section ≤ section_at rows i
        by_test true l =
            let low = ltb-true (section_at rows i) procedure_section l in
            let q : section_at rows i ≡ variable_table k = sym (ap (λ (t : Bool). table_by t (begins_procedure rows i) i) l) ∙ eqb-true (table_at rows i) (variable_table k) e in
            omega (arith, low, q)
        by_test false l = ltb-false (section_at rows i) procedure_section l

    elsewhere : (m : ℕ) → m < row_count rows → here m ≡ false → wanting m ≡ false
    elsewhere zero l e = refl
    elsewhere (suc i) l e =
        not_true_false (procedure_kind 0 rows i && here i)
        (λ w.
        let name = and_left (procedure_kind 0 rows i) (here i) w in
        let same = same_table i name (behind i (omega arith) name).1 in
        true_not_false (here i) (and_right (procedure_kind 0 rows i) (here i) w) (sym (ap (λ (s : ℕ). eqb s (variable_table k)) same) ∙ e))

    after_name : (m : ℕ) → m < row_count rows → procedure_kind 0 rows m ≡ true → wanting m ≡ false
    after_name zero l e = refl
    after_name (suc i) l e =
        not_true_false (procedure_kind 0 rows i && here i)
        (λ w.
        let name = and_left (procedure_kind 0 rows i) (here i) w in
        true_not_false (procedure_kind 0 rows (suc i)) e (not_of_kind 1 0 (suc i) (behind i (omega arith) name).1 (λ q. omega arith)))

    after_detail : (m : ℕ) → m < row_count rows → here m ≡ true → procedure_kind 1 rows m ≡ true → wanting m ≡ true
    unfolding count_below
    after_detail zero l h e =
        let z = plain_table 0 (of_kind 1 0 e).0 (not_begun 1 0 e (λ q. omega arith)) in
        absurd (let q : ⊥ = omega (arith, z, eqb-true (table_at rows 0) (variable_table k) h) in q)
    after_detail (suc i) l h e =
        let name = above i l e in
        and_both (procedure_kind 0 rows i) (here i) name (sym (ap (λ (s : ℕ). eqb s (variable_table k)) (same_table i name e)) ∙ h)

    pairs_so_far : (m : ℕ) → m ≤ row_count rows → counted m % 2 ≡ one (wanting m)
    unfolding count_below
    pairs_so_far zero l = refl
    pairs_so_far (suc m) l = by_table (here m) refl (pairs_so_far m (omega arith))
      where
        by_table : (t : Bool) → here m ≡ t → counted m % 2 ≡ one (wanting m) → (counted m + one (here m)) % 2 ≡ one (procedure_kind 0 rows m && here m)
        by_table false e before =
            let w = ap one (elsewhere m (omega arith) e) in
            let u = ap one (not_true_false (procedure_kind 0 rows m && here m) (λ w. true_not_false (here m) (and_right (procedure_kind 0 rows m) (here m) w) e)) in
            omega (arith, before, w, u, ap one e)
        by_table true e before =
            ⊎_elim
            (λ n.
            let w = ap one (after_name m (omega arith) n) in
            let u = ap one (and_both (procedure_kind 0 rows m) (here m) n e) in
            omega (arith, before, w, u, ap one e))
            (⊎_elim
            (λ d.
            let w = ap one (after_detail m (omega arith) e d) in
            let u = ap one (not_true_false (procedure_kind 0 rows m && here m) (λ w. true_not_false (procedure_kind 0 rows m) (and_left (procedure_kind 0 rows m) (here m) w) (not_of_kind 1 0 m d (λ q. omega arith)))) in
            omega (arith, before, w, u, ap one e))
            (λ b. absurd (let q : ⊥ = omega (arith, begins_table rows m b, eqb-true (table_at rows m) (variable_table k) e) in q)))
            (kinds m (omega arith) (section_here m e))

    last_wants_none : (n : ℕ) → n ≡ row_count rows → wanting n ≡ false
    last_wants_none zero e = refl
    last_wants_none (suc i) e =
        not_true_false (procedure_kind 0 rows i && here i)
        (λ w. let b = (behind i (omega arith) (and_left (procedure_kind 0 rows i) (here i) w)).0 in omega arith)

    pub variables_even : table_count rows (variable_table k) % 2 ≡ 0
    unfolding table_count
    variables_even = pairs_so_far (row_count rows) (omega arith) ∙ ap one (last_wants_none (row_count rows) refl)

  -- ---- the rows of all procedures
  -- every row is in a table before that of a procedure behind the last
  table_within : (i : ℕ) → i < row_count rows → table_at rows i < header_table (procedure_count rows)
  unfolding table_at procedure_count count_below
  table_within i l = by_test (ltb (section_at rows i) procedure_section) refl
    where
      by_test : (t : Bool) → ltb (section_at rows i) procedure_section ≡ t → table_by t (begins_procedure rows i) i < header_table (begun (row_count rows))
      by_test true e = omega (arith, ltb-true (section_at rows i) procedure_section e)
      by_test false e =
          let g : begun (suc i) ≤ begun (row_count rows) = count_grows (row_count rows) (suc i) (λ j. begins_procedure rows j) l in
          omega (arith, g, one_at_most (begins_procedure rows i))

  pub all_rows : table_start rows (header_table (procedure_count rows)) ≡ row_count rows
  unfolding table_start
  all_rows = count_all (row_count rows) (λ i. ltb (table_at rows i) (header_table (procedure_count rows))) (λ i l. lt-ltb (table_at rows i) (header_table (procedure_count rows)) (table_within i l))

  -- 33 to a procedure
  pub procedure_rows : (n : ℕ) → n ≤ procedure_count rows
      → ((k : ℕ) → k < procedure_count rows → (table_count rows (variable_table k) % 2 ≡ 0) × (pair_count rows (variable_table k) ≤ most_variables))
      → table_start rows (header_table n) ≤ table_start rows (header_table 0) + 33 * n
  unfolding pair_count
  procedure_rows zero l h = omega arith
  procedure_rows (suc n) l h =
      let each = h n l in
      omega (arith, procedure_rows n (omega arith) h, next_start rows n l, each.0, each.1)
