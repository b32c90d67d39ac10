-- Counting rows by their table: a table's rows begin behind those of all lower tables, and all lie within the file.
-- Carried by counting one number more at a time. Assumes nothing.
use mathlib.Core.Path.{◌≡◌, refl, sym, ap, ap₂, ◌∙◌}
use mathlib.Core.Bool.{Bool, true, false, ◌&&◌}
use mathlib.Core.List.{List}
use mathlib.Core.Logic.{◌⊎◌, inl, inr, ⊎_elim}
use Prim.Native.Nat.{ℕ, zero, suc, ◌+◌, ◌-◌, ◌*◌, ◌≤◌, ◌<◌, min, zero-le, suc-le-suc}
use native.Mathlib.Numerals.{add-one}
use native.Mathlib.Omega.{arith}
use lib.Dec.{eqb, ltb}
use lib.ListN.{length, get_or, set, take, drop, replicate, get_or-replicate}
use lib.Seq.{get_or-set_same, get_or-set_other}
use borrow.Author.Tests.{lt-ltb, le-ltb, eq-eqb, ne_eqb}
use Rattle.lingua.specs.Numbers.{procedure_section, most_procedures, header_table}
use Rattle.std.specs.Prelude.{if◌then◌else◌}
use Rattle.lingua.specs.Rows.{row_count, section_at, kind_at, count_below, procedure_kind, begins_procedure, table_at, table_start, table_count, procedure_count}
use Rattle.laws.specs.Tables.{count_alike}
use Rattle.decoder.specs.Tables.{IsTable, AreCounts, AreTables}
use Rattle.decoder.specs.Headers.{start_more, start_within, variables_next, header_next}

pub order : (a b : ℕ) → (a < b) ⊎ ((a ≡ b) ⊎ (b < a))
order zero zero = inr (inl refl)
order zero (suc b) = inl (suc-le-suc zero-le)
order (suc a) zero = inr (inr (suc-le-suc zero-le))
order (suc a) (suc b) = ⊎_elim (λ l. inl (suc-le-suc l)) (λ r. inr (⊎_elim (λ e. inl (ap suc e)) (λ l. inr (suc-le-suc l)) r)) (order a b)

pub count_more : (n : ℕ) (p : ℕ → Bool) → count_below (n + 1) p ≡ count_below n p + (if p n then 1 else 0)
unfolding count_below
count_more n p = rw (add-one n)

count_none : (n : ℕ) (p : ℕ → Bool) → ((i : ℕ) → p i ≡ false) → count_below n p ≡ 0
unfolding count_below
count_none zero p h = refl
count_none (suc n) p h = ap₂ (λ (m : ℕ) (b : Bool). m + (if b then 1 else 0)) (count_none n p h) (h n)

start_none : (rows : List ℕ) → table_start rows 0 ≡ 0
unfolding table_start
start_none rows = count_none (row_count rows) (λ i. ltb (table_at rows i) 0) (λ i. le-ltb (table_at rows i) 0 zero-le)

pub bit_small : (t : Bool) → (if t then 1 else 0) ≤ 1
bit_small true = omega arith
bit_small false = omega arith

-- ---- a row of section 6
module _ (rows : List ℕ) (i k s : ℕ) (es : s ≡ section_at rows i) where
  pub kind_elsewhere : (s ≡ procedure_section → ⊥) → false ≡ procedure_kind k rows i
  unfolding procedure_kind
  kind_elsewhere n = sym (ap (λ (t : Bool). t && eqb (kind_at rows i) k) (ne_eqb (section_at rows i) procedure_section (λ e. n (es ∙ e))))

  pub kind_told : (m : ℕ) → s ≡ procedure_section → m ≡ kind_at rows i → eqb m k ≡ procedure_kind k rows i
  unfolding procedure_kind
  kind_told m e q =
      ap (λ (n : ℕ). eqb n k) q
      ∙ sym (ap (λ (t : Bool). t && eqb (kind_at rows i) k) (eq-eqb (section_at rows i) procedure_section (sym es ∙ e)))

-- ---- a row's table
module _ (rows : List ℕ) (i : ℕ) where
  abbrev behind : ℕ
  behind = procedure_section + (2 * count_below i (λ j. begins_procedure rows j) + (if begins_procedure rows i then 1 else 0))

  pub slot_low : (s : ℕ) → s ≡ section_at rows i → s < procedure_section → s ≡ min (table_at rows i) 23
  unfolding table_at
  slot_low s e h =
      e
      ∙ (let q : section_at rows i ≡ min (section_at rows i) 23 = omega arith in q)
      ∙ sym (ap (λ (t : Bool). min (if t then section_at rows i else behind) 23) (lt-ltb (section_at rows i) procedure_section (omega arith)))

  table_high : (s : ℕ) → s ≡ section_at rows i → procedure_section ≤ s → table_at rows i ≡ behind
  unfolding table_at
  table_high s e h = ap (λ (t : Bool). if t then section_at rows i else behind) (le-ltb (section_at rows i) procedure_section (omega arith))

  pub slot_above : (s begun : ℕ) → s ≡ section_at rows i → procedure_section ≤ s → begun ≡ count_below i (λ j. begins_procedure rows j) → most_procedures < begun → 23 ≡ min (table_at rows i) 23
  slot_above s begun e h b l = rw (table_high s e h) (omega arith)

  pub slot_here : (s begun more : ℕ) → s ≡ section_at rows i → procedure_section ≤ s → begun ≡ count_below i (λ j. begins_procedure rows j) → begun ≤ most_procedures → more ≡ (if begins_procedure rows i then 1 else 0) → 6 + 2 * begun + more ≡ min (table_at rows i) 23
  slot_here s begun more e h b l m = rw (table_high s e h) (omega (arith, bit_small (begins_procedure rows i)))

-- ---- the pass that counts
slot_same : (x k : ℕ) → k < 23 → eqb (min x 23) k ≡ eqb x k
slot_same x k l =
    ⊎_elim
    (λ b. ap (λ (m : ℕ). eqb m k) (omega arith))
    (λ b. above (⊎_elim (λ e. omega arith) (λ g. omega arith) b))
    (order x 23)
  where
    above : 23 ≤ x → eqb (min x 23) k ≡ eqb x k
    above h = ne_eqb (min x 23) k (λ e. omega arith) ∙ sym (ne_eqb x k (λ e. omega arith))

slots_table : (rows : List ℕ) (k : ℕ) → k < 23 → count_below (row_count rows) (λ i. eqb (min (table_at rows i) 23) k) ≡ table_count rows k
unfolding table_count
slots_table rows k l = count_alike (row_count rows) (λ i. eqb (min (table_at rows i) 23) k) (λ i. eqb (table_at rows i) k) (λ i h. slot_same (table_at rows i) k l)

-- one more at the row's own place, and all else as it was
pub counted_more : (counts : List ℕ) (f : ℕ → ℕ) (i s : ℕ) → length counts ≡ 24 → s ≡ f i → s < 24 → ((k : ℕ) → k < 24 → get_or counts k 0 ≡ count_below i (λ j. eqb (f j) k)) → (k : ℕ) → k < 24 → get_or (set counts s (get_or counts s 0 + 1)) k 0 ≡ count_below (i + 1) (λ j. eqb (f j) k)
counted_more counts f i s len e ls inv k lk =
    ⊎_elim
    (λ l. other (λ q. omega arith))
    (⊎_elim
    (λ q. same q)
    (λ l. other (λ q. omega arith)))
    (order k s)
  where
    other : ((k ≡ s) → ⊥) → get_or (set counts s (get_or counts s 0 + 1)) k 0 ≡ count_below (i + 1) (λ j. eqb (f j) k)
    other ne = rw (get_or-set_other counts s k (get_or counts s 0 + 1) 0 ne, count_more i (λ j. eqb (f j) k), ne_eqb (f i) k (λ q. ne (omega arith))) (omega (arith, inv k lk))

    same : (k ≡ s) → get_or (set counts s (get_or counts s 0 + 1)) k 0 ≡ count_below (i + 1) (λ j. eqb (f j) k)
    same q = rw (q, get_or-set_same counts s (get_or counts s 0 + 1) 0 (omega arith), count_more i (λ j. eqb (f j) s), eq-eqb (f i) s (sym e)) (omega (arith, inv s ls))

pub part_is : (bytes : List ℕ) (from to n : ℕ) → to - from ≡ n → take (to - from) (drop from bytes) ≡ take n (drop from bytes)
part_is bytes from to n e = rw e

-- nothing is counted yet
pub counted_none : (p : ℕ → ℕ → Bool) (k : ℕ) → k < 24 → get_or (replicate 24 0) k 0 ≡ count_below 0 (p k)
unfolding count_below
counted_none p k l = get_or-replicate 24 k 0 0 l

-- after the last row, each table's place has its count
pub counted_all : (rows counts : List ℕ) (i begun : ℕ) → i ≡ row_count rows → begun ≡ count_below i (λ j. begins_procedure rows j) → ((k : ℕ) → k < 24 → get_or counts k 0 ≡ count_below i (λ j. eqb (min (table_at rows j) 23) k)) → AreCounts rows begun counts
unfolding procedure_count
counted_all rows counts i begun e b inv =
    record { procedures = b ∙ ap (λ (n : ℕ). count_below n (λ j. begins_procedure rows j)) e; tables = λ s l. inv s (omega arith) ∙ (rw e (slots_table rows s l)) }

-- a table's rows lie within the slice
pub table_is : (rows : List ℕ) (s start count : ℕ) → start ≡ table_start rows s → count ≡ table_count rows s → IsTable rows s (record { section = s; start = start; count = count })
table_is rows s start count p q = record { section = refl; start = p; count = q; within = omega (arith, start_more rows s, start_within rows (suc s)) }

-- the counts, and that each section begins behind the one before
pub record Sections (rows counts : List ℕ) : Type 0 where
  pub none : get_or counts 0 0 ≡ table_start rows 1
  pub declarations : get_or counts 1 0 ≡ table_count rows 1
  pub types : get_or counts 2 0 ≡ table_count rows 2
  pub expressions : get_or counts 3 0 ≡ table_count rows 3
  pub instructions : get_or counts 4 0 ≡ table_count rows 4
  pub limits : get_or counts 5 0 ≡ table_count rows 5
  pub strays : get_or counts 6 0 ≡ table_count rows 6
  pub start_2 : table_start rows 2 ≡ table_start rows 1 + table_count rows 1
  pub start_3 : table_start rows 3 ≡ table_start rows 2 + table_count rows 2
  pub start_4 : table_start rows 4 ≡ table_start rows 3 + table_count rows 3
  pub start_5 : table_start rows 5 ≡ table_start rows 4 + table_count rows 4
  pub start_6 : table_start rows 6 ≡ table_start rows 5 + table_count rows 5
  pub start_7 : table_start rows 7 ≡ table_start rows 6 + table_count rows 6
  pub all : 10 * table_start rows 7 ≤ length rows

pub sections : (rows counts : List ℕ) (begun : ℕ) → AreCounts rows begun counts → Sections rows counts
sections rows counts begun a =
    let h = a.tables in
    record { none = omega (arith, h 0 (omega arith), start_none rows, start_more rows 0); declarations = h 1 (omega arith); types = h 2 (omega arith); expressions = h 3 (omega arith); instructions = h 4 (omega arith); limits = h 5 (omega arith); strays = h 6 (omega arith); start_2 = start_more rows 1; start_3 = start_more rows 2; start_4 = start_more rows 3; start_5 = start_more rows 4; start_6 = start_more rows 5; start_7 = start_more rows 6; all = start_within rows 7 }

pub are_tables : (rows counts heads : List ℕ) (begun : ℕ) → AreCounts rows begun counts → (s₁ s₂ s₃ s₄ s₅ : ℕ) → s₁ ≡ get_or counts 0 0 → s₂ ≡ s₁ + get_or counts 1 0 → s₃ ≡ s₂ + get_or counts 2 0 → s₄ ≡ s₃ + get_or counts 3 0 → s₅ ≡ s₄ + get_or counts 4 0
    → ((k : ℕ) → k ≤ most_procedures → get_or heads k 0 ≡ table_start rows (header_table k))
    → AreTables rows (record { declarations = record { section = 1; start = s₁; count = get_or counts 1 0 }; types = record { section = 2; start = s₂; count = get_or counts 2 0 }; expressions = record { section = 3; start = s₃; count = get_or counts 3 0 }; instructions = record { section = 4; start = s₄; count = get_or counts 4 0 }; limits = record { section = 5; start = s₅; count = get_or counts 5 0 }; procedures = record { count = begun; heads = heads } })
are_tables rows counts heads begun a s₁ s₂ s₃ s₄ s₅ p q r s t h =
    let k = sections rows counts begun a in
    record { declarations = table_is rows 1 _ _ (omega arith) k.declarations; types = table_is rows 2 _ _ (omega arith) k.types; expressions = table_is rows 3 _ _ (omega arith) k.expressions; instructions = table_is rows 4 _ _ (omega arith) k.instructions; limits = table_is rows 5 _ _ (omega arith) k.limits; procedures = a.procedures; heads = h }

-- ---- where procedures begin
-- one more beginning, two tables further on
pub head_next : (rows counts : List ℕ) (k at : ℕ) → k < most_procedures → ((s : ℕ) → s < 23 → get_or counts s 0 ≡ table_count rows s) → at ≡ table_start rows (header_table k) → at + get_or counts (7 + 2 * k) 0 + get_or counts (8 + 2 * k) 0 ≡ table_start rows (header_table (suc k))
head_next rows counts k at h c e =
    let header = c (7 + 2 * k) (omega arith) in
    let own = c (8 + 2 * k) (omega arith) in
    omega (arith, header, own, variables_next rows k, header_next rows k)

pub heads_first : (rows : List ℕ) (first : ℕ) → first ≡ table_start rows (header_table 0) → (j : ℕ) → j ≤ 0 → get_or (replicate 9 first) j 0 ≡ table_start rows (header_table j)
heads_first rows first e j l = get_or-replicate 9 j first 0 (omega arith) ∙ e ∙ ap (λ (n : ℕ). table_start rows (header_table n)) (let q : 0 ≡ j = omega arith in q)

-- the beginnings up to k are known: those before it still, and its own
pub heads_more : (rows heads : List ℕ) (k at : ℕ) → length heads ≡ 9 → k < most_procedures → ((j : ℕ) → j ≤ k → get_or heads j 0 ≡ table_start rows (header_table j)) → at ≡ table_start rows (header_table (suc k)) → (j : ℕ) → j ≤ k + 1 → get_or (set heads (k + 1) at) j 0 ≡ table_start rows (header_table j)
heads_more rows heads k at len h inv e j l = ⊎_elim same other (by_order (order j (k + 1)))
  where
    by_order : (j < k + 1) ⊎ ((j ≡ k + 1) ⊎ (k + 1 < j)) → (j ≡ k + 1) ⊎ (j ≤ k)
    by_order (inl m) = inr (let q : j ≤ k = omega arith in q)
    by_order (inr (inl m)) = inl m
    by_order (inr (inr m)) = inr (let q : j ≤ k = omega arith in q)

    same : j ≡ k + 1 → get_or (set heads (k + 1) at) j 0 ≡ table_start rows (header_table j)
    same q = rw (q, get_or-set_same heads (k + 1) at 0 (omega arith)) (e ∙ ap (λ (n : ℕ). table_start rows (header_table n)) (sym (add-one k)))

    other : j ≤ k → get_or (set heads (k + 1) at) j 0 ≡ table_start rows (header_table j)
    other m = get_or-set_other heads (k + 1) j at 0 (λ q. omega arith) ∙ inv j m
