-- The row areas of a file's blocks, one after the other, and how many rows of them are used. Assumes nothing.
use Rattle.std.specs.Prelude.{◌≡◌, refl, Bool, true, false, List, ◌++◌, ℕ, zero, suc, ◌+◌, ◌-◌, ◌*◌, ◌/◌, ◌≤◌, ◌<◌, length, get_or, take, drop, if◌then◌else◌}
use Rattle.std.proofs.Common.{sym, ap, ◌∙◌, append_assoc, append-nil, ⊎_elim, add-zero, add-one, arith, length-append, length-take-le, get_or-take, get_or-append-add, take-take, drop-drop}
use Rattle.std.proofs.Math.ListN.{get_or-append, get_or-eq_default}
use Rattle.lingua.specs.Numbers.{block_bytes, header_bytes, area_bytes, check_place, row_bytes}
use Rattle.lingua.specs.Rows.{row_count}
use Rattle.lingua.specs.Format.{block_at, block_count, row_area, areas_from, all_zero, used_rows, rows_of}
use Rattle.laws.specs.Parts.{drop_take, length_taken, part_get}
use Rattle.laws.specs.Tests.{below_suc, below_or, zero_at, zero_all, zero_not}
use Rattle.laws.specs.Blocks.{length_block, length_area}

-- a block's rows are the part of the file from behind its header to its check
pub part_area : (file : List ℕ) (k : ℕ)
    → take (block_bytes * k + check_place - (block_bytes * k + header_bytes)) (drop (block_bytes * k + header_bytes) file) ≡ row_area (block_at file k)
unfolding row_area block_at
part_area file k =
    let d : List ℕ = drop (block_bytes * k) file in
    let e : block_bytes * k + check_place - (block_bytes * k + header_bytes) ≡ area_bytes = omega arith in
    ap (λ (n : ℕ). take n (drop (block_bytes * k + header_bytes) file)) e
    ∙ ap (λ (l : List ℕ). take area_bytes l) (sym (drop-drop header_bytes (block_bytes * k) file))
    ∙ sym (take-take area_bytes (block_bytes - header_bytes) (drop header_bytes d) (omega arith))
    ∙ ap (λ (l : List ℕ). take area_bytes l) (sym (drop_take header_bytes block_bytes d))

-- one block more
pub areas_more : (k n : ℕ) (file : List ℕ) → areas_from k (suc n) file ≡ areas_from k n file ++ row_area (block_at file (k + n))
unfolding areas_from
areas_more k zero file = append-nil (row_area (block_at file k)) ∙ ap (λ (j : ℕ). row_area (block_at file j)) (sym (add-zero k))
areas_more k (suc n) file =
    let e : suc k + n ≡ k + suc n = omega arith in
    ap (λ (l : List ℕ). row_area (block_at file k) ++ l) (areas_more (suc k) n file)
    ∙ sym (append_assoc (row_area (block_at file k)) (areas_from (suc k) n file) (row_area (block_at file (suc k + n))))
    ∙ ap (λ (j : ℕ). (row_area (block_at file k) ++ areas_from (suc k) n file) ++ row_area (block_at file j)) e

pub areas_next : (file : List ℕ) (k : ℕ) → areas_from 0 (k + 1) file ≡ areas_from 0 k file ++ row_area (block_at file k)
areas_next file k =
    ap (λ (n : ℕ). areas_from 0 n file) (add-one k) ∙ areas_more 0 k file
    ∙ ap (λ (j : ℕ). areas_from 0 k file ++ row_area (block_at file j)) (let e : 0 + k ≡ k = omega arith in e)

pub length_areas : (k n : ℕ) (file : List ℕ) → k + n ≤ block_count file → length (areas_from k n file) ≡ area_bytes * n
unfolding areas_from
length_areas k zero file h = refl
length_areas k (suc n) file h =
    let a = length_area (block_at file k) (omega (arith, length_block file k (omega arith))) in
    omega (arith, length-append (row_area (block_at file k)) (areas_from (suc k) n file), a, length_areas (suc k) n file (omega arith))

-- ---- used rows
-- the last of n rows counts, unless it is zero
pub used_last : (n : ℕ) (bytes : List ℕ) → 0 < n
    → used_rows n bytes ≡ (if all_zero (take row_bytes (drop (row_bytes * (n - 1)) bytes)) then used_rows (n - 1) bytes else n)
unfolding used_rows
used_last zero bytes h = absurd (let z : ⊥ = omega arith in z)
used_last (suc n) bytes h =
    ap (λ (m : ℕ). if all_zero (take row_bytes (drop (row_bytes * m) bytes)) then used_rows m bytes else suc n)
    (let e : n ≡ suc n - 1 = omega arith in e)

pub used_at_most : (n : ℕ) (bytes : List ℕ) → used_rows n bytes ≤ n
unfolding used_rows
used_at_most zero bytes = omega arith
used_at_most (suc n) bytes = by_test (all_zero (take row_bytes (drop (row_bytes * n) bytes))) (used_at_most n bytes)
  where
    by_test : (t : Bool) → used_rows n bytes ≤ n → (if t then used_rows n bytes else suc n) ≤ suc n
    by_test true l = omega arith
    by_test false l = omega arith

-- ---- a file's rows
abbrev areas_of : List ℕ → List ℕ
areas_of file = areas_from 0 (block_count file) file

pub used_inside : (bytes : List ℕ) → row_bytes * used_rows (row_count bytes) bytes ≤ length bytes
unfolding row_count
used_inside bytes = let l = used_at_most (length bytes / row_bytes) bytes in omega (arith, l)

pub length_rows : (file : List ℕ) → length (rows_of file) ≡ row_bytes * used_rows (row_count (areas_from 0 (block_count file) file)) (areas_from 0 (block_count file) file)
unfolding rows_of
length_rows file =
    length-take-le (row_bytes * used_rows (row_count (areas_of file)) (areas_of file)) (areas_of file) (used_inside (areas_of file))

pub count_rows : (file : List ℕ) → row_bytes * row_count (rows_of file) ≡ length (rows_of file)
unfolding row_count
count_rows file = omega (arith, length_rows file)

-- ---- element by element
-- where a byte of a block's rows stands among those of the first n blocks
pub area_get : (n : ℕ) (file : List ℕ) (k j : ℕ) → n ≤ block_count file → k < n → j < area_bytes
    → get_or (areas_from 0 n file) (area_bytes * k + j) 0 ≡ get_or (row_area (block_at file k)) j 0
area_get zero file k j le h l = absurd (let z : ⊥ = omega arith in z)
area_get (suc n) file k j le h l =
    let before : List ℕ = areas_from 0 n file in
    let last : List ℕ = row_area (block_at file (0 + n)) in
    let long : length before ≡ area_bytes * n = length_areas 0 n file (omega arith) in
    ap (λ (bs : List ℕ). get_or bs (area_bytes * k + j) 0) (areas_more 0 n file)
    ∙ ⊎_elim
    (λ (q : k < n). get_or-append before last 0 (area_bytes * k + j) (omega arith) ∙ area_get n file k j (omega arith) q l)
    (λ (q : k ≡ n).
    let at : area_bytes * k + j ≡ length before + j = omega arith in
    let same : 0 + n ≡ k = omega arith in
    ap (λ (i : ℕ). get_or (before ++ last) i 0) at ∙ get_or-append-add before last j 0
    ∙ ap (λ (m : ℕ). get_or (row_area (block_at file m)) j 0) same)
    (below_suc n k h)

-- behind the rows that are used there are zeros only
pub used_beyond : (m : ℕ) (bytes : List ℕ) (i : ℕ) → row_bytes * used_rows m bytes ≤ i → i < row_bytes * m → get_or bytes i 0 ≡ 0
unfolding used_rows
used_beyond zero bytes i h l = absurd (let z : ⊥ = omega arith in z)
used_beyond (suc m) bytes i h l =
    by_test (all_zero (take row_bytes (drop (row_bytes * m) bytes))) (zero_at (take row_bytes (drop (row_bytes * m) bytes)))
    (λ a b. used_beyond m bytes i a b) h
  where
    in_last : (i : ℕ) → row_bytes * m ≤ i → i < row_bytes * suc m → ((k : ℕ) → get_or (take row_bytes (drop (row_bytes * m) bytes)) k 0 ≡ 0) → get_or bytes i 0 ≡ 0
    in_last i a b z =
        let at : row_bytes * m + (i - row_bytes * m) ≡ i = omega arith in
        ap (λ (n : ℕ). get_or bytes n 0) (sym at) ∙ sym (part_get (row_bytes * m) row_bytes bytes (i - row_bytes * m) (omega arith)) ∙ z (i - row_bytes * m)

    by_test : (t : Bool) → ((k : ℕ) → t ≡ true → get_or (take row_bytes (drop (row_bytes * m) bytes)) k 0 ≡ 0)
        → (row_bytes * used_rows m bytes ≤ i → i < row_bytes * m → get_or bytes i 0 ≡ 0)
        → row_bytes * (if t then used_rows m bytes else suc m) ≤ i → get_or bytes i 0 ≡ 0
    by_test true z before a =
        ⊎_elim (λ (q : i < row_bytes * m). before a q) (λ (q : row_bytes * m ≤ i). in_last i q l (λ k. z k refl)) (below_or i (row_bytes * m))
    by_test false z before a = absurd (let n : ⊥ = omega arith in n)

-- as many rows as it takes for the last to have a first byte, with zeros only behind them
pub used_exact : (m r : ℕ) (bytes : List ℕ) → r ≤ m → ((i : ℕ) → row_bytes * r ≤ i → get_or bytes i 0 ≡ 0)
    → (0 < r → get_or bytes (row_bytes * (r - 1)) 0 ≡ 0 → ⊥) → used_rows m bytes ≡ r
unfolding used_rows
used_exact zero r bytes h z l = let e : 0 ≡ r = omega arith in e
used_exact (suc m) r bytes h z l =
    ⊎_elim
    (λ (q : r < suc m).
    ap (λ (t : Bool). if t then used_rows m bytes else suc m)
    (zero_all (take row_bytes (drop (row_bytes * m) bytes))
    (λ k b. let s = length_taken row_bytes (drop (row_bytes * m) bytes) in part_get (row_bytes * m) row_bytes bytes k (omega (arith, s, b)) ∙ z (row_bytes * m + k) (omega arith)))
    ∙ used_exact m r bytes (omega arith) z l)
    (λ (q : suc m ≤ r).
    let first : row_bytes * m + 0 ≡ row_bytes * (r - 1) = omega arith in
    let full : suc m ≡ r = omega arith in
    ap (λ (t : Bool). if t then used_rows m bytes else suc m)
    (zero_not (take row_bytes (drop (row_bytes * m) bytes)) 0
    (λ e. l (omega arith) (sym (part_get (row_bytes * m) row_bytes bytes 0 (omega arith) ∙ ap (λ (n : ℕ). get_or bytes n 0) first) ∙ e)))
    ∙ full)
    (below_or r (suc m))

-- a file's rows are its areas, byte by byte: what is left out is zero
pub rows_get : (file : List ℕ) (i : ℕ) → get_or (rows_of file) i 0 ≡ get_or (areas_from 0 (block_count file) file) i 0
unfolding rows_of row_count
rows_get file i =
    let all : List ℕ = areas_of file in
    let u : ℕ = used_rows (length all / row_bytes) all in
    let long = length_areas 0 (block_count file) file (omega arith) in
    ⊎_elim (λ (q : i < row_bytes * u). get_or-take (row_bytes * u) all i 0 q)
    (λ (q : row_bytes * u ≤ i).
    get_or-eq_default (take (row_bytes * u) all) 0 (let s = length_taken (row_bytes * u) all in omega (arith, s))
    ∙ sym (⊎_elim
    (λ (p : i < row_bytes * (length all / row_bytes)). used_beyond (length all / row_bytes) all i q p)
    (λ (p : row_bytes * (length all / row_bytes) ≤ i). get_or-eq_default all 0 (omega (arith, long)))
    (below_or i (row_bytes * (length all / row_bytes)))))
    (below_or i (row_bytes * u))
