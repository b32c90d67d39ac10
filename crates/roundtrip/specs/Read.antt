-- A file that rules 2 to 5 accept, written again from its rows: the number of blocks, each block, and so the file are the same.
-- Carried by rule 4, by which the last block of a profile has a row. Assumes nothing.
use Rattle.std.specs.Prelude.{◌≡◌, refl, true, false, not, ◌&&◌, length, drop}
use Rattle.std.proofs.Math.Path.{sym, ap, ap₂}
use Rattle.std.proofs.Common.{◌∙◌, add-one, drop_of_length-le, take-add, drop-cons, ext_get_or}
use Rattle.std.proofs.Math.Bool.{Bool}
use mathlib.Core.List.{List, [], ◌∷◌, ◌++◌}
use Rattle.std.proofs.Math.Logic.{⊎_elim}
use Prim.Native.Nat.{ℕ, zero, suc, ◌+◌, ◌-◌, ◌*◌, ◌≤◌, ◌<◌}
use native.Mathlib.Omega.{arith}
use Rattle.std.proofs.Math.Dec.{eqb}
use Rattle.std.proofs.Math.ListN.{get_or, take, take-append-drop, get_or-eq_default}
use Rattle.std.proofs.Math.Seq.{take_all, length-take-le}
use borrow.Author.Tests.{eqb-true, not-true, not-false}
use Rattle.lingua.specs.Numbers.{block_bytes, block_rows, area_bytes, check_place}
use Rattle.lingua.specs.Value.{pad}
use Rattle.lingua.specs.Compute.{same_text}
use Rattle.lingua.specs.Rows.{word16, word32, row_count}
use Rattle.lingua.specs.Format.{File, profile, limits, marker, bytes16, bytes32, block_check, block_body, with_check, blocks_for, blocks_from, file_of, block_count, block_at, row_area, all_zero, areas_from, rows_of, model_of, every_below, empty_block, header_fits, length_wrong, marker_wrong, header_wrong, block_check_wrong}
use Rattle.laws.specs.Outcomes.{and_left, and_right}
use Rattle.laws.specs.Lists.{length_pad}
use Rattle.laws.specs.Parts.{length_taken, pad_get, part_get}
use Rattle.laws.specs.Equal.{same_text_lem}
use Rattle.laws.specs.Tests.{true_not_false, below_or, every_at, zero_all}
use Rattle.laws.specs.Files.{length_whole, limits_one, profile_some}
use Rattle.laws.specs.Blocks.{length_block, length_area}
use Rattle.laws.specs.Areas.{area_get, length_areas, used_inside, length_rows, count_rows, rows_get}
use Rattle.laws.specs.Checks.{bytes16_word, bytes32_word, block_check_front}
use Rattle.laws.specs.Written.{written, blocks_next}

-- ---- one block
-- up to its check, part by part
head_is : (block : List ℕ) → length block ≡ block_bytes
    → take check_place block ≡ take 4 block ++ (get_or block 4 0 ∷ get_or block 5 0 ∷ get_or block 6 0 ∷ get_or block 7 0 ∷ row_area block)
unfolding row_area
head_is block h =
    take-add 4 504 block
    ∙ ap (λ (l : List ℕ). take 4 block ++ take 504 l) (drop-cons block 4 0 (omega arith))
    ∙ ap (λ (l : List ℕ). take 4 block ++ (get_or block 4 0 ∷ take 503 l)) (drop-cons block 5 0 (omega arith))
    ∙ ap (λ (l : List ℕ). take 4 block ++ (get_or block 4 0 ∷ get_or block 5 0 ∷ take 502 l)) (drop-cons block 6 0 (omega arith))
    ∙ ap (λ (l : List ℕ). take 4 block ++ (get_or block 4 0 ∷ get_or block 5 0 ∷ get_or block 6 0 ∷ take 501 l)) (drop-cons block 7 0 (omega arith))

-- its check
tail_is : (block : List ℕ) → length block ≡ block_bytes
    → drop check_place block ≡ get_or block 508 0 ∷ get_or block 509 0 ∷ get_or block 510 0 ∷ get_or block 511 0 ∷ []
tail_is block h =
    drop-cons block 508 0 (omega arith)
    ∙ ap (λ (l : List ℕ). get_or block 508 0 ∷ l) (drop-cons block 509 0 (omega arith))
    ∙ ap (λ (l : List ℕ). get_or block 508 0 ∷ get_or block 509 0 ∷ l) (drop-cons block 510 0 (omega arith))
    ∙ ap (λ (l : List ℕ). get_or block 508 0 ∷ get_or block 509 0 ∷ get_or block 510 0 ∷ l) (drop-cons block 511 0 (omega arith))
    ∙ ap (λ (l : List ℕ). get_or block 508 0 ∷ get_or block 509 0 ∷ get_or block 510 0 ∷ get_or block 511 0 ∷ l)
    (drop_of_length-le block (let e : length block ≤ 512 = omega arith in e))

-- what a block says, as rules 3 to 5 ask
pub record Says (f : File) (block : List ℕ) (k n model : ℕ) (area : List ℕ) : Type 0 where
  pub long : length block ≡ block_bytes
  pub bytes : (i : ℕ) → get_or block i 0 < 256
  pub mark : take 4 block ≡ marker f
  pub number : get_or block 4 0 ≡ k
  pub count : get_or block 5 0 ≡ n
  pub made : word16 block 6 ≡ model
  pub rows : row_area block ≡ area
  pub check : word32 block check_place ≡ block_check block

module _ (f : File) (block : List ℕ) (k n model : ℕ) (rows : List ℕ)
    (says : Says f block k n model (pad area_bytes 0 (take area_bytes (drop (area_bytes * k) rows)))) where
  model_bytes : bytes16 model ≡ get_or block 6 0 ∷ get_or block 7 0 ∷ []
  unfolding word16
  model_bytes = ap bytes16 (sym says.made) ∙ bytes16_word (get_or block 6 0) (get_or block 7 0) (says.bytes 6) (says.bytes 7)

  body_same : block_body f model k n rows ≡ take check_place block
  unfolding block_body
  body_same =
      let area : List ℕ = pad area_bytes 0 (take area_bytes (drop (area_bytes * k) rows)) in
      ap (λ (l : List ℕ). marker f ++ (k ∷ n ∷ (l ++ area))) model_bytes
      ∙ sym (head_is block says.long
      ∙ ap (λ (l : List ℕ). l ++ (get_or block 4 0 ∷ get_or block 5 0 ∷ get_or block 6 0 ∷ get_or block 7 0 ∷ row_area block)) says.mark
      ∙ ap₂ (λ (x y : ℕ). marker f ++ (x ∷ y ∷ get_or block 6 0 ∷ get_or block 7 0 ∷ row_area block)) says.number says.count
      ∙ ap (λ (l : List ℕ). marker f ++ (k ∷ n ∷ get_or block 6 0 ∷ get_or block 7 0 ∷ l)) says.rows)

  check_same : bytes32 (block_check (take check_place block)) ≡ drop check_place block
  unfolding word32 word16
  check_same =
      let front : List ℕ = take check_place block in
      let long = length-take-le check_place block (let l = says.long in omega (arith, l)) in
      ap bytes32
      (sym (block_check_front front (drop check_place block) (omega (arith, long))) ∙ ap block_check (take-append-drop check_place block) ∙ sym says.check)
      ∙ bytes32_word (get_or block 508 0) (get_or block 509 0) (get_or block 510 0) (get_or block 511 0) (says.bytes 508) (says.bytes 509) (says.bytes 510) (says.bytes 511)
      ∙ sym (tail_is block says.long)

  -- the block that is written is the one that was read
  pub block_same : written f model n rows k ≡ block
  unfolding with_check
  block_same =
      ap (λ (l : List ℕ). l ++ bytes32 (block_check l)) body_same
      ∙ ap (λ (l : List ℕ). take check_place block ++ l) check_same
      ∙ take-append-drop check_place block

-- ---- the rows
module _ (file : List ℕ) where
  -- byte by byte, a block's rows are those of the file from there on
  area_is : (k j : ℕ) → k < block_count file → j < area_bytes → get_or (row_area (block_at file k)) j 0 ≡ get_or (rows_of file) (area_bytes * k + j) 0
  area_is k j h l = sym (rows_get file (area_bytes * k + j) ∙ area_get (block_count file) file k j (omega arith) h l)

  area_same : (k : ℕ) → k < block_count file → row_area (block_at file k) ≡ pad area_bytes 0 (take area_bytes (drop (area_bytes * k) (rows_of file)))
  area_same k h =
      let part : List ℕ = take area_bytes (drop (area_bytes * k) (rows_of file)) in
      let long = length_area (block_at file k) (let l = length_block file k h in omega (arith, l)) in
      ext_get_or 0 (row_area (block_at file k)) (pad area_bytes 0 part)
      (long ∙ sym (length_pad area_bytes 0 part (length_taken area_bytes (drop (area_bytes * k) (rows_of file)))))
      (λ j l.
      let b : j < area_bytes = omega (arith, l, long) in
      area_is k j h b ∙ sym (pad_get area_bytes part j ∙ part_get (area_bytes * k) area_bytes (rows_of file) j b))

  -- at most 50 rows a block
  rows_few : row_count (rows_of file) ≤ block_rows * block_count file
  rows_few =
      let a = length_areas 0 (block_count file) file (omega arith) in
      omega (arith, count_rows file, length_rows file, used_inside (areas_from 0 (block_count file) file), a)

  -- a block that has a row has one among the file's rows
  rows_many : (k : ℕ) → k < block_count file → all_zero (row_area (block_at file k)) ≡ false → block_rows * k < row_count (rows_of file)
  rows_many k h some =
      ⊎_elim (λ (q : block_rows * k < row_count (rows_of file)). q)
      (λ (q : row_count (rows_of file) ≤ block_rows * k).
      absurd (true_not_false (all_zero (row_area (block_at file k)))
      (zero_all (row_area (block_at file k))
      (λ j l.
      let long = length_area (block_at file k) (let b = length_block file k h in omega (arith, b)) in
      area_is k j h (omega (arith, l, long)) ∙ get_or-eq_default (rows_of file) 0 (omega (arith, count_rows file))))
      some))
      (below_or (block_rows * k) (row_count (rows_of file)))

-- as many blocks are written as were read
count_same : (f : File) (file : List ℕ) → length_wrong f file ≡ false → ((k : ℕ) → k < block_count file → empty_block f (block_at file k) ≡ false)
    → blocks_for f (row_count (rows_of file)) ≡ block_count file
unfolding blocks_for empty_block
count_same profile file e some =
    let one = profile_some file e in
    let last = rows_many file (block_count file - 1) (omega arith) (some (block_count file - 1) (omega arith)) in
    let few = rows_few file in
    omega (arith, one, last, few)
count_same limits file e some = sym (limits_one file e)

blocks_none : (f : File) (model n : ℕ) (rows : List ℕ) → blocks_from f model n 0 0 rows ≡ []
unfolding blocks_from
blocks_none f model n rows = refl

-- ---- a file that rules 2 to 5 accept
module _ (f : File) (file : List ℕ) (bytes : (i : ℕ) → get_or file i 0 < 256) (sized : length_wrong f file ≡ false)
    (marked : marker_wrong f file ≡ false) (headed : header_wrong f file ≡ false) (checked : block_check_wrong file ≡ false) where
  header_fits_lem : (k : ℕ) → k < block_count file → header_fits f file k ≡ true
  unfolding header_wrong
  header_fits_lem k h =
      every_at (block_count file) (λ j. header_fits f file j) k (not-false (every_below (block_count file) (λ j. header_fits f file j)) headed) h

  block_some : (k : ℕ) → k < block_count file → empty_block f (block_at file k) ≡ false
  unfolding header_fits
  block_some k h =
      let b : List ℕ = block_at file k in
      not-true (empty_block f b)
      (and_right (eqb (get_or b 4 0) k && eqb (get_or b 5 0) (block_count file) && eqb (word16 b 6) (model_of file)) (not (empty_block f b)) (header_fits_lem k h))

  block_bytes_small : (k i : ℕ) → get_or (block_at file k) i 0 < 256
  unfolding block_at
  block_bytes_small k i =
      ⊎_elim
      (λ (q : i < block_bytes). let e = part_get (block_bytes * k) block_bytes file i q in let b = bytes (block_bytes * k + i) in omega (arith, e, b))
      (λ (q : block_bytes ≤ i).
      let l = length_taken block_bytes (drop (block_bytes * k) file) in
      let e = get_or-eq_default (take block_bytes (drop (block_bytes * k) file)) 0 {n = i} (omega (arith, l)) in
      omega (arith, e))
      (below_or i block_bytes)

  block_says : (k : ℕ) → k < block_count file
      → Says f (block_at file k) k (block_count file) (model_of file) (pad area_bytes 0 (take area_bytes (drop (area_bytes * k) (rows_of file))))
  unfolding header_fits marker_wrong block_check_wrong
  block_says k h =
      let b : List ℕ = block_at file k in
      let p : Bool = eqb (get_or b 4 0) k in
      let q : Bool = eqb (get_or b 5 0) (block_count file) in
      let r : Bool = eqb (word16 b 6) (model_of file) in
      let pqr = and_left (p && q && r) (not (empty_block f b)) (header_fits_lem k h) in
      let pq = and_left (p && q) r pqr in
      let same : ℕ → Bool = λ j. same_text (take 4 (block_at file j)) (marker f) in
      let right : ℕ → Bool = λ j. eqb (word32 (block_at file j) check_place) (block_check (block_at file j)) in
      record {
        long = length_block file k h;
        bytes = block_bytes_small k;
        mark = same_text_lem (take 4 b) (marker f) (every_at (block_count file) same k (not-false (every_below (block_count file) same) marked) h);
        number = eqb-true (get_or b 4 0) k (and_left p q pq);
        count = eqb-true (get_or b 5 0) (block_count file) (and_right p q pq);
        made = eqb-true (word16 b 6) (model_of file) (and_right (p && q) r pqr);
        rows = area_same file k h;
        check = eqb-true (word32 b check_place) (block_check b) (every_at (block_count file) right k (not-false (every_below (block_count file) right) checked) h);
      }

  -- the first k blocks
  blocks_same : (k : ℕ) → k ≤ block_count file → blocks_from f (model_of file) (block_count file) 0 k (rows_of file) ≡ take (block_bytes * k) file
  unfolding block_at
  blocks_same zero h = blocks_none f (model_of file) (block_count file) (rows_of file)
  blocks_same (suc k) h =
      let n : block_bytes * k + block_bytes ≡ block_bytes * suc k = omega arith in
      ap (λ (m : ℕ). blocks_from f (model_of file) (block_count file) 0 m (rows_of file)) (sym (add-one k))
      ∙ blocks_next f (model_of file) (block_count file) (rows_of file) k
      ∙ ap₂ (λ (x y : List ℕ). x ++ y) (blocks_same k (omega arith)) (block_same f (block_at file k) k (block_count file) (model_of file) (rows_of file) (block_says k (omega arith)))
      ∙ sym (take-add (block_bytes * k) block_bytes file)
      ∙ ap (λ (m : ℕ). take m file) n

  -- the file is the same
  pub file_same : file_of f (model_of file) (rows_of file) ≡ file
  unfolding file_of
  file_same =
      ap (λ (n : ℕ). blocks_from f (model_of file) n 0 n (rows_of file)) (count_same f file sized block_some)
      ∙ blocks_same (block_count file) (omega arith)
      ∙ take_all (block_bytes * block_count file) file (let l = length_whole f file sized in omega (arith, l))
