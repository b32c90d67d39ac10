-- A file that was written from accepted rows: what its blocks hold, that rules 2 to 5 accept it, and that its rows and its model are
-- those that were written. Assumes nothing.
use Rattle.std.specs.Prelude.{◌≡◌, refl, Bool, true, false, ◌&&◌, leb, drop}
use Rattle.std.proofs.Math.Path.{sym, ap, ap₂}
use Rattle.std.proofs.Common.{◌∙◌, ⊎_elim, add-zero, length-take-le}
use Rattle.std.proofs.Math.Bool.{not}
use mathlib.Core.List.{List, ◌∷◌, ◌++◌, append_assoc}
use Prim.Native.Nat.{ℕ, zero, suc, ◌+◌, ◌-◌, ◌*◌, ◌/◌, ◌%◌, ◌≤◌, ◌<◌}
use native.Mathlib.Omega.{arith}
use Rattle.std.proofs.Math.Dec.{eqb}
use Rattle.std.proofs.Math.ListN.{length, get_or, take, get_or-eq_default}
use Rattle.std.proofs.Math.Seq.{take_at, drop-append-add, get_or-take, ext_get_or}
use borrow.Author.Tests.{eq-eqb, le-leb}
use Rattle.lingua.specs.Numbers.{row_bytes, block_bytes, block_rows, area_bytes, check_place, most_blocks}
use Rattle.lingua.specs.Errors.{no_error, bad_length, bad_marker, bad_header, bad_check}
use Rattle.lingua.specs.Value.{pad}
use Rattle.lingua.specs.Compute.{same_text}
use Rattle.lingua.specs.Rows.{word16, word32, row_count, section_at}
use Rattle.lingua.specs.Format.{File, profile, limits, marker, bytes16, bytes32, block_check, block_body, with_check, blocks_for, blocks_from, file_length, file_of, block_count, block_at, row_area, areas_from, used_rows, rows_of, model_of, all_zero, empty_block, header_fits, length_wrong, marker_wrong, header_wrong, block_check_wrong}
use Rattle.lingua.specs.Refusal.{lowest, file_rules, row_rules}
use Rattle.laws.specs.Lists.{length_pad}
use Rattle.laws.specs.Parts.{length_taken, pad_get, part_get}
use Rattle.laws.specs.Equal.{text_same}
use Rattle.laws.specs.Tests.{below_or, every_all, zero_not}
use Rattle.laws.specs.Outcomes.{and_both}
use Rattle.laws.specs.Refusals.{lowest_skip}
use Rattle.laws.specs.Blocks.{model_first}
use Rattle.laws.specs.Areas.{area_get, length_areas, used_exact}
use Rattle.laws.specs.Checks.{word16_bytes, word32_behind, block_check_below, block_check_front}
use Rattle.laws.specs.Written.{length_marker, length_body, written, length_written, length_file}
use Rattle.laws.specs.Accepted.{accepted, accepted_rows, accepted_limits, accepted_some, section_nonzero}

-- ---- one block
after_marker : (f : File) (q : List ℕ) (i : ℕ) → get_or (marker f ++ q) (suc (suc (suc (suc i)))) 0 ≡ get_or q i 0
after_marker profile q i = refl
after_marker limits q i = refl

module _ (f : File) (model n : ℕ) (rows : List ℕ) (k : ℕ) where
  abbrev area : List ℕ
  area = pad area_bytes 0 (take area_bytes (drop (area_bytes * k) rows))

  abbrev check : List ℕ
  check = bytes32 (block_check (block_body f model k n rows))

  written_is : written f model n rows k ≡ marker f ++ (k ∷ n ∷ model % 256 ∷ model / 256 % 256 ∷ (area ++ check))
  unfolding with_check block_body bytes16
  written_is = append_assoc (marker f) (k ∷ n ∷ model % 256 ∷ model / 256 % 256 ∷ area) check

  pub written_marker : take 4 (written f model n rows k) ≡ marker f
  written_marker = ap (λ (l : List ℕ). take 4 l) written_is ∙ take_at (marker f) _ 4 (length_marker f)

  pub written_number : get_or (written f model n rows k) 4 0 ≡ k
  written_number = ap (λ (l : List ℕ). get_or l 4 0) written_is ∙ after_marker f _ 0

  pub written_count : get_or (written f model n rows k) 5 0 ≡ n
  written_count = ap (λ (l : List ℕ). get_or l 5 0) written_is ∙ after_marker f _ 1

  pub written_model : model < 65536 → word16 (written f model n rows k) 6 ≡ model
  unfolding word16
  written_model h =
      ap₂ (λ (a b : ℕ). a + 256 * b) (ap (λ (l : List ℕ). get_or l 6 0) written_is ∙ after_marker f _ 2) (ap (λ (l : List ℕ). get_or l 7 0) written_is ∙ after_marker f _ 3)
      ∙ word16_bytes model h

  area_at : (g : File) → take area_bytes (drop 8 (marker g ++ (k ∷ n ∷ model % 256 ∷ model / 256 % 256 ∷ (area ++ check)))) ≡ area
  area_at profile = take_at area check area_bytes (length_pad area_bytes 0 _ (length_taken area_bytes (drop (area_bytes * k) rows)))
  area_at limits = take_at area check area_bytes (length_pad area_bytes 0 _ (length_taken area_bytes (drop (area_bytes * k) rows)))

  pub written_area : row_area (written f model n rows k) ≡ area
  unfolding row_area
  written_area = ap (λ (l : List ℕ). take area_bytes (drop 8 l)) written_is ∙ area_at f

  pub written_check : word32 (written f model n rows k) check_place ≡ block_check (written f model n rows k)
  unfolding with_check
  written_check =
      let body : List ℕ = block_body f model k n rows in
      ap (λ (i : ℕ). word32 (body ++ check) i) (sym (length_body f model k n rows))
      ∙ word32_behind body (block_check body) (block_check_below body)
      ∙ sym (block_check_front body check (let e = length_body f model k n rows in omega (arith, e)))

-- ---- the blocks of a written file
module _ (f : File) (model n : ℕ) (rows : List ℕ) where
  blocks_at : (k m j : ℕ) → k < m → take block_bytes (drop (block_bytes * k) (blocks_from f model n j m rows)) ≡ written f model n rows (j + k)
  unfolding blocks_from
  blocks_at k zero j h = absurd (let z : ⊥ = omega arith in z)
  blocks_at zero (suc m) j h =
      take_at (written f model n rows j) (blocks_from f model n (suc j) m rows) block_bytes (length_written f model n rows j)
      ∙ ap (λ (i : ℕ). written f model n rows i) (sym (add-zero j))
  blocks_at (suc k) (suc m) j h =
      let w : List ℕ = written f model n rows j in
      let e : block_bytes * suc k ≡ length w + block_bytes * k = omega (arith, length_written f model n rows j) in
      let s : suc j + k ≡ j + suc k = omega arith in
      ap (λ (i : ℕ). take block_bytes (drop i (w ++ blocks_from f model n (suc j) m rows))) e
      ∙ ap (λ (l : List ℕ). take block_bytes l) (drop-append-add w (blocks_from f model n (suc j) m rows) (block_bytes * k))
      ∙ blocks_at k m (suc j) (omega arith)
      ∙ ap (λ (i : ℕ). written f model n rows i) s

module _ (f : File) (model : ℕ) (rows : List ℕ) where
  -- how many blocks there are
  abbrev pub count : ℕ
  count = blocks_for f (row_count rows)

  abbrev pub file : List ℕ
  file = file_of f model rows

  pub count_written : block_count file ≡ count
  unfolding block_count file_length
  count_written = omega (arith, length_file f model rows)

  pub block_written : (k : ℕ) → k < count → block_at file k ≡ written f model count rows k
  unfolding block_at file_of
  block_written k h =
      blocks_at f model count rows k count 0 h ∙ ap (λ (i : ℕ). written f model count rows i) (let e : 0 + k ≡ k = omega arith in e)

  -- byte by byte, the row areas are the rows, then zeros
  areas_written : length rows ≤ area_bytes * count → (i : ℕ) → get_or (areas_from 0 (block_count file) file) i 0 ≡ get_or rows i 0
  areas_written room i =
      ⊎_elim
      (λ (q : i < area_bytes * count).
      let k : ℕ = i / area_bytes in
      let j : ℕ = i % area_bytes in
      let at : area_bytes * k + j ≡ i = omega arith in
      let here : k < count = omega arith in
      ap (λ (m : ℕ). get_or (areas_from 0 (block_count file) file) m 0) (sym at)
      ∙ area_get (block_count file) file k j (omega arith) (omega (arith, count_written)) (omega arith)
      ∙ ap (λ (b : List ℕ). get_or (row_area b) j 0) (block_written k here)
      ∙ ap (λ (l : List ℕ). get_or l j 0) (written_area f model count rows k)
      ∙ pad_get area_bytes (take area_bytes (drop (area_bytes * k) rows)) j
      ∙ part_get (area_bytes * k) area_bytes rows j (omega arith)
      ∙ ap (λ (m : ℕ). get_or rows m 0) at)
      (λ (q : area_bytes * count ≤ i).
      get_or-eq_default (areas_from 0 (block_count file) file) 0 (let l = length_areas 0 (block_count file) file (omega arith) in omega (arith, l, count_written))
      ∙ sym (get_or-eq_default rows 0 (omega arith)))
      (below_or i (area_bytes * count))

-- ---- room for accepted rows
pub blocks_room : (f : File) (rows : List ℕ) → lowest (row_rules f rows) ≡ no_error
    → (row_count rows ≤ block_rows * blocks_for f (row_count rows)) × (1 ≤ blocks_for f (row_count rows)) × (blocks_for f (row_count rows) ≤ most_blocks)
unfolding blocks_for
blocks_room profile rows e = let h = accepted_rows profile rows e in (omega arith, omega arith, omega (arith, h))
blocks_room limits rows e = let h = accepted_limits rows e in (omega (arith, h), omega arith, omega arith)

length_fits : (f : File) (bytes : List ℕ) (n : ℕ) → length bytes ≡ file_length f n → 1 ≤ blocks_for f n → blocks_for f n ≤ most_blocks → length_wrong f bytes ≡ false
unfolding length_wrong block_count file_length blocks_for
length_fits profile bytes n l low high =
    ap not
    (and_both (eqb (length bytes) (block_bytes * (length bytes / block_bytes)) && leb 1 (length bytes / block_bytes)) (leb (length bytes / block_bytes) most_blocks)
    (and_both (eqb (length bytes) (block_bytes * (length bytes / block_bytes))) (leb 1 (length bytes / block_bytes))
    (eq-eqb (length bytes) (block_bytes * (length bytes / block_bytes)) (omega (arith, l)))
    (le-leb 1 (length bytes / block_bytes) (omega (arith, l))))
    (le-leb (length bytes / block_bytes) most_blocks (omega (arith, l))))
length_fits limits bytes n l low high = ap not (eq-eqb (length bytes) block_bytes (omega (arith, l)))

-- a profile's block has a row
block_some : (f : File) (model n : ℕ) (rows : List ℕ) → lowest (row_rules f rows) ≡ no_error → (k : ℕ) → k < blocks_for f (row_count rows)
    → empty_block f (written f model n rows k) ≡ false
unfolding empty_block blocks_for section_at
block_some limits model n rows fine k h = refl
block_some profile model n rows fine k h =
    let part : List ℕ = take area_bytes (drop (area_bytes * k) rows) in
    let some = accepted_some rows fine in
    let at : area_bytes * k + 0 ≡ row_bytes * (block_rows * k) = omega arith in
    ap all_zero (written_area profile model n rows k)
    ∙ zero_not (pad area_bytes 0 part) 0
    (λ e.
    section_nonzero profile rows (accepted profile rows fine).0 (block_rows * k) (omega (arith, some))
    (sym (pad_get area_bytes part 0 ∙ part_get (area_bytes * k) area_bytes rows 0 (omega arith) ∙ ap (λ (i : ℕ). get_or rows i 0) at) ∙ e))

header_holds : (f : File) (bytes : List ℕ) (k : ℕ) → get_or (block_at bytes k) 4 0 ≡ k → get_or (block_at bytes k) 5 0 ≡ block_count bytes
    → word16 (block_at bytes k) 6 ≡ model_of bytes → empty_block f (block_at bytes k) ≡ false → header_fits f bytes k ≡ true
unfolding header_fits
header_holds f bytes k a b c d =
    let p : Bool = eqb (get_or (block_at bytes k) 4 0) k in
    let q : Bool = eqb (get_or (block_at bytes k) 5 0) (block_count bytes) in
    let r : Bool = eqb (word16 (block_at bytes k) 6) (model_of bytes) in
    and_both (p && q && r) (not (empty_block f (block_at bytes k)))
    (and_both (p && q) r (and_both p q (eq-eqb _ _ a) (eq-eqb _ _ b)) (eq-eqb _ _ c))
    (ap not d)

-- ---- a file that was written from accepted rows, whole tens of bytes of them
module _ (f : File) (model : ℕ) (rows : List ℕ) (whole : length rows ≡ row_bytes * row_count rows) (fine : lowest (row_rules f rows) ≡ no_error) where
  areas_are : (i : ℕ) → get_or (areas_from 0 (block_count (file f model rows)) (file f model rows)) i 0 ≡ get_or rows i 0
  areas_are = areas_written f model rows (let r = (blocks_room f rows fine).0 in omega (arith, r))

  areas_long : length rows ≤ length (areas_from 0 (block_count (file f model rows)) (file f model rows))
  areas_long =
      let r = (blocks_room f rows fine).0 in
      let l = length_areas 0 (block_count (file f model rows)) (file f model rows) (omega arith) in
      omega (arith, r, l, count_written f model rows)

  areas_room : row_count rows ≤ row_count (areas_from 0 (block_count (file f model rows)) (file f model rows))
  unfolding row_count
  areas_room = let l = areas_long in omega (arith, l)

  used_written : used_rows (row_count (areas_from 0 (block_count (file f model rows)) (file f model rows))) (areas_from 0 (block_count (file f model rows)) (file f model rows)) ≡ row_count rows
  unfolding section_at
  used_written =
      let all : List ℕ = areas_from 0 (block_count (file f model rows)) (file f model rows) in
      used_exact (row_count all) (row_count rows) all areas_room
      (λ i h. areas_are i ∙ get_or-eq_default rows 0 (omega arith))
      (λ some e. section_nonzero f rows (accepted f rows fine).0 (row_count rows - 1) (omega arith) (sym (areas_are (row_bytes * (row_count rows - 1))) ∙ e))

  -- the rows are those that were written
  pub rows_written : rows_of (file f model rows) ≡ rows
  unfolding rows_of
  rows_written =
      let all : List ℕ = areas_from 0 (block_count (file f model rows)) (file f model rows) in
      let n : row_bytes * used_rows (row_count all) all ≡ length rows = omega (arith, used_written) in
      ap (λ (m : ℕ). take m all) n
      ∙ ext_get_or 0 (take (length rows) all) rows (length-take-le (length rows) all areas_long)
      (λ i h. let s = length_taken (length rows) all in get_or-take (length rows) all i 0 (omega (arith, s, h)) ∙ areas_are i)

  -- ---- rules 2 to 5
  length_right : length_wrong f (file f model rows) ≡ false
  length_right = let r = blocks_room f rows fine in length_fits f (file f model rows) (row_count rows) (length_file f model rows) r.1 r.2

  marker_right : marker_wrong f (file f model rows) ≡ false
  unfolding marker_wrong
  marker_right =
      ap not (every_all (block_count (file f model rows)) (λ k. same_text (take 4 (block_at (file f model rows) k)) (marker f))
      (λ k h.
      ap (λ (l : List ℕ). same_text l (marker f))
      (ap (λ (b : List ℕ). take 4 b) (block_written f model rows k (let n = count_written f model rows in omega (arith, n))) ∙ written_marker f model (count f model rows) rows k)
      ∙ text_same (marker f)))

  check_right : block_check_wrong (file f model rows) ≡ false
  unfolding block_check_wrong
  check_right =
      ap not (every_all (block_count (file f model rows)) (λ k. eqb (word32 (block_at (file f model rows) k) check_place) (block_check (block_at (file f model rows) k)))
      (λ k h.
      ap (λ (b : List ℕ). eqb (word32 b check_place) (block_check b)) (block_written f model rows k (let n = count_written f model rows in omega (arith, n)))
      ∙ eq-eqb _ _ (written_check f model (count f model rows) rows k)))

  pub model_written : model < 65536 → model_of (file f model rows) ≡ model
  model_written small =
      let r = (blocks_room f rows fine).1 in
      model_first (file f model rows)
      ∙ ap (λ (b : List ℕ). word16 b 6) (block_written f model rows 0 r)
      ∙ written_model f model (count f model rows) rows 0 small

  header_right : model < 65536 → header_wrong f (file f model rows) ≡ false
  unfolding header_wrong
  header_right small =
      ap not (every_all (block_count (file f model rows)) (λ k. header_fits f (file f model rows) k)
      (λ k h.
      let n = count_written f model rows in
      let here : k < count f model rows = omega (arith, n) in
      let b = block_written f model rows k here in
      header_holds f (file f model rows) k
      (ap (λ (l : List ℕ). get_or l 4 0) b ∙ written_number f model (count f model rows) rows k)
      (ap (λ (l : List ℕ). get_or l 5 0) b ∙ written_count f model (count f model rows) rows k ∙ sym n)
      (ap (λ (l : List ℕ). word16 l 6) b ∙ written_model f model (count f model rows) rows k small ∙ sym (model_written small))
      (ap (λ (l : List ℕ). empty_block f l) b ∙ block_some f model (count f model rows) rows fine k here)))

  -- no rule refuses the file
  pub file_fine : model < 65536 → lowest (file_rules f (file f model rows) ++ row_rules f (rows_of (file f model rows))) ≡ no_error
  unfolding file_rules
  file_fine small =
      lowest_skip bad_length (length_wrong f (file f model rows)) _ length_right
      ∙ lowest_skip bad_marker (marker_wrong f (file f model rows)) _ marker_right
      ∙ lowest_skip bad_header (header_wrong f (file f model rows)) _ (header_right small)
      ∙ lowest_skip bad_check (block_check_wrong (file f model rows)) _ check_right
      ∙ ap (λ (l : List ℕ). lowest (row_rules f l)) rows_written ∙ fine
