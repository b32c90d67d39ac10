-- A file that rules 2 to 5 accept: its length, and that all four tests passed. Assumes nothing.
use Rattle.std.specs.Prelude.{◌≡◌, false, ◌&&◌, List, ℕ, ◌*◌, ◌/◌, ◌≤◌, eqb, leb, length}
use Rattle.std.proofs.Common.{arith, eqb-true, leb-true}
use Rattle.std.proofs.lemmas.Bool.{not-false}
use Rattle.lingua.specs.Numbers.{block_bytes, most_blocks}
use Rattle.lingua.specs.Errors.{no_error, bad_length, bad_marker, bad_header, bad_check}
use Rattle.lingua.specs.Format.{File, profile, limits, block_count, length_wrong, marker_wrong, header_wrong, block_check_wrong}
use Rattle.lingua.specs.Refusal.{lowest, file_rules}
use Rattle.laws.specs.Outcomes.{and_left, and_right}
use Rattle.laws.specs.Refusals.{lowest_none}

-- ---- the length
pub length_whole : (f : File) (file : List ℕ) → length_wrong f file ≡ false → length file ≡ block_bytes * block_count file
unfolding length_wrong block_count
length_whole profile file e =
    let n : ℕ = length file / block_bytes in
    let all = not-false (eqb (length file) (block_bytes * n) && leb 1 n && leb n most_blocks) e in
    eqb-true (length file) (block_bytes * n)
    (and_left (eqb (length file) (block_bytes * n)) (leb 1 n) (and_left (eqb (length file) (block_bytes * n) && leb 1 n) (leb n most_blocks) all))
length_whole limits file e = let h = eqb-true (length file) block_bytes (not-false (eqb (length file) block_bytes) e) in omega (arith, h)

pub limits_one : (file : List ℕ) → length_wrong limits file ≡ false → block_count file ≡ 1
unfolding length_wrong block_count
limits_one file e = let h = eqb-true (length file) block_bytes (not-false (eqb (length file) block_bytes) e) in omega (arith, h)

pub profile_some : (file : List ℕ) → length_wrong profile file ≡ false → 1 ≤ block_count file
unfolding length_wrong block_count
profile_some file e =
    let n : ℕ = length file / block_bytes in
    let all = not-false (eqb (length file) (block_bytes * n) && leb 1 n && leb n most_blocks) e in
    leb-true 1 n (and_right (eqb (length file) (block_bytes * n)) (leb 1 n) (and_left (eqb (length file) (block_bytes * n) && leb 1 n) (leb n most_blocks) all))

-- no more blocks than a file can have
pub blocks_few : (f : File) (file : List ℕ) → length_wrong f file ≡ false → block_count file ≤ most_blocks
unfolding length_wrong block_count
blocks_few profile file e =
    let n : ℕ = length file / block_bytes in
    let all = not-false (eqb (length file) (block_bytes * n) && leb 1 n && leb n most_blocks) e in
    leb-true n most_blocks (and_right (eqb (length file) (block_bytes * n) && leb 1 n) (leb n most_blocks) all)
blocks_few limits file e = let h = eqb-true (length file) block_bytes (not-false (eqb (length file) block_bytes) e) in omega (arith, h)

-- ---- all four tests
pub record Passes (f : File) (file : List ℕ) : Type 0 where
  pub sized : length_wrong f file ≡ false
  pub marked : marker_wrong f file ≡ false
  pub headed : header_wrong f file ≡ false
  pub checked : block_check_wrong file ≡ false

pub file_passes : (f : File) (file : List ℕ) → lowest (file_rules f file) ≡ no_error → Passes f file
unfolding file_rules
file_passes f file e =
    let a = lowest_none bad_length (length_wrong f file) _ (omega arith) e in
    let b = lowest_none bad_marker (marker_wrong f file) _ (omega arith) a.1 in
    let d = lowest_none bad_header (header_wrong f file) _ (omega arith) b.1 in
    let g = lowest_none bad_check (block_check_wrong file) _ (omega arith) d.1 in
    record { sized = a.0; marked = b.0; headed = d.0; checked = g.0 }
