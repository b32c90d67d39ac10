-- The blocks of a file: where they lie and how long they are. Assumes nothing.
use Rattle.std.specs.Prelude.{◌≡◌, List, ℕ, ◌+◌, ◌-◌, ◌*◌, ◌≤◌, ◌<◌, length, take, drop}
use Rattle.std.proofs.Common.{sym, ap, ap₂, arith, length-drop, length-take-le}
use Rattle.lingua.specs.Numbers.{block_bytes, header_bytes, area_bytes, check_place}
use Rattle.lingua.specs.Rows.{word16}
use Rattle.lingua.specs.Format.{block_at, block_count, row_area, model_of}
use Rattle.laws.specs.Parts.{part_get}

-- a block lies whole within the file
pub block_inside : (file : List ℕ) (k : ℕ) → k < block_count file → block_bytes * k + block_bytes ≤ length file
unfolding block_count
block_inside file k h = omega arith

pub length_block : (file : List ℕ) (k : ℕ) → k < block_count file → length (block_at file k) ≡ block_bytes
unfolding block_at
length_block file k h =
    length-take-le block_bytes (drop (block_bytes * k) file) (omega (arith, length-drop (block_bytes * k) file, block_inside file k h))

-- the part of the file from a block's start to its end
pub part_block : (file : List ℕ) (k : ℕ) → take (block_bytes * k + block_bytes - block_bytes * k) (drop (block_bytes * k) file) ≡ block_at file k
unfolding block_at
part_block file k =
    let e : block_bytes * k + block_bytes - block_bytes * k ≡ block_bytes = omega arith in
    ap (λ (n : ℕ). take n (drop (block_bytes * k) file)) e

pub length_area : (block : List ℕ) → check_place ≤ length block → length (row_area block) ≡ area_bytes
unfolding row_area
length_area block h = length-take-le area_bytes (drop header_bytes block) (omega (arith, length-drop header_bytes block))

-- the model is that of the first block
pub model_first : (file : List ℕ) → model_of file ≡ word16 (block_at file 0) 6
unfolding model_of word16 block_at
model_first file =
    sym (ap₂ (λ (a b : ℕ). a + 256 * b) (part_get (block_bytes * 0) block_bytes file 6 (omega arith)) (part_get (block_bytes * 0) block_bytes file 7 (omega arith)))
