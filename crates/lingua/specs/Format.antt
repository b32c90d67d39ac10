-- Files: blocks of 512 bytes, each with its own check, and the rows in them (document 01, Files). Assumes nothing: these are definitions.
use Rattle.std.specs.Prelude.{Bool, true, false, not, ◌&&◌, List, [], ◌∷◌, ◌++◌, ℕ, zero, suc, ◌+◌, ◌-◌, ◌*◌, ◌/◌, ◌%◌, ◌^◌, max, eqb, leb, length, get_or, take, drop, if◌then◌else◌}
use Rattle.lingua.specs.Numbers.{row_bytes, block_bytes, block_rows, header_bytes, area_bytes, checked_words, check_place, most_blocks}
use Rattle.lingua.specs.Value.{pad, all_of}
use Rattle.lingua.specs.Compute.{same_text}
use Rattle.lingua.specs.Rows.{word16, word32, row_count}

-- the two kinds of file
pub data File : Type 0 where
  profile limits : File

-- PROF or LIMS
abbrev pub marker : File → List ℕ
marker profile = 80 ∷ 82 ∷ 79 ∷ 70 ∷ []
marker limits = 76 ∷ 73 ∷ 77 ∷ 83 ∷ []

-- ---- a block's check
-- a 32-bit word rotated left by 5
unfoldable pub rotated : ℕ → ℕ
rotated x = x * 2 ^ 5 % 2 ^ 32 + x / 2 ^ 27

-- one word added, wrapping, and the sum rotated
unfoldable pub mixed : ℕ → ℕ → ℕ
mixed sum x = rotated ((sum + x) % 2 ^ 32)

-- over the first n words
unfoldable pub check_over : ℕ → List ℕ → ℕ
check_over zero block = 0
check_over (suc n) block = mixed (check_over n block) (word32 block (4 * n))

unfoldable pub block_check : List ℕ → ℕ
block_check block = check_over checked_words block

-- ---- reading
unfoldable pub block_count : List ℕ → ℕ
block_count file = length file / block_bytes

unfoldable pub block_at : List ℕ → ℕ → List ℕ
block_at file k = take block_bytes (drop (block_bytes * k) file)

-- the motor model, as the first block has it
unfoldable pub model_of : List ℕ → ℕ
model_of file = word16 file 6

unfoldable pub row_area : List ℕ → List ℕ
row_area block = take area_bytes (drop header_bytes block)

unfoldable pub all_zero : List ℕ → Bool
all_zero bytes = all_of (λ x. eqb x 0) bytes

-- the row areas of blocks k and following, n of them
unfoldable pub areas_from : ℕ → ℕ → List ℕ → List ℕ
areas_from k zero file = []
areas_from k (suc n) file = row_area (block_at file k) ++ areas_from (suc k) n file

-- the least number of rows behind which all are zero, at most n
unfoldable pub used_rows : ℕ → List ℕ → ℕ
used_rows zero bytes = 0
used_rows (suc n) bytes =
    if all_zero (take row_bytes (drop (row_bytes * n) bytes)) then used_rows n bytes else suc n

-- zero rows only end the file: the rows without them
unfoldable pub rows_of : List ℕ → List ℕ
rows_of file =
    let areas : List ℕ = areas_from 0 (block_count file) file in
    take (row_bytes * used_rows (row_count areas) areas) areas

-- ---- writing
-- 512 for each 50 rows begun, and for none; limits are one block
unfoldable pub blocks_for : File → ℕ → ℕ
blocks_for profile n = max 1 ((n + (block_rows - 1)) / block_rows)
blocks_for limits n = 1

unfoldable pub file_length : File → ℕ → ℕ
file_length f n = block_bytes * blocks_for f n

abbrev pub low_byte : ℕ → ℕ
low_byte x = x % 256

unfoldable pub bytes16 : ℕ → List ℕ
bytes16 x = low_byte x ∷ low_byte (x / 256) ∷ []

unfoldable pub bytes32 : ℕ → List ℕ
bytes32 x = low_byte x ∷ low_byte (x / 256) ∷ low_byte (x / 65536) ∷ low_byte (x / 16777216) ∷ []

-- block k of n, up to its check
unfoldable pub block_body : File → ℕ → ℕ → ℕ → List ℕ → List ℕ
block_body f model k n rows =
    marker f ++ (k ∷ n ∷ (bytes16 model ++ pad area_bytes 0 (take area_bytes (drop (area_bytes * k) rows))))

unfoldable pub with_check : List ℕ → List ℕ
with_check block = block ++ bytes32 (block_check block)

-- blocks k and following, m of them, of n in all
unfoldable pub blocks_from : File → ℕ → ℕ → ℕ → ℕ → List ℕ → List ℕ
blocks_from f model n k zero rows = []
blocks_from f model n k (suc m) rows = with_check (block_body f model k n rows) ++ blocks_from f model n (suc k) m rows

unfoldable pub file_of : File → ℕ → List ℕ → List ℕ
file_of f model rows = blocks_from f model (blocks_for f (row_count rows)) 0 (blocks_for f (row_count rows)) rows

-- ---- rules 2 to 5
-- every k below n
unfoldable pub every_below : ℕ → (ℕ → Bool) → Bool
every_below zero p = true
every_below (suc n) p = every_below n p && p n

unfoldable pub length_wrong : File → List ℕ → Bool
length_wrong profile file =
    not (eqb (length file) (block_bytes * block_count file) && leb 1 (block_count file) && leb (block_count file) most_blocks)
length_wrong limits file = not (eqb (length file) block_bytes)

unfoldable pub marker_wrong : File → List ℕ → Bool
marker_wrong f file = not (every_below (block_count file) (λ k. same_text (take 4 (block_at file k)) (marker f)))

-- a block of rows that are all zero, which only a limits file may have
unfoldable pub empty_block : File → List ℕ → Bool
empty_block profile block = all_zero (row_area block)
empty_block limits block = false

unfoldable pub header_fits : File → List ℕ → ℕ → Bool
header_fits f file k =
    eqb (get_or (block_at file k) 4 0) k
    && eqb (get_or (block_at file k) 5 0) (block_count file)
    && eqb (word16 (block_at file k) 6) (model_of file)
    && not (empty_block f (block_at file k))

unfoldable pub header_wrong : File → List ℕ → Bool
header_wrong f file = not (every_below (block_count file) (λ k. header_fits f file k))

unfoldable pub block_check_wrong : List ℕ → Bool
block_check_wrong file =
    not (every_below (block_count file) (λ k. eqb (word32 (block_at file k) check_place) (block_check (block_at file k))))
