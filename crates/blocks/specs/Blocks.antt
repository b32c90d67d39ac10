-- What the functions on one block say, in the terms of lingua. Assumes nothing: these are definitions.
use Rattle.std.specs.Prelude.{◌≡◌, ℕ, ◌*◌, ◌≤◌, Bool, not, ◌&&◌, List, ◌∷◌, ◌++◌, length, take, ◌==◌, slice_index}
use Rattle.lingua.specs.Numbers.{row_bytes}
use Rattle.lingua.specs.Rows.{word16, row_count}
use Rattle.lingua.specs.Format.{File, marker, bytes16, empty_block, rows_of}

-- a block's number, the count of blocks and the model are those given, and it has a row where one is wanted
unfoldable pub header_is : File → List ℕ → ℕ → ℕ → ℕ → Bool
header_is f block k count model =
    (slice_index block 4 == k) && slice_index block 5 == count && word16 block 6 == model && not (empty_block f block)

-- the first n bytes of the areas are the file's rows
pub record Gathered (n : ℕ) (areas file : List ℕ) : Type 0 where
  pub rows : take n areas ≡ rows_of file
  pub whole : n ≡ row_bytes * row_count (rows_of file)
  pub inside : n ≤ length areas

-- the bytes before a block's rows
unfoldable pub header_of : File → ℕ → ℕ → ℕ → List ℕ
header_of f model k n = marker f ++ (k ∷ n ∷ bytes16 model)
