-- How much room any report needs, and bytes at the start of a buffer. Assumes nothing: these are definitions.
use Rattle.std.specs.Prelude.{◌≡◌, List, ℕ, ◌≤◌, length, take}

-- A number takes at most 20 digits and a sign. So the first line takes at most 26 bytes and 4 numbers, 106, and each of 16 variables' lines
-- a name of 8, 64 cells of 22 with their spaces, and its end, 1,417.
abbrev pub most_text : ℕ
most_text = 22778

-- a count of bytes at the start of a buffer; the second part follows from the first, and is stated for whoever lends those bytes on
abbrev pub IsPrefixLength : ℕ → List ℕ → Type 0
IsPrefixLength n buffer = (n ≤ length buffer) × (n ≡ length (take n buffer))
