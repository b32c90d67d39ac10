-- Words as numbers, as the code glues them. Assumes nothing: these are definitions.
use Rattle.std.specs.Prelude.{Option, Some, None, ◌≡◌, true, List, ℕ, ◌+◌, ◌-◌, ◌≤◌, ◌<◌, length, get_or, ℤ, pos}
use Rattle.lingua.specs.Numbers.{word_length}
use Rattle.lingua.specs.Value.{is_text, packed_in}

-- the number is that of some text
pub record IsWord (n : ℕ) : Type 0 where
  pub characters : List ℕ
  pub text : is_text characters ≡ true
  pub is : n ≡ packed_in word_length characters

-- a cell that holds the number of some text
pub record WordAt (stack : List ℤ) (at : ℕ) : Type 0 where
  pub number : ℕ
  pub is : get_or stack at (pos 0) ≡ pos number
  pub word : IsWord number

-- the second text's number in the places that the first text leaves, or none if they are too few
unfoldable pub Behind : Option ℕ → List ℕ → List ℕ → Type 0
Behind (Some n) cs ds = (length cs + length ds ≤ word_length) × (n ≡ packed_in (word_length - length cs) ds)
Behind None cs ds = word_length < length cs + length ds
