-- What the code's counts of uses say. Assumes nothing: these are definitions.
use Rattle.std.specs.Prelude.{◌≡◌, List, ℕ, ◌<◌, min, length, get_or}
use Rattle.lingua.specs.References.{occurrences}
use Rattle.decoder.specs.Mentions.{listed}
use Rattle.decoder.specs.declared.mentions.UpToThree.{UpToThree}

-- how often each row below 512 stands in a list, up to 2
pub record Counted (uses xs : List ℕ) : Type 0 where
  pub long : length uses ≡ 512
  pub counts : (r : ℕ) → r < 512 → get_or uses r 0 ≡ min (occurrences r xs) 2

-- what a function answers of each row below n is a short list of what that row names
pub record Names (answers : ℕ → UpToThree → Type 0) (n : ℕ) (names : ℕ → List ℕ) : Type 0 where
  pub each : (r : ℕ) (x : UpToThree) → r < n → answers r x → listed x ≡ names r
