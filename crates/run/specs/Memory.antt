-- The caller's memory with a store in it, and what a new value's checks give. Assumes nothing: these are definitions.
use Rattle.std.specs.Prelude.{◌≡◌, List, ℕ, ◌≤◌, ◌<◌, ℤ, length}
use Rattle.lingua.specs.Numbers.{body_cells, most_variables}
use Rattle.lingua.specs.Errors.{no_error}
use Rattle.lingua.specs.Outcome.{ok, fail, Result}
use Rattle.lingua.specs.Body.{size}
use Rattle.lingua.specs.Store.{Variable, Reading, contents, cells_in, states_in}
use Rattle.lingua.specs.Typing.{Bodies}
use Rattle.safety.specs.TypeSound.{VariablesFit}

-- cells and state words hold a store whose values have the bodies of vars, each of at most 64 cells
pub record Memory (cells : List ℤ) (states : List ℕ) (vs : List Variable) (vars : Bodies) : Type 0 where
  pub cells_are : cells ≡ cells_in vs
  pub states_are : states ≡ states_in vs
  pub few : length vs ≤ most_variables
  pub small : (n : ℕ) → n < length vs → size (vars n) ≤ body_cells
  pub fit : VariablesFit vars (contents vs)

-- a reading of variable n
abbrev pub reading : ℕ → ℤ → Reading
reading n z = record { variable = n; number = z }

-- the checks passed, or the error
pub record Admits (r : ℕ) (o : Result (Unit {0})) : Type 0 where
  pub answer : r ≡ no_error → o ≡ ok tt
  pub error : (r ≡ no_error → ⊥) → o ≡ fail r
