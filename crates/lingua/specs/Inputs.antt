-- What a run is handed: both files, and the readings as two slices, place by place; and what it is lent for its registers. A budget comes
-- beside them, which no rule asks. Assumes nothing: these are definitions.
use Rattle.std.specs.Prelude.{List, ℕ, ℤ}

pub record Inputs : Type 0 where
  pub profile : List ℕ
  pub limits : List ℕ
  pub variables : List ℕ
  pub numbers : List ℤ

abbrev pub inputs : List ℕ → List ℕ → List ℕ → List ℤ → Inputs
inputs prof lims variables numbers = record { profile = prof; limits = lims; variables = variables; numbers = numbers }

-- the caller's buffers: cells and state words (document 01: marks), of the profile's variables and of the open calls'
pub record Buffers : Type 0 where
  pub cells : List ℤ
  pub states : List ℕ
  pub open_cells : List ℤ
  pub open_states : List ℕ

abbrev pub buffers : List ℤ → List ℕ → List ℤ → List ℕ → Buffers
buffers cells states open_cells open_states =
    record { cells = cells; states = states; open_cells = open_cells; open_states = open_states }
