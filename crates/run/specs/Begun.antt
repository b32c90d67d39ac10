-- What a run's start leaves in memory: the store that the definition starts with, and the limits. Assumes nothing: these are definitions.
use Rattle.std.specs.Prelude.{◌≡◌, List, map, ℕ, ◌*◌, ◌<◌, ℤ, length}
use Rattle.lingua.specs.Numbers.{declaration_section, cells_length, states_length, limit_cells_length, limit_cells}
use Rattle.lingua.specs.Rows.{pair_count}
use Rattle.lingua.specs.Store.{Variable, variable_at, cells_in, states_in}
use Rattle.lingua.specs.Run.{unfilled, scope_declarations}
use Rattle.lingua.specs.Trees.{profile_of}
use Rattle.safety.specs.Accepted.{AcceptedRows}
use Rattle.profile.specs.Variables.{LimitAt}
use Rattle.profile.specs.Find.{LimitsOwned}

-- what the start asks: accepted rows, whose each limit is, and room for limits, cells and state words
pub record Asked (rows limits owners : List ℕ) (kept cells : List ℤ) (states : List ℕ) : Type 0 where
  pub accepted : AcceptedRows rows
  pub limited : LimitsOwned rows limits owners
  pub room : length kept ≡ limit_cells_length
  pub long_cells : length cells ≡ cells_length
  pub long_states : length states ≡ states_length

-- of a scope: no variable is filled, and each has its declared yoke
abbrev pub scope_start : List ℕ → List ℕ → ℕ → List Variable
scope_start rows limits a = map unfilled (scope_declarations (profile_of rows limits) a)

-- the profile's own
abbrev pub start_store : List ℕ → List ℕ → List Variable
start_store rows limits = map unfilled (profile_of rows limits).declarations

-- cells and state words as the definition has them, and three cells for each variable's limit; no body
pub record Begun (rows limits : List ℕ) (kept cells : List ℤ) (states : List ℕ) : Type 0 where
  pub cells_are : cells ≡ cells_in (start_store rows limits)
  pub states_are : states ≡ states_in (start_store rows limits)
  pub count : length (start_store rows limits) ≡ pair_count rows declaration_section
  pub room : length kept ≡ limit_cells_length
  pub limited : (n : ℕ) → n < length (start_store rows limits) → LimitAt kept (limit_cells * n) (variable_at (start_store rows limits) n).limit
