-- What stands in memory once a run's start is done with the first n variables. Assumes nothing: these are definitions.
use Rattle.std.specs.Prelude.{◌≡◌, List, ℕ, ◌+◌, ◌-◌, ◌*◌, ◌≤◌, ◌<◌, ℤ, length, take}
use Rattle.lingua.specs.Numbers.{declaration_section, limit_section, limit_cells_length, limit_cells, scope_table}
use Rattle.lingua.specs.Rows.{pair_count, procedure_count}
use Rattle.lingua.specs.Store.{states_in, bodies_in}
use Rattle.lingua.specs.Trees.{limit_from, name_at}
use Rattle.safety.specs.Accepted.{AcceptedRows}
use Rattle.decoder.specs.Tables.{IsTable}
use Rattle.decoder.specs.declared.tables.Table.{Table}
use Rattle.profile.specs.Variables.{LimitAt}
use Rattle.profile.specs.Find.{LimitsOwned}
use Rattle.run.specs.Begun.{scope_start}

-- of the scope whose variables are in the table; the state words have nothing to do with the limits
pub record YokesKept (rows : List ℕ) (t : Table) (states : List ℕ) (n : ℕ) : Type 0 where
  pub is : (limits : List ℕ) (a : ℕ) → a ≤ procedure_count rows → IsTable rows (scope_table a) t → states ≡ states_in (take n (scope_start rows limits a))

-- neither do the present bodies, which are the declared ones
pub record BodiesKept (rows : List ℕ) (t : Table) (bodies : List ℕ) (n : ℕ) : Type 0 where
  pub is : (limits : List ℕ) (a : ℕ) → a ≤ procedure_count rows → IsTable rows (scope_table a) t → bodies ≡ bodies_in (take n (scope_start rows limits a))

-- the limits of rows l and up are kept: for each variable the first of its name
pub record LimitsFrom (rows limits : List ℕ) (kept : List ℤ) (l : ℕ) : Type 0 where
  pub room : length kept ≡ limit_cells_length
  pub each : (d : ℕ) → d < pair_count rows declaration_section → LimitAt kept (limit_cells * d) (limit_from l (pair_count limits limit_section - l) limits (name_at rows declaration_section d))

-- what keeping the limits asks: the variables are those of an accepted profile, and each limit has its owner among them
pub record Limited (rows limits owners : List ℕ) : Type 0 where
  pub accepted : AcceptedRows rows
  pub limited : LimitsOwned rows limits owners

-- and what keeping limit l asks: those of the later rows are kept
pub record LaterKept (rows limits owners : List ℕ) (kept : List ℤ) (l : ℕ) : Type 0 where
  pub known : Limited rows limits owners
  pub there : l < pair_count limits limit_section
  pub later : LimitsFrom rows limits kept (l + 1)
