-- What a run is given, and that a function which is lent registers gives back the same slices. Assumes nothing: these are definitions.
use Rattle.std.specs.Prelude.{◌≡◌, List, ℕ, ◌≤◌, length, take}
use Rattle.lingua.specs.Numbers.{type_section}
use Rattle.lingua.specs.Rows.{table_count}
use Rattle.lingua.specs.Inputs.{Buffers, buffers}
use Rattle.decoder.specs.Tables.{AreTables}
use Rattle.rules.specs.Types.{BodiesBelow}
use Rattle.profile.specs.Find.{LimitsOwned}
use Rattle.taken.specs.declared.given.Runnable.{Runnable}
use Rattle.taken.specs.declared.given.Admitted.{Admitted}
use Rattle.taken.specs.declared.given.Registers.{Registers}
use Rattle.taken.specs.declared.given.SeenRegisters.{SeenRegisters}

-- whose each limit is, and the bodies of the profile's type rows
pub record RowsKnown (rows limits owners bodies : List ℕ) : Type 0 where
  pub owned : LimitsOwned rows limits owners
  pub held : BodiesBelow rows bodies (table_count rows type_section)

abbrev pub IsKnown : Runnable → Type 0
IsKnown r = RowsKnown r.rows r.limits r.owners r.bodies.now

-- an area with the limits' rows at its front, and their tables
pub record LimitsIn (a : Admitted) (others : List ℕ) : Type 0 where
  pub within : a.limits.length ≤ length others
  pub tables : AreTables (take a.limits.length others) a.limits.tables

-- what the run is given with those rows, and all else as it was
pub record WithLimits (a : Admitted) (others : List ℕ) (r : Runnable) : Type 0 where
  pub rows : r.rows ≡ a.rows
  pub limits : r.limits ≡ take a.limits.length others
  pub owners : r.owners ≡ a.owners
  pub bodies : r.bodies.now ≡ a.bodies.now

-- what registers hold
abbrev pub buffers_in : Registers → Buffers
buffers_in r = buffers r.cells.now r.states.now r.open_cells.now r.open_states.now

-- the same of registers that are lent to be read
abbrev pub buffers_seen : SeenRegisters → Buffers
buffers_seen r = buffers r.cells.now r.states.now r.open_cells.now r.open_states.now

-- the slices are those that were lent, and as long
pub record SameRegisters (r after : Registers) : Type 0 where
  pub cells : after.cells.ghost_name ≡ r.cells.ghost_name
  pub states : after.states.ghost_name ≡ r.states.ghost_name
  pub open_cells : after.open_cells.ghost_name ≡ r.open_cells.ghost_name
  pub open_states : after.open_states.ghost_name ≡ r.open_states.ghost_name
  pub cells_length : length after.cells.now ≡ length r.cells.now
  pub states_length : length after.states.now ≡ length r.states.now
  pub open_cells_length : length after.open_cells.now ≡ length r.open_cells.now
  pub open_states_length : length after.open_states.now ≡ length r.open_states.now
