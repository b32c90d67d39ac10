-- What lent memory holds, and that a function which is lent memory gives back the same slices. Assumes nothing: these are definitions.
use Rattle.std.specs.Prelude.{◌≡◌, length}
use Rattle.run.specs.Reached.{Lent, lent}
use Rattle.run.specs.declared.memory.Memory.{Memory}
use Rattle.run.specs.declared.memory.Seen.{Seen}

-- what memory holds
abbrev pub lent_in : Memory → Lent
lent_in m = lent m.cells.now m.states.now m.bodies.now

-- the same of memory that is lent to be read
abbrev pub seen_in : Seen → Lent
seen_in m = lent m.cells.now m.states.now m.bodies.now

-- the slices are those that were lent, and as long
pub record SameSlices (m after : Memory) : Type 0 where
  pub bodies : after.bodies.ghost_name ≡ m.bodies.ghost_name
  pub cells : after.cells.ghost_name ≡ m.cells.ghost_name
  pub states : after.states.ghost_name ≡ m.states.ghost_name
  pub bodies_length : length after.bodies.now ≡ length m.bodies.now
  pub cells_length : length after.cells.now ≡ length m.cells.now
  pub states_length : length after.states.now ≡ length m.states.now
