-- What taking a file whole, or both files, gives. Assumes nothing: these are definitions.
use Rattle.std.specs.Prelude.{◌≡◌, List, ℕ, ◌*◌, ◌≤◌, length, take, Result, Ok}
use Rattle.lingua.specs.Numbers.{area_bytes, most_blocks, type_section}
use Rattle.lingua.specs.declared.errors.Refusal.{Refusal}
use Rattle.lingua.specs.Faults.{refusal_of}
use Rattle.lingua.specs.Rows.{table_count}
use Rattle.lingua.specs.Format.{File, profile, limits, rows_of}
use Rattle.lingua.specs.Refusal.{lowest, whole_file_rules}
use Rattle.decoder.specs.Tables.{AreTables}
use Rattle.rules.specs.Types.{BodiesBelow}
use Rattle.pair.specs.declared.file.Taken.{Taken}

-- the row areas of all blocks that a file may have
unfoldable pub room_for : File → ℕ
room_for profile = area_bytes * most_blocks
room_for limits = area_bytes

-- where no rule applies: the rows stand at the front, in these tables, and a profile's type rows have their bodies
pub record RowsTaken (t : Taken) (f : File) (file areas bodies : List ℕ) : Type 0 where
  pub rows : take t.length areas ≡ rows_of file
  pub within : t.length ≤ length areas
  pub tables : AreTables (rows_of file) t.tables
  pub held : f ≡ profile → BodiesBelow (rows_of file) bodies (table_count (rows_of file) type_section)

-- the lowest rule that applies, or what was taken
pub record TakenIs (r : Result Taken Refusal) (f : File) (file areas bodies : List ℕ) : Type 0 where
  pub refusal : refusal_of r ≡ lowest (whole_file_rules f file)
  pub taken : (t : Taken) → r ≡ Ok t → RowsTaken t f file areas bodies
