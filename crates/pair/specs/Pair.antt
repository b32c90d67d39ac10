-- What taking both files gives. Assumes nothing: these are definitions.
use Rattle.std.specs.Prelude.{◌≡◌, List, ℕ, ◌≤◌, length, take, Result, Ok}
use Rattle.lingua.specs.Numbers.{type_section, type_bodies_length}
use Rattle.lingua.specs.declared.errors.Refusal.{Refusal}
use Rattle.lingua.specs.Faults.{refusal_of}
use Rattle.lingua.specs.Rows.{table_count}
use Rattle.lingua.specs.Format.{profile, limits, rows_of}
use Rattle.lingua.specs.Refusal.{lowest, pair_rules}
use Rattle.decoder.specs.Tables.{AreTables}
use Rattle.rules.specs.Types.{BodiesBelow}
use Rattle.profile.specs.Find.{LimitsOwned}
use Rattle.laws.specs.Lowest.{lesser}
use Rattle.pair.specs.Taken.{room_for}
use Rattle.pair.specs.declared.file.Taken.{Taken}
use Rattle.pair.specs.declared.Pair.{Pair}

-- room for the rows of both files and for the bodies of the profile's types
pub record Room (areas others bodies : List ℕ) : Type 0 where
  pub for_rows : room_for profile ≤ length areas
  pub for_limits : room_for limits ≤ length others
  pub for_bodies : length bodies ≡ type_bodies_length

-- where no rule applies: both files' rows at the front of their areas, their tables, whose each limit is, and the type rows' bodies
pub record TakenPair (t : Pair) (prof lims areas others bodies : List ℕ) : Type 0 where
  pub rows : take t.profile.length areas ≡ rows_of prof
  pub within : t.profile.length ≤ length areas
  pub tables : AreTables (rows_of prof) t.profile.tables
  pub limits : take t.limits.length others ≡ rows_of lims
  pub within_others : t.limits.length ≤ length others
  pub limit_tables : AreTables (rows_of lims) t.limits.tables
  pub limited : LimitsOwned (rows_of prof) (rows_of lims) t.owners
  pub held : BodiesBelow (rows_of prof) bodies (table_count (rows_of prof) type_section)

pub record PairIs (r : Result Pair Refusal) (prof lims areas others bodies : List ℕ) : Type 0 where
  pub refusal : refusal_of r ≡ lowest (pair_rules prof lims)
  pub taken : (t : Pair) → r ≡ Ok t → TakenPair t prof lims areas others bodies

-- both files are taken, or the earlier of their refusals is given
pub record BothTaken (r : Result (Taken × Taken) Refusal) (p l : Result Taken Refusal) : Type 0 where
  pub refusal : refusal_of r ≡ lesser (refusal_of p) (refusal_of l)
  pub taken : (t : Taken × Taken) → r ≡ Ok t → (p ≡ Ok t.0) × (l ≡ Ok t.1)
