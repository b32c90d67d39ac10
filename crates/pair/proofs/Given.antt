-- What a pair of files that is taken gives whoever goes on with its rows. Assumes nothing.
use mathlib.Core.Path.{◌≡◌, sym, subst}
use mathlib.Core.List.{List}
use Prim.Native.Nat.{ℕ}
use native.Mathlib.Omega.{arith}
use lib.ListN.{length, take}
use Rattle.lingua.specs.Numbers.{type_section, areas_length, area_bytes, type_bodies_length}
use Rattle.lingua.specs.Rows.{table_count}
use Rattle.lingua.specs.Refusal.{lowest, pair_rules}
use Rattle.safety.specs.Accepted.{AcceptedRows, accepted_pair}
use Rattle.decoder.specs.Tables.{AreTables}
use Rattle.rules.specs.Types.{BodiesBelow}
use Rattle.profile.specs.Find.{LimitsOwned, owned_as}
use Rattle.pair.specs.Taken.{room_for}
use Rattle.pair.specs.declared.Pair.{Pair}
use Rattle.pair.specs.Pair.{Room, TakenPair}

-- buffers of these lengths have room
pub room_there : (areas others bodies : List ℕ) → length areas ≡ areas_length → length others ≡ area_bytes → length bodies ≡ type_bodies_length → Room areas others bodies
unfolding room_for
room_there areas others bodies a o b = record { for_rows = omega (arith, a); for_limits = omega (arith, o); for_bodies = b }

module _ {prof lims areas others bodies : List ℕ} {p : Pair} (h : TakenPair p prof lims areas others bodies) where
  pub rows_accepted : lowest (pair_rules prof lims) ≡ 0 → AcceptedRows (take p.profile.length areas)
  rows_accepted e = subst (λ (rows : List ℕ). AcceptedRows rows) (sym h.rows) (accepted_pair prof lims e)

  pub tables_there : AreTables (take p.profile.length areas) p.profile.tables
  tables_there = subst (λ (rows : List ℕ). AreTables rows p.profile.tables) (sym h.rows) h.tables

  pub limit_tables_there : AreTables (take p.limits.length others) p.limits.tables
  limit_tables_there = subst (λ (rows : List ℕ). AreTables rows p.limits.tables) (sym h.limits) h.limit_tables

  pub limits_there : LimitsOwned (take p.profile.length areas) (take p.limits.length others) p.owners
  limits_there = owned_as (sym h.rows) (sym h.limits) h.limited

  pub bodies_held : BodiesBelow (take p.profile.length areas) bodies (table_count (take p.profile.length areas) type_section)
  bodies_held = subst (λ (rows : List ℕ). BodiesBelow rows bodies (table_count rows type_section)) (sym h.rows) h.held
