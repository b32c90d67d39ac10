-- What the search for a variable by its name gives, and whose each limit is. Assumes nothing.
use Rattle.std.specs.Prelude.{◌≡◌, Bool, true, false, List, ℕ, ◌≤◌, ◌<◌, get_or, ℤ, Option, Some, None}
use Rattle.std.proofs.Common.{subst}
use Rattle.std.proofs.Math.Option.{Option as Maybe, some, none}
use Rattle.lingua.specs.Numbers.{most_limits, limit_section}
use Rattle.lingua.specs.Body.{Body}
use Rattle.lingua.specs.Store.{Limit}
use Rattle.lingua.specs.Rows.{pair_count}
use Rattle.lingua.specs.Trees.{name_at}
use Rattle.lingua.specs.Lookup.{Lookup, lookup, look_up}
use Rattle.lingua.specs.Refusal.{names_one, limit_fits}
use Rattle.profile.specs.declared.find.Search.{Search}

abbrev pub found_at : Option ℕ → Maybe ℕ
found_at (Some d) = some d
found_at None = none

unfoldable pub found_meaning : Search → Lookup
found_meaning s = lookup (found_at s.index) s.looked

-- ---- whose a limit is
abbrev pub limit : ℤ → ℤ → Limit
limit low high = record { low = low; high = high }

-- the variable that the search for a name finds, where its body has a property, or that there is none
unfoldable pub OneNamed : (Body → Bool) → Option ℕ → List ℕ → List ℕ → Type 0
OneNamed p (Some d) rows name = ((look_up rows name).found ≡ some d) × (names_one p rows name ≡ true)
OneNamed p None rows name = names_one p rows name ≡ false

-- the same of limit l, where its ends are right too
unfoldable pub OwnerIs : Option ℕ → List ℕ → List ℕ → ℕ → Type 0
OwnerIs (Some d) rows limits l = ((look_up rows (name_at limits limit_section l)).found ≡ some d) × (limit_fits rows limits l ≡ true)
OwnerIs None rows limits l = limit_fits rows limits l ≡ false

-- a file's limits, of which there are not too many
pub record LimitsRead (limits : List ℕ) : Type 0 where
  pub few : pair_count limits limit_section ≤ most_limits

-- the first n limits have their owners: each the variable that the search for its name finds
pub record OwnersBelow (rows limits owners : List ℕ) (n : ℕ) : Type 0 where
  pub owned : (l : ℕ) → l < n → (look_up rows (name_at limits limit_section l)).found ≡ some (get_or owners l 0)

-- all have, so that no run searches for a name
pub record LimitsOwned (rows limits : List ℕ) (owners : List ℕ) : Type 0 where
  pub read : LimitsRead limits
  pub owners_are : OwnersBelow rows limits owners (pair_count limits limit_section)

pub owned_as : {rows rows' limits limits' owners : List ℕ} → rows ≡ rows' → limits ≡ limits' → LimitsOwned rows limits owners → LimitsOwned rows' limits' owners
owned_as {rows} {rows'} {limits} {limits'} {owners} e f h =
    subst (λ (x : List ℕ). LimitsOwned x limits' owners) e (subst (λ (x : List ℕ). LimitsOwned rows x owners) f h)
