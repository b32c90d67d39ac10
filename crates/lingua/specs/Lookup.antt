-- The search for a variable by its name (document 02, request 4): the profile's declarations are looked at one after another, and the search
-- ends at the one that has the name. Assumes nothing: these are definitions.
use Rattle.std.specs.Prelude.{List, ℕ, zero, suc, if◌then◌else◌}
use Rattle.std.proofs.Math.Option.{Option, some, none}
use Rattle.lingua.specs.Numbers.{declaration_section}
use Rattle.lingua.specs.Compute.{same_text}
use Rattle.lingua.specs.Rows.{pair_count}
use Rattle.lingua.specs.Trees.{name_at}

-- the declaration that has the name, if there is one, and how many declarations were looked at
pub record Lookup : Type 0 where
  pub found : Option ℕ
  pub looked : ℕ

abbrev pub lookup : Option ℕ → ℕ → Lookup
lookup found looked = record { found = found; looked = looked }

-- once d declarations were looked at and none of them has the name, with n more to come
unfoldable pub look_up_from : List ℕ → List ℕ → ℕ → ℕ → Lookup
look_up_from rows name d zero = lookup none d
look_up_from rows name d (suc n) =
    if same_text (name_at rows declaration_section d) name then lookup (some d) (suc d) else look_up_from rows name (suc d) n

unfoldable pub look_up : List ℕ → List ℕ → Lookup
look_up rows name = look_up_from rows name 0 (pair_count rows declaration_section)
