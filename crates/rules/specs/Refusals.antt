-- The rules that a profile has beyond those of a limits file, and what asking the rules leaves. Assumes nothing: these are definitions.
use Rattle.std.specs.Prelude.{◌≡◌, false, List, [], ◌∷◌, ℕ, length, Result}
use Rattle.lingua.specs.Numbers.{type_bodies_length, type_section}
use Rattle.lingua.specs.Errors.{no_error, bad_reference, bad_use, misplaced, bad_type, bad_parameters, repeated_reference}
use Rattle.lingua.specs.declared.errors.Refusal.{Refusal}
use Rattle.lingua.specs.Faults.{refusal_of}
use Rattle.lingua.specs.Rows.{table_count}
use Rattle.lingua.specs.Format.{File, profile}
use Rattle.lingua.specs.Rules.{count_wrong, constant_wrong}
use Rattle.lingua.specs.References.{reference_wrong, use_wrong, place_wrong, type_wrong, parameters_wrong, references_wrong}
use Rattle.lingua.specs.Refusal.{Rule, rule, lowest, row_rules}
use Rattle.rules.specs.Types.{BodiesBelow}

unfoldable pub link_rules : List ℕ → List Rule
link_rules rows =
    rule bad_reference (reference_wrong rows)
    ∷ rule bad_use (use_wrong rows)
    ∷ rule misplaced (place_wrong rows)
    ∷ rule bad_type (type_wrong rows)
    ∷ rule bad_parameters (parameters_wrong rows)
    ∷ rule repeated_reference (references_wrong rows)
    ∷ []

-- what rules 7 and 9 have shown when these are asked, and room for the bodies
pub record Linkable (rows : List ℕ) (bodies : List ℕ) : Type 0 where
  pub counts : count_wrong profile rows ≡ false
  pub constants : constant_wrong profile rows ≡ false
  pub room : length bodies ≡ type_bodies_length

-- the first of them that applies; where none does, the array holds the bodies of all type rows
pub record Linked {A : Type 0} (r : Result A Refusal) (rows bodies : List ℕ) : Type 0 where
  pub refusal : refusal_of r ≡ lowest (link_rules rows)
  pub held : refusal_of r ≡ no_error → BodiesBelow rows bodies (table_count rows type_section)

-- the first of rules 6 to 13, 18 and 19 that applies; where none does, the bodies of a profile
pub record Judged {A : Type 0} (r : Result A Refusal) (f : File) (rows bodies : List ℕ) : Type 0 where
  pub refusal : refusal_of r ≡ lowest (row_rules f rows)
  pub held : f ≡ profile → refusal_of r ≡ no_error → BodiesBelow rows bodies (table_count rows type_section)
