-- Type rows and the array of their bodies. Assumes nothing.
use Rattle.std.specs.Prelude.{◌≡◌, true, false, List, ℕ, ◌+◌, ◌*◌, ◌≤◌, ◌<◌, length, take, drop, Result}
use Rattle.lingua.specs.Numbers.{body_bytes, type_bodies_length, most_types, type_section}
use Rattle.lingua.specs.Outcome.{Outcome, ok}
use Rattle.lingua.specs.declared.errors.Error.{Error}
use Rattle.lingua.specs.Body.{Body}
use Rattle.lingua.specs.Rows.{table_count, type_row}
use Rattle.lingua.specs.Trees.{type_body}
use Rattle.lingua.specs.Format.{profile}
use Rattle.lingua.specs.Rules.{attributes_fit, type_attributes, count_wrong, constant_wrong}
use Rattle.lingua.specs.References.{type_parts, reference_wrong}
use Rattle.safety.specs.Every.{Every}
use Rattle.body.specs.Encode.{Holds, Held}
use Rattle.body.specs.Typed.{Types}
use Rattle.body.specs.declared.typed.Typed.{Typed}
use Rattle.rules.specs.Accepted.{counts, type_attributes_lem, type_parts_lem}

-- the bytes of row r's body
unfoldable pub body_at : List ℕ → ℕ → List ℕ
body_at bodies r = take body_bytes (drop (body_bytes * r) bodies)

-- some body stands at row p's place
pub record HeldAt (bodies : List ℕ) (p : ℕ) : Type 0 where
  pub within : body_bytes * p + body_bytes ≤ length bodies
  pub held : Held (body_at bodies p)

-- the body that is looked up for row p stands at its place
pub record LooksUp (look : ℕ → Outcome ℕ Body) (bodies : List ℕ) (p : ℕ) : Type 0 where
  pub body : Body
  pub is : look p ≡ ok body
  pub holds : Holds (body_at bodies p) body

-- an operation's answer on bodies, whatever the offset beside it
pub record Answers (t : Result Typed Error) (o : Outcome ℕ Body) : Type 0 where
  pub offset : ℕ
  pub types : Types t o offset

-- what the rules before 13 show of the type rows
pub record TypesReady (rows : List ℕ) : Type 0 where
  pub few : table_count rows type_section ≤ most_types
  pub attributes : (r : ℕ) → r < table_count rows type_section → attributes_fit (type_attributes (type_row rows r)) ≡ true
  pub parts : (r : ℕ) → r < table_count rows type_section → Every (λ a. a < r) (type_parts (type_row rows r))

pub types_ready : (rows : List ℕ) → count_wrong profile rows ≡ false → constant_wrong profile rows ≡ false → reference_wrong rows ≡ false → TypesReady rows
types_ready rows c k r =
    record { few = (counts rows c).types.most; attributes = type_attributes_lem rows k; parts = type_parts_lem rows r }

-- the array holds the bodies of the first n type rows
pub record BodiesBelow (rows bodies : List ℕ) (n : ℕ) : Type 0 where
  pub long : length bodies ≡ type_bodies_length
  pub each : (r : ℕ) → r < n → LooksUp (λ a. type_body rows a) bodies r

-- what is known where row r's body is made: those of the rows below are
pub record RowReady (rows : List ℕ) (r : ℕ) (bodies : List ℕ) : Type 0 where
  pub below : r < table_count rows type_section
  pub types : TypesReady rows
  pub held : BodiesBelow rows bodies r
