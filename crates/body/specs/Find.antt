-- Where a record's attributes stand in its bytes. Assumes nothing: these are definitions.
use Rattle.std.specs.Prelude.{◌≡◌, true, List, ℕ, Option, Some, None, ◌+◌, ◌≤◌, eqb, ltb, length, if◌then◌else◌}
use Rattle.std.proofs.Math.Option.{some, none}
use Rattle.lingua.specs.Numbers.{body_nodes}
use Rattle.lingua.specs.Outcome.{is_some}
use Rattle.lingua.specs.Body.{Body, record_of, Attributes, end, attribute, nodes, attribute_body, attribute_offset}
use Rattle.lingua.specs.Encode.{bytes}
use Rattle.body.specs.declared.find.Found.{Found}
use Rattle.body.specs.Encode.{Holds}
use Rattle.body.specs.Walk.{At}

-- an array holds some record
pub record HeldRecord (x : List ℕ) : Type 0 where
  pub attributes : Attributes
  pub holds : Holds x (record_of attributes)

-- the bytes of the attributes before attribute n
unfoldable pub bytes_before : ℕ → Attributes → ℕ
bytes_before n end = 0
bytes_before n (attribute m b fs) = if eqb n m then 0 else 1 + length (bytes b) + bytes_before n fs

-- attribute n is there: where its body stands, behind its number, and the cells before its first
pub record FoundAt (f : Found) (x : List ℕ) (n : ℕ) (fs : Attributes) : Type 0 where
  pub body : Body
  pub there : attribute_body n fs ≡ some body
  pub stands : At x f.at body
  pub is_place : f.at ≡ 3 + bytes_before n fs
  pub is_offset : f.offset ≡ attribute_offset n fs

-- attribute n stands where it was found, or is not there
abbrev pub FoundIs : Option Found → List ℕ → ℕ → Attributes → Type 0
FoundIs (Some f) x n fs = FoundAt f x n fs
FoundIs None x n fs = attribute_body n fs ≡ none

-- the bytes of the attributes that stay before a new attribute n
unfoldable pub bytes_below : ℕ → Attributes → ℕ
bytes_below n end = 0
bytes_below n (attribute m b fs) = if ltb n m then 0 else 1 + length (bytes b) + bytes_below n fs

-- attribute n is there, and its body stands at a place of the record's bytes
pub record PlacedAt (at n : ℕ) (fs : Attributes) : Type 0 where
  pub body : Body
  pub there : attribute_body n fs ≡ some body
  pub is_place : at ≡ 3 + bytes_before n fs

-- an array holds a record, and the body of one of its attributes stands at a place
pub record SomePlacedAt (x : List ℕ) (at : ℕ) : Type 0 where
  pub attributes : Attributes
  pub holds : Holds x (record_of attributes)
  pub number : ℕ
  pub placed : PlacedAt at number attributes

-- an array holds a record that has attribute n
pub record HeldWith (x : List ℕ) (n : ℕ) : Type 0 where
  pub attributes : Attributes
  pub holds : Holds x (record_of attributes)
  pub there : is_some (attribute_body n attributes) ≡ true

-- an array holds a record, and another a body, and together they have few enough nodes
pub record Room (x y : List ℕ) : Type 0 where
  pub attributes : Attributes
  pub added : Body
  pub holds : Holds x (record_of attributes)
  pub holds_added : Holds y added
  pub room : nodes (record_of attributes) + nodes added ≤ body_nodes
