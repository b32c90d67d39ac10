-- Bodies and attributes at places of a list of bytes, and what is measured of them. Assumes nothing: these are definitions.
use Rattle.std.specs.Prelude.{◌≡◌, List, ◌++◌, ℕ, ◌+◌, ◌≤◌, length, drop}
use Rattle.lingua.specs.Numbers.{body_cells, body_nodes}
use Rattle.lingua.specs.Body.{Body, Attributes, size, sizes, nodes, attribute_nodes, depth, attribute_depth, count_attributes}
use Rattle.lingua.specs.Encode.{bytes, attribute_bytes}
use Rattle.body.specs.declared.walk.Measure.{Measure}

-- the bytes of a body, and of attributes, stand at a place
pub record At (bs : List ℕ) (at : ℕ) (b : Body) : Type 0 where
  pub rest : List ℕ
  pub is : drop at bs ≡ bytes b ++ rest

pub record AttributesAt (bs : List ℕ) (at : ℕ) (fs : Attributes) : Type 0 where
  pub rest : List ℕ
  pub is : drop at bs ≡ attribute_bytes fs ++ rest

-- some body, and n attributes, with few enough cells and nodes stand there
pub record SomeAt (bs : List ℕ) (at : ℕ) : Type 0 where
  pub body : Body
  pub here : At bs at body
  pub few_cells : size body ≤ body_cells
  pub few_nodes : nodes body ≤ body_nodes

pub record SomeAttributesAt (bs : List ℕ) (at n : ℕ) : Type 0 where
  pub attributes : Attributes
  pub here : AttributesAt bs at attributes
  pub counted : n ≡ count_attributes attributes
  pub few_cells : sizes attributes ≤ body_cells
  pub few_nodes : attribute_nodes attributes ≤ body_nodes

-- the numbers are those of the body at the place, and next is past it
pub record Measured (m : Measure) (at : ℕ) (b : Body) : Type 0 where
  pub is_cells : m.cells ≡ size b
  pub is_nodes : m.nodes ≡ nodes b
  pub is_depth : m.depth ≡ depth b
  pub is_next : m.next ≡ at + length (bytes b)

pub record AttributesMeasured (m : Measure) (at : ℕ) (fs : Attributes) : Type 0 where
  pub is_cells : m.cells ≡ sizes fs
  pub is_nodes : m.nodes ≡ attribute_nodes fs
  pub is_depth : m.depth ≡ attribute_depth fs
  pub is_next : m.next ≡ at + length (attribute_bytes fs)
