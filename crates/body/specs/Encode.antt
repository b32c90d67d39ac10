-- A body as the code holds it: its bytes and zeros up to 96. Assumes nothing: these are definitions.
use Rattle.std.specs.Prelude.{◌≡◌, List, ℕ, ◌≤◌}
use Rattle.lingua.specs.Numbers.{body_cells, body_nodes}
use Rattle.lingua.specs.Body.{Body, size, nodes}
use Rattle.lingua.specs.Encode.{encoded}

-- an array holds a body with few enough cells and nodes; what is taken out of such a body is such a body again
pub record Holds (x : List ℕ) (b : Body) : Type 0 where
  pub is : x ≡ encoded b
  pub few_cells : size b ≤ body_cells
  pub few_nodes : nodes b ≤ body_nodes

-- an array holds some body
pub record Held (x : List ℕ) : Type 0 where
  pub body : Body
  pub holds : Holds x body
