-- How values lie on the operand stack, and what an operation leaves there. Assumes nothing: these are definitions.
use Rattle.std.specs.Prelude.{◌≡◌, List, ℕ, ◌+◌, ◌*◌, ◌≤◌, take, drop, get_or, ℤ, pos}
use Rattle.lingua.specs.Numbers.{list_places, body_cells}
use Rattle.lingua.specs.Errors.{no_error}
use Rattle.lingua.specs.Outcome.{ok, fail, Result}
use Rattle.lingua.specs.Body.{Body, size}
use Rattle.lingua.specs.Value.{Value, Fits, cells_of}

-- where the two operands begin
abbrev pub first_place : ℕ
first_place = 0

abbrev pub second_place : ℕ
second_place = body_cells

-- the cells from a place on are those of a value of a body
pub record Lies (stack : List ℤ) (at : ℕ) (b : Body) (v : Value) : Type 0 where
  pub cells : take (size b) (drop at stack) ≡ cells_of b v
  pub fit : Fits v b

-- a result that is an answer, which lies in the first operand's place
pub record Holds (stack : List ℤ) (b : Body) (o : Result Value) : Type 0 where
  pub value : Value
  pub is : o ≡ ok value
  pub lies : Lies stack first_place b value

-- a result with the number that tells it: 0 for an answer, which lies in the first operand's place; else the error's
pub record Leaves (n : ℕ) (stack : List ℤ) (b : Body) (o : Result Value) : Type 0 where
  pub answer : n ≡ no_error → Holds stack b o
  pub error : (n ≡ no_error → ⊥) → o ≡ fail n

-- a list's length stands at the stack's begin, with places for elements of size cells within the 64
pub record Counted (stack : List ℤ) (size : ℕ) : Type 0 where
  pub count : ℕ
  pub is : get_or stack first_place (pos 0) ≡ pos count
  pub few : count ≤ list_places
  pub room : 1 + list_places * size ≤ body_cells
