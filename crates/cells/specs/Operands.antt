-- The operands of an operation on the stack, with the numbers that tell how their cells lie. Assumes nothing: these are definitions.
use Rattle.std.specs.Prelude.{◌≡◌, List, ℕ, ◌≤◌, ℤ}
use Rattle.lingua.specs.Numbers.{body_cells}
use Rattle.lingua.specs.Outcome.{ok}
use Rattle.lingua.specs.Body.{Body, size}
use Rattle.lingua.specs.Value.{Value}
use Rattle.lingua.specs.Operation.{Unary, Binary, unary_body, binary_body}
use Rattle.lingua.specs.Typing.{unary_second, binary_second}
use Rattle.cells.specs.Stack.{first_place, second_place, Lies}

-- ---- one operand
-- a value of body b, to which the operation gives body d; the cells of both, and the layout table's second number
pub record Operand (o : Unary) (stack : List ℤ) (cells result offset : ℕ) (b d : Body) (x : Value) : Type 0 where
  pub half : unary_body o b ≡ ok d
  pub cells_are : size b ≡ cells
  pub result_is : size d ≡ result
  pub offset_is : unary_second o b ≡ offset
  pub small : size b ≤ body_cells
  pub lies : Lies stack first_place b x

-- some such value
pub record HasOperand (o : Unary) (stack : List ℤ) (cells result offset : ℕ) : Type 0 where
  pub body : Body
  pub given : Body
  pub value : Value
  pub operand : Operand o stack cells result offset body given value

-- ---- two operands
-- values of bodies b and c, to which the operation gives body d; the cells of the operands, and the layout table's second number
pub record Operands (o : Binary) (stack : List ℤ) (cells others offset : ℕ) (b c d : Body) (x y : Value) : Type 0 where
  pub half : binary_body o b c ≡ ok d
  pub cells_are : size b ≡ cells
  pub others_are : size c ≡ others
  pub offset_is : binary_second o b c d ≡ offset
  pub small : size b ≤ body_cells
  pub small_other : size c ≤ body_cells
  pub lies : Lies stack first_place b x
  pub lies_other : Lies stack second_place c y

-- some such values
pub record HasOperands (o : Binary) (stack : List ℤ) (cells others offset : ℕ) : Type 0 where
  pub body : Body
  pub other : Body
  pub given : Body
  pub value : Value
  pub other_value : Value
  pub operands : Operands o stack cells others offset body other given value other_value
