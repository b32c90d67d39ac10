-- Expressions and instructions as trees whose nodes carry their row numbers. Assumes nothing: these are definitions.
use Rattle.std.specs.Prelude.{Bool, true, false, List, ℕ, suc}
use Rattle.lingua.specs.Value.{Composite}
use Rattle.lingua.specs.Operation.{Unary, Binary}

-- kinds 11 and 12
pub data Connective : Type 0 where
  conjunction disjunction : Connective

-- the first operand's value at which the second is not evaluated
abbrev pub settled_by : Connective → Bool
settled_by conjunction = false
settled_by disjunction = true

-- the first number of each node is its row
pub data Expression : Type 0 where
  -- kinds 1 to 3
  constant : ℕ → Composite → Expression
  -- kind 4
  variable : ℕ → ℕ → Expression
  -- kind 24, the current value
  current : ℕ → Expression
  unary : ℕ → Unary → Expression → Expression
  binary : ℕ → Binary → Expression → Expression → Expression
  lazy : ℕ → Connective → Expression → Expression → Expression
  -- kind 15: the test, then the two branches
  choice : ℕ → Expression → Expression → Expression → Expression
  -- kind 25, with its inner yoke
  all_list : ℕ → Expression → Expression

unfoldable pub row_of : Expression → ℕ
row_of (constant r c) = r
row_of (variable r n) = r
row_of (current r) = r
row_of (unary r o e) = r
row_of (binary r o e f) = r
row_of (lazy r k e f) = r
row_of (choice r t e f) = r
row_of (all_list r e) = r

-- a variable's yoke: always true, or an expression
pub data Yoke : Type 0 where
  always : Yoke
  yoke : Expression → Yoke

-- as in the marks: 0, or 1 + the expression's row
unfoldable pub yoke_number : Yoke → ℕ
yoke_number always = 0
yoke_number (yoke e) = suc (row_of e)

pub data Instruction : Type 0 where
  skip : ℕ → Instruction
  -- variable := expression
  assign : ℕ → ℕ → Expression → Instruction
  set_yoke : ℕ → ℕ → Yoke → Instruction
  sequence : ℕ → Instruction → Instruction → Instruction
  branch : ℕ → Expression → Instruction → Instruction → Instruction
  loop : ℕ → Expression → Instruction → Instruction
  -- on error n do the instruction
  handle : ℕ → ℕ → Instruction → Instruction
  -- procedure n, called with variables by value and by reference
  call : ℕ → ℕ → List ℕ → List ℕ → Instruction
