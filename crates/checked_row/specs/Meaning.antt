-- What the code of the checked run holds and gives. Assumes nothing: these are definitions.
use Rattle.std.specs.Prelude.{◌≡◌, true, List, [], ◌∷◌, ℕ, ◌+◌, ◌*◌, ◌≤◌, ◌<◌, ℤ, length, Option, Some, None, Result, Ok, Err, IfSome}
use Rattle.std.proofs.Math.Option.{some}
use Rattle.lingua.specs.Numbers.{body_cells, body_nodes, expression_section, most_variables, body_bytes}
use Rattle.lingua.specs.declared.errors.Error.{Error}
use Rattle.lingua.specs.Faults.{error_number}
use Rattle.lingua.specs.Rows.{table_count}
use Rattle.lingua.specs.Outcome.{ok, fail, Result as Outcome, all_answers}
use Rattle.lingua.specs.Body.{Body, size, nodes, is_boolean}
use Rattle.lingua.specs.Value.{Composite, all_of, as_truth, pad}
use Rattle.lingua.specs.Store.{Variable, variable_at, present_body, cells_in, states_in, bodies_in}
use Rattle.safety.specs.Accepted.{AcceptedRows}
use Rattle.safety.specs.Constants.{Fitting}
use Rattle.body.specs.Encode.{Holds}
use Rattle.run.specs.Reached.{Lent}
use Rattle.run.specs.Lending.{seen_in}
use Rattle.cells.specs.Stack.{Lies, first_place}
use Rattle.checked_row.specs.declared.answer.Evaluated.{Evaluated}
use Rattle.checked_row.specs.declared.sight.Sight.{Sight}
use Rattle.checked_row.specs.declared.tally.Tally.{Tally}

-- ---- what is given
-- a body that 96 bytes hold
pub record Holdable (b : Body) : Type 0 where
  pub few_cells : size b ≤ body_cells
  pub few_nodes : nodes b ≤ body_nodes

-- the caller's memory holds the store's variables, with their present bodies
pub record Stored (variables : List ℕ) (cells : List ℤ) (states : List ℕ) (vs : List Variable) : Type 0 where
  pub cells_are : cells ≡ cells_in vs
  pub states_are : states ≡ states_in vs
  pub bodies_are : variables ≡ bodies_in vs
  pub few : length vs ≤ most_variables
  pub holdable : (n : ℕ) → n < length vs → Holdable (present_body (variable_at vs n))
  pub fits : (n : ℕ) (x : Composite) → (variable_at vs n).content ≡ some x → Fitting x

-- some such store, and a number that a variable may have, whether or not one of the store's has it
pub record HasStored (variables : List ℕ) (cells : List ℤ) (states : List ℕ) (n : ℕ) : Type 0 where
  pub store : List Variable
  pub stored : Stored variables cells states store
  pub there : n < most_variables

-- accepted rows, and a store of some scope's variables: the profile's or those of a call that is open
pub record World (rows : List ℕ) (l : Lent) (vs : List Variable) : Type 0 where
  pub accepted : AcceptedRows rows
  pub stored : Stored l.bodies l.cells l.states vs

-- some such store
pub record HasWorld (rows : List ℕ) (l : Lent) : Type 0 where
  pub store : List Variable
  pub world : World rows l store

-- the current value
pub record Current (current : List ℤ) (body : List ℕ) (x : Composite) : Type 0 where
  pub lies : Lies current first_place x.body x.value
  pub holds : Holds body x.body

pub record HasCurrent (current : List ℤ) (body : List ℕ) : Type 0 where
  pub value : Composite
  pub is : Current current body value

-- both as an expression sees them
abbrev pub WorldSeen : Sight → List Variable → Type 0
WorldSeen s vs = World s.rows.now (seen_in s.memory.now) vs

abbrev pub CurrentSeen : Sight → Composite → Type 0
CurrentSeen s x = Current s.current.now.cells.now s.current.now.body x

-- what evaluation asks
pub record Ready (rows : List ℕ) (l : Lent) (current : List ℤ) (body : List ℕ) : Type 0 where
  pub store : List Variable
  pub world : World rows l store
  pub has : HasCurrent current body

-- what the evaluation of a row asks: the row is in the table, and its own value and those of all rows below find room
pub record Asked (row : ℕ) (s : Sight) (stack : List ℤ) : Type 0 where
  pub ready : Ready s.rows.now (seen_in s.memory.now) s.current.now.cells.now s.current.now.body
  pub here : row < table_count s.rows.now expression_section
  pub room : body_cells * (row + 2) ≤ length stack

-- ---- what evaluation gives
-- the value lies at the stack's front, and its body and the number of its cells are given
pub record Answers (r : Evaluated) (stack : List ℤ) (o : Outcome Composite) : Type 0 where
  pub value : Composite
  pub is : o ≡ ok value
  pub holds : Holds r.body value.body
  pub lies : Lies stack first_place value.body value.value
  pub cells : r.cells ≡ size value.body

pub record Gives (r : Result Evaluated Error) (stack : List ℤ) (o : Outcome Composite) : Type 0 where
  pub answer : (x : Evaluated) → r ≡ Ok x → Answers x stack o
  pub error : (e : Error) → r ≡ Err e → o ≡ fail (error_number e)

-- some such result
pub record Given (r : Result Evaluated Error) (stack : List ℤ) : Type 0 where
  pub outcome : Outcome Composite
  pub gives : Gives r stack outcome

-- ---- simple values, whose body is told by its tag
abbrev pub simple_evaluated : ℕ → Evaluated
simple_evaluated tag = record { body = pad body_bytes 0 (tag ∷ []); cells = 1 }

-- the tag of a simple body stands for its bytes
pub record Simple (tag : ℕ) (bytes : List ℕ) (b : Body) : Type 0 where
  pub is : bytes ≡ pad body_bytes 0 (tag ∷ [])
  pub one_cell : size b ≡ 1

-- a tag that is told is that of a simple body
abbrev pub IsSimple : Option ℕ → List ℕ → Body → Type 0
IsSimple tag bytes b = IfSome tag (λ t. Simple t bytes b)

-- a tag that is told stands for what evaluation gives; none says nothing
abbrev pub SimpleGives : Option ℕ → List ℤ → Outcome Composite → Type 0
SimpleGives tag stack o = IfSome tag (λ t. Gives (Ok (simple_evaluated t)) stack o)

-- a simple value by its tag, or an error; none says nothing
abbrev pub QuickGives : Option (Result ℕ Error) → List ℤ → Outcome Composite → Type 0
QuickGives (Some (Ok tag)) stack o = Gives (Ok (simple_evaluated tag)) stack o
QuickGives (Some (Err e)) stack o = o ≡ fail (error_number e)
QuickGives None stack o = Unit {0}

-- ---- what is seen of the results of an all-list yoke
-- whether all are Booleans, and, where they are, whether all are true
pub record AllSeen (s : Tally) (rs : List (Outcome Composite)) : Type 0 where
  pub values : List Composite
  pub are : all_answers rs ≡ ok values
  pub booleans : s.booleans ≡ all_of (λ x. is_boolean x.body) values
  pub all : s.booleans ≡ true → s.all ≡ all_of (λ x. as_truth x.value) values

pub record Sees (s : Result Tally Error) (rs : List (Outcome Composite)) : Type 0 where
  pub answers : (t : Tally) → s ≡ Ok t → AllSeen t rs
  pub error : (e : Error) → s ≡ Err e → all_answers rs ≡ fail (error_number e)
