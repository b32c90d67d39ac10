-- What the check of an expression asks and gives. Assumes nothing: these are definitions.
use Rattle.std.specs.Prelude.{◌≡◌, false, ◌&&◌, List, ℕ, ◌+◌, ◌*◌, ◌<◌, length, get_or, set, is_ok, Option as CodeOption, Some, None, Result as CodeResult, Ok, Err}
use Rattle.std.proofs.Math.Option.{Option, some, none}
use Rattle.lingua.specs.Numbers.{layout_length, type_section, expression_section}
use Rattle.lingua.specs.Outcome.{ok, fail}
use Rattle.lingua.specs.Faults.{error_number}
use Rattle.lingua.specs.declared.errors.Error.{Error}
use Rattle.lingua.specs.declared.errors.ErrorAt.{ErrorAt}
use Rattle.lingua.specs.Body.{Body, boolean, size}
use Rattle.lingua.specs.Expression.{Expression, constant, variable, current, unary, binary, lazy, choice, all_list}
use Rattle.lingua.specs.Typing.{TypeError, type_error, Typed, Finding, Bodies, lower, lowest_fault, placed}
use Rattle.lingua.specs.Rows.{table_count, pair_count}
use Rattle.lingua.specs.Trees.{tabulate, expression_tree, body_or, body_in}
use Rattle.safety.specs.Accepted.{AcceptedRows}
use Rattle.rules.specs.Types.{BodiesBelow}
use Rattle.body.specs.Encode.{Holds}
use Rattle.body.specs.declared.typed.Typed.{Typed as HalfTyped}
use Rattle.profile.specs.Variables.{VariablesKnown}
use Rattle.typing.specs.declared.walk.Scope.{Scope}

-- ---- what is given
-- the declared bodies of a table's variables; a number that is no variable's has the body of a Boolean
unfoldable pub variable_bodies : List ℕ → ℕ → Bodies
variable_bodies rows s n = get_or (tabulate (pair_count rows s) (λ d. body_or (body_in rows s d))) n boolean

-- accepted rows, and the types' bodies
pub record Ready (rows bodies : List ℕ) : Type 0 where
  pub accepted : AcceptedRows rows
  pub types : BodiesBelow rows bodies (table_count rows type_section)

-- the same where the rows of one scope are read
abbrev pub Sees : Scope → Type 0
Sees s = VariablesKnown s.rows.now s.variables s.bodies.now

-- the declared bodies of its variables
abbrev pub declared_bodies : Scope → Bodies
declared_bodies s = variable_bodies s.rows.now s.variables.section

-- every variable that an expression reads is one of the first m
unfoldable pub ReadsBelow : ℕ → Expression → Type 0
ReadsBelow m (constant r c) = Unit {0}
ReadsBelow m (variable r n) = n < m
ReadsBelow m (current r) = Unit {0}
ReadsBelow m (unary r o e) = ReadsBelow m e
ReadsBelow m (binary r o e f) = ReadsBelow m e × ReadsBelow m f
ReadsBelow m (lazy r k e f) = ReadsBelow m e × ReadsBelow m f
ReadsBelow m (choice r p e f) = ReadsBelow m p × ReadsBelow m e × ReadsBelow m f
ReadsBelow m (all_list r e) = ReadsBelow m e

-- the variables that an expression row reads are the scope's
unfoldable pub Readable : Scope → ℕ → Type 0
Readable s row = ReadsBelow (pair_count s.rows.now s.variables.section) (expression_tree s.rows.now row)

-- the current value's body, if it has one
abbrev pub HoldsIf : CodeOption (List ℕ) → Option Body → Type 0
HoldsIf (Some x) (some b) = Holds x b
HoldsIf (Some x) none = ⊥
HoldsIf None (some b) = ⊥
HoldsIf None none = Unit {0}

pub record HeldIf (x : CodeOption (List ℕ)) : Type 0 where
  pub body : Option Body
  pub holds : HoldsIf x body

-- what the check of an expression row asks
pub record Asked (row : ℕ) (s : Scope) (current : CodeOption (List ℕ)) (layout : List ℕ) : Type 0 where
  pub sees : Sees s
  pub here : row < table_count s.rows.now expression_section
  pub reads : Readable s row
  pub held : HeldIf current
  pub room : length layout ≡ layout_length

-- what is known of a row's operand
pub record Operand (s : Scope) (row a : ℕ) : Type 0 where
  pub below : a < row
  pub reads : Readable s a

-- ---- what it gives
-- a type error of the code, as the definitions have it
abbrev pub error_meaning : ErrorAt → TypeError
error_meaning e = type_error (error_number e.error) e.place

abbrev pub fault_meaning : CodeOption ErrorAt → Option TypeError
fault_meaning (Some e) = some (error_meaning e)
fault_meaning None = none

-- a row's own fault, and its rule
abbrev pub own_fault : Error → ℕ → CodeOption ErrorAt
own_fault e r = Some (record { error = e; place = r })

abbrev pub own_found : CodeResult HalfTyped Error → ℕ → CodeResult HalfTyped (CodeOption ErrorAt)
own_found (Ok h) r = Ok h
own_found (Err e) r = Err (own_fault e r)

-- no answer, and the lowest fault if there is any
pub record Fails {A : Type 0} (f : CodeOption ErrorAt) (o : Finding A) : Type 0 where
  pub faults : List TypeError
  pub is : o ≡ fail faults
  pub lowest : fault_meaning f ≡ lowest_fault faults

-- two at once: both, or the lower of their faults
abbrev pub lowest_of : {A : Type 0} → CodeResult A (CodeOption ErrorAt) → Option TypeError
lowest_of (Ok a) = none
lowest_of (Err f) = fault_meaning f

abbrev pub Together : {A B : Type 0} → CodeResult (A × B) (CodeOption ErrorAt) → CodeResult A (CodeOption ErrorAt) → CodeResult B (CodeOption ErrorAt) → Type 0
Together (Ok c) x y = (x ≡ Ok c.0) × (y ≡ Ok c.1)
Together (Err f) x y = ((is_ok x && is_ok y) ≡ false) × (fault_meaning f ≡ lower (lowest_of x) (lowest_of y))

-- the body of the elements
pub record ElementsBody (x : List ℕ) (o : Finding Body) : Type 0 where
  pub element : Body
  pub is : o ≡ ok element
  pub holds : Holds x element

abbrev pub Elements : CodeResult (List ℕ) (CodeOption ErrorAt) → Finding Body → Type 0
Elements (Ok x) o = ElementsBody x o
Elements (Err f) o = Fails f o

-- the row's two numbers are in the layout table
pub record Noted (row : ℕ) (body : List ℕ) (second : ℕ) (entry exit : List ℕ) : Type 0 where
  pub layout : (b : Body) → Holds body b → exit ≡ set (set entry (2 * row) (size b)) (2 * row + 1) second

-- the body, and the layout table with the entries in it
pub record Passes (x entry exit : List ℕ) (o : Finding Typed) : Type 0 where
  pub typed : Typed
  pub is : o ≡ ok typed
  pub holds : Holds x typed.body
  pub layout : exit ≡ placed typed.entries entry

-- the code's answer is the definition's; what the layout table holds where there is no body is not said
abbrev pub Gives : CodeResult (List ℕ) (CodeOption ErrorAt) → List ℕ → List ℕ → Finding Typed → Type 0
Gives (Ok x) entry exit o = Passes x entry exit o
Gives (Err f) entry exit o = Fails f o
