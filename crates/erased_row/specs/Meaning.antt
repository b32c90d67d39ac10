-- What the code of the erased run holds and gives: bare numbers, the layout table, and no body. The bodies stand in the premises alone, as the
-- type check found them. Assumes nothing: these are definitions.
use Rattle.std.specs.Prelude.{◌≡◌, Bool, true, List, [], ℕ, suc, ◌+◌, ◌*◌, ◌≤◌, ◌<◌, ℤ, length, drop, get_or}
use Rattle.std.specs.Prelude as std
use Rattle.std.proofs.Math.Option.{some}
use Rattle.lingua.specs.declared.errors.Error.{Error}
use Rattle.lingua.specs.Faults.{number_of}
use Rattle.lingua.specs.Numbers.{body_cells, instruction_section, scope_table, layout_length, most_variables, limit_cells, declaration_section}
use Rattle.lingua.specs.Outcome.{ok, Result, ◌>>=◌, all_answers}
use Rattle.lingua.specs.Body.{Body, boolean, is_quantity, size}
use Rattle.lingua.specs.Value.{Value, as_truth, all_of}
use Rattle.lingua.specs.Operation.{Unary, Binary, unary_body, binary_body}
use Rattle.lingua.specs.Expression.{Expression, Yoke, Instruction, skip, assign, set_yoke, sequence, branch, loop, handle, call}
use Rattle.lingua.specs.Evaluation.{no_current}
use Rattle.lingua.specs.Rows.{table_count, pair_count}
use Rattle.lingua.specs.Store.{Limit, Variable, variable_at, contents, cells_in, states_in}
use Rattle.lingua.specs.Run.{Declaration, Profile, scope_declarations}
use Rattle.lingua.specs.Typing.{Bodies, bodies_of, scope_bodies, no_current_body, unary_second, binary_second}
use Rattle.lingua.specs.Trees.{body_or, declared_body, expression_tree, instruction_tree, instruction_scope}
use Rattle.lingua.specs.Refusal.{is_quantity_variable}
use Rattle.safety.specs.Accepted.{AcceptedRows}
use Rattle.safety.specs.Invariant.{scope_store}
use Rattle.safety.specs.Stored.{StoreKept}
use Rattle.safety.specs.Programs.{YokesDerived}
use Rattle.safety.specs.Derivation.{Derived, DerivedYoke, DerivedRow}
use Rattle.safety.specs.Layout.{HoldsIn}
use Rattle.safety.specs.TypeSound.{VariablesFit}
use Rattle.lingua.specs.Erased.{values_of, eval_erased, yoke_erased}
use Rattle.profile.specs.Variables.{LimitAt}
use Rattle.profile.specs.Yokes.{YokeOf}
use Rattle.cells.specs.Stack.{Lies, Leaves, first_place}
use Rattle.run.specs.Memory.{Memory}
use Rattle.run.specs.Reached.{Lent, lent}
use Rattle.run.specs.declared.memory.Memory.{Memory as MemoryLent}
use Rattle.run.specs.declared.memory.Seen.{Seen}

-- what lent memory holds for the erased run, which does without bodies
abbrev pub bare_in : MemoryLent → Lent
bare_in m = lent m.cells.now m.states.now []

-- the same of memory that is lent to be read
abbrev pub bare_seen : Seen → Lent
bare_seen m = lent m.cells.now m.states.now []

-- accepted rows, a layout table, and the caller's memory, which holds a store of at most 16 variables, each of its declared
-- body where it is filled. Whose variables they are is not asked: one that is behind them is not filled
pub record World (rows : List ℕ) (layout : List ℕ) (cells : List ℤ) (states : List ℕ) (ds : List Declaration) (vs : List Variable) : Type 0 where
  pub accepted : AcceptedRows rows
  pub long : length layout ≡ layout_length
  pub cells_are : cells ≡ cells_in vs
  pub states_are : states ≡ states_in vs
  pub few : length vs ≤ most_variables
  pub small : (n : ℕ) → size (bodies_of ds n) ≤ body_cells
  pub fit : VariablesFit (bodies_of ds) (contents vs)

-- the current value, of a body that the code does not see
pub record Current (current : List ℤ) (b : Body) (x : Value) : Type 0 where
  pub lies : Lies current first_place b x
  pub small : size b ≤ body_cells

-- an expression that the type check passed, on the current value's body, with the layout table's numbers at each of its rows
abbrev pub Passed : List ℕ → List Declaration → Expression → Body → Body → Type 0
Passed layout ds e cur b = Derived (HoldsIn layout) (bodies_of ds) e cur b

-- the same of a yoke
abbrev pub PassedYoke : List ℕ → List Declaration → Yoke → Body → Type 0
PassedYoke layout ds y cur = DerivedYoke (HoldsIn layout) (bodies_of ds) y cur

-- what evaluation of a tree asks: some such store, current value and bodies
pub record Ready (rows : List ℕ) (layout : List ℕ) (cells : List ℤ) (states : List ℕ) (current : List ℤ) (e : Expression) : Type 0 where
  pub declarations : List Declaration
  pub store : List Variable
  pub world : World rows layout cells states declarations store
  pub body : Body
  pub value : Value
  pub is : Current current body value
  pub result : Body
  pub passed : Passed layout declarations e body result

-- what evaluation of a yoke asks
pub record ReadyYoke (rows : List ℕ) (layout : List ℕ) (cells : List ℤ) (states : List ℕ) (current : List ℤ) (y : Yoke) : Type 0 where
  pub declarations : List Declaration
  pub store : List Variable
  pub world : World rows layout cells states declarations store
  pub body : Body
  pub value : Value
  pub is : Current current body value
  pub passed : PassedYoke layout declarations y body

-- what evaluation outside yokes asks, where a Boolean stands for the current value
pub record ReadyPlain (rows : List ℕ) (layout : List ℕ) (cells : List ℤ) (states : List ℕ) (e : Expression) : Type 0 where
  pub declarations : List Declaration
  pub store : List Variable
  pub world : World rows layout cells states declarations store
  pub result : Body
  pub passed : Passed layout declarations e no_current_body result

-- ---- what evaluation gives
-- what the values' half of the tree gives, for every store, current value and bodies with which the type check passed it
pub record Evaluates (rows : List ℕ) (layout : List ℕ) (cells : List ℤ) (states : List ℕ) (current : List ℤ) (e : Expression) (r : ℕ) (stack : List ℤ) : Type 0 where
  pub leaves : (ds : List Declaration) (vs : List Variable) (cur b : Body) (x : Value) → World rows layout cells states ds vs → Current current cur x → Passed layout ds e cur b
      → Leaves r stack b (eval_erased e (values_of (contents vs)) x)

-- the same of a yoke
pub record EvaluatesYoke (rows : List ℕ) (layout : List ℕ) (cells : List ℤ) (states : List ℕ) (current : List ℤ) (y : Yoke) (r : ℕ) (stack : List ℤ) : Type 0 where
  pub leaves : (ds : List Declaration) (vs : List Variable) (cur : Body) (x : Value) → World rows layout cells states ds vs → Current current cur x → PassedYoke layout ds y cur
      → Leaves r stack boolean (yoke_erased y (values_of (contents vs)) x)

-- the same outside yokes
pub record EvaluatesPlain (rows : List ℕ) (layout : List ℕ) (cells : List ℤ) (states : List ℕ) (e : Expression) (r : ℕ) (stack : List ℤ) : Type 0 where
  pub leaves : (ds : List Declaration) (vs : List Variable) (b : Body) → World rows layout cells states ds vs → Passed layout ds e no_current_body b
      → Leaves r stack b (eval_erased e (values_of (contents vs)) no_current.value)

-- what evaluation gives, where a result is told at all
pub record EvaluatesUnless (rows : List ℕ) (layout : List ℕ) (cells : List ℤ) (states : List ℕ) (current : List ℤ) (e : Expression) (r : std.Option (std.Result (Unit {0}) Error)) (stack : List ℤ) : Type 0 where
  pub evaluates : (a : std.Result (Unit {0}) Error) → r ≡ std.Some a → Evaluates rows layout cells states current e (number_of a) stack

-- the first error of an all-list yoke's results, or whether all are true
unfoldable pub all_told : List (Result Value) → Result Bool
all_told rs = do
  xs ← all_answers rs
  ok (all_of as_truth xs)

-- ---- what a row's own work asks
-- memory with a store in it, and a variable's number, below 16, with a body of m cells. The store may have no such variable
pub record HasVariable (cells : List ℤ) (states : List ℕ) (n m : ℕ) : Type 0 where
  pub store : List Variable
  pub bodies : Bodies
  pub memory : Memory cells states store bodies
  pub few : n < most_variables
  pub size_is : m ≡ size (bodies n)

-- some current value of m cells
pub record HasCurrent (current : List ℤ) (m : ℕ) : Type 0 where
  pub body : Body
  pub value : Value
  pub is : Current current body value
  pub size_is : m ≡ size body

-- a row with an operation on the result of row a, of body c: what it gives has body b, and the layout table has the numbers
pub record UnaryRow (layout : List ℕ) (o : Unary) (row a : ℕ) (c b : Body) : Type 0 where
  pub half : unary_body o c ≡ ok b
  pub operand_at : get_or layout (2 * a) 0 ≡ size c
  pub result_at : get_or layout (2 * row) 0 ≡ size b
  pub second_at : get_or layout (2 * row + 1) 0 ≡ unary_second o c
  pub small : size c ≤ body_cells

-- some such bodies, and the operand's result
pub record HasUnary (layout : List ℕ) (o : Unary) (row a error : ℕ) (stack : List ℤ) : Type 0 where
  pub operand : Body
  pub given : Body
  pub numbers : UnaryRow layout o row a operand given
  pub outcome : Result Value
  pub leaves : Leaves error stack operand outcome

-- a row with an operation on the results of rows a and b, of bodies c and d
pub record BinaryRow (layout : List ℕ) (o : Binary) (row a b : ℕ) (c d g : Body) : Type 0 where
  pub half : binary_body o c d ≡ ok g
  pub first_at : get_or layout (2 * a) 0 ≡ size c
  pub other_at : get_or layout (2 * b) 0 ≡ size d
  pub second_at : get_or layout (2 * row + 1) 0 ≡ binary_second o c d g
  pub small : size c ≤ body_cells
  pub small_other : size d ≤ body_cells

-- some such bodies, and the operands' results
pub record HasBinary (layout : List ℕ) (o : Binary) (row a b first second : ℕ) (stack : List ℤ) : Type 0 where
  pub operand : Body
  pub other : Body
  pub given : Body
  pub numbers : BinaryRow layout o row a b operand other given
  pub outcome : Result Value
  pub leaves : Leaves first stack operand outcome
  pub other_outcome : Result Value
  pub other_leaves : Leaves second (drop body_cells stack) other other_outcome

-- ---- what stores and tests of a run ask
-- a store of a run, of the variables of one scope of a profile: 0 is the profile's own, 1 + k that of procedure k. What the type check found of
-- its current yokes and of every instruction row, each by its own scope, and its limits, which number and hundredths variables alone have. With the world's
-- bodies, this makes a state of a passed profile's run. The lent bodies are asked nothing: the erased run has none.
pub record Running (p : Profile) (a : ℕ) (rows : List ℕ) (layout : List ℕ) (limits : List ℤ) (l : Lent) (vs : List Variable) : Type 0 where
  pub world : World rows layout l.cells l.states (scope_declarations p a) vs
  pub count : length vs ≡ pair_count rows (scope_table a)
  pub kept : StoreKept (scope_store p a) vs
  pub passed_yokes : YokesDerived (HoldsIn layout) (scope_bodies p a) vs
  pub passed_rows : (r : ℕ) → r < table_count rows instruction_section → DerivedRow (HoldsIn layout) (λ k. scope_bodies p (suc k)) (scope_bodies p (instruction_scope rows r)) (instruction_tree rows r)
  pub room : limit_cells * length vs ≤ length limits
  pub limited : (n : ℕ) → n < length vs → LimitAt limits (limit_cells * n) (variable_at vs n).limit
  pub limited_quantities : (n : ℕ) (b : Limit) → n < length vs → (variable_at vs n).limit ≡ some b → is_quantity (scope_bodies p a n) ≡ true
  pub quantity_variables : a ≡ 0 → (n : ℕ) → is_quantity_variable rows n ≡ true → is_quantity (scope_bodies p 0 n) ≡ true
  pub own_bodies : a ≡ 0 → (n : ℕ) → n < pair_count rows declaration_section → scope_bodies p 0 n ≡ body_or (declared_body rows n)
  pub yokes : (n : ℕ) → n < length vs → YokeOf rows (variable_at vs n).yoke

-- some such store, of a scope with a property
pub record HasRunning (rows : List ℕ) (layout : List ℕ) (limits : List ℤ) (l : Lent) (P : ℕ → Type 0) : Type 0 where
  pub profile : Profile
  pub scope : ℕ
  pub store : List Variable
  pub running : Running profile scope rows layout limits l store
  pub of_scope : P scope

-- some limits, and such a store
pub record HasStore (rows : List ℕ) (layout : List ℕ) (l : Lent) (P : ℕ → Type 0) : Type 0 where
  pub limits : List ℤ
  pub has : HasRunning rows layout limits l P

-- ---- what an instruction row says, for whichever row of scope a it is
-- a test of expression row e
unfoldable pub Tests : Instruction → Expression → Type 0
Tests (skip r) e = ⊥
Tests (assign r n f) e = ⊥
Tests (set_yoke r n y) e = ⊥
Tests (sequence r i j) e = ⊥
Tests (branch r f i j) e = f ≡ e
Tests (loop r f i) e = f ≡ e
Tests (handle r n i) e = ⊥
Tests (call r k vs rs) e = ⊥

pub record TestRow (rows : List ℕ) (a e : ℕ) : Type 0 where
  pub at : ℕ
  pub there : at < table_count rows instruction_section
  pub scope : instruction_scope rows at ≡ a
  pub is : Tests (instruction_tree rows at) (expression_tree rows e)
