-- What the stores of the erased run ask of the memory, of an instruction row and of a value, and what they give. Assumes nothing: these are
-- definitions.
use Rattle.std.specs.Prelude.{◌≡◌, List, ℕ, ◌+◌, ◌*◌, ◌≤◌, ◌<◌, ℤ, pos, length, take}
use Rattle.std.proofs.Math.Option.{some}
use Rattle.lingua.specs.Numbers.{body_cells, instruction_section, scope_table, limit_cells}
use Rattle.lingua.specs.Outcome.{ok}
use Rattle.lingua.specs.Body.{Body, size}
use Rattle.lingua.specs.Value.{Value, Fits, pad, cells_of, Composite}
use Rattle.lingua.specs.Expression.{Yoke, assign, set_yoke}
use Rattle.lingua.specs.Rows.{table_count, pair_count}
use Rattle.lingua.specs.Store.{Variable, variable_at, contents, flag_place}
use Rattle.lingua.specs.Run.{Declaration, Profile}
use Rattle.lingua.specs.Typing.{bodies_of, scope_bodies}
use Rattle.lingua.specs.Trees.{expression_tree, yoke_tree, instruction_tree, instruction_scope}
use Rattle.lingua.specs.Erased.{values_of, yoke_holds_erased}
use Rattle.run.specs.Memory.{Admits}
use Rattle.run.specs.Reached.{Lent, lent}
use Rattle.erased_row.specs.Meaning.{World, Current, PassedYoke, Running}

-- ---- what an instruction row says, for whichever row of scope a it is
-- an assignment of expression row e to variable n
pub record AssignRow (rows : List ℕ) (a n e : ℕ) : Type 0 where
  pub at : ℕ
  pub there : at < table_count rows instruction_section
  pub scope : instruction_scope rows at ≡ a
  pub declared : n < pair_count rows (scope_table a)
  pub is : instruction_tree rows at ≡ assign at n (expression_tree rows e)

-- a change of variable n's yoke to y
pub record YokeRow (rows : List ℕ) (a n y : ℕ) : Type 0 where
  pub at : ℕ
  pub there : at < table_count rows instruction_section
  pub scope : instruction_scope rows at ≡ a
  pub declared : n < pair_count rows (scope_table a)
  pub is : instruction_tree rows at ≡ set_yoke at n (yoke_tree rows y)

-- ---- what the parts of a store ask and give
-- a value of a variable's declared body b, as width cells at a list's front: its own, or zeros behind them
pub record ValueFor (b : Body) (width : ℕ) (value : List ℤ) (x : Composite) : Type 0 where
  pub declared_body_lem : x.body ≡ b
  pub fits : Fits x.value x.body
  pub cells : take width value ≡ pad width (pos 0) (cells_of x.body x.value)
  pub wide : size x.body ≤ width
  pub narrow : width ≤ body_cells

-- some store of a run with a variable n, and some such value
pub record Storable (rows : List ℕ) (layout : List ℕ) (limits : List ℤ) (l : Lent) (n width : ℕ) (value : List ℤ) : Type 0 where
  pub profile : Profile
  pub scope : ℕ
  pub store : List Variable
  pub running : Running profile scope rows layout limits l store
  pub there : n < length store
  pub composite : Composite
  pub is : ValueFor (scope_bodies profile scope n) width value composite

-- room for the limit, the cells and the flag of variable n, and for its value
pub record StoreRoom (limits cells : List ℤ) (states : List ℕ) (n width : ℕ) (value : List ℤ) : Type 0 where
  pub limit : limit_cells * n + limit_cells ≤ length limits
  pub part : body_cells * n + body_cells ≤ length cells
  pub flag : flag_place n < length states
  pub narrow : width ≤ body_cells
  pub front : body_cells ≤ length value

-- a value that satisfies variable n's current yoke
pub record Satisfies (vs : List Variable) (n : ℕ) (x : Composite) : Type 0 where
  pub holds : yoke_holds_erased (variable_at vs n).yoke (values_of (contents vs)) (some x.value) ≡ ok tt

-- whether a value satisfies a yoke, for every store, value and body with which the type check passed it
pub record AdmitsValue (rows : List ℕ) (layout : List ℕ) (cells : List ℤ) (states : List ℕ) (value : List ℤ) (y : Yoke) (r : ℕ) : Type 0 where
  pub admits : (ds : List Declaration) (vs : List Variable) (cur : Body) (x : Value) → World rows layout cells states ds vs → Current value cur x → PassedYoke layout ds y cur
      → Admits r (yoke_holds_erased y (values_of (contents vs)) (some x))

-- a new yoke that the type check passed, on variable n's declared body
pub record HasChange (rows : List ℕ) (layout : List ℕ) (cells : List ℤ) (states : List ℕ) (n : ℕ) (y : Yoke) : Type 0 where
  pub declarations : List Declaration
  pub store : List Variable
  pub world : World rows layout cells states declarations store
  pub there : n < length store
  pub passed : PassedYoke layout declarations y (bodies_of declarations n)

-- whether variable n takes the yoke, for every store with which the type check passed it
pub record AdmitsYoke (rows : List ℕ) (layout : List ℕ) (cells : List ℤ) (states : List ℕ) (n : ℕ) (y : Yoke) (r : ℕ) : Type 0 where
  pub admits : (ds : List Declaration) (vs : List Variable) → World rows layout cells states ds vs → n < length vs → PassedYoke layout ds y (bodies_of ds n)
      → Admits r (yoke_holds_erased y (values_of (contents vs)) (values_of (contents vs) n))

-- ---- copies
-- some two stores of a run, with a variable n of the one and a variable m of the other that have one body. The other's limits are asked alone
pub record HasCopy (rows : List ℕ) (layout : List ℕ) (cells : List ℤ) (states : List ℕ) (n : ℕ) (limits : List ℤ) (l : Lent) (m : ℕ) : Type 0 where
  pub profile : Profile
  pub from : ℕ
  pub to : ℕ
  pub their_limits : List ℤ
  pub their_bodies : List ℕ
  pub given : List Variable
  pub giving : Running profile from rows layout their_limits (lent cells states their_bodies) given
  pub there : n < length given
  pub store : List Variable
  pub running : Running profile to rows layout limits l store
  pub taking : m < length store
  pub same : scope_bodies profile from n ≡ scope_bodies profile to m
