-- What the stores of the checked run ask of the memory and leave in it. Assumes nothing: these are definitions.
use Rattle.std.specs.Prelude.{◌≡◌, true, List, ℕ, ◌+◌, ◌*◌, ◌≤◌, ◌<◌, ℤ, length, take, drop, set, Result}
use Rattle.lingua.specs.Numbers.{body_cells, body_bytes, limit_cells}
use Rattle.lingua.specs.declared.errors.Error.{Error}
use Rattle.lingua.specs.Outcome.{Result as Outcome}
use Rattle.lingua.specs.Body.{size, coherent}
use Rattle.lingua.specs.Value.{Composite}
use Rattle.lingua.specs.Store.{Variable, variable_at, present_body, with_content, flag_place}
use Rattle.profile.specs.Variables.{LimitAt}
use Rattle.profile.specs.Yokes.{YokeOf}
use Rattle.body.specs.Encode.{Holds, Held}
use Rattle.run.specs.Reached.{Lent, Settles}
use Rattle.checked_row.specs.declared.answer.Evaluated.{Evaluated}
use Rattle.checked_row.specs.Meaning.{World, Current, HasCurrent, Given}

-- ---- what assignments ask
-- a store of a run, with the limits of its variables
pub record Running (rows : List ℕ) (limits : List ℤ) (l : Lent) (vs : List Variable) : Type 0 where
  pub world : World rows l vs
  pub room : limit_cells * length vs ≤ length limits
  pub limited : (n : ℕ) → n < length vs → LimitAt limits (limit_cells * n) (variable_at vs n).limit
  pub yokes : (n : ℕ) → n < length vs → YokeOf rows (variable_at vs n).yoke

-- some such store, with a variable n
pub record HasRunning (rows : List ℕ) (limits : List ℤ) (l : Lent) (n : ℕ) : Type 0 where
  pub store : List Variable
  pub running : Running rows limits l store
  pub there : n < length store

-- a variable's present body and its limit, where the code keeps those of variable n
pub record Bounds (bodies : List ℕ) (limits : List ℤ) (n : ℕ) (v : Variable) : Type 0 where
  pub own : Holds (take body_bytes (drop (body_bytes * n) bodies)) (present_body v)
  pub limited : LimitAt limits (limit_cells * n) v.limit

-- room for both, some body there, and some value
pub record HasBounds (bodies : List ℕ) (limits : List ℤ) (n : ℕ) (value : List ℤ) (body : List ℕ) : Type 0 where
  pub own_room : body_bytes * n + body_bytes ≤ length bodies
  pub held : Held (take body_bytes (drop (body_bytes * n) bodies))
  pub limit_room : limit_cells * n + limit_cells ≤ length limits
  pub has : HasCurrent value body

-- some such store, and some value for variable n
pub record Checkable (rows : List ℕ) (limits : List ℤ) (l : Lent) (n : ℕ) (value : List ℤ) (body : List ℕ) : Type 0 where
  pub store : List Variable
  pub running : Running rows limits l store
  pub there : n < length store
  pub has : HasCurrent value body

-- ---- what an assignment gives
-- a store of a run, and an evaluated value for its variable n
pub record Assignable (rows : List ℕ) (limits : List ℤ) (l : Lent) (n : ℕ) (x : Result Evaluated Error) (stack : List ℤ) : Type 0 where
  pub store : List Variable
  pub running : Running rows limits l store
  pub there : n < length store
  pub given : Given x stack

-- the new store in the memory, or the error and the memory as it was
abbrev pub Assigns : ℕ → List ℕ → List ℤ → Lent → Lent → Outcome (List Variable) → Type 0
Assigns r rows limits l after p = Settles r (Running rows limits) l after p

-- ---- what a store asks and gives
-- room in the memory for variable n's value, which is as long as it says
pub record Storable (l : Lent) (n : ℕ) (value : List ℤ) (width : ℕ) : Type 0 where
  pub cells_room : body_cells * n + body_cells ≤ length l.cells
  pub states_room : flag_place n < length l.states
  pub bodies_room : body_bytes * n + body_bytes ≤ length l.bodies
  pub narrow : width ≤ body_cells
  pub long : width ≤ length value

-- the store with a coherent value in variable n, whatever else is asked of a run's store
pub record StoresValue (l after : Lent) (n : ℕ) (value : List ℤ) (width : ℕ) (body : List ℕ) : Type 0 where
  pub running : (rows : List ℕ) (limits : List ℤ) (vs : List Variable) (x : Composite) → Running rows limits l vs → n < length vs → Current value body x → width ≡ size x.body
      → coherent (present_body (variable_at vs n)) x.body ≡ true → Running rows limits after (set vs n (with_content (variable_at vs n) x))
