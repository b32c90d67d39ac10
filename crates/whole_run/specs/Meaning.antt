-- What the readings and a whole run ask of their memory and give, in each of the two ways to run. Assumes nothing: these are definitions.
use Rattle.std.specs.Prelude.{◌≡◌, false, List, [], ℕ, ℤ, pos, length, replicate, Ok}
use Rattle.lingua.specs.Numbers.{open_cells_length, open_states_length, open_bodies_length}
use Rattle.lingua.specs.Value.{pad}
use Rattle.lingua.specs.Store.{Reading, Variable, reading_taken, call_bodies}
use Rattle.lingua.specs.Run.{State, Profile, last_state, open_calls, settled, take_readings, run}
use Rattle.lingua.specs.Trees.{profile_of}
use Rattle.lingua.specs.Refusal.{reading_wrong}
use Rattle.lingua.specs.Inputs.{buffers}
use Rattle.lingua.specs.declared.RunEnd.{RunEnd}
use Rattle.lingua.specs.Calls.{ran, run_result}
use Rattle.safety.specs.Invariant.{declared_store}
use Rattle.run.specs.declared.steps.Status.{Status}
use Rattle.run.specs.Statuses.{state_of}
use Rattle.run.specs.Reached.{Lent, Holding, Going}
use Rattle.frames.specs.Ways.{Way, checked, erased}
use Rattle.frames.specs.declared.context.Context.{Context as ContextRead}
use Rattle.frames.specs.Lending.{context_of}
use Rattle.frames.specs.Meaning.{Context, Holds, Callable}
use Rattle.opening.specs.Meaning.{Setting}

-- ---- what is given
-- a context with the bodies of the type rows
abbrev pub setting_in : ContextRead → List ℕ → Setting
setting_in c types = record { context = context_of c; types = types }

-- ---- readings
-- two slices of one length, each of whose variables is a number variable (document 01: rule 16)
pub record Readable (rows who : List ℕ) (numbers : List ℤ) : Type 0 where
  pub same_length : length who ≡ length numbers
  pub right : reading_wrong rows who ≡ false

-- a state: its store in memory, and the moment beside it
pub record Kept (M : Holding) (l : Lent) (m : Status) (s : State) : Type 0 where
  pub store : List Variable
  pub is : s ≡ state_of m store
  pub running : M l store

-- one reading: taken, or its error recorded with its place
pub record Takes (w : Way) (c : Context) (l after : Lent) (m r : Status) (place n : ℕ) (z : ℤ) : Type 0 where
  pub goes : Going r
  pub reaches : (p : Profile) (vs : List Variable) → Holds w p 0 c l vs → Kept (Holds w p 0 c) after r (settled (state_of m vs) place (reading_taken vs (record { variable = n; number = z })))

-- all of them, in order
pub record TakesAll (w : Way) (c : Context) (l after : Lent) (m r : Status) (rs : List Reading) : Type 0 where
  pub goes : Going r
  pub reaches : (p : Profile) (vs : List Variable) → Holds w p 0 c l vs → Kept (Holds w p 0 c) after r (take_readings 0 rs (state_of m vs))

-- ---- a whole run
-- the area for calls, in which none is open
unfoldable pub ClearBodies : Way → List ℕ → Type 0
ClearBodies checked bodies = bodies ≡ replicate open_bodies_length 0
ClearBodies erased bodies = bodies ≡ []

pub record Clear (w : Way) (o : Lent) : Type 0 where
  pub cells_are : o.cells ≡ replicate open_cells_length (pos 0)
  pub states_are : o.states ≡ replicate open_states_length 0
  pub bodies_are : ClearBodies w o.bodies

-- memory as it is at a run's start, under the limits of a file
pub record Ready (w : Way) (s : Setting) (l o : Lent) (limits : List ℕ) : Type 0 where
  pub holds : Holds w (profile_of s.context.rows limits) 0 s.context l (declared_store (profile_of s.context.rows limits))
  pub callable : Callable w (profile_of s.context.rows limits) s.context s.types
  pub clear : Clear w o

-- of some file
pub record Begins (w : Way) (s : Setting) (l o : Lent) : Type 0 where
  pub limits : List ℕ
  pub ready : Ready w s l o limits

-- The answer, and both memories where the run ended, are the definition's: the one holds its last store, the other its open calls, with their
-- present bodies in the checked run.
pub record Runs (w : Way) (s : Setting) (l o after free : Lent) (rs : List Reading) (budget : ℕ) (r : RunEnd) : Type 0 where
  pub is : (limits : List ℕ) → Ready w s l o limits
      → run_result (Ok r) (buffers after.cells after.states free.cells free.states) ≡ ran budget (run (profile_of s.context.rows limits) rs budget)
  pub left : (limits : List ℕ) → Ready w s l o limits
      → Holds w (profile_of s.context.rows limits) 0 s.context after (last_state (run (profile_of s.context.rows limits) rs budget)).store
  pub open_bodies : (limits : List ℕ) → Ready w s l o limits → w ≡ checked
      → free.bodies ≡ pad open_bodies_length 0 (call_bodies (open_calls (run (profile_of s.context.rows limits) rs budget)))
