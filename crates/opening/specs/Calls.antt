-- What a call asks before its body and behind it, and what it gives. Assumes nothing: these are definitions.
use Rattle.std.specs.Prelude.{◌≡◌, List, [], ◌++◌, ℕ, suc, ◌+◌, ◌*◌, ◌≤◌, ◌<◌, pos, length, take, drop, replicate}
use Rattle.lingua.specs.Numbers.{body_cells, cells_length, states_length, variable_bodies_length, limit_cells_length, expression_section, instruction_section}
use Rattle.lingua.specs.Errors.{no_error}
use Rattle.lingua.specs.Outcome.{fail}
use Rattle.lingua.specs.Rows.{table_count}
use Rattle.lingua.specs.Store.{Variable, assigned, copied_in}
use Rattle.lingua.specs.Run.{Progress, Profile, procedure_at, begun, returned}
use Rattle.lingua.specs.Trees.{given_values, given_references}
use Rattle.run.specs.declared.steps.Status.{Status}
use Rattle.run.specs.Statuses.{state_of}
use Rattle.run.specs.Reached.{Lent, lent, StoredAs, Reached}
use Rattle.frames.specs.Ways.{Way, checked, erased}
use Rattle.frames.specs.Meaning.{Context, context, Holds, procedures_in, Callable}
use Rattle.opening.specs.Meaning.{Setting, Under, AreaOf, CallAt}

-- the same rows and layout table, and no limits, as a procedure's variables have
abbrev pub unlimited : Context → Context
unlimited c = context c.rows c.layout (replicate limit_cells_length (pos 0))

-- what a procedure's variables are run with
abbrev pub alone : Setting → Setting
alone s = record { context = unlimited s.context; types = s.types }

-- the variables of procedure k as a call begins with them
abbrev pub fresh_of : List ℕ → ℕ → List Variable
fresh_of rows k = begun (procedure_at (procedures_in rows) k).variables

abbrev pub given_all : List ℕ → ℕ → ℕ → ℕ → List ℕ
given_all rows k b c = given_values rows k b ++ given_references rows k c

-- ---- before the body
-- a call's row with the caller's variables in memory
pub record Calls (row k b c : ℕ) (w : Way) (p : Profile) (a : ℕ) (s : Setting) (l : Lent) (vs : List Variable) : Type 0 where
  pub holds : Holds w p a s.context l vs
  pub callable : Callable w p s.context s.types
  pub under : Under s.context.rows a row
  pub says : CallAt s.context.rows row k b c
  pub there : row < table_count s.context.rows instruction_section

-- some such variables, and room on the operand stack
pub record Calling (row k b c : ℕ) (w : Way) (s : Setting) (l : Lent) (room : ℕ) : Type 0 where
  pub profile : Profile
  pub scope : ℕ
  pub store : List Variable
  pub calls : Calls row k b c w profile scope s l store
  pub enough : body_cells * (table_count s.context.rows expression_section + 1) ≤ room

-- memory for a call's variables
unfoldable pub ZeroBodies : Way → List ℕ → Type 0
ZeroBodies checked bodies = bodies ≡ replicate variable_bodies_length 0
ZeroBodies erased bodies = bodies ≡ []

pub record ZerosBy (w : Way) (l : Lent) : Type 0 where
  pub cells_are : l.cells ≡ replicate cells_length (pos 0)
  pub states_are : l.states ≡ replicate states_length 0
  pub bodies_are : ZeroBodies w l.bodies

-- its variables, filled by the copies in; or the error of the first copy that failed
pub record Enters (row k b c : ℕ) (w : Way) (s : Setting) (l own : Lent) (r : ℕ) : Type 0 where
  pub answer : (p : Profile) (a : ℕ) (vs : List Variable) → Calls row k b c w p a s l vs → r ≡ no_error
      → StoredAs (Holds w p (suc k) (unlimited s.context)) own (copied_in assigned vs (given_all s.context.rows k b c) 0 (fresh_of s.context.rows k))
  pub error : (p : Profile) (a : ℕ) (vs : List Variable) → Calls row k b c w p a s l vs → (r ≡ no_error → ⊥)
      → copied_in assigned vs (given_all s.context.rows k b c) 0 (fresh_of s.context.rows k) ≡ fail r

-- ---- behind the body
-- the area without the part of one call
unfoldable pub rest : ℕ → Lent → Lent
rest n o = lent (drop cells_length o.cells) (drop states_length o.states) (drop n o.bodies)

-- the area of which the part of one call stayed as it was in o, and the rest is as another is
unfoldable pub with_rest : ℕ → Lent → Lent → Lent
with_rest n o r = lent (take cells_length o.cells ++ r.cells) (take states_length o.states ++ r.states) (take n o.bodies ++ r.bodies)

-- how many bytes a call's present bodies take
abbrev pub bodies_of_call : Way → ℕ
bodies_of_call checked = variable_bodies_length
bodies_of_call erased = 0

-- the caller's variables in memory, the body's where it ended, and the area as it left it
pub record Left (row k b c : ℕ) (w : Way) (p : Profile) (a n : ℕ) (x : Context) (o own l area : Lent) (vs : List Variable) (ended : Status) (q : Progress) : Type 0 where
  pub holds : Holds w p a x l vs
  pub under : Under x.rows a row
  pub says : CallAt x.rows row k b c
  pub there : row < table_count x.rows instruction_section
  pub room : AreaOf w (suc n) o
  pub after : Lent
  pub reached : Reached (Holds w p (suc k) (unlimited x)) (rest (bodies_of_call w) o) own after ended q
  pub area_is : area ≡ with_rest (bodies_of_call w) o after

pub record Leaving (row k c : ℕ) (w : Way) (x : Context) (own l area : Lent) (ended : Status) (room : ℕ) : Type 0 where
  pub field : ℕ
  pub profile : Profile
  pub scope : ℕ
  pub may : ℕ
  pub before : Lent
  pub store : List Variable
  pub progress : Progress
  pub left : Left row k field c w profile scope may x before own l area store ended progress
  pub enough : body_cells * (table_count x.rows expression_section + 1) ≤ room

-- the run stands where the definition's call does
pub record Leaves (row k c : ℕ) (w : Way) (x : Context) (own l area after free : Lent) (ended r : Status) : Type 0 where
  pub reaches : (b : ℕ) (p : Profile) (a n : ℕ) (o : Lent) (vs : List Variable) (q : Progress) (m : Status) → Left row k b c w p a n x o own l area vs ended q
      → Reached (Holds w p a x) o after free r (returned assigned row (length (given_values x.rows k b)) (given_references x.rows k c) (state_of m vs) q)
