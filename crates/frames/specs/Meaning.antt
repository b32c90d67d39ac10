-- What is done to the variables of the profile or of an open call, in each of the two ways to run: what is asked of their memory, and what it
-- holds afterwards. Assumes nothing: these are definitions.
use Rattle.std.specs.Prelude.{◌≡◌, Bool, Result, List, [], ℕ, ◌+◌, ◌*◌, ◌/◌, ◌≤◌, ◌<◌, ℤ, length, get_or, replicate}
use Rattle.lingua.specs.Numbers.{body_cells, variable_bodies_length, type_section, expression_section, scope_table}
use Rattle.lingua.specs.Errors.{no_error}
use Rattle.lingua.specs.Outcome.{Result as Outcome, fail}
use Rattle.lingua.specs.Rows.{table_count, pair_count, procedure_count, groups}
use Rattle.lingua.specs.Store.{Variable, contents, assigned, copied, copied_in}
use Rattle.lingua.specs.Evaluation.{eval_test}
use Rattle.lingua.specs.Run.{State, Procedure, Profile, copied_out}
use Rattle.lingua.specs.Typing.{scope_bodies}
use Rattle.lingua.specs.Trees.{tabulate, expression_tree, procedure_of, profile_of}
use Rattle.safety.specs.Layout.{HoldsIn}
use Rattle.safety.specs.Programs.{TypedProfile}
use Rattle.decoder.specs.declared.tables.Table.{Table}
use Rattle.rules.specs.Types.{BodiesBelow}
use Rattle.run.specs.declared.steps.Status.{Status}
use Rattle.lingua.specs.declared.errors.Error.{Error}
use Rattle.run.specs.Statuses.{state_of}
use Rattle.run.specs.Kept.{YokesKept, BodiesKept}
use Rattle.run.specs.Reached.{Lent, Holding, StoredAs, Settles, Tells}
use Rattle.checked_store.specs.Meaning.{Running as CheckedRunning}
use Rattle.erased_row.specs.Meaning.{Running as ErasedRunning, TestRow}
use Rattle.frames.specs.Ways.{Way, checked, erased}

-- ---- what is given
-- what a run reads and does not change: the profile's rows, the layout table, and the limits of the variables that are looked at
pub record Context : Type 0 where
  pub rows : List ℕ
  pub layout : List ℕ
  pub limits : List ℤ

abbrev pub context : List ℕ → List ℕ → List ℤ → Context
context rows layout limits = record { rows = rows; layout = layout; limits = limits }

-- the checked run has the present bodies, and no layout table
pub record CheckedIn (c : Context) (l : Lent) (vs : List Variable) : Type 0 where
  pub no_layout : c.layout ≡ []
  pub running : CheckedRunning c.rows c.limits l vs

-- the erased run has the layout table, and no body; it knows the scope of a passed profile
pub record ErasedIn (p : Profile) (a : ℕ) (c : Context) (l : Lent) (vs : List Variable) : Type 0 where
  pub no_bodies : l.bodies ≡ []
  pub running : ErasedRunning p a c.rows c.layout c.limits l vs

unfoldable pub HoldsBy : Way → Profile → ℕ → Context → Holding
HoldsBy checked p a c l vs = CheckedIn c l vs
HoldsBy erased p a c l vs = ErasedIn p a c l vs

-- what a run asks of lent memory that holds the variables of scope a: 0 for the profile's, 1 + k for procedure k's
pub record Holds (w : Way) (p : Profile) (a : ℕ) (c : Context) (l : Lent) (vs : List Variable) : Type 0 where
  pub by : HoldsBy w p a c l vs
  pub here : a ≤ procedure_count c.rows
  pub count : length vs ≡ pair_count c.rows (scope_table a)

-- some such store, of a scope with a property, and room on the operand stack
pub record Standing (w : Way) (c : Context) (l : Lent) (room : ℕ) (P : ℕ → Type 0) : Type 0 where
  pub profile : Profile
  pub scope : ℕ
  pub store : List Variable
  pub holds : Holds w profile scope c l store
  pub of_scope : P scope
  pub enough : body_cells * (table_count c.rows expression_section + 1) ≤ room

-- the same under some limits, where they are not asked
pub record StandsUnder (w : Way) (rows : List ℕ) (layout : List ℕ) (l : Lent) (room : ℕ) (P : ℕ → Type 0) : Type 0 where
  pub limits : List ℤ
  pub standing : Standing w (context rows layout limits) l room P

-- ---- what differs between the ways
-- a store, in a scope with a property: the new one in memory, or the error and the memory as it was
pub record Stores (w : Way) (c : Context) (l after : Lent) (r : ℕ) (P : ℕ → Type 0) (f : List Variable → Outcome (List Variable)) : Type 0 where
  pub settles : (p : Profile) (a : ℕ) (vs : List Variable) → P a → Holds w p a c l vs → Settles r (Holds w p a c) l after (f vs)

-- a test's answer
pub record TellsTest (w : Way) (c : Context) (l : Lent) (e : ℕ) (r : Result Bool Error) : Type 0 where
  pub tells : (p : Profile) (a : ℕ) (vs : List Variable) → TestRow c.rows a e → Holds w p a c l vs → Tells r (eval_test (expression_tree c.rows e) (contents vs))

-- ---- copies between two memories
-- variable n of scope a may be given for variable m of scope b: without bodies only if they have one declared body
abbrev pub MayGive : Way → Profile → ℕ → ℕ → ℕ → ℕ → Type 0
MayGive w p a n b m = w ≡ erased → scope_bodies p a n ≡ scope_bodies p b m

-- two memories of a run, from and to, with their variables; the limits of the first are not asked
pub record Facing (w : Way) (p : Profile) (a b : ℕ) (limits : List ℤ) (from : Lent) (vs : List Variable) (c : Context) (to : Lent) (ws : List Variable) : Type 0 where
  pub gives : Holds w p a (context c.rows c.layout limits) from vs
  pub takes : Holds w p b c to ws

-- one pair of variables that may be copied
pub record Pair (w : Way) (p : Profile) (a b : ℕ) (vs ws : List Variable) (n m : ℕ) : Type 0 where
  pub from : n < length vs
  pub to : m < length ws
  pub may : MayGive w p a n b m

-- some two such memories with a property, and room on the operand stack
pub record HasFacing (w : Way) (from : Lent) (c : Context) (to : Lent) (room : ℕ) (P : Profile → ℕ → ℕ → List Variable → List Variable → Type 0) : Type 0 where
  pub profile : Profile
  pub source : ℕ
  pub target : ℕ
  pub limits : List ℤ
  pub given : List Variable
  pub taken : List Variable
  pub facing : Facing w profile source target limits from given c to taken
  pub property : P profile source target given taken
  pub enough : body_cells * (table_count c.rows expression_section + 1) ≤ room

-- variable n of the one is assigned to variable m of the other
pub record Copies (w : Way) (from : Lent) (c : Context) (to after : Lent) (n m r : ℕ) : Type 0 where
  pub settles : (p : Profile) (a b : ℕ) (limits : List ℤ) (vs ws : List Variable) → Facing w p a b limits from vs c to ws → Pair w p a b vs ws n m
      → Settles r (Holds w p b c) to after (copied assigned vs n ws m)

-- count groups of a call's field, each with one of the variables from first on
pub record AllPairs (w : Way) (p : Profile) (a b : ℕ) (vs ws : List Variable) (field count first : ℕ) : Type 0 where
  pub each : (i : ℕ) → i < count → Pair w p a b vs ws (get_or (groups count field) i 0) (first + i)

-- the other way round
pub record AllBack (w : Way) (p : Profile) (a b : ℕ) (vs ws : List Variable) (field count first : ℕ) : Type 0 where
  pub each : (i : ℕ) → i < count → Pair w p a b vs ws (first + i) (get_or (groups count field) i 0)

-- copies into a call's variables, which are done with after an error
pub record CopiesIn (w : Way) (from : Lent) (c : Context) (to after : Lent) (field count first r : ℕ) : Type 0 where
  pub answer : (p : Profile) (a b : ℕ) (limits : List ℤ) (vs ws : List Variable) → Facing w p a b limits from vs c to ws → AllPairs w p a b vs ws field count first
      → r ≡ no_error → StoredAs (Holds w p b c) after (copied_in assigned vs (groups count field) first ws)
  pub error : (p : Profile) (a b : ℕ) (limits : List ℤ) (vs ws : List Variable) → Facing w p a b limits from vs c to ws → AllPairs w p a b vs ws field count first
      → (r ≡ no_error → ⊥) → copied_in assigned vs (groups count field) first ws ≡ fail r

-- the caller's state once references came back
pub record CameBack (w : Way) (p : Profile) (b : ℕ) (c : Context) (after : Lent) (m r : Status) (s : State) : Type 0 where
  pub store : List Variable
  pub is : s ≡ state_of r store
  pub holds : Holds w p b c after store
  pub same_out : r.out ≡ m.out

pub record CopiesOut (w : Way) (from : Lent) (c : Context) (to after : Lent) (row field count first : ℕ) (m r : Status) : Type 0 where
  pub back : (p : Profile) (a b : ℕ) (limits : List ℤ) (vs ws : List Variable) → Facing w p a b limits from vs c to ws → AllBack w p a b vs ws field count first
      → CameBack w p b c after m r (copied_out assigned row vs first (groups count field) (state_of m ws))

-- ---- procedures
-- as the definition has them
abbrev pub procedures_in : List ℕ → List Procedure
procedures_in rows = tabulate (procedure_count rows) (λ k. procedure_of rows k)

-- what calls ask besides: the checked run the bodies of the type rows, the erased one that the whole profile passed
pub record TypesKept (rows types : List ℕ) : Type 0 where
  pub held : BodiesBelow rows types (table_count rows type_section)

pub record WhollyPassed (p : Profile) (rows layout : List ℕ) : Type 0 where
  pub limits : List ℕ
  pub is : p ≡ profile_of rows limits
  pub typed : TypedProfile (HoldsIn layout) p

unfoldable pub CallableBy : Way → Profile → Context → List ℕ → Type 0
CallableBy checked p c types = TypesKept c.rows types
CallableBy erased p c types = WhollyPassed p c.rows c.layout

pub record Callable (w : Way) (p : Profile) (c : Context) (types : List ℕ) : Type 0 where
  pub by : CallableBy w p c types

-- ---- a call's variables at its start
-- room for the bodies, zeros yet, and those of the type rows; the erased run has neither
unfoldable pub BeginsBy : Way → List ℕ → List ℕ → List ℕ → Type 0
BeginsBy checked rows types bodies = TypesKept rows types × (bodies ≡ replicate variable_bodies_length 0)
BeginsBy erased rows types bodies = bodies ≡ []

-- no body is asked of the erased run
unfoldable pub FreshBy : Way → List ℕ → Table → List ℕ → Type 0
FreshBy checked rows t bodies = BodiesKept rows t bodies (t.count / 2)
FreshBy erased rows t bodies = bodies ≡ []

pub record Fresh (w : Way) (rows : List ℕ) (t : Table) (states bodies : List ℕ) : Type 0 where
  pub yokes : YokesKept rows t states (t.count / 2)
  pub present : FreshBy w rows t bodies
