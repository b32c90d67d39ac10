-- Where a run stands in the lent memory, whatever is asked of that memory: `M l vs` says that what is lent, l, holds the store vs. Both runs
-- have an M of their own. Beside the memory of the variables that an instruction sees lies an area for the calls that may still be opened.
-- Assumes nothing: these are definitions.
use Rattle.std.specs.Prelude.{◌≡◌, Bool, false, List, [], ◌++◌, ℕ, ℤ, length, take, drop, Result}
use Rattle.lingua.specs.Errors.{no_error}
use Rattle.lingua.specs.declared.errors.Error.{Error}
use Rattle.lingua.specs.Outcome.{ok, fail, Result as Outcome}
use Rattle.lingua.specs.Faults.{told}
use Rattle.lingua.specs.Store.{Variable, call_cells, call_states, call_bodies}
use Rattle.lingua.specs.Expression.{Instruction}
use Rattle.lingua.specs.Run.{Progress, Calling, exec}
use Rattle.run.specs.declared.steps.Status.{Status}
use Rattle.run.specs.Statuses.{state_of, progress_of}

-- everything that a caller lends a run for its registers, as one bundle: the cells, the state words (document 01: marks), and the present
-- bodies, which the erased run does without: there they are none
pub record Lent : Type 0 where
  pub cells : List ℤ
  pub states : List ℕ
  pub bodies : List ℕ

abbrev pub lent : List ℤ → List ℕ → List ℕ → Lent
lent cells states bodies = record { cells = cells; states = states; bodies = bodies }

-- what a run asks of lent memory that holds a store
abbrev pub Holding : Type 1
Holding = Lent → List Variable → Type 0

-- a run that goes on
pub record Going (m : Status) : Type 0 where
  pub not_out : m.out ≡ false

-- ---- the area for calls
-- a list's front replaced, as far as it goes
unfoldable pub onto : {A : Type 0} → List A → List A → List A
onto xs l = take (length l) (xs ++ drop (length xs) l)

-- the area with the variables of open calls, the oldest first; what lies behind them is as it was
unfoldable pub overlaid : List (List Variable) → Lent → Lent
overlaid os o = lent (onto (call_cells os) o.cells) (onto (call_states os) o.states) (onto (call_bodies os) o.bodies)

-- the run stands where the definition does: the store in memory, and the moment beside it. The calls that are open, of which there are none
-- unless it is out of budget, lie in the area, which was o
pub record Reached (M : Holding) (o l after : Lent) (m : Status) (q : Progress) : Type 0 where
  pub store : List Variable
  pub opens : List (List Variable)
  pub is : q ≡ progress_of m.out (state_of m store) opens
  pub running : M l store
  pub area : after ≡ overlaid opens o
  pub closed : m.out ≡ false → opens ≡ []

-- an instruction that leaves the store as it is, whatever calls do
pub record Passes (m r : Status) (i : Instruction) : Type 0 where
  pub is : (calls : Calling) (vs : List Variable) → exec calls i (state_of m vs) ≡ progress_of r.out (state_of r vs) []

-- ---- a store
-- the new store is the one in memory
pub record StoredAs (M : Holding) (l : Lent) (p : Outcome (List Variable)) : Type 0 where
  pub store : List Variable
  pub is : p ≡ ok store
  pub running : M l store

-- the error, and the memory as it was
pub record Kept (r : ℕ) (l after : Lent) (p : Outcome (List Variable)) : Type 0 where
  pub is : p ≡ fail r
  pub same : after ≡ l

pub record Settles (r : ℕ) (M : Holding) (l after : Lent) (p : Outcome (List Variable)) : Type 0 where
  pub answer : r ≡ no_error → StoredAs M after p
  pub error : (r ≡ no_error → ⊥) → Kept r l after p

-- ---- a test: its value, or its error
abbrev pub Tells : Result Bool Error → Outcome Bool → Type 0
Tells r o = told r ≡ o
