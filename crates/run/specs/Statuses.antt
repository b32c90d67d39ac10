-- What the recorded moment of a run is in the definition. Assumes nothing: these are definitions.
use Rattle.std.specs.Prelude.{◌≡◌, Bool, true, false, List, [], ℕ, ◌+◌, Option, None, Some, Result, Ok, Err}
use Rattle.lingua.specs.Errors.{no_error}
use Rattle.lingua.specs.Faults.{error_number}
use Rattle.lingua.specs.Store.{Variable}
use Rattle.lingua.specs.Run.{State, Progress, going, out, step}
use Rattle.lingua.specs.declared.errors.Error.{Error}
use Rattle.lingua.specs.declared.errors.ErrorAt.{ErrorAt}
use Rattle.run.specs.declared.steps.Status.{Status}

-- the number and the place of what is recorded; 0 and 0 where there is no error
abbrev pub error_in : Option ErrorAt → ℕ
error_in None = no_error
error_in (Some f) = error_number f.error

abbrev pub place_in : Option ErrorAt → ℕ
place_in None = 0
place_in (Some f) = f.place

-- the state, with the store
abbrev pub state_of : Status → List Variable → State
state_of m vs = record { store = vs; error = error_in m.error; place = place_in m.error; left = m.left }

-- out of budget, with the calls that are open, or going on
abbrev pub progress_of : Bool → State → List (List Variable) → Progress
progress_of true s os = out s os
progress_of false s os = going s

-- what comes next, unless the run is out
abbrev pub onward : Bool → State → (State → Progress) → Progress
onward true s f = out s []
onward false s f = f s

-- one step, or out: what is recorded stays
pub record StepOf (m r : Status) : Type 0 where
  pub is : (vs : List Variable) (f : State → Progress) → step (state_of m vs) f ≡ onward r.out (state_of r vs) f
  pub error : r.error ≡ m.error
  pub fewer : r.out ≡ false → m.left ≡ r.left + 1

-- an answer's error with its place; without one nothing changes
abbrev pub recorded : Status → Result (Unit {0}) Error → ℕ → Status
recorded m (Ok u) p = m
recorded m (Err e) p = record { error = Some (record { error = e; place = p }); left = m.left; out = m.out }
