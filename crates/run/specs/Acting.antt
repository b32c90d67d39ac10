-- What each way of ending an instruction reaches, whatever is asked of the memory: passed over, out, settled, decided. Assumes nothing.
use Rattle.std.specs.Prelude.{◌≡◌, refl, Bool, true, false, List, [], ℕ, ℤ, Option, None, Some, is_some, Result, Ok, Err}
use Rattle.std.proofs.Common.{sym, ap, ◌∙◌, subst, true≢false}
use Rattle.std.proofs.Math.Seq.{take-length}
use Rattle.lingua.specs.declared.errors.Error.{Error}
use Rattle.lingua.specs.declared.errors.ErrorAt.{ErrorAt}
use Rattle.lingua.specs.Outcome.{ok, fail, Result as Outcome}
use Rattle.lingua.specs.Faults.{error_number, number_of, told}
use Rattle.laws.specs.Faults.{error_some}
use Rattle.lingua.specs.Store.{Variable, call_cells, call_states, call_bodies}
use Rattle.lingua.specs.Expression.{skip}
use Rattle.lingua.specs.Run.{State, Progress, going, out, settled, act, decided, exec}
use Rattle.run.specs.declared.steps.Status.{Status}
use Rattle.run.specs.Statuses.{error_in, state_of, progress_of, onward, StepOf, recorded}
use Rattle.run.specs.Reached.{Lent, lent, Holding, Going, onto, overlaid, Reached, Passes, Settles, Tells}
use Rattle.run.specs.Steps.{act_passed, act_steps}

-- ---- the moment
pub still_going : (m : Status) (s : State) (os : List (List Variable)) → m.out ≡ false → going s ≡ progress_of m.out s os
still_going m s os e = sym (ap (λ (b : Bool). progress_of b s os) e)

pub now_out : (m : Status) (s : State) (os : List (List Variable)) → m.out ≡ true → out s os ≡ progress_of m.out s os
now_out m s os e = sym (ap (λ (b : Bool). progress_of b s os) e)

pub going_after : {r : Status} → r.out ≡ false → Going r
going_after e = record { not_out = e }

-- what is recorded, by whether anything is
pub some_recorded : (f : Option ErrorAt) → is_some f ≡ true → error_in f ≡ 0 → ⊥
some_recorded None e = absurd (true≢false (sym e))
some_recorded (Some f) e = error_some f.error

pub none_recorded : (f : Option ErrorAt) → is_some f ≡ false → error_in f ≡ 0
none_recorded None e = refl
none_recorded (Some f) e = absurd (true≢false e)

pub passed_over : (m : Status) (vs : List Variable) (f : State → Progress) → Going m → is_some m.error ≡ true → act (state_of m vs) f ≡ progress_of m.out (state_of m vs) []
passed_over m vs f g h = act_passed (state_of m vs) f (some_recorded m.error h) ∙ still_going m (state_of m vs) [] g.not_out

module _ {m r : Status} (h : StepOf m r) (e : is_some m.error ≡ false) (vs : List Variable) (f : State → Progress) where
  acted : act (state_of m vs) f ≡ onward r.out (state_of r vs) f
  acted = act_steps (state_of m vs) f (none_recorded m.error e) ∙ h.is vs f

  pub act_out : r.out ≡ true → act (state_of m vs) f ≡ progress_of r.out (state_of r vs) []
  act_out q = acted ∙ ap (λ (b : Bool). onward b (state_of r vs) f) q ∙ now_out r (state_of r vs) [] q

  pub act_on : r.out ≡ false → act (state_of m vs) f ≡ f (state_of r vs)
  act_on q = acted ∙ ap (λ (b : Bool). onward b (state_of r vs) f) q

-- ---- skip
pub skip_passed : {m : Status} (row : ℕ) → Going m → is_some m.error ≡ true → Passes m m (skip row)
unfolding exec
skip_passed {m} row g h = record { is = λ calls vs. passed_over m vs (λ t. going t) g h }

onward_going : (b : Bool) (s : State) → onward b s (λ t. going t) ≡ progress_of b s []
onward_going true s = refl
onward_going false s = refl

pub skip_stepped : {m r : Status} (row : ℕ) → StepOf m r → is_some m.error ≡ false → Passes m r (skip row)
unfolding exec
skip_stepped {m} {r} row h e = record { is = λ calls vs. acted h e vs (λ t. going t) ∙ onward_going r.out (state_of r vs) }

-- ---- the area
onto_none : {A : Type 0} (l : List A) → onto [] l ≡ l
unfolding onto
onto_none l = take-length l

pub overlaid_none : (o : Lent) → overlaid [] o ≡ o
unfolding overlaid call_cells call_states call_bodies
overlaid_none o =
    ap (λ (x : List ℤ). lent x (onto [] o.states) (onto [] o.bodies)) (onto_none o.cells)
    ∙ ap (λ (x : List ℕ). lent o.cells x (onto [] o.bodies)) (onto_none o.states)
    ∙ ap (λ (x : List ℕ). lent o.cells o.states x) (onto_none o.bodies)

-- a run that goes on leaves the area as it was
pub area_stays : {M : Holding} {o l after : Lent} {m : Status} {q : Progress} → Reached M o l after m q → m.out ≡ false → after ≡ o
area_stays {o = o} h e = h.area ∙ ap (λ (os : List (List Variable)). overlaid os o) (h.closed e) ∙ overlaid_none o

-- ---- the memory
module _ {M : Holding} {o l : Lent} where
  -- nothing is stored, and no call is open
  pub stays : {m : Status} {q : Progress} (vs : List Variable) → M l vs → q ≡ progress_of m.out (state_of m vs) [] → Reached M o l o m q
  stays vs w e = record { store = vs; opens = []; is = e; running = w; area = sym (overlaid_none o); closed = λ z. refl }

  pub reaches_as : {after : Lent} {m : Status} {p q : Progress} → q ≡ p → Reached M o l after m p → Reached M o l after m q
  reaches_as e h = record { store = h.store; opens = h.opens; is = e ∙ h.is; running = h.running; area = h.area; closed = h.closed }

-- from an area that is the same
pub reaches_from : {M : Holding} {o p l after : Lent} {m : Status} {q : Progress} → p ≡ o → Reached M p l after m q → Reached M o l after m q
reaches_from {M = M} {l = l} {after} {m} {q} e h = subst (λ (a : Lent). Reached M a l after m q) e h

kept : (M : Holding) (l after : Lent) (vs : List Variable) → M l vs → after ≡ l → M after vs
kept M l after vs w e = subst (λ (k : Lent). M k vs) (sym e) w

module _ {M : Holding} {free l after : Lent} (vs : List Variable) (w : M l vs) where
  -- a new store, or an error with its place
  pub settles : (r s : Status) {o : Outcome (List Variable)} (answer : Result (Unit {0}) Error) (place : ℕ) → Settles (number_of answer) M l after o → s ≡ recorded r answer place → r.out ≡ false
      → Reached M free after free s (going (settled (state_of r vs) place o))
  settles r s {o} answer place a e q = subst (λ (x : Status). Reached M free after free x (going (settled (state_of r vs) place o))) (sym e) (by answer a)
    where
      by : (x : Result (Unit {0}) Error) → Settles (number_of x) M l after o → Reached M free after free (recorded r x place) (going (settled (state_of r vs) place o))
      by (Ok u) a =
          let b = a.answer refl in
          stays b.store b.running (ap (λ (p : Outcome (List Variable)). going (settled (state_of r vs) place p)) b.is ∙ still_going r (state_of r b.store) [] q)
      by (Err x) a =
          let b = a.error (error_some x) in
          stays vs (kept M l after vs w b.same)
          (ap (λ (p : Outcome (List Variable)). going (settled (state_of r vs) place p)) b.is ∙ still_going (recorded r (Err x) place) (state_of (recorded r (Err x) place) vs) [] q)

-- ---- a test
tells_that : {x : Result Bool Error} {o : Outcome Bool} (b : Bool) → Tells x o → x ≡ Ok b → o ≡ ok b
tells_that b h e = sym h ∙ ap told e

module _ {x : Result Bool Error} {o : Outcome Bool} (h : Tells x o) (p : ℕ) (s : State) (f g : State → Progress) where
  pub decided_yes : x ≡ Ok true → decided o p s f g ≡ f s
  decided_yes e = ap (λ (r : Outcome Bool). decided r p s f g) (tells_that true h e)

  pub decided_no : x ≡ Ok false → decided o p s f g ≡ g s
  decided_no e = ap (λ (r : Outcome Bool). decided r p s f g) (tells_that false h e)

recorded_error : (r s : Status) (vs : List Variable) (error : Error) (place : ℕ) → s ≡ recorded r (Err error) place → r.out ≡ false → going (settled (state_of r vs) place (fail (error_number error))) ≡ progress_of s.out (state_of s vs) []
recorded_error r s vs error place e q = still_going r _ [] q ∙ sym (ap (λ (x : Status). progress_of x.out (state_of x vs) []) e)

module _ {M : Holding} {free l : Lent} (vs : List Variable) (w : M l vs) where
  pub test_failed : {x : Result Bool Error} {o : Outcome Bool} (r s : Status) (error : Error) (place : ℕ) (f g : State → Progress) → Tells x o → x ≡ Err error
      → s ≡ recorded r (Err error) place → r.out ≡ false → Reached M free l free s (decided o place (state_of r vs) f g)
  test_failed {x} {o} r s error place f g h k e q =
      let failed : o ≡ fail (error_number error) = sym h ∙ ap told k in
      stays vs w (ap (λ (p : Outcome Bool). decided p place (state_of r vs) f g) failed ∙ recorded_error r s vs error place e q)
