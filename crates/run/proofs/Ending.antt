-- A moment's step, and a run's answer by its moment. Assumes nothing.
use mathlib.Core.Path.{◌≡◌, refl, sym, ap, ◌∙◌}
use mathlib.Core.Bool.{Bool, true, false}
use mathlib.Core.List.{List, []}
use Prim.Native.Nat.{ℕ, zero, suc, ◌+◌, ◌-◌}
use native.Mathlib.Omega.{arith}
use lib.Dec.{eqb}
use borrow.Author.Tests.{ne_eqb}
use Rattle.std.specs.Prelude.{Option, None, Some, Ok, if◌then◌else◌}
use Rattle.lingua.specs.Errors.{no_error}
use Rattle.lingua.specs.Faults.{error_number}
use Rattle.lingua.specs.declared.errors.ErrorAt.{ErrorAt}
use Rattle.lingua.specs.Store.{Variable}
use Rattle.lingua.specs.Run.{State, Progress, out, step, finished, failed, out_of_budget}
use Rattle.lingua.specs.Answers.{answered, ending, end_number, run_meaning}
use Rattle.lingua.specs.Calls.{ending_of}
use Rattle.lingua.specs.declared.RunEnd.TheVariants as run_end
use Rattle.laws.specs.Faults.{error_some}
use Rattle.run.specs.declared.steps.Status.{Status}
use Rattle.run.specs.Statuses.{error_in, place_in, state_of, progress_of}
use Rattle.run.specs.Steps.{step_spent, step_taken}

pub steps_none : (m : Status) → m.left ≡ 0 → (vs : List Variable) (f : State → Progress) → step (state_of m vs) f ≡ out (record { store = vs; error = error_in m.error; place = place_in m.error; left = 0 }) []
steps_none m e vs f = step_spent (state_of m vs) f e ∙ ap (λ (n : ℕ). out (record { store = vs; error = error_in m.error; place = place_in m.error; left = n }) []) e

one_less : (n : ℕ) → (n ≡ 0 → ⊥) → n ≡ suc (n - 1)
one_less zero h = absurd (h refl)
one_less (suc n) h = omega arith

pub one_more : (n : ℕ) → (n ≡ 0 → ⊥) → n ≡ n - 1 + 1
one_more zero h = absurd (h refl)
one_more (suc n) h = omega arith

pub steps_one : (m : Status) → (m.left ≡ 0 → ⊥) → (vs : List Variable) (f : State → Progress) → step (state_of m vs) f ≡ f (record { store = vs; error = error_in m.error; place = place_in m.error; left = m.left - 1 })
steps_one m h vs f = step_taken (state_of m vs) f (m.left - 1) (one_less m.left h)

-- ---- the answer
pub ended_out : (m : Status) (budget : ℕ) → m.out ≡ true → (vs : List Variable) (os : List (List Variable)) → run_meaning (Ok (run_end.Out m.error (budget - m.left))) ≡ answered (ending_of budget (progress_of m.out (state_of m vs) os))
unfolding run_meaning ending_of
ended_out m budget e vs os = said m.error (budget - m.left) ∙ sym (ap (λ (b : Bool). answered (ending_of budget (progress_of b (state_of m vs) os))) e)
  where
    said : (f : Option ErrorAt) (steps : ℕ) → run_meaning (Ok (run_end.Out f steps)) ≡ answered (ending (end_number out_of_budget) (error_in f) (place_in f) steps)
    said None steps = refl
    said (Some f) steps = refl

-- without being out, by what is recorded
going_ending : (m : Status) (budget : ℕ) (f : Option ErrorAt) (b : Bool) → m.error ≡ f → eqb (error_in f) no_error ≡ b → m.out ≡ false → (vs : List Variable) (os : List (List Variable))
    → answered (ending_of budget (progress_of m.out (state_of m vs) os)) ≡ answered (ending (end_number (if b then finished else failed)) (error_in f) (place_in f) (budget - m.left))
unfolding ending_of
going_ending m budget f b k q e vs os =
    ap (λ (c : Bool). answered (ending_of budget (progress_of c (state_of m vs) os))) e
    ∙ ap (λ (g : Option ErrorAt). answered (ending (end_number (if eqb (error_in g) no_error then finished else failed)) (error_in g) (place_in g) (budget - m.left))) k
    ∙ ap (λ (c : Bool). answered (ending (end_number (if c then finished else failed)) (error_in f) (place_in f) (budget - m.left))) q

pub ended_failed : (m : Status) (budget : ℕ) (f : ErrorAt) → m.out ≡ false → m.error ≡ Some f → (vs : List Variable) (os : List (List Variable)) → run_meaning (Ok (run_end.Failed f (budget - m.left))) ≡ answered (ending_of budget (progress_of m.out (state_of m vs) os))
unfolding run_meaning
ended_failed m budget f e k vs os = sym (going_ending m budget (Some f) false k (ne_eqb (error_number f.error) no_error (error_some f.error)) e vs os)

pub ended_finished : (m : Status) (budget : ℕ) → m.out ≡ false → m.error ≡ None → (vs : List Variable) (os : List (List Variable)) → run_meaning (Ok (run_end.Finished (budget - m.left))) ≡ answered (ending_of budget (progress_of m.out (state_of m vs) os))
unfolding run_meaning
ended_finished m budget e k vs os = sym (going_ending m budget None true k refl e vs os)
