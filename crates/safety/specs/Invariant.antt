-- The invariant of runs: at the end of every run at every budget, each filled variable fits its present body, satisfies its current
-- yoke and lies within its limit (`run_invariant`), and so do those of every open call (`open_kept`), whether or not the type check
-- passes the profile. It is asked of the profile that constants fit and that yokes read no variable. Assumes nothing.
use Rattle.std.specs.Prelude.{◌≡◌, refl, true, List, [], ◌∷◌, map, ℕ, zero, suc}
use Rattle.std.proofs.Common.{sym, ap, ◌∙◌, subst}
use Rattle.std.proofs.Math.Option.{Option, some, none}
use Rattle.lingua.specs.Numbers.{most_calls}
use Rattle.lingua.specs.Outcome.{ok}
use Rattle.lingua.specs.Body.{attributes_of}
use Rattle.lingua.specs.Value.{fit_truth, Fits, as_whole, Composite}
use Rattle.lingua.specs.Expression.{Instruction, skip, assign, set_yoke, sequence, branch, loop, handle, call}
use Rattle.lingua.specs.Evaluation.{Variables, eval, eval_yoke, boolean_of, no_current}
use Rattle.lingua.specs.Store.{Limit, Variable, no_variable, variable_at, contents, within, assigned, copied, Reading}
use Rattle.lingua.specs.Run.{State, Declaration, unfilled, begun, exec, called, Profile, scope_declarations, scope_program, started, take_readings, run, last_state, open_calls}
use Rattle.lingua.specs.Typing.{bodies_of}
use Rattle.laws.specs.Outcomes.{none_is_some}
use Rattle.safety.specs.Answers.{bound, some_answer}
use Rattle.safety.specs.Every.{Every, every_none, every_more, every_all, every_implies}
use Rattle.safety.specs.Constants.{ConstantsFit, ClosedYoke}
use Rattle.safety.specs.Fitting.{FilledFit, eval_fits}
use Rattle.safety.specs.Stored.{Kept, StoreKept, kept_fit, assigned_kept, changed_kept, reading_kept}
use Rattle.safety.specs.Everywhere.{Everywhere, everywhere_implies}
use Rattle.safety.specs.Runs.{Stable, Family, Passes, Keeps, KeepsReading, Frame, Done, exec_keeps, called_keeps, readings_keep, pairwise_all}

-- ---- what is asked of a profile
-- of an instruction's own row: its expression's constants fit, and a yoke that it sets is closed
unfoldable pub WellMade : Instruction → Type 0
WellMade (skip r) = Unit {0}
WellMade (assign r n e) = ConstantsFit e
WellMade (set_yoke r n y) = ClosedYoke y
WellMade (sequence r i j) = Unit {0}
WellMade (branch r e i j) = ConstantsFit e
WellMade (loop r e i) = ConstantsFit e
WellMade (handle r n i) = Unit {0}
WellMade (call r k vs rs) = Unit {0}

-- of each scope: its declared yokes, and what is run on its variables
pub record WellMadeScope (ds : List Declaration) (i : Instruction) : Type 0 where
  pub yokes : Every (λ d. ClosedYoke d.declared) ds
  pub instructions : Everywhere WellMade i

abbrev pub WellMadeProfile : Profile → Type 0
WellMadeProfile p = (a : ℕ) → WellMadeScope (scope_declarations p a) (scope_program p a)

-- ---- the store at the start
abbrev pub scope_store : Profile → ℕ → List Variable
scope_store p a = map unfilled (scope_declarations p a)

abbrev pub declared_store : Profile → List Variable
declared_store p = map unfilled p.declarations

unfilled_kept : (v : Variable) → v.content ≡ none → ClosedYoke v.yoke → Kept v v
unfilled_kept v e c = record { same_body_lem = refl; same_limit = refl; closed = c; settled = λ x q. none_is_some (sym e ∙ q) }

pub start_kept : {ds : List Declaration} → Every (λ d. ClosedYoke d.declared) ds → StoreKept (map unfilled ds) (map unfilled ds)
unfolding StoreKept ClosedYoke
start_kept every_none n = unfilled_kept no_variable refl tt
start_kept (every_more {x = d} h hs) zero = unfilled_kept (unfilled d) refl h
start_kept (every_more {x = d} h hs) (suc n) = start_kept hs n

-- nothing is filled
pub start_empty : (ds : List Declaration) (n : ℕ) → contents (map unfilled ds) n ≡ none
start_empty [] n = refl
start_empty (d ∷ ds) zero = refl
start_empty (d ∷ ds) (suc n) = start_empty ds n

-- ---- the run
-- a state whose store is kept
unfoldable pub StateKept : List Variable → State → Type 0
StateKept ds s = StoreKept ds s.store

pub kept_stable : (ds : List Variable) → Stable (StateKept ds)
unfolding StateKept
kept_stable ds = record { marked = λ s n p h. h; stepped = λ s n e h. h }

-- each scope's variables are kept
unfoldable pub ScopesKept : Profile → ℕ → State → Type 0
ScopesKept p a s = StateKept (scope_store p a) s

pub kept_family : (p : Profile) → WellMadeProfile p → Family p.procedures (ScopesKept p)
unfolding ScopesKept StateKept begun
kept_family p h =
    record { stable = λ a. kept_stable (scope_store p a); begins = λ a k s q. start_kept (h (suc k)).yokes; back = λ a k s t q r. q }

-- a copy is an assignment of a value that fits
pub copy_keeps : (p : Profile) (a n b m : ℕ) → Passes (ScopesKept p) a n b m
unfolding Passes ScopesKept StateKept copied FilledFit
copy_keeps p a n b m s t h k ws q =
    let x = some_answer (contents s.store n) _ _ ws q in
    assigned_kept (scope_store p b) t.store k m x.0 (kept_fit (scope_store p a) s.store h n x.0 x.1) ws x.2

pub well_made_keeps : (p : Profile) (a : ℕ) (i : Instruction) → WellMade i → Keeps (ScopesKept p) a i
unfolding WellMade Keeps StateKept ScopesKept
well_made_keeps p a (skip r) h = tt
well_made_keeps p a (assign r n e) h = λ s k ws q.
    let o = bound (eval e (contents s.store) no_current) _ ws q in
    assigned_kept (scope_store p a) s.store k n o.0 (eval_fits e h (contents s.store) (kept_fit (scope_store p a) s.store k) no_current fit_truth o.0 o.1) ws o.2
well_made_keeps p a (set_yoke r n y) h = λ s k ws q. changed_kept (scope_store p a) s.store k n y h ws q
well_made_keeps p a (sequence r i j) h = tt
well_made_keeps p a (branch r e i j) h = tt
well_made_keeps p a (loop r e i) h = tt
well_made_keeps p a (handle r n i) h = tt
well_made_keeps p a (call r k vs rs) h =
    record { in_all = pairwise_all (λ n m. copy_keeps p a n (suc k) m) _ 0; out_all = pairwise_all (λ n m. copy_keeps p (suc k) m a n) rs _ }

pub reading_keeps : (ds : List Variable) (r : Reading) → KeepsReading (StateKept ds) r
unfolding KeepsReading StateKept
reading_keeps ds r s k ws e = reading_kept ds s.store k r ws e

pub readings_kept : (p : Profile) → WellMadeProfile p → (readings : List Reading) (budget : ℕ) → StateKept (declared_store p) (take_readings 0 readings (started p budget))
readings_kept p h readings budget =
    readings_keep (StateKept (declared_store p)) (kept_stable (declared_store p)) 0 readings (every_all (reading_keeps (declared_store p)) readings) (started p budget)
    (unfold StateKept started begun in start_kept (h 0).yokes)

pub run_keeps : (p : Profile) → WellMadeProfile p → (readings : List Reading) (budget : ℕ) → Done (ScopesKept p) 0 (run p readings budget)
unfolding run
run_keeps p h readings budget =
    let kept : (a : ℕ) → Everywhere (Keeps (ScopesKept p) a) (scope_program p a) = λ a. everywhere_implies (well_made_keeps p a) (h a).instructions in
    exec_keeps (ScopesKept p) p.procedures (kept_family p h) 0 (called assigned exec p.procedures most_calls)
    (called_keeps (ScopesKept p) p.procedures (kept_family p h) (λ k. kept (suc k)) most_calls 0) p.program (kept 0)
    (take_readings 0 readings (started p budget)) (unfold ScopesKept in readings_kept p h readings budget)

pub run_kept : (p : Profile) → WellMadeProfile p → (readings : List Reading) (budget : ℕ) → StateKept (declared_store p) (last_state (run p readings budget))
run_kept p h readings budget = unfold ScopesKept in (run_keeps p h readings budget).last

-- ---- the statement
pub declared_body_lem : (ds : List Declaration) (n : ℕ) → (variable_at (map unfilled ds) n).body ≡ bodies_of ds n
declared_body_lem [] n = refl
declared_body_lem (d ∷ ds) zero = refl
declared_body_lem (d ∷ ds) (suc n) = declared_body_lem ds n

-- a filled variable of a store: its value fits the present body, which is the declared one unless that is a record; the current yoke gives
-- true on it in every store; the value lies within the limit that was declared
pub record FilledWell (ds : List Declaration) (n : ℕ) (v : Variable) (x : Composite) : Type 0 where
  pub unless_record : attributes_of (bodies_of ds n) ≡ none → x.body ≡ bodies_of ds n
  pub fits : Fits x.value x.body
  pub satisfied : (vars : Variables) → eval_yoke v.yoke vars x ≡ ok (boolean_of true)
  pub limited : within (variable_at (map unfilled ds) n).limit (as_whole x.value) ≡ true

pub kept_well : (ds : List Declaration) (vs : List Variable) → StoreKept (map unfilled ds) vs → (n : ℕ) (x : Composite) → contents vs n ≡ some x → FilledWell ds n (variable_at vs n) x
unfolding StoreKept
kept_well ds vs h n x e =
    let k = h n in
    let s = k.settled x e in
    record { unless_record = λ r. s.unless_record (ap attributes_of (k.same_body_lem ∙ declared_body_lem ds n) ∙ r) ∙ k.same_body_lem ∙ declared_body_lem ds n; fits = s.fits; satisfied = s.satisfied; limited = subst (λ (l : Option Limit). within l (as_whole x.value) ≡ true) k.same_limit s.limited }

pub run_invariant : (p : Profile) → WellMadeProfile p → (readings : List Reading) (budget n : ℕ) (x : Composite)
    → contents (last_state (run p readings budget)).store n ≡ some x
    → FilledWell p.declarations n (variable_at (last_state (run p readings budget)).store n) x
unfolding StateKept
run_invariant p h readings budget n x e = kept_well p.declarations (last_state (run p readings budget)).store (run_kept p h readings budget) n x e

-- the variables of an open call, which are those of some procedure
pub record OpenKept (p : Profile) (vs : List Variable) : Type 0 where
  pub procedure : ℕ
  pub kept : StoreKept (scope_store p (suc procedure)) vs

frame_kept : (p : Profile) (vs : List Variable) → Frame (ScopesKept p) vs → OpenKept p vs
unfolding ScopesKept StateKept
frame_kept p vs f = record { procedure = f.procedure; kept = subst (StoreKept (scope_store p (suc f.procedure))) f.is f.has }

pub open_kept : (p : Profile) → WellMadeProfile p → (readings : List Reading) (budget : ℕ) → Every (OpenKept p) (open_calls (run p readings budget))
open_kept p h readings budget = every_implies (frame_kept p) (run_keeps p h readings budget).opens
