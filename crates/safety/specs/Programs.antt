-- The type check is sound for whole programs: a well made profile whose yokes and instructions all pass meets no type error in any run,
-- for readings of number variables and at every budget: `run_safe`. Assumes nothing.
use Rattle.std.specs.Prelude.{◌≡◌, true, ℕ, suc, ◌+◌, length}
use Rattle.std.proofs.Math.Path.{refl, sym, subst}
use Rattle.std.proofs.Common.{ap, ◌∙◌, arith}
use mathlib.Core.List.{List, [], ◌∷◌, ◌++◌, map}
use Rattle.std.proofs.Math.Option.{Option, some, none}
use Rattle.lingua.specs.Numbers.{most_calls}
use Rattle.lingua.specs.Errors.{not_filled, overflow, yoke_not_satisfied, boolean_expected, no_coherence, yoke_expected}
use Rattle.lingua.specs.Outcome.{ok, or_fail}
use Rattle.lingua.specs.Body.{Body, boolean, is_hundredths, is_quantity, same_body, coherent}
use Rattle.lingua.specs.Value.{fit_truth, as_whole, Composite, quantity_body, in_range_of}
use Rattle.lingua.specs.Expression.{Expression, Yoke, always, yoke, Instruction, skip, assign, set_yoke, sequence, branch, loop, handle, call}
use Rattle.lingua.specs.Evaluation.{eval, eval_yoke, no_current}
use Rattle.lingua.specs.Store.{Variable, variable_at, present_of, present_body, contents, with_content, with_yoke, within, admitted, assigned, copied, yoke_holds, yoke_changed, Reading, reading_taken, counts_hundredths, reading_value}
use Rattle.lingua.specs.Run.{State, Declaration, unfilled, begun, exec, called, Profile, scope_declarations, scope_program, started, take_readings, run}
use Rattle.lingua.specs.Typing.{Entry, Bodies, no_current_body, given_fit, bodies_of, scope_bodies}
use Rattle.lingua.specs.Meets.{yoke_met, yoke_checks_met, assign_met, test_met, error_in, on_filled, copy_met, called_met, reading_met, run_met}
use Rattle.laws.specs.Coherent.{coherent_same}
use Rattle.laws.specs.Classes.{overflow_runs, yoke_runs, unfilled_runs}
use Rattle.laws.specs.Outcomes.{none_is_some, and_left, and_right, same_body_lem}
use Rattle.safety.specs.Answers.{bound, some_answer, demanded, after, same_answer}
use Rattle.safety.specs.Every.{Every, every_none, every_more, every_append, every_implies}
use Rattle.safety.specs.Constants.{Fitting, ConstantsFit, ClosedYoke}
use Rattle.safety.specs.Stored.{StoreKept, replaced, assigned_each, changed_each}
use Rattle.safety.specs.Everywhere.{Everywhere, everywhere_implies, everywhere_both}
use Rattle.safety.specs.Runs.{Stable, Family, Pairwise, Passes, Keeps, KeepsReading, Done, exec_keeps, called_keeps, readings_keep}
use Rattle.safety.specs.Invariant.{WellMade, WellMadeProfile, StateKept, ScopesKept, well_made_keeps, copy_keeps, reading_keeps, start_kept, start_empty, declared_body_lem}
use Rattle.safety.specs.RunErrors.{RunErrors, gives, good_answer, answer_met, truth_met, truth_answer_met, unless_met_lem, unless_run_error}
use Rattle.safety.specs.TypeSound.{VariablesFit, Safe, derived_sound}
use Rattle.safety.specs.Derivation.{Derived, DerivedYoke, DerivedRow}
use Rattle.safety.specs.Quiet.{QuietCopy, Quiet, QuietReading, on_true_met, exec_quiet, called_quiet, readings_quiet}
use Rattle.laws.specs.Sound.{quantity_is, quantity_fits}

-- ---- what the type check passes
-- every yoke of a store, on its variable's declared body
unfoldable pub YokesDerived : (Entry → Type 0) → Bodies → List Variable → Type 0
YokesDerived H vars vs = (n : ℕ) → DerivedYoke H vars (variable_at vs n).yoke (vars n)

-- of a scope: its declared yokes, and every instruction that is run on its variables; H holds of the entry of each expression row
pub record TypedScope (H : Entry → Type 0) (procs : ℕ → Bodies) (ds : List Declaration) (i : Instruction) : Type 0 where
  pub yokes : YokesDerived H (bodies_of ds) (map unfilled ds)
  pub instructions : Everywhere (DerivedRow H procs (bodies_of ds)) i

abbrev pub TypedProfile : (Entry → Type 0) → Profile → Type 0
TypedProfile H p = (a : ℕ) → TypedScope H (λ k. scope_bodies p (suc k)) (scope_declarations p a) (scope_program p a)

-- ---- the states of a run
-- what a run of a passed profile keeps: besides, every filled variable has its declared body
pub record StateTyped (H : Entry → Type 0) (ds : List Declaration) (s : State) : Type 0 where
  pub kept : StoreKept (map unfilled ds) s.store
  pub yokes : YokesDerived H (bodies_of ds) s.store
  pub fit : VariablesFit (bodies_of ds) (contents s.store)

pub typed_stable : (H : Entry → Type 0) (ds : List Declaration) → Stable (StateTyped H ds)
typed_stable H ds =
    record { marked = λ s n p h. record { kept = h.kept; yokes = h.yokes; fit = h.fit }; stepped = λ s n e h. record { kept = h.kept; yokes = h.yokes; fit = h.fit } }

pub kept_body : (ds : List Declaration) (vs : List Variable) → StoreKept (map unfilled ds) vs → (n : ℕ) → (variable_at vs n).body ≡ bodies_of ds n
unfolding StoreKept
kept_body ds vs h n = (h n).same_body_lem ∙ declared_body_lem ds n

-- every variable's present body is the declared one, filled or not
pub present_declared : (ds : List Declaration) (vs : List Variable) → StoreKept (map unfilled ds) vs → VariablesFit (bodies_of ds) (contents vs) → (n : ℕ) → present_body (variable_at vs n) ≡ bodies_of ds n
unfolding VariablesFit
present_declared ds vs h fit n = by (variable_at vs n).content refl
  where
    by : (c : Option Composite) → (variable_at vs n).content ≡ c → present_of (variable_at vs n).body c ≡ bodies_of ds n
    by none e = kept_body ds vs h n
    by (some x) e = (fit n x e).0

-- ---- a store of declared bodies
pub start_fit : (ds : List Declaration) → VariablesFit (bodies_of ds) (contents (map unfilled ds))
unfolding VariablesFit
start_fit ds n x e = none_is_some (sym (start_empty ds n) ∙ e)

-- a value of the declared body
pub assigned_fit : (vars : Bodies) (vs : List Variable) → VariablesFit vars (contents vs) → (n : ℕ) (x : Composite) → x.body ≡ vars n → Fitting x → (ws : List Variable) → assigned vs n x ≡ ok ws → VariablesFit vars (contents ws)
unfolding VariablesFit
assigned_fit vars vs fit n x b h ws e = assigned_each (λ m z. (z.body ≡ vars m) × Fitting z) vs fit n x (b, h) ws e

pub changed_fit : (vars : Bodies) (vs : List Variable) → VariablesFit vars (contents vs) → (n : ℕ) (y : Yoke) (ws : List Variable) → yoke_changed vs n y ≡ ok ws → VariablesFit vars (contents ws)
unfolding VariablesFit
changed_fit vars vs fit n y ws e = changed_each (λ m z. (z.body ≡ vars m) × Fitting z) vs fit n y ws e

-- ---- yokes, tests and assignments
module _ (H : Entry → Type 0) (ds : List Declaration) (vs : List Variable) (kept : StoreKept (map unfilled ds) vs) (fit : VariablesFit (bodies_of ds) (contents vs)) where
  pub yoke_safe : (y : Yoke) → ClosedYoke y → (x : Composite) → Fitting x → DerivedYoke H (bodies_of ds) y x.body → Safe boolean (eval_yoke y (contents vs) x) (yoke_met y (contents vs) x)
  unfolding eval_yoke yoke_met ClosedYoke DerivedYoke
  yoke_safe always c x h d = record { good = gives refl fit_truth; meets = every_none }
  yoke_safe (yoke e) c x h d = derived_sound (bodies_of ds) (contents vs) fit e c.constants x h d

  pub yoke_checks_safe : (y : Yoke) → ClosedYoke y → (x : Composite) → Fitting x → DerivedYoke H (bodies_of ds) y x.body → RunErrors (yoke_checks_met y (contents vs) x)
  unfolding yoke_checks_met
  yoke_checks_safe y c x h d =
      let s = yoke_safe y c x h d in
      every_append s.meets (answer_met s.good (λ r e f. every_append (truth_met yoke_expected r e)
      (truth_answer_met yoke_expected r _ e (λ t. unless_run_error t yoke_not_satisfied yoke_runs))))

  pub test_safe : (e : Expression) → ConstantsFit e → Derived H (bodies_of ds) e no_current_body boolean → RunErrors (test_met e (contents vs))
  unfolding test_met
  test_safe e c d =
      let s = derived_sound (bodies_of ds) (contents vs) fit e c no_current fit_truth d in
      every_append s.meets (answer_met s.good (λ x u f. truth_met boolean_expected x u))

  -- a value of the declared body
  pub assign_safe : YokesDerived H (bodies_of ds) vs → (n : ℕ) (x : Composite) → Fitting x → x.body ≡ bodies_of ds n → RunErrors (assign_met vs n x)
  unfolding assign_met YokesDerived StoreKept
  assign_safe ys n x h e =
      every_append
      (every_append
      (yoke_checks_safe (variable_at vs n).yoke (kept n).closed x h (subst (λ (b : Body). DerivedYoke H (bodies_of ds) (variable_at vs n).yoke b) (sym e) (ys n)))
      (unless_met_lem (coherent (present_body (variable_at vs n)) x.body) no_coherence
      (coherent_same (present_body (variable_at vs n)) x.body (present_declared ds vs kept fit n ∙ sym e))))
      (on_true_met (coherent (present_body (variable_at vs n)) x.body) _ (λ q. unless_run_error (within (variable_at vs n).limit (as_whole x.value)) yoke_not_satisfied yoke_runs))

-- ---- instructions
module _ (H : Entry → Type 0) (vars : Bodies) (vs : List Variable) (derived : YokesDerived H vars vs) where
  -- an assignment changes no yoke
  pub assigned_yokes : (n : ℕ) (x : Composite) (ws : List Variable) → assigned vs n x ≡ ok ws → YokesDerived H vars ws
  unfolding assigned YokesDerived
  assigned_yokes n x ws e =
      let p = after (admitted vs (variable_at vs n) x) _ ws e in
      subst (λ (us : List Variable). (m : ℕ) → DerivedYoke H vars (variable_at us m).yoke (vars m)) (same_answer p.1)
      (replaced (λ m v. DerivedYoke H vars v.yoke (vars m)) vs n (with_content (variable_at vs n) x) (derived n) derived)

  pub changed_yokes : (n : ℕ) (y : Yoke) → DerivedYoke H vars y (vars n) → (ws : List Variable) → yoke_changed vs n y ≡ ok ws → YokesDerived H vars ws
  unfolding yoke_changed YokesDerived
  changed_yokes n y d ws e =
      let p = after (yoke_holds vs y (variable_at vs n).content) _ ws e in
      subst (λ (us : List Variable). (m : ℕ) → DerivedYoke H vars (variable_at us m).yoke (vars m)) (same_answer p.1)
      (replaced (λ m v. DerivedYoke H vars v.yoke (vars m)) vs n (with_yoke (variable_at vs n) y) d derived)

filled_met : (c : Option Composite) (f : Composite → List ℕ) → ((x : Composite) → c ≡ some x → RunErrors (f x)) → RunErrors (on_filled c f)
filled_met none f h = every_none
filled_met (some x) f h = h x refl

-- ---- copies
-- each variable that a call gives has its parameter's body
pub given_pairs : {Q : ℕ → ℕ → Type 0} (vars params : Bodies) → ((n m : ℕ) → vars n ≡ params m → Q n m) → (ns : List ℕ) (m : ℕ) → given_fit vars ns params m ≡ true → Pairwise Q ns m
unfolding given_fit Pairwise
given_pairs vars params f [] m e = tt
given_pairs vars params f (n ∷ ns) m e = (
  f n m (same_body_lem (vars n) (params m) (and_left (same_body (vars n) (params m)) (given_fit vars ns params (suc m)) e)),
  given_pairs vars params f ns (suc m) (and_right (same_body (vars n) (params m)) (given_fit vars ns params (suc m)) e),
)

-- of two lists the second's, which begin behind the first's
behind_from : (vars params : Bodies) (vs rs : List ℕ) (m k : ℕ) → length vs + m ≡ k → given_fit vars (vs ++ rs) params m ≡ true → given_fit vars rs params k ≡ true
unfolding given_fit
behind_from vars params [] rs m k z e = subst (λ (j : ℕ). given_fit vars rs params j ≡ true) (let q : m ≡ k = omega arith in q) e
behind_from vars params (v ∷ vs) rs m k z e =
    behind_from vars params vs rs (suc m) k (omega arith) (and_right (same_body (vars v) (params m)) (given_fit vars (vs ++ rs) params (suc m)) e)

pub given_behind : (vars params : Bodies) (vs rs : List ℕ) → given_fit vars (vs ++ rs) params 0 ≡ true → given_fit vars rs params (length vs) ≡ true
given_behind vars params vs rs e = behind_from vars params vs rs 0 (length vs) (omega arith) e

module _ (H : Entry → Type 0) (p : Profile) where
  -- what is known of a scope's states
  unfoldable pub ScopesTyped : ℕ → State → Type 0
  ScopesTyped a s = StateTyped H (scope_declarations p a) s

  pub typed_copy : (a n b m : ℕ) → scope_bodies p a n ≡ scope_bodies p b m → Passes ScopesTyped a n b m
  unfolding Passes ScopesTyped copied VariablesFit ScopesKept StateKept
  typed_copy a n b m e s t h k ws q =
      let x = some_answer (contents s.store n) not_filled (λ y. assigned t.store m y) ws q in
      let v = h.fit n x.0 x.1 in
      record { kept = copy_keeps p a n b m s t h.kept k.kept ws q; yokes = assigned_yokes H (scope_bodies p b) t.store k.yokes m x.0 ws x.2; fit = assigned_fit (scope_bodies p b) t.store k.fit m x.0 (v.0 ∙ e) v.1 ws x.2 }

  pub quiet_copy : (a n b m : ℕ) → scope_bodies p a n ≡ scope_bodies p b m → QuietCopy ScopesTyped a n b m
  unfolding QuietCopy ScopesTyped copy_met VariablesFit
  quiet_copy a n b m e s t h k = by (contents s.store n) refl
    where
      by : (c : Option Composite) → contents s.store n ≡ c → RunErrors (error_in (or_fail c not_filled) ++ on_filled c (λ x. assign_met t.store m x))
      by none q = every_more unfilled_runs every_none
      by (some x) q =
          let v = h.fit n x q in
          assign_safe H (scope_declarations p b) t.store k.kept k.fit k.yokes m x v.1 (v.0 ∙ e)

  pub derived_keeps : (a : ℕ) (i : Instruction) → WellMade i × DerivedRow H (λ k. scope_bodies p (suc k)) (scope_bodies p a) i → Keeps ScopesTyped a i
  unfolding Keeps StateKept ScopesKept ScopesTyped WellMade DerivedRow
  derived_keeps a (skip r) h = tt
  derived_keeps a (assign r n e) h = λ s k ws q.
      let o = bound (eval e (contents s.store) no_current) _ ws q in
      let g = good_answer (derived_sound (scope_bodies p a) (contents s.store) k.fit e h.0 no_current fit_truth h.1).good o.0 o.1 in
      record { kept = well_made_keeps p a (assign r n e) h.0 s k.kept ws q; yokes = assigned_yokes H (scope_bodies p a) s.store k.yokes n o.0 ws o.2; fit = assigned_fit (scope_bodies p a) s.store k.fit n o.0 g.0 g.1 ws o.2 }
  derived_keeps a (set_yoke r n y) h = λ s k ws q.
      record { kept = well_made_keeps p a (set_yoke r n y) h.0 s k.kept ws q; yokes = changed_yokes H (scope_bodies p a) s.store k.yokes n y h.1 ws q; fit = changed_fit (scope_bodies p a) s.store k.fit n y ws q }
  derived_keeps a (sequence r i j) h = tt
  derived_keeps a (branch r e i j) h = tt
  derived_keeps a (loop r e i) h = tt
  derived_keeps a (handle r n i) h = tt
  derived_keeps a (call r k vs rs) h =
      record { in_all = given_pairs (scope_bodies p a) (scope_bodies p (suc k)) (λ n m e. typed_copy a n (suc k) m e) (vs ++ rs) 0 h.1; out_all = given_pairs (scope_bodies p a) (scope_bodies p (suc k)) (λ n m e. typed_copy (suc k) m a n (sym e)) rs (length vs) (given_behind (scope_bodies p a) (scope_bodies p (suc k)) vs rs h.1) }

  pub derived_quiet : (a : ℕ) (i : Instruction) → WellMade i × DerivedRow H (λ k. scope_bodies p (suc k)) (scope_bodies p a) i → Quiet ScopesTyped a i
  unfolding Quiet ScopesTyped WellMade DerivedRow StoreKept VariablesFit
  derived_quiet a (skip r) h = tt
  derived_quiet a (assign r n e) h = λ s k.
      let ds = scope_declarations p a in
      let c = derived_sound (bodies_of ds) (contents s.store) k.fit e h.0 no_current fit_truth h.1 in
      every_append c.meets (answer_met c.good (λ x u f. assign_safe H ds s.store k.kept k.fit k.yokes n x f u))
  derived_quiet a (set_yoke r n y) h = λ s k.
      filled_met (variable_at s.store n).content _ (λ x e. let v = k.fit n x e in
      yoke_checks_safe H (scope_declarations p a) s.store k.kept k.fit y h.0 x v.1
      (subst (λ (b : Body). DerivedYoke H (scope_bodies p a) y b) (sym v.0) h.1))
  derived_quiet a (sequence r i j) h = tt
  derived_quiet a (branch r e i j) h = λ s k. test_safe H (scope_declarations p a) s.store k.kept k.fit e h.0 h.1
  derived_quiet a (loop r e i) h = λ s k. test_safe H (scope_declarations p a) s.store k.kept k.fit e h.0 h.1
  derived_quiet a (handle r n i) h = tt
  derived_quiet a (call r k vs rs) h =
      record { in_all = given_pairs (scope_bodies p a) (scope_bodies p (suc k)) (λ n m e. quiet_copy a n (suc k) m e) (vs ++ rs) 0 h.1; out_all = given_pairs (scope_bodies p a) (scope_bodies p (suc k)) (λ n m e. quiet_copy (suc k) m a n (sym e)) rs (length vs) (given_behind (scope_bodies p a) (scope_bodies p (suc k)) vs rs h.1) }

-- ---- readings of variables that are reckoned with
unfoldable pub ReadsQuantity : List Declaration → Reading → Type 0
ReadsQuantity ds r = is_quantity (bodies_of ds r.variable) ≡ true

-- its value is one of the declared body
pub own_body : (ds : List Declaration) (vs : List Variable) (r : Reading) → StoreKept (map unfilled ds) vs → VariablesFit (bodies_of ds) (contents vs) → ReadsQuantity ds r
    → quantity_body (counts_hundredths vs r) ≡ bodies_of ds r.variable
unfolding ReadsQuantity
own_body ds vs r k fit h =
    ap (λ (b : Body). quantity_body (is_hundredths b)) (present_declared ds vs k fit r.variable) ∙ quantity_is (bodies_of ds r.variable) h

module _ (H : Entry → Type 0) (ds : List Declaration) (r : Reading) where
  pub typed_reading : ReadsQuantity ds r → KeepsReading (StateTyped H ds) r
  unfolding KeepsReading StateKept reading_taken ReadsQuantity
  typed_reading h s k ws e =
      let p = demanded (in_range_of (counts_hundredths s.store r) r.number) overflow _ ws e in
      record { kept = reading_keeps (map unfilled ds) r s k.kept ws e; yokes = assigned_yokes H (bodies_of ds) s.store k.yokes r.variable (reading_value (counts_hundredths s.store r) r.number) ws p.1; fit = assigned_fit (bodies_of ds) s.store k.fit r.variable (reading_value (counts_hundredths s.store r) r.number) (own_body ds s.store r k.kept k.fit h) (quantity_fits (counts_hundredths s.store r) r.number p.0) ws p.1 }

  quiet_reading : ReadsQuantity ds r → QuietReading (StateTyped H ds) r
  unfolding QuietReading ReadsQuantity reading_met
  quiet_reading h s k =
      every_append (unless_run_error (in_range_of (counts_hundredths s.store r) r.number) overflow overflow_runs)
      (on_true_met (in_range_of (counts_hundredths s.store r) r.number) _ (λ e. assign_safe H ds s.store k.kept k.fit k.yokes r.variable (reading_value (counts_hundredths s.store r) r.number) (quantity_fits (counts_hundredths s.store r) r.number e) (own_body ds s.store r k.kept k.fit h)))

-- ---- whole runs
module _ {H : Entry → Type 0} (p : Profile) (made : WellMadeProfile p) (passed : TypedProfile H p) where
  pub typed_family : Family p.procedures (ScopesTyped H p)
  unfolding ScopesTyped begun
  typed_family =
      record { stable = λ a. typed_stable H (scope_declarations p a); begins = λ a k s h. record { kept = start_kept (made (suc k)).yokes; yokes = (passed (suc k)).yokes; fit = start_fit (scope_declarations p (suc k)) }; back = λ a k s t h g. record { kept = h.kept; yokes = h.yokes; fit = h.fit } }

  both : (a : ℕ) → Everywhere (λ i. WellMade i × DerivedRow H (λ k. scope_bodies p (suc k)) (scope_bodies p a) i) (scope_program p a)
  both a = everywhere_both (scope_program p a) (made a).instructions (passed a).instructions

  pub start_typed : (budget : ℕ) → StateTyped H p.declarations (started p budget)
  unfolding started begun
  start_typed budget = record { kept = start_kept (made 0).yokes; yokes = (passed 0).yokes; fit = start_fit p.declarations }

  pub readings_typed : (readings : List Reading) → Every (ReadsQuantity p.declarations) readings → (budget : ℕ) → StateTyped H p.declarations (take_readings 0 readings (started p budget))
  readings_typed readings ns budget =
      readings_keep (StateTyped H p.declarations) (typed_stable H p.declarations) 0 readings (every_implies (typed_reading H p.declarations) ns) (started p budget) (start_typed budget)

  -- every instruction of every scope keeps what is known of the states
  pub program_keeps : (a : ℕ) → Everywhere (Keeps (ScopesTyped H p) a) (scope_program p a)
  program_keeps a = everywhere_implies (derived_keeps H p a) (both a)

  pub run_typed : (readings : List Reading) → Every (ReadsQuantity p.declarations) readings → (budget : ℕ) → Done (ScopesTyped H p) 0 (run p readings budget)
  unfolding run
  run_typed readings ns budget =
      exec_keeps (ScopesTyped H p) p.procedures typed_family 0 (called assigned exec p.procedures most_calls)
      (called_keeps (ScopesTyped H p) p.procedures typed_family (λ k. program_keeps (suc k)) most_calls 0) p.program (program_keeps 0)
      (take_readings 0 readings (started p budget)) (unfold ScopesTyped in readings_typed readings ns budget)

  pub run_safe : (readings : List Reading) → Every (ReadsQuantity p.declarations) readings → (budget : ℕ) → RunErrors (run_met p readings budget)
  unfolding run_met
  run_safe readings ns budget =
      let ds = p.declarations in
      let ps = p.procedures in
      let quiets : (a : ℕ) → Everywhere (Quiet (ScopesTyped H p) a) (scope_program p a) = λ a. everywhere_implies (derived_quiet H p a) (both a) in
      every_append
      (readings_quiet (StateTyped H ds) (typed_stable H ds) 0 readings (every_implies (typed_reading H p.declarations) ns) (every_implies (quiet_reading H ds) ns) (started p budget) (start_typed budget))
      (exec_quiet (ScopesTyped H p) ps typed_family 0 (called assigned exec ps most_calls) (called_keeps (ScopesTyped H p) ps typed_family (λ k. program_keeps (suc k)) most_calls 0)
      (called_met ps most_calls) (called_quiet (ScopesTyped H p) ps typed_family (λ k. program_keeps (suc k)) (λ k. quiets (suc k)) most_calls 0)
      p.program (program_keeps 0) (quiets 0)
      (take_readings 0 readings (started p budget)) (unfold ScopesTyped in readings_typed readings ns budget))
