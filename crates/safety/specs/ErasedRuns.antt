-- The run without bodies (document 01: chair run), on values: it asks no check on bodies. Where the type check passed, it is the run, state
-- by state, at every budget and for readings of number variables: `run_erased_lem`, `accepted_erased`. Assumes nothing.
use Rattle.std.specs.Prelude.{◌≡◌, Bool, length, set}
use Rattle.std.proofs.Math.Path.{refl, sym, ap}
use Rattle.std.proofs.Common.{◌∙◌}
use Rattle.std.proofs.Math.Bool.{true, false}
use mathlib.Core.List.{List, [], ◌∷◌, ◌++◌}
use Rattle.std.proofs.Math.Option.{Option, some, none}
use Prim.Native.Nat.{ℕ, zero, suc, ◌+◌}
use Rattle.std.proofs.Math.Dec.{eqb}
use Rattle.lingua.specs.Numbers.{reading_place, most_calls}
use Rattle.lingua.specs.Errors.{no_error, overflow, not_filled}
use Rattle.lingua.specs.Outcome.{ok, fail, Result, ◌>>=◌, ◌>>◌, require, or_fail}
use Rattle.lingua.specs.Body.{Body, same_body}
use Rattle.lingua.specs.Value.{Value, truth, Composite, composite, in_range_of, quantity}
use Rattle.lingua.specs.Expression.{Expression, Instruction, skip, assign, set_yoke, sequence, branch, loop, handle, call}
use Rattle.lingua.specs.Evaluation.{eval, eval_test, no_current}
use Rattle.lingua.specs.Store.{Variable, variable_at, contents, with_content, assigned, copied, copied_in, Reading, reading_taken, counts_hundredths}
use Rattle.lingua.specs.Run.{State, Progress, going, out, with_store, with_left, with_error, settled, proceed, step_with, step, unless_error, act, decided, handled, repeat, Calling, exec, Declaration, procedure_at, begun, clean_only, copied_out, carried, returned, opened, called, Profile, scope_declarations, scope_program, started, taken_unless, take_readings, run, last_state}
use Rattle.lingua.specs.Typing.{Entry, no_current_body, given_fit, bodies_of, scope_bodies, check_profile}
use Rattle.lingua.specs.Erased.{values_of, eval_erased, test_erased, admitted_erased, assigned_erased, changed_erased, copy_erased, exec_erased, reading_erased, taken_erased, readings_erased, run_erased}
use Rattle.lingua.specs.Trees.{profile_of}
use Rattle.lingua.specs.Format.{rows_of}
use Rattle.lingua.specs.Refusal.{lowest, pair_rules, is_quantity_variable}
use Rattle.laws.specs.Outcomes.{and_left, and_right, same_body_lem}
use Rattle.safety.specs.Every.{Every, every_more, every_implies}
use Rattle.safety.specs.Everywhere.{Everywhere, at_assign, at_set_yoke, at_sequence, at_branch, at_loop, at_handle, at_call}
use Rattle.safety.specs.Runs.{Stable, Passes, Keeps, Done, CallsKeep, settled_keeps, exec_keeps, copies_in_keep, called_keeps, taken_keeps}
use Rattle.safety.specs.Invariant.{WellMadeProfile}
use Rattle.safety.specs.Derivation.{anything, Derived, DerivedRow}
use Rattle.safety.specs.TypeSound.{VariablesFit}
use Rattle.safety.specs.Programs.{TypedProfile, StateTyped, typed_stable, kept_body, given_pairs, given_behind, ScopesTyped, typed_copy, typed_family, ReadsQuantity, own_body, typed_reading, start_typed, readings_typed, program_keeps}
use Rattle.safety.specs.Accepted.{accepted_pair, profile_well_made}
use Rattle.safety.specs.Passed.{profile_derives, reads_quantity}
use Rattle.safety.specs.Erasure.{with_body, eval_erased_lem}
use Rattle.safety.specs.ErasedSteps.{test_erased_lem, assigned_erased_lem, changed_erased_lem}

-- ---- what comes next is the same in the states that a run passes through
module _ (P : State → Type 0) (stable : Stable P) where
  step_same : (s : State) (f g : State → Progress) → P s → ((t : State) → P t → f t ≡ g t) → step s f ≡ step s g
  unfolding step
  step_same s f g h k = go s.left refl
    where
      go : (n : ℕ) → s.left ≡ n → step_with n s f ≡ step_with n s g
      go zero e = refl
      go (suc n) e = k (with_left s n) (stable.stepped s n e h)

  act_same : (s : State) (f g : State → Progress) → P s → ((t : State) → P t → f t ≡ g t) → act s f ≡ act s g
  unfolding act
  act_same s f g h k = go (eqb s.error no_error)
    where
      go : (b : Bool) → unless_error b s (λ t. step t f) ≡ unless_error b s (λ t. step t g)
      go true = step_same s f g h k
      go false = refl

  decided_same : (o p : Result Bool) (r : ℕ) (s : State) (f f' g g' : State → Progress) → o ≡ p → f s ≡ f' s → g s ≡ g' s → decided o r s f g ≡ decided p r s f' g'
  decided_same o p r s f f' g g' e a b = by o ∙ ap (λ (q : Result Bool). decided q r s f' g') e
    where
      by : (q : Result Bool) → decided q r s f g ≡ decided q r s f' g'
      by (ok true) = a
      by (ok false) = b
      by (fail n) = refl

  proceed_same : (p q : Progress) (f g : State → Progress) → p ≡ q → P (last_state q) → ((t : State) → P t → f t ≡ g t) → proceed p f ≡ proceed q g
  proceed_same p q f g e h k = ap (λ (o : Progress). proceed o f) e ∙ by q h
    where
      by : (o : Progress) → P (last_state o) → proceed o f ≡ proceed o g
      by (going s) u = k s u
      by (out s os) u = refl

  repeat_same : (k : ℕ) (test test' : State → Result Bool) (r : ℕ) (body body' : State → Progress) → ((t : State) → P t → test t ≡ test' t) → ((t : State) → P t → body t ≡ body' t)
      → ((t : State) → P t → P (last_state (body' t))) → (s : State) → P s → repeat k test r body s ≡ repeat k test' r body' s
  unfolding repeat
  repeat_same zero test test' r body body' a b c s h = refl
  repeat_same (suc k) test test' r body body' a b c s h =
      act_same s _ _ h (λ t u. decided_same (test t) (test' t) r t _ _ _ _ (a t u) (proceed_same (body t) (body' t) _ _ (b t u) (c t u) (λ w v. repeat_same k test test' r body body' a b c w v)) refl)

  handled_same : (b : Bool) (s : State) (f g : State → Progress) → P s → ((t : State) → P t → f t ≡ g t) → handled b s f ≡ handled b s g
  handled_same true s f g h k = k (with_error s no_error 0) (stable.marked s no_error 0 h)
  handled_same false s f g h k = refl

bind_same : {A B : Type 0} (o q : Result A) (f g : A → Result B) → o ≡ q → ((x : A) → q ≡ ok x → f x ≡ g x) → (o >>= f) ≡ (q >>= g)
bind_same o q f g e k = ap (λ (w : Result _). w >>= f) e ∙ by q refl
  where
    by : (w : Result _) → q ≡ w → (w >>= f) ≡ (w >>= g)
    by (ok x) z = k x z
    by (fail n) z = refl

clean_same : (b : Bool) (s : State) (f g : State → State) → f s ≡ g s → clean_only b s f ≡ clean_only b s g
clean_same true s f g e = e
clean_same false s f g e = refl

opened_same : (o q : Result (List Variable)) (r : ℕ) (s : State) (f g : List Variable → Progress) → o ≡ q → ((ws : List Variable) → q ≡ ok ws → f ws ≡ g ws) → opened o r s f ≡ opened q r s g
opened_same o q r s f g e k = ap (λ (w : Result (List Variable)). opened w r s f) e ∙ by q refl
  where
    by : (w : Result (List Variable)) → q ≡ w → opened w r s f ≡ opened w r s g
    by (ok ws) z = k ws z
    by (fail n) z = refl

-- ---- one store
module _ (H : Entry → Type 0) (ds : List Declaration) where
  -- a value with the declared body
  pub assigned_as : (s : State) → StateTyped H ds s → (n : ℕ) (v : Value) → assigned_erased s.store n v ≡ assigned s.store n (composite (bodies_of ds n) v)
  unfolding assigned_erased
  assigned_as s h n v =
      ap (λ (b : Body). admitted_erased (variable_at s.store n).yoke (variable_at s.store n).limit (values_of (contents s.store)) v >> ok (set s.store n (with_content (variable_at s.store n) (composite b v))))
      (kept_body ds s.store h.kept n)
      ∙ sym (assigned_erased_lem H ds s.store h.kept h.fit h.yokes n (composite (bodies_of ds n) v) refl)

  pub assign_same : (s : State) → StateTyped H ds s → (n : ℕ) (e : Expression) → Derived H (bodies_of ds) e no_current_body (bodies_of ds n)
      → (eval_erased e (values_of (contents s.store)) (truth false) >>= λ v. assigned_erased s.store n v) ≡ (eval e (contents s.store) no_current >>= λ x. assigned s.store n x)
  assign_same s h n e d =
      go (eval_erased e (values_of (contents s.store)) (truth false))
      ∙ ap (λ (o : Result Composite). o >>= λ x. assigned s.store n x) (sym (eval_erased_lem (bodies_of ds) (contents s.store) h.fit e no_current d))
    where
      go : (p : Result Value) → (p >>= λ v. assigned_erased s.store n v) ≡ (with_body (bodies_of ds n) p >>= λ x. assigned s.store n x)
      go (ok v) = assigned_as s h n v
      go (fail m) = refl

  -- ---- readings
  pub reading_same : (s : State) → StateTyped H ds s → (r : Reading) → ReadsQuantity ds r → reading_erased s.store r ≡ reading_taken s.store r
  unfolding reading_erased reading_taken ReadsQuantity
  reading_same s h r e =
      let c = counts_hundredths s.store r in
      ap (λ (o : Result (List Variable)). require (in_range_of c r.number) overflow >> o)
      (assigned_as s h r.variable (quantity c r.number)
      ∙ ap (λ (b : Body). assigned s.store r.variable (composite b (quantity c r.number))) (sym (own_body ds s.store r h.kept h.fit e)))

  taken_same : (b : Bool) (s : State) → StateTyped H ds s → (i : ℕ) (r : Reading) → ReadsQuantity ds r → taken_erased b s i r ≡ taken_unless b s i r
  taken_same true s h i r e = ap (λ (o : Result (List Variable)). settled s (reading_place + i) o) (reading_same s h r e)
  taken_same false s h i r e = refl

  pub readings_erased_lem : (i : ℕ) (rs : List Reading) → Every (ReadsQuantity ds) rs → (s : State) → StateTyped H ds s → readings_erased i rs s ≡ take_readings i rs s
  unfolding readings_erased take_readings
  readings_erased_lem i [] ns s h = refl
  readings_erased_lem i (r ∷ rs) (every_more n ns) s h =
      let first = eqb s.error no_error in
      ap (readings_erased (suc i) rs) (taken_same first s h i r n)
      ∙ readings_erased_lem (suc i) rs ns (taken_unless first s i r) (taken_keeps (StateTyped H ds) (typed_stable H ds) first s i r (typed_reading H ds r n) h)

-- ---- programs
module _ {H : Entry → Type 0} (p : Profile) (made : WellMadeProfile p) (passed : TypedProfile H p) where
  -- calls that are the same, of given variables that have the parameters' bodies
  unfoldable pub CallsSame : ℕ → Calling → Calling → Type 0
  CallsSame a calls others = (r k : ℕ) (vs rs : List ℕ) → given_fit (scope_bodies p a) (vs ++ rs) (scope_bodies p (suc k)) 0 ≡ true → (s : State) → ScopesTyped H p a s → calls r k vs rs s ≡ others r k vs rs s

  module _ (a : ℕ) (erased calls : Calling) (keep : CallsKeep (ScopesTyped H p) p.procedures (typed_family p made passed) a calls) (same : CallsSame a erased calls) where
    exec_same : (i : Instruction) → Everywhere (Keeps (ScopesTyped H p) a) i → Everywhere (DerivedRow H (λ k. scope_bodies p (suc k)) (scope_bodies p a)) i → (s : State) → ScopesTyped H p a s → exec_erased erased i s ≡ exec calls i s
    unfolding exec_erased exec changed_erased DerivedRow Keeps CallsSame ScopesTyped
    exec_same (skip r) k d s h = refl
    exec_same (assign r n e) k (at_assign d) s h =
        act_same (ScopesTyped H p a) ((typed_family p made passed).stable a) s _ _ h (λ t u. ap (λ (o : Result (List Variable)). going (settled t r o)) (assign_same H (scope_declarations p a) t u n e d))
    exec_same (set_yoke r n y) k (at_set_yoke d) s h =
        act_same (ScopesTyped H p a) ((typed_family p made passed).stable a) s _ _ h (λ t u. ap (λ (o : Result (List Variable)). going (settled t r o)) (sym (changed_erased_lem H (scope_declarations p a) t.store u.kept u.fit n y d)))
    exec_same (sequence r i j) (at_sequence k x y) (at_sequence d c f) s h =
        proceed_same (ScopesTyped H p a) ((typed_family p made passed).stable a) (exec_erased erased i s) (exec calls i s) _ _ (exec_same i x c s h) (exec_keeps (ScopesTyped H p) p.procedures (typed_family p made passed) a calls keep i x s h).last (λ t u. exec_same j y f t u)
    exec_same (branch r e i j) (at_branch k x y) (at_branch d c f) s h =
        act_same (ScopesTyped H p a) ((typed_family p made passed).stable a) s _ _ h (λ t u. decided_same (ScopesTyped H p a) ((typed_family p made passed).stable a) (test_erased e (values_of (contents t.store))) (eval_test e (contents t.store)) r t _ _ _ _
        (sym (test_erased_lem H (scope_declarations p a) t.store u.kept u.fit e d)) (exec_same i x c t u) (exec_same j y f t u))
    exec_same (loop r e i) (at_loop k x) (at_loop d c) s h =
        repeat_same (ScopesTyped H p a) ((typed_family p made passed).stable a) (suc s.left) (λ t. test_erased e (values_of (contents t.store))) (λ t. eval_test e (contents t.store)) r (λ t. exec_erased erased i t) (λ t. exec calls i t)
        (λ t u. sym (test_erased_lem H (scope_declarations p a) t.store u.kept u.fit e d)) (λ t u. exec_same i x c t u) (λ t u. (exec_keeps (ScopesTyped H p) p.procedures (typed_family p made passed) a calls keep i x t u).last) s h
    exec_same (handle r n i) (at_handle k x) (at_handle d c) s h =
        step_same (ScopesTyped H p a) ((typed_family p made passed).stable a) s _ _ h (λ t u. handled_same (ScopesTyped H p a) ((typed_family p made passed).stable a) (eqb t.error n) t _ _ u (λ w v. exec_same i x c w v))
    exec_same (call r k vs rs) (at_call x) (at_call d) s h = act_same (ScopesTyped H p a) ((typed_family p made passed).stable a) s _ _ h (λ t u. same r k vs rs d t u)

  -- ---- copies
  -- a copied value has the body of the variable that takes it
  pub copy_same : (a n b m : ℕ) → scope_bodies p a n ≡ scope_bodies p b m → (s t : State) → ScopesTyped H p a s → ScopesTyped H p b t
      → copied copy_erased s.store n t.store m ≡ copied assigned s.store n t.store m
  unfolding copied copy_erased ScopesTyped VariablesFit
  copy_same a n b m e s t h k = by (contents s.store n) refl
    where
      by : (c : Option Composite) → contents s.store n ≡ c
          → (or_fail c not_filled >>= λ x. assigned_erased t.store m x.value) ≡ (or_fail c not_filled >>= λ x. assigned t.store m x)
      by none q = refl
      by (some x) q =
          assigned_as H (scope_declarations p b) t k m x.value
          ∙ ap (λ (c : Body). assigned t.store m (composite c x.value)) (sym ((h.fit n x q).0 ∙ e))

  copies_in_same : (a k : ℕ) (s : State) → ScopesTyped H p a s → (ns : List ℕ) (m : ℕ) → given_fit (scope_bodies p a) ns (scope_bodies p (suc k)) m ≡ true
      → (ts : List Variable) → ScopesTyped H p (suc k) (with_store s ts) → copied_in copy_erased s.store ns m ts ≡ copied_in assigned s.store ns m ts
  unfolding copied_in given_fit Passes
  copies_in_same a k s h [] m g ts t = refl
  copies_in_same a k s h (n ∷ ns) m g ts t =
      let e = same_body_lem (scope_bodies p a n) (scope_bodies p (suc k) m) (and_left (same_body (scope_bodies p a n) (scope_bodies p (suc k) m)) (given_fit (scope_bodies p a) ns (scope_bodies p (suc k)) (suc m)) g) in
      bind_same (copied copy_erased s.store n ts m) (copied assigned s.store n ts m) _ _ (copy_same a n (suc k) m e s (with_store s ts) h t) (λ us q.
      copies_in_same a k s h ns (suc m) (and_right (same_body (scope_bodies p a n) (scope_bodies p (suc k) m)) (given_fit (scope_bodies p a) ns (scope_bodies p (suc k)) (suc m)) g) us
      (typed_copy H p a n (suc k) m e s (with_store s ts) h t us q))

  copies_out_same : (a k r : ℕ) (t : State) → ScopesTyped H p (suc k) t → (ns : List ℕ) (m : ℕ) → given_fit (scope_bodies p a) ns (scope_bodies p (suc k)) m ≡ true
      → (s : State) → ScopesTyped H p a s → copied_out copy_erased r t.store m ns s ≡ copied_out assigned r t.store m ns s
  unfolding copied_out given_fit Passes
  copies_out_same a k r t h [] m g s u = refl
  copies_out_same a k r t h (n ∷ ns) m g s u =
      let e = same_body_lem (scope_bodies p a n) (scope_bodies p (suc k) m) (and_left (same_body (scope_bodies p a n) (scope_bodies p (suc k) m)) (given_fit (scope_bodies p a) ns (scope_bodies p (suc k)) (suc m)) g) in
      clean_same (eqb s.error no_error) s _ _
      (ap (λ (o : Result (List Variable)). copied_out copy_erased r t.store (suc m) ns (settled s r o)) (copy_same (suc k) m a n (sym e) t s h u)
      ∙ copies_out_same a k r t h ns (suc m) (and_right (same_body (scope_bodies p a n) (scope_bodies p (suc k) m)) (given_fit (scope_bodies p a) ns (scope_bodies p (suc k)) (suc m)) g)
      (settled s r (copied assigned t.store m s.store n))
      (settled_keeps (ScopesTyped H p a) ((typed_family p made passed).stable a) s r _ u (typed_copy H p (suc k) m a n (sym e) t s h u)))

  -- ---- calls
  returned_same : (a r k : ℕ) (vs rs : List ℕ) → given_fit (scope_bodies p a) (vs ++ rs) (scope_bodies p (suc k)) 0 ≡ true → (s : State) → ScopesTyped H p a s
      → (q : Progress) → Done (ScopesTyped H p) (suc k) q → returned copy_erased r (length vs) rs s q ≡ returned assigned r (length vs) rs s q
  returned_same a r k vs rs g s h (going t) d =
      ap (λ (u : State). going u) (copies_out_same a k r t d.last rs (length vs) (given_behind (scope_bodies p a) (scope_bodies p (suc k)) vs rs g) (carried s t) ((typed_family p made passed).back a k s t h d.last))
  returned_same a r k vs rs g s h (out t os) d = refl

  pub called_same : (n a : ℕ) → CallsSame a (called copy_erased exec_erased p.procedures n) (called assigned exec p.procedures n)
  unfolding called CallsSame
  called_same zero a r k vs rs g s h = refl
  called_same (suc n) a r k vs rs g s h =
      let F = ScopesTyped H p in
      let ps = p.procedures in
      let fam = typed_family p made passed in
      let keep = called_keeps F ps fam (λ j. program_keeps p made passed (suc j)) n (suc k) in
      let begins = fam.begins a k s h in
      let pairs = given_pairs (scope_bodies p a) (scope_bodies p (suc k)) (λ v w e. typed_copy H p a v (suc k) w e) (vs ++ rs) 0 g in
      opened_same _ _ r s _ _ (copies_in_same a k s h (vs ++ rs) 0 g (begun (procedure_at ps k).variables) begins) (λ ws e.
      let t = copies_in_keep F ps fam a k s h (vs ++ rs) 0 pairs (begun (procedure_at ps k).variables) begins ws e in
      ap (λ (q : Progress). returned copy_erased r (length vs) rs s q)
      (exec_same (suc k) (called copy_erased exec_erased ps n) (called assigned exec ps n) keep (called_same n (suc k)) (procedure_at ps k).body (program_keeps p made passed (suc k)) (passed (suc k)).instructions (with_store s ws) t)
      ∙ returned_same a r k vs rs g s h (exec (called assigned exec ps n) (procedure_at ps k).body (with_store s ws))
      (exec_keeps F ps fam (suc k) (called assigned exec ps n) keep (procedure_at ps k).body (program_keeps p made passed (suc k)) (with_store s ws) t))

  pub exec_erased_lem : (n a : ℕ) (s : State) → ScopesTyped H p a s → exec_erased (called copy_erased exec_erased p.procedures n) (scope_program p a) s ≡ exec (called assigned exec p.procedures n) (scope_program p a) s
  exec_erased_lem n a s h =
      exec_same a (called copy_erased exec_erased p.procedures n) (called assigned exec p.procedures n)
      (called_keeps (ScopesTyped H p) p.procedures (typed_family p made passed) (λ j. program_keeps p made passed (suc j)) n a) (called_same n a)
      (scope_program p a) (program_keeps p made passed a) (passed a).instructions s h

-- ---- whole runs
pub run_erased_lem : {H : Entry → Type 0} (p : Profile) → WellMadeProfile p → TypedProfile H p → (readings : List Reading) → Every (ReadsQuantity p.declarations) readings → (budget : ℕ)
    → run_erased p readings budget ≡ run p readings budget
unfolding run_erased run
run_erased_lem {H} p made passed readings ns budget =
    ap (exec_erased (called copy_erased exec_erased p.procedures most_calls) p.program) (readings_erased_lem H p.declarations 0 readings ns (started p budget) (start_typed p made passed budget))
    ∙ exec_erased_lem p made passed most_calls 0 (take_readings 0 readings (started p budget)) (unfold ScopesTyped in readings_typed p made passed readings ns budget)

-- a pair of files that no rule refuses and the type check passes
pub accepted_erased : (prof lims : List ℕ) → lowest (pair_rules prof lims) ≡ 0 → (es : List Entry) → check_profile (profile_of (rows_of prof) (rows_of lims)) ≡ ok es
    → (readings : List Reading) → Every (λ r. is_quantity_variable (rows_of prof) r.variable ≡ true) readings → (budget : ℕ)
    → run_erased (profile_of (rows_of prof) (rows_of lims)) readings budget ≡ run (profile_of (rows_of prof) (rows_of lims)) readings budget
accepted_erased prof lims e es passed readings ns budget =
    let rows = rows_of prof in
    let accepted = accepted_pair prof lims e in
    run_erased_lem (profile_of rows (rows_of lims)) (profile_well_made rows accepted (rows_of lims)) (profile_derives rows accepted (rows_of lims) es passed (anything es)) readings (every_implies (reads_quantity rows (rows_of lims)) ns) budget
