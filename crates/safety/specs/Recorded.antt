-- Every error that a run records is among those that it meets (`run_recorded`), so a passed pair of files ends with no type error recorded
-- (`accepted_error`). Assumes nothing.
use Rattle.std.specs.Prelude.{◌≡◌, refl, ◌⊎◌, Bool, true, false, ℕ, zero, suc, ◌+◌, eqb, length}
use Rattle.std.proofs.Common.{sym, ap, ◌∙◌, subst, inl, inr}
use Rattle.std.proofs.Math.Option.{Option, some, none}
use mathlib.Core.List.Memᴰ
use mathlib.Core.List.{List, [], ◌∷◌, ◌++◌, Memᴰ}
use Rattle.lingua.specs.Numbers.{reading_place, most_calls}
use Rattle.lingua.specs.Errors.{no_error, overflow, not_filled, is_among, is_run_error, is_type_error}
use Rattle.lingua.specs.Outcome.{ok, fail, Result, ◌>>=◌, or_fail}
use Rattle.lingua.specs.Value.{Composite, in_range_of}
use Rattle.lingua.specs.Expression.{Expression, Instruction, skip, assign, set_yoke, sequence, branch, loop, handle, call}
use Rattle.lingua.specs.Evaluation.{eval, eval_test, no_current}
use Rattle.lingua.specs.Store.{Variable, contents, assigned, copied, copied_in, Reading, reading_taken, reading_value, counts_hundredths}
use Rattle.lingua.specs.Run.{State, Progress, going, out, with_store, with_left, with_error, settled, proceed, step_with, step, unless_error, act, decided, handled, repeat, Calling, exec, Procedure, procedure_at, begun, clean_only, copied_out, carried, returned, opened, called, Profile, started, taken_unless, take_readings, run, last_state}
use Rattle.lingua.specs.Typing.{Entry, check_profile}
use Rattle.lingua.specs.Meets.{error_in, on_answer, on_true, unless_met, met, assign_met, test_met, step_met, act_met, on_acting, on_going, on_decided, on_handled, on_filled, repeat_met, CallingMet, exec_met, copy_met, copies_in_met, copies_out_met, called_met, reading_met, readings_met, run_met}
use Rattle.lingua.specs.Trees.{profile_of}
use Rattle.lingua.specs.Format.{rows_of}
use Rattle.lingua.specs.Refusal.{lowest, pair_rules, is_quantity_variable}
use Rattle.laws.specs.Classes.{run_no_type_error}
use Rattle.safety.specs.Every.{Every, every_at}
use Rattle.safety.specs.Passed.{accepted_safe}
use Rattle.safety.specs.Failures.{In, ok_is_fail, same_error, error_in_lem, fails, required_fails, answer_in, unless_in, true_in, eval_met, test_met_lem, assign_met_lem, change_met_lem}

-- ---- runs
-- the error that is recorded after a part of a run: the one before, none, or one that was met in it
pub data Recorded (before after : ℕ) (ns : List ℕ) : Type 0 where
  stays : after ≡ before → Recorded before after ns
  clears : after ≡ no_error → Recorded before after ns
  arises : Memᴰ after ns → Recorded before after ns

recorded_then : {a b c : ℕ} (ms : List ℕ) {ns : List ℕ} → Recorded a b ms → Recorded b c ns → Recorded a c (ms ++ ns)
recorded_then ms (stays p) (stays q) = stays (q ∙ p)
recorded_then ms (clears p) (stays q) = clears (q ∙ p)
recorded_then ms {ns} (arises m) (stays q) = arises (Memᴰ.append_left ns (subst (λ (e : ℕ). In e ms) (sym q) m))
recorded_then ms h (clears q) = clears q
recorded_then ms h (arises m) = arises (Memᴰ.append_right ms m)

recorded_right : {a b : ℕ} (ms : List ℕ) {ns : List ℕ} → Recorded a b ns → Recorded a b (ms ++ ns)
recorded_right ms (stays p) = stays p
recorded_right ms (clears p) = clears p
recorded_right ms (arises m) = arises (Memᴰ.append_right ms m)

settled_recorded : (s : State) (p : ℕ) (o : Result (List Variable)) (ns : List ℕ) → ((n : ℕ) → o ≡ fail n → In n ns) → Recorded s.error (settled s p o).error ns
settled_recorded s p (ok ws) ns h = stays refl
settled_recorded s p (fail n) ns h = arises (h n refl)

step_recorded : (s : State) (f : State → Progress) (g : State → List ℕ) → ((n : ℕ) → Recorded s.error (last_state (f (with_left s n))).error (g (with_left s n))) → Recorded s.error (last_state (step s f)).error (step_met s.left s g)
unfolding step
step_recorded s f g k = go s.left
  where
    go : (n : ℕ) → Recorded s.error (last_state (step_with n s f)).error (step_met n s g)
    go zero = stays refl
    go (suc n) = k n

act_recorded : (s : State) (f : State → Progress) (g : State → List ℕ) → ((n : ℕ) → Recorded s.error (last_state (f (with_left s n))).error (g (with_left s n))) → Recorded s.error (last_state (act s f)).error (on_acting s g)
unfolding act
act_recorded s f g k = go (eqb s.error no_error)
  where
    go : (b : Bool) → Recorded s.error (last_state (unless_error b s (λ t. step t f))).error (act_met b s g)
    go true = step_recorded s f g k
    go false = stays refl

proceed_recorded : (a : ℕ) (q : Progress) (f : State → Progress) (ms : List ℕ) (g : State → List ℕ) → Recorded a (last_state q).error ms → ((t : State) → Recorded t.error (last_state (f t)).error (g t))
    → Recorded a (last_state (proceed q f)).error (ms ++ on_going q g)
proceed_recorded a (going s) f ms g h k = recorded_then ms h (k s)
proceed_recorded a (out s os) f ms g h k = recorded_then ms h (stays refl)

decided_recorded : (o : Result Bool) (p : ℕ) (s : State) (f g : State → Progress) (ms : List ℕ) (fm gm : Unit {0} → List ℕ) → ((n : ℕ) → o ≡ fail n → In n ms)
    → Recorded s.error (last_state (f s)).error (fm tt) → Recorded s.error (last_state (g s)).error (gm tt) → Recorded s.error (last_state (decided o p s f g)).error (ms ++ on_decided o fm gm)
decided_recorded (ok true) p s f g ms fm gm h a b = recorded_right ms a
decided_recorded (ok false) p s f g ms fm gm h a b = recorded_right ms b
decided_recorded (fail n) p s f g ms fm gm h a b = arises (Memᴰ.append_left [] (h n refl))

handled_recorded : (b : Bool) (s : State) (f : State → Progress) (fm : Unit {0} → List ℕ) → Recorded no_error (last_state (f (with_error s no_error 0))).error (fm tt) → Recorded s.error (last_state (handled b s f)).error (on_handled b fm)
handled_recorded true s f fm (stays p) = clears p
handled_recorded true s f fm (clears p) = clears p
handled_recorded true s f fm (arises m) = arises m
handled_recorded false s f fm h = stays refl

repeat_recorded : (k : ℕ) (a : Expression) (p : ℕ) (body : State → Progress) (bodyMet : State → List ℕ) → ((t : State) → Recorded t.error (last_state (body t)).error (bodyMet t)) → (s : State)
    → Recorded s.error (last_state (repeat k (λ t. eval_test a (contents t.store)) p body s)).error (repeat_met k a body bodyMet s)
unfolding repeat repeat_met
repeat_recorded zero a p body bodyMet b s = stays refl
repeat_recorded (suc k) a p body bodyMet b s =
    act_recorded s _ _ (λ n. decided_recorded (eval_test a (contents s.store)) p (with_left s n) _ _ (test_met a (contents s.store)) _ _ (test_met_lem a (contents s.store))
    (proceed_recorded s.error (body (with_left s n)) _ (bodyMet (with_left s n)) _ (b (with_left s n)) (λ w. repeat_recorded k a p body bodyMet b w)) (stays refl))

-- an assignment's error, its expression's included
assignment_met : (vs : List Variable) (k : ℕ) (a : Expression) (n : ℕ) → (eval a (contents vs) no_current >>= λ x. assigned vs k x) ≡ fail n
    → In n (met a (contents vs) no_current ++ on_answer (eval a (contents vs) no_current) (λ x. assign_met vs k x))
assignment_met vs k a n e = go (fails (eval a (contents vs) no_current) _ n e)
  where
    go : (eval a (contents vs) no_current ≡ fail n) ⊎ ((x : Composite) × (eval a (contents vs) no_current ≡ ok x) × (assigned vs k x ≡ fail n)) → In n (met a (contents vs) no_current ++ on_answer (eval a (contents vs) no_current) (λ x. assign_met vs k x))
    go (inl q) = Memᴰ.append_left (on_answer (eval a (contents vs) no_current) (λ x. assign_met vs k x)) (eval_met a (contents vs) no_current n q)
    go (inr p) = Memᴰ.append_right (met a (contents vs) no_current) (answer_in (eval a (contents vs) no_current) p.0 (λ x. assign_met vs k x) n p.1 (assign_met_lem vs k p.0 n p.2))

skip_leaves : (s : State) → (last_state (act s (λ t. going t))).error ≡ s.error
unfolding act step
skip_leaves s = go (eqb s.error no_error)
  where
    stepped : (n : ℕ) → (last_state (step_with n s (λ u. going u))).error ≡ s.error
    stepped zero = refl
    stepped (suc n) = refl

    go : (b : Bool) → (last_state (unless_error b s (λ t. step t (λ u. going u)))).error ≡ s.error
    go true = stepped s.left
    go false = refl

-- what calls do and meet
unfoldable CallsRecorded : Calling → CallingMet → Type 0
CallsRecorded calls callsMet = (r k : ℕ) (vs rs : List ℕ) (s : State) → Recorded s.error (last_state (calls r k vs rs s)).error (callsMet r k vs rs s)

module _ (calls : Calling) (callsMet : CallingMet) (recorded : CallsRecorded calls callsMet) where
  exec_recorded_by : (i : Instruction) (s : State) → Recorded s.error (last_state (exec calls i s)).error (exec_met calls callsMet i s)
  unfolding exec exec_met CallsRecorded
  exec_recorded_by (skip r) s = stays (skip_leaves s)
  exec_recorded_by (assign r k a) s = act_recorded s _ _ (λ n. settled_recorded (with_left s n) r _ _ (assignment_met s.store k a))
  exec_recorded_by (set_yoke r k y) s = act_recorded s _ _ (λ n. settled_recorded (with_left s n) r _ _ (change_met_lem s.store k y))
  exec_recorded_by (sequence r i j) s = proceed_recorded s.error (exec calls i s) _ (exec_met calls callsMet i s) _ (exec_recorded_by i s) (λ t. exec_recorded_by j t)
  exec_recorded_by (branch r a i j) s =
      act_recorded s _ _ (λ n. decided_recorded (eval_test a (contents s.store)) r (with_left s n) _ _ (test_met a (contents s.store)) _ _ (test_met_lem a (contents s.store)) (exec_recorded_by i (with_left s n)) (exec_recorded_by j (with_left s n)))
  exec_recorded_by (loop r a i) s = repeat_recorded (suc s.left) a r (λ t. exec calls i t) (λ t. exec_met calls callsMet i t) (λ t. exec_recorded_by i t) s
  exec_recorded_by (handle r m i) s = step_recorded s _ _ (λ n. handled_recorded (eqb s.error m) (with_left s n) _ _ (exec_recorded_by i (with_error (with_left s n) no_error 0)))
  exec_recorded_by (call r k vs rs) s = act_recorded s _ _ (λ n. recorded r k vs rs (with_left s n))

-- ---- calls
-- a copy's error: 7, or the assignment's
copy_met_lem : (from : List Variable) (k : ℕ) (to : List Variable) (m n : ℕ) → copied assigned from k to m ≡ fail n → In n (copy_met from k to m)
unfolding copied copy_met
copy_met_lem from k to m n e = go (contents from k) e
  where
    go : (c : Option Composite) → (or_fail c not_filled >>= λ x. assigned to m x) ≡ fail n → In n (error_in (or_fail c not_filled) ++ on_filled c (λ x. assign_met to m x))
    go none q = Memᴰ.append_left [] (error_in_lem (or_fail {A = Composite} none not_filled) n (ap {B = Result Composite} fail (same_error q)))
    go (some x) q = assign_met_lem to m x n q

copies_in_met_lem : (from : List Variable) (ks : List ℕ) (m : ℕ) (to : List Variable) (n : ℕ) → copied_in assigned from ks m to ≡ fail n → In n (copies_in_met from ks m to)
unfolding copied_in copies_in_met
copies_in_met_lem from [] m to n e = ok_is_fail e
copies_in_met_lem from (k ∷ ks) m to n e = go (fails (copied assigned from k to m) _ n e) (λ us q. copies_in_met_lem from ks (suc m) us n q)
  where
    go : (copied assigned from k to m ≡ fail n) ⊎ ((us : List Variable) × (copied assigned from k to m ≡ ok us) × (copied_in assigned from ks (suc m) us ≡ fail n))
        → ((us : List Variable) → copied_in assigned from ks (suc m) us ≡ fail n → In n (copies_in_met from ks (suc m) us))
        → In n (copy_met from k to m ++ on_answer (copied assigned from k to m) (λ next. copies_in_met from ks (suc m) next))
    go (inl q) ih = Memᴰ.append_left (on_answer (copied assigned from k to m) (λ next. copies_in_met from ks (suc m) next)) (copy_met_lem from k to m n q)
    go (inr p) ih = Memᴰ.append_right (copy_met from k to m) (answer_in (copied assigned from k to m) p.0 (λ next. copies_in_met from ks (suc m) next) n p.1 (ih p.0 p.2))

clean_recorded : (b : Bool) (s : State) (f : State → State) (ns : List ℕ) → Recorded s.error (f s).error ns → Recorded s.error (clean_only b s f).error (on_true b ns)
clean_recorded true s f ns h = h
clean_recorded false s f ns h = stays refl

copies_out_recorded : (r : ℕ) (from : List Variable) (m : ℕ) (ks : List ℕ) (s : State) → Recorded s.error (copied_out assigned r from m ks s).error (copies_out_met r from m ks s)
unfolding copied_out copies_out_met
copies_out_recorded r from m [] s = stays refl
copies_out_recorded r from m (k ∷ ks) s =
    clean_recorded (eqb s.error no_error) s _ _
    (recorded_then (copy_met from m s.store k) (settled_recorded s r (copied assigned from m s.store k) (copy_met from m s.store k) (copy_met_lem from m s.store k))
    (copies_out_recorded r from (suc m) ks (settled s r (copied assigned from m s.store k))))

returned_recorded : (r m : ℕ) (rs : List ℕ) (s : State) (q : Progress) (ns : List ℕ) → Recorded s.error (last_state q).error ns
    → Recorded s.error (last_state (returned assigned r m rs s q)).error (ns ++ on_going q (λ t. copies_out_met r t.store m rs (carried s t)))
returned_recorded r m rs s (going t) ns h = recorded_then ns h (copies_out_recorded r t.store m rs (carried s t))
returned_recorded r m rs s (out t os) ns h = recorded_then ns h (stays refl)

opened_recorded : (o : Result (List Variable)) (r : ℕ) (s : State) (f : List Variable → Progress) (ms : List ℕ) (g : List Variable → List ℕ) → ((n : ℕ) → o ≡ fail n → In n ms)
    → ((ws : List Variable) → Recorded s.error (last_state (f ws)).error (g ws)) → Recorded s.error (last_state (opened o r s f)).error (ms ++ on_answer o g)
opened_recorded (ok ws) r s f ms g h k = recorded_right ms (k ws)
opened_recorded (fail n) r s f ms g h k = arises (Memᴰ.append_left [] (h n refl))

called_recorded : (ps : List Procedure) (n : ℕ) → CallsRecorded (called assigned exec ps n) (called_met ps n)
unfolding called called_met CallsRecorded
called_recorded ps zero r k vs rs s = arises (Memᴰ.head refl)
called_recorded ps (suc n) r k vs rs s =
    opened_recorded (copied_in assigned s.store (vs ++ rs) 0 (begun (procedure_at ps k).variables)) r s _ (copies_in_met s.store (vs ++ rs) 0 (begun (procedure_at ps k).variables)) _
    (copies_in_met_lem s.store (vs ++ rs) 0 (begun (procedure_at ps k).variables))
    (λ ws. returned_recorded r (length vs) rs s (exec (called assigned exec ps n) (procedure_at ps k).body (with_store s ws)) _
    (exec_recorded_by (called assigned exec ps n) (called_met ps n) (called_recorded ps n) (procedure_at ps k).body (with_store s ws)))

pub exec_recorded : (ps : List Procedure) (n : ℕ) (i : Instruction) (s : State) → Recorded s.error (last_state (exec (called assigned exec ps n) i s)).error (exec_met (called assigned exec ps n) (called_met ps n) i s)
exec_recorded ps n i s = exec_recorded_by (called assigned exec ps n) (called_met ps n) (called_recorded ps n) i s

-- ---- readings
reading_met_lem : (vs : List Variable) (r : Reading) (n : ℕ) → reading_taken vs r ≡ fail n → In n (reading_met vs r)
unfolding reading_taken reading_met
reading_met_lem vs r n e = go (required_fails (in_range_of (counts_hundredths vs r) r.number) overflow _ n e)
  where
    next : List ℕ
    next = assign_met vs r.variable (reading_value (counts_hundredths vs r) r.number)

    go : ((in_range_of (counts_hundredths vs r) r.number ≡ false) × (overflow ≡ n)) ⊎ ((in_range_of (counts_hundredths vs r) r.number ≡ true) × (assigned vs r.variable (reading_value (counts_hundredths vs r) r.number) ≡ fail n))
        → In n (unless_met (in_range_of (counts_hundredths vs r) r.number) overflow ++ on_true (in_range_of (counts_hundredths vs r) r.number) next)
    go (inl q) = Memᴰ.append_left (on_true (in_range_of (counts_hundredths vs r) r.number) next) (unless_in (in_range_of (counts_hundredths vs r) r.number) overflow n q.0 q.1)
    go (inr q) =
        Memᴰ.append_right (unless_met (in_range_of (counts_hundredths vs r) r.number) overflow)
        (true_in (in_range_of (counts_hundredths vs r) r.number) next n q.0 (assign_met_lem vs r.variable (reading_value (counts_hundredths vs r) r.number) n q.1))

taken_recorded : (b : Bool) (s : State) (i : ℕ) (r : Reading) → Recorded s.error (taken_unless b s i r).error (on_true b (reading_met s.store r))
taken_recorded true s i r = settled_recorded s (reading_place + i) (reading_taken s.store r) (reading_met s.store r) (reading_met_lem s.store r)
taken_recorded false s i r = stays refl

pub readings_recorded : (i : ℕ) (rs : List Reading) (s : State) → Recorded s.error (take_readings i rs s).error (readings_met i rs s)
unfolding take_readings readings_met
readings_recorded i [] s = stays refl
readings_recorded i (r ∷ rs) s =
    recorded_then (on_true (eqb s.error no_error) (reading_met s.store r)) (taken_recorded (eqb s.error no_error) s i r) (readings_recorded (suc i) rs (taken_unless (eqb s.error no_error) s i r))

-- ---- whole runs
pub run_recorded : (p : Profile) (readings : List Reading) (budget : ℕ)
    → ((last_state (run p readings budget)).error ≡ no_error) ⊎ Memᴰ (last_state (run p readings budget)).error (run_met p readings budget)
unfolding run run_met started
run_recorded p readings budget =
    by (recorded_then (readings_met 0 readings (started p budget)) (readings_recorded 0 readings (started p budget)) (exec_recorded p.procedures most_calls p.program (take_readings 0 readings (started p budget))))
  where
    by : {e : ℕ} {ns : List ℕ} → Recorded no_error e ns → (e ≡ no_error) ⊎ Memᴰ e ns
    by (stays q) = inl q
    by (clears q) = inl q
    by (arises m) = inr m

-- what may be recorded: no error, or a run error; so no type error
abbrev pub NoTypeError : ℕ → Type 0
NoTypeError n = (n ≡ no_error) ⊎ (is_run_error n ≡ true)

pub no_type_error : (n : ℕ) → NoTypeError n → is_type_error n ≡ false
unfolding is_type_error is_among
no_type_error n (inl e) = ap is_type_error e
no_type_error n (inr e) = run_no_type_error n e

-- a passed pair of files: no type error is recorded at the end
pub accepted_error : (prof lims : List ℕ) → lowest (pair_rules prof lims) ≡ 0 → (es : List Entry) → check_profile (profile_of (rows_of prof) (rows_of lims)) ≡ ok es
    → (readings : List Reading) → Every (λ r. is_quantity_variable (rows_of prof) r.variable ≡ true) readings → (budget : ℕ)
    → NoTypeError (last_state (run (profile_of (rows_of prof) (rows_of lims)) readings budget)).error
accepted_error prof lims e es passed readings ns budget = by (run_recorded (profile_of (rows_of prof) (rows_of lims)) readings budget)
  where
    by : {k : ℕ} → (k ≡ no_error) ⊎ Memᴰ k (run_met (profile_of (rows_of prof) (rows_of lims)) readings budget) → NoTypeError k
    by (inl q) = inl q
    by (inr m) = inr (every_at (accepted_safe prof lims e es passed readings ns budget) m)
