-- Where each instruction's own checks give no type error in the states that a run passes through, nor the copies of its calls, the whole
-- run meets none, wherever the budget stops it: `exec_quiet`, `called_quiet`, `readings_quiet`. Assumes nothing.
use Rattle.std.specs.Prelude.{◌≡◌, refl, Bool, true, false, eqb, length}
use mathlib.Core.List.{List, [], ◌∷◌, ◌++◌}
use Prim.Native.Nat.{ℕ, zero, suc}
use Rattle.lingua.specs.Errors.{no_error}
use Rattle.lingua.specs.Outcome.{ok, fail, Result}
use Rattle.lingua.specs.Expression.{Expression, Instruction, skip, assign, set_yoke, sequence, branch, loop, handle, call}
use Rattle.lingua.specs.Evaluation.{eval, eval_test, no_current}
use Rattle.lingua.specs.Store.{Variable, variable_at, contents, assigned, copied, copied_in, Reading}
use Rattle.lingua.specs.Run.{State, Progress, going, out, with_store, with_left, with_error, settled, Calling, exec, Procedure, procedure_at, begun, carried, called, taken_unless, last_state}
use Rattle.lingua.specs.Meets.{on_answer, on_true, met, yoke_checks_met, assign_met, test_met, on_filled, step_met, act_met, on_acting, on_going, on_decided, on_handled, repeat_met, CallingMet, exec_met, copy_met, copies_in_met, copies_out_met, called_met, reading_met, readings_met}
use Rattle.safety.specs.Every.{Every, every_none, every_more, every_append}
use Rattle.safety.specs.Everywhere.{Everywhere, at_assign, at_set_yoke, at_sequence, at_branch, at_loop, at_handle, at_call}
use Rattle.safety.specs.Runs.{Stable, Family, Pairwise, Passes, KeepsCall, Keeps, KeepsReading, CallsKeep, settled_keeps, exec_keeps, copies_in_keep, called_keeps, taken_keeps}
use Rattle.safety.specs.RunErrors.{RunErrors}
use Rattle.laws.specs.Classes.{deep_runs}

-- ---- what is asked
-- a copy from one scope to another, and all copies of a call
unfoldable pub QuietCopy : (ℕ → State → Type 0) → ℕ → ℕ → ℕ → ℕ → Type 0
QuietCopy F a n b m = (s t : State) → F a s → F b t → RunErrors (copy_met s.store n t.store m)

pub record QuietCall (F : ℕ → State → Type 0) (a k : ℕ) (vs rs : List ℕ) : Type 0 where
  pub in_all : Pairwise (λ n m. QuietCopy F a n (suc k) m) (vs ++ rs) 0
  pub out_all : Pairwise (λ n m. QuietCopy F (suc k) m a n) rs (length vs)

-- an instruction's own checks, in each state with the property
unfoldable pub Quiet : (ℕ → State → Type 0) → ℕ → Instruction → Type 0
Quiet F a (skip r) = Unit {0}
Quiet F a (assign r n e) =
    (s : State) → F a s → RunErrors (met e (contents s.store) no_current ++ on_answer (eval e (contents s.store) no_current) (λ x. assign_met s.store n x))
Quiet F a (set_yoke r n y) = (s : State) → F a s → RunErrors (on_filled (variable_at s.store n).content (λ x. yoke_checks_met y (contents s.store) x))
Quiet F a (sequence r i j) = Unit {0}
Quiet F a (branch r e i j) = (s : State) → F a s → RunErrors (test_met e (contents s.store))
Quiet F a (loop r e i) = (s : State) → F a s → RunErrors (test_met e (contents s.store))
Quiet F a (handle r n i) = Unit {0}
Quiet F a (call r k vs rs) = QuietCall F a k vs rs

unfoldable pub QuietReading : (State → Type 0) → Reading → Type 0
QuietReading P r = (s : State) → P s → RunErrors (reading_met s.store r)

pub on_true_met : (t : Bool) (ns : List ℕ) → (t ≡ true → RunErrors ns) → RunErrors (on_true t ns)
on_true_met true ns h = h refl
on_true_met false ns h = every_none

-- ---- runs
pub on_answer_met : {A : Type 0} (o : Result A) (f : A → List ℕ) → ((x : A) → o ≡ ok x → RunErrors (f x)) → RunErrors (on_answer o f)
on_answer_met (ok x) f h = h x refl
on_answer_met (fail n) f h = every_none

module _ (P : State → Type 0) (stable : Stable P) where
  step_met_lem : (s : State) (f : State → List ℕ) → P s → ((t : State) → P t → RunErrors (f t)) → RunErrors (step_met s.left s f)
  step_met_lem s f h k = go s.left refl
    where
      go : (n : ℕ) → s.left ≡ n → RunErrors (step_met n s f)
      go zero e = every_none
      go (suc n) e = k (with_left s n) (stable.stepped s n e h)

  acting_met : (s : State) (f : State → List ℕ) → P s → ((t : State) → P t → RunErrors (f t)) → RunErrors (on_acting s f)
  acting_met s f h k = go (eqb s.error no_error)
    where
      go : (b : Bool) → RunErrors (act_met b s f)
      go true = step_met_lem s f h k
      go false = every_none

  going_met : (q : Progress) (f : State → List ℕ) → P (last_state q) → ((t : State) → P t → RunErrors (f t)) → RunErrors (on_going q f)
  going_met (going s) f h k = k s h
  going_met (out s os) f h k = every_none

  decided_met : (o : Result Bool) (f g : Unit {0} → List ℕ) → RunErrors (f tt) → RunErrors (g tt) → RunErrors (on_decided o f g)
  decided_met (ok true) f g a b = a
  decided_met (ok false) f g a b = b
  decided_met (fail n) f g a b = every_none

  handled_met : (b : Bool) (f : Unit {0} → List ℕ) → RunErrors (f tt) → RunErrors (on_handled b f)
  handled_met true f h = h
  handled_met false f h = every_none

  repeat_met_lem : (k : ℕ) (e : Expression) (body : State → Progress) (bodyMet : State → List ℕ) → ((s : State) → P s → RunErrors (test_met e (contents s.store)))
      → ((t : State) → P t → P (last_state (body t))) → ((t : State) → P t → RunErrors (bodyMet t)) → (s : State) → P s → RunErrors (repeat_met k e body bodyMet s)
  unfolding repeat_met
  repeat_met_lem zero e body bodyMet q b m s h = every_none
  repeat_met_lem (suc k) e body bodyMet q b m s h =
      acting_met s _ h (λ t u. every_append (q t u)
      (decided_met (eval_test e (contents t.store)) _ _ (every_append (m t u) (going_met (body t) _ (b t u) (λ w v. repeat_met_lem k e body bodyMet q b m w v))) every_none))

module _ (F : ℕ → State → Type 0) (ps : List Procedure) (family : Family ps F) where
  unfoldable pub CallsQuiet : ℕ → CallingMet → Type 0
  CallsQuiet a callsMet = (r k : ℕ) (vs rs : List ℕ) → KeepsCall F a k vs rs → QuietCall F a k vs rs → (s : State) → F a s → RunErrors (callsMet r k vs rs s)

  -- ---- one scope's instructions, whatever its calls do, if they keep the property and are quiet
  module _ (a : ℕ) (calls : Calling) (keep : CallsKeep F ps family a calls) (callsMet : CallingMet) (quiet : CallsQuiet a callsMet) where
    pub exec_quiet : (i : Instruction) → Everywhere (Keeps F a) i → Everywhere (Quiet F a) i → (s : State) → F a s → RunErrors (exec_met calls callsMet i s)
    unfolding exec_met Quiet Keeps CallsQuiet
    exec_quiet (skip r) k q s h = every_none
    exec_quiet (assign r n e) k (at_assign q) s h = acting_met (F a) (family.stable a) s _ h q
    exec_quiet (set_yoke r n y) k (at_set_yoke q) s h = acting_met (F a) (family.stable a) s _ h q
    exec_quiet (sequence r i j) (at_sequence k x y) (at_sequence q c d) s h =
        every_append (exec_quiet i x c s h) (going_met (F a) (family.stable a) (exec calls i s) _ (exec_keeps F ps family a calls keep i x s h).last (λ t u. exec_quiet j y d t u))
    exec_quiet (branch r e i j) (at_branch k x y) (at_branch q c d) s h =
        acting_met (F a) (family.stable a) s _ h (λ t u. every_append (q t u) (decided_met (F a) (family.stable a) (eval_test e (contents t.store)) _ _ (exec_quiet i x c t u) (exec_quiet j y d t u)))
    exec_quiet (loop r e i) (at_loop k x) (at_loop q c) s h =
        repeat_met_lem (F a) (family.stable a) (suc s.left) e (λ t. exec calls i t) (λ t. exec_met calls callsMet i t) q (λ t u. (exec_keeps F ps family a calls keep i x t u).last) (λ t u. exec_quiet i x c t u) s h
    exec_quiet (handle r n i) (at_handle k x) (at_handle q c) s h =
        step_met_lem (F a) (family.stable a) s _ h (λ t u. handled_met (F a) (family.stable a) (eqb t.error n) _ (exec_quiet i x c (with_error t no_error 0) ((family.stable a).marked t no_error 0 u)))
    exec_quiet (call r k vs rs) (at_call x) (at_call q) s h = acting_met (F a) (family.stable a) s _ h (λ t u. quiet r k vs rs x q t u)

  -- ---- copies
  copies_in_quiet : (a k : ℕ) (s : State) → F a s → (ns : List ℕ) (m : ℕ) → Pairwise (λ n m. Passes F a n (suc k) m) ns m → Pairwise (λ n m. QuietCopy F a n (suc k) m) ns m
      → (ts : List Variable) → F (suc k) (with_store s ts) → RunErrors (copies_in_met s.store ns m ts)
  unfolding copies_in_met Pairwise Passes QuietCopy
  copies_in_quiet a k s h [] m p q ts t = every_none
  copies_in_quiet a k s h (n ∷ ns) m p q ts t =
      every_append (q.0 s (with_store s ts) h t)
      (on_answer_met (copied assigned s.store n ts m) _ (λ us e. copies_in_quiet a k s h ns (suc m) p.1 q.1 us (p.0 s (with_store s ts) h t us e)))

  copies_out_quiet : (a k r : ℕ) (t : State) → F (suc k) t → (ns : List ℕ) (m : ℕ) → Pairwise (λ n m. Passes F (suc k) m a n) ns m → Pairwise (λ n m. QuietCopy F (suc k) m a n) ns m
      → (s : State) → F a s → RunErrors (copies_out_met r t.store m ns s)
  unfolding copies_out_met Pairwise Passes QuietCopy
  copies_out_quiet a k r t h [] m p q s g = every_none
  copies_out_quiet a k r t h (n ∷ ns) m p q s g =
      on_true_met (eqb s.error no_error) _ (λ e. every_append (q.0 t s h g)
      (copies_out_quiet a k r t h ns (suc m) p.1 q.1 (settled s r (copied assigned t.store m s.store n))
      (settled_keeps (F a) (family.stable a) s r (copied assigned t.store m s.store n) g (p.0 t s h g))))

  -- ---- calls, if each procedure's body keeps the property and is quiet
  module _ (bodies : (k : ℕ) → Everywhere (Keeps F (suc k)) (procedure_at ps k).body) (quiets : (k : ℕ) → Everywhere (Quiet F (suc k)) (procedure_at ps k).body) where
    pub called_quiet : (n a : ℕ) → CallsQuiet a (called_met ps n)
    unfolding called_met CallsQuiet
    called_quiet zero a r k vs rs c q s h = every_more deep_runs every_none
    called_quiet (suc n) a r k vs rs c q s h =
        let calls = called_keeps F ps family bodies n (suc k) in
        every_append
        (copies_in_quiet a k s h (vs ++ rs) 0 c.in_all q.in_all (begun (procedure_at ps k).variables) (family.begins a k s h))
        (on_answer_met (copied_in assigned s.store (vs ++ rs) 0 (begun (procedure_at ps k).variables)) _ (λ ws e.
        let g = copies_in_keep F ps family a k s h (vs ++ rs) 0 c.in_all (begun (procedure_at ps k).variables) (family.begins a k s h) ws e in
        every_append
        (exec_quiet (suc k) (called assigned exec ps n) calls (called_met ps n) (called_quiet n (suc k)) (procedure_at ps k).body (bodies k) (quiets k) (with_store s ws) g)
        (going_met (F (suc k)) (family.stable (suc k)) (exec (called assigned exec ps n) (procedure_at ps k).body (with_store s ws)) _
        (exec_keeps F ps family (suc k) (called assigned exec ps n) calls (procedure_at ps k).body (bodies k) (with_store s ws) g).last
        (λ t u. copies_out_quiet a k r t u rs (length vs) c.out_all q.out_all (carried s t) (family.back a k s t h u)))))

-- ---- readings
module _ (P : State → Type 0) (stable : Stable P) where
  pub readings_quiet : (i : ℕ) (rs : List Reading) → Every (KeepsReading P) rs → Every (QuietReading P) rs → (s : State) → P s → RunErrors (readings_met i rs s)
  unfolding readings_met QuietReading
  readings_quiet i [] ks qs s h = every_none
  readings_quiet i (r ∷ rs) (every_more k ks) (every_more q qs) s h =
      every_append (on_true_met (eqb s.error no_error) _ (λ e. q s h))
      (readings_quiet (suc i) rs ks qs (taken_unless (eqb s.error no_error) s i r) (taken_keeps P stable (eqb s.error no_error) s i r k h))
