-- Steps: none is given back, those taken and those left are the budget, and a run is out of budget only with none left, so the bound on
-- a loop's turns never stops it: `run_steps`. Assumes nothing.
use Rattle.std.specs.Prelude.{◌≡◌, refl, Bool, eqb}
use Rattle.std.proofs.Math.Path.{ap, subst}
use Rattle.std.proofs.Common.{◌∙◌}
use Rattle.std.proofs.Math.Bool.{true, false}
use mathlib.Core.List.{List, ◌++◌}
use Prim.Native.Nat.{ℕ, zero, suc, ◌+◌, ◌≤◌, ◌<◌}
use native.Mathlib.Omega.{arith}
use Rattle.std.proofs.Math.ListN.{length}
use Rattle.lingua.specs.Numbers.{most_calls}
use Rattle.lingua.specs.Errors.{no_error}
use Rattle.lingua.specs.Outcome.{ok, fail, Result}
use Rattle.lingua.specs.Expression.{Instruction, skip, assign, set_yoke, sequence, branch, loop, handle, call}
use Rattle.lingua.specs.Evaluation.{eval_test}
use Rattle.lingua.specs.Store.{Variable, contents, assigned, copied_in, Reading}
use Rattle.lingua.specs.Run.{State, Progress, going, out, with_store, with_left, with_error, proceed, step_with, step, unless_error, act, decided, handled, repeat, Calling, exec, Procedure, procedure_at, begun, returned, opened, called, Profile, started, take_readings, run, last_state, open_calls, steps_of}
use Rattle.safety.specs.Every.{every_all}
use Rattle.safety.specs.Everywhere.{everywhere_all}
use Rattle.safety.specs.Runs.{Stable, Family, Passes, Keeps, KeepsReading, CallsKeep, pairwise_all, exec_keeps, called_keeps, readings_keep}

-- ---- no step is given back
unfoldable pub AtMost : ℕ → State → Type 0
AtMost n s = s.left ≤ n

at_most_stable : (n : ℕ) → Stable (AtMost n)
unfolding AtMost
at_most_stable n = record { marked = λ s e p h. h; stepped = λ s m e h. omega arith }

-- the same in every scope
at_most_family : (ps : List Procedure) (n : ℕ) → Family ps (λ a. AtMost n)
unfolding AtMost
at_most_family ps n = record { stable = λ a. at_most_stable n; begins = λ a k s h. h; back = λ a k s t h g. g }

at_most_copy : (n a v b w : ℕ) → Passes (λ a. AtMost n) a v b w
unfolding Passes AtMost
at_most_copy n a v b w s t h k ws q = k

at_most_keeps : (n a : ℕ) (i : Instruction) → Keeps (λ a. AtMost n) a i
unfolding Keeps AtMost
at_most_keeps n a (skip r) = tt
at_most_keeps n a (assign r m e) = λ s h ws q. h
at_most_keeps n a (set_yoke r m y) = λ s h ws q. h
at_most_keeps n a (sequence r i j) = tt
at_most_keeps n a (branch r e i j) = tt
at_most_keeps n a (loop r e i) = tt
at_most_keeps n a (handle r m i) = tt
at_most_keeps n a (call r k vs rs) =
    record { in_all = pairwise_all (λ v w. at_most_copy n a v (suc k) w) _ 0; out_all = pairwise_all (λ v w. at_most_copy n (suc k) w a v) rs _ }

at_most_reading : (n : ℕ) (r : Reading) → KeepsReading (AtMost n) r
unfolding KeepsReading AtMost
at_most_reading n r s h ws q = h

-- the calls of procedures, and any walk with them
pub called_left : (ps : List Procedure) (n r k : ℕ) (vs rs : List ℕ) (s : State) → (last_state (called assigned exec ps n r k vs rs s)).left ≤ s.left
unfolding AtMost CallsKeep
called_left ps n r k vs rs s =
    (called_keeps (λ a. AtMost s.left) ps (at_most_family ps s.left) (λ j. everywhere_all (at_most_keeps s.left (suc j)) (procedure_at ps j).body) n 0
    r k vs rs (record { in_all = pairwise_all (λ v w. at_most_copy s.left 0 v (suc k) w) _ 0; out_all = pairwise_all (λ v w. at_most_copy s.left (suc k) w 0 v) rs _ })
    s (let h : s.left ≤ s.left = omega arith in h)).last

pub exec_left : (ps : List Procedure) (n : ℕ) (i : Instruction) (s : State) → (last_state (exec (called assigned exec ps n) i s)).left ≤ s.left
unfolding AtMost
exec_left ps n i s =
    (exec_keeps (λ a. AtMost s.left) ps (at_most_family ps s.left) 0 (called assigned exec ps n)
    (called_keeps (λ a. AtMost s.left) ps (at_most_family ps s.left) (λ j. everywhere_all (at_most_keeps s.left (suc j)) (procedure_at ps j).body) n 0)
    i (everywhere_all (at_most_keeps s.left 0) i) s (let h : s.left ≤ s.left = omega arith in h)).last

pub run_left : (p : Profile) (readings : List Reading) (budget : ℕ) → (last_state (run p readings budget)).left ≤ budget
unfolding run AtMost started
run_left p readings budget =
    let h : (take_readings 0 readings (started p budget)).left ≤ budget =
    readings_keep (AtMost budget) (at_most_stable budget) 0 readings (every_all (at_most_reading budget) readings) (started p budget) (let k : budget ≤ budget = omega arith in k) in
    omega (arith, h, exec_left p.procedures most_calls p.program (take_readings 0 readings (started p budget)))

-- ---- out of budget only with no step left
unfoldable pub OutSpent : Progress → Type 0
OutSpent (going s) = Unit {0}
OutSpent (out s os) = s.left ≡ 0

step_out : (s : State) (f : State → Progress) → ((n : ℕ) → s.left ≡ suc n → OutSpent (f (with_left s n))) → OutSpent (step s f)
unfolding step OutSpent
step_out s f k = go s.left refl
  where
    go : (n : ℕ) → s.left ≡ n → OutSpent (step_with n s f)
    go zero e = e
    go (suc n) e = k n e

act_out : (s : State) (f : State → Progress) → ((n : ℕ) → s.left ≡ suc n → OutSpent (f (with_left s n))) → OutSpent (act s f)
unfolding act OutSpent
act_out s f k = go (eqb s.error no_error)
  where
    go : (b : Bool) → OutSpent (unless_error b s (λ t. step t f))
    go true = step_out s f k
    go false = tt

decided_out : (o : Result Bool) (p : ℕ) (s : State) (f g : State → Progress) → OutSpent (f s) → OutSpent (g s) → OutSpent (decided o p s f g)
unfolding OutSpent
decided_out (ok true) p s f g a b = a
decided_out (ok false) p s f g a b = b
decided_out (fail n) p s f g a b = tt

proceed_out : (q : Progress) (f : State → Progress) → OutSpent q → ((t : State) → t.left ≤ (last_state q).left → OutSpent (f t)) → OutSpent (proceed q f)
unfolding OutSpent
proceed_out (going s) f h k = k s (omega arith)
proceed_out (out s os) f h k = h

repeat_out : (k : ℕ) (test : State → Result Bool) (p : ℕ) (body : State → Progress) → ((t : State) → OutSpent (body t)) → ((t : State) → (last_state (body t)).left ≤ t.left)
    → (s : State) → s.left < k → OutSpent (repeat k test p body s)
unfolding repeat OutSpent
repeat_out zero test p body b m s l = absurd (let z : ⊥ = omega arith in z)
repeat_out (suc k) test p body b m s l =
    act_out s _ (λ n e. decided_out (test (with_left s n)) p (with_left s n) _ _
    (proceed_out (body (with_left s n)) _ (b (with_left s n)) (λ w (q : w.left ≤ (last_state (body (with_left s n))).left). repeat_out k test p body b m w (let z : (last_state (body (with_left s n))).left ≤ n = m (with_left s n) in omega arith)))
    tt)

handled_out : (b : Bool) (s : State) (f : State → Progress) → ((t : State) → OutSpent (f t)) → OutSpent (handled b s f)
unfolding OutSpent
handled_out true s f k = k (with_error s no_error 0)
handled_out false s f k = tt

module _ (ps : List Procedure) where
  -- what calls do, if they are out only with no step left
  unfoldable CallsSpend : Calling → Type 0
  CallsSpend calls = (r k : ℕ) (vs rs : List ℕ) (s : State) → OutSpent (calls r k vs rs s)

  module _ (n : ℕ) (spend : CallsSpend (called assigned exec ps n)) where
    exec_out_by : (i : Instruction) (s : State) → OutSpent (exec (called assigned exec ps n) i s)
    unfolding exec OutSpent CallsSpend
    exec_out_by (skip r) s = act_out s _ (λ n e. tt)
    exec_out_by (assign r m e) s = act_out s _ (λ n q. tt)
    exec_out_by (set_yoke r m y) s = act_out s _ (λ n q. tt)
    exec_out_by (sequence r i j) s = proceed_out (exec (called assigned exec ps n) i s) _ (exec_out_by i s) (λ t l. exec_out_by j t)
    exec_out_by (branch r e i j) s = act_out s _ (λ n q. decided_out (eval_test e (contents s.store)) r (with_left s n) _ _ (exec_out_by i (with_left s n)) (exec_out_by j (with_left s n)))
    exec_out_by (loop r e i) s =
        repeat_out (suc s.left) (λ t. eval_test e (contents t.store)) r (λ t. exec (called assigned exec ps n) i t) (λ t. exec_out_by i t) (λ t. exec_left ps n i t) s (omega arith)
    exec_out_by (handle r m i) s = step_out s _ (λ n q. handled_out (eqb s.error m) (with_left s n) _ (λ t. exec_out_by i t))
    exec_out_by (call r k vs rs) s = act_out s _ (λ n q. spend r k vs rs (with_left s n))

  returned_out : (r m : ℕ) (rs : List ℕ) (s : State) (q : Progress) → OutSpent q → OutSpent (returned assigned r m rs s q)
  unfolding OutSpent
  returned_out r m rs s (going t) h = tt
  returned_out r m rs s (out t os) h = h

  opened_out : (o : Result (List Variable)) (r : ℕ) (s : State) (f : List Variable → Progress) → ((ws : List Variable) → OutSpent (f ws)) → OutSpent (opened o r s f)
  unfolding OutSpent
  opened_out (ok ws) r s f h = h ws
  opened_out (fail n) r s f h = tt

  called_out : (n : ℕ) → CallsSpend (called assigned exec ps n)
  unfolding called OutSpent CallsSpend
  called_out zero r k vs rs s = tt
  called_out (suc n) r k vs rs s =
      opened_out (copied_in assigned s.store (vs ++ rs) 0 (begun (procedure_at ps k).variables)) r s _
      (λ ws. returned_out r (length vs) rs s (exec (called assigned exec ps n) (procedure_at ps k).body (with_store s ws)) (exec_out_by n (called_out n) (procedure_at ps k).body (with_store s ws)))

  pub exec_out : (n : ℕ) (i : Instruction) (s : State) → OutSpent (exec (called assigned exec ps n) i s)
  exec_out n i s = exec_out_by n (called_out n) i s

-- ---- open calls: no more than might still be opened
unfoldable pub Shallow : ℕ → Progress → Type 0
Shallow n q = length (open_calls q) ≤ n

module _ (n : ℕ) where
  goes_shallow : (s : State) → Shallow n (going s)
  unfolding Shallow
  goes_shallow s = omega arith

  step_shallow : (s : State) (f : State → Progress) → ((t : State) → Shallow n (f t)) → Shallow n (step s f)
  unfolding step Shallow
  step_shallow s f k = go s.left
    where
      go : (m : ℕ) → length (open_calls (step_with m s f)) ≤ n
      go zero = omega arith
      go (suc m) = k (with_left s m)

  act_shallow : (s : State) (f : State → Progress) → ((t : State) → Shallow n (f t)) → Shallow n (act s f)
  unfolding act Shallow
  act_shallow s f k = go (eqb s.error no_error)
    where
      go : (b : Bool) → length (open_calls (unless_error b s (λ t. step t f))) ≤ n
      go true = unfold Shallow in step_shallow s f k
      go false = omega arith

  decided_shallow : (o : Result Bool) (p : ℕ) (s : State) (f g : State → Progress) → Shallow n (f s) → Shallow n (g s) → Shallow n (decided o p s f g)
  unfolding Shallow
  decided_shallow (ok true) p s f g a b = a
  decided_shallow (ok false) p s f g a b = b
  decided_shallow (fail m) p s f g a b = omega arith

  proceed_shallow : (q : Progress) (f : State → Progress) → Shallow n q → ((t : State) → Shallow n (f t)) → Shallow n (proceed q f)
  proceed_shallow (going s) f h k = k s
  proceed_shallow (out s os) f h k = h

  repeat_shallow : (k : ℕ) (test : State → Result Bool) (p : ℕ) (body : State → Progress) → ((t : State) → Shallow n (body t)) → (s : State) → Shallow n (repeat k test p body s)
  unfolding repeat
  repeat_shallow zero test p body b s = unfold Shallow in omega arith
  repeat_shallow (suc k) test p body b s =
      act_shallow s _ (λ t. decided_shallow (test t) p t _ _ (proceed_shallow (body t) _ (b t) (λ w. repeat_shallow k test p body b w)) (goes_shallow t))

  handled_shallow : (b : Bool) (s : State) (f : State → Progress) → ((t : State) → Shallow n (f t)) → Shallow n (handled b s f)
  handled_shallow true s f k = k (with_error s no_error 0)
  handled_shallow false s f k = unfold Shallow in omega arith

  exec_shallow_by : (calls : Calling) → ((r k : ℕ) (vs rs : List ℕ) (s : State) → Shallow n (calls r k vs rs s)) → (i : Instruction) (s : State) → Shallow n (exec calls i s)
  unfolding exec
  exec_shallow_by calls c (skip r) s = act_shallow s _ (λ t. goes_shallow t)
  exec_shallow_by calls c (assign r m e) s = act_shallow s _ (λ t. goes_shallow _)
  exec_shallow_by calls c (set_yoke r m y) s = act_shallow s _ (λ t. goes_shallow _)
  exec_shallow_by calls c (sequence r i j) s = proceed_shallow (exec calls i s) _ (exec_shallow_by calls c i s) (λ t. exec_shallow_by calls c j t)
  exec_shallow_by calls c (branch r e i j) s =
      act_shallow s _ (λ t. decided_shallow (eval_test e (contents t.store)) r t _ _ (exec_shallow_by calls c i t) (exec_shallow_by calls c j t))
  exec_shallow_by calls c (loop r e i) s = repeat_shallow (suc s.left) (λ t. eval_test e (contents t.store)) r (λ t. exec calls i t) (λ t. exec_shallow_by calls c i t) s
  exec_shallow_by calls c (handle r m i) s = step_shallow s _ (λ t. handled_shallow (eqb t.error m) t _ (λ u. exec_shallow_by calls c i u))
  exec_shallow_by calls c (call r k vs rs) s = act_shallow s _ (λ t. c r k vs rs t)

returned_shallow : (n r m : ℕ) (rs : List ℕ) (s : State) (q : Progress) → Shallow n q → Shallow (suc n) (returned assigned r m rs s q)
unfolding Shallow
returned_shallow n r m rs s (going t) h = omega arith
returned_shallow n r m rs s (out t os) h = omega arith

opened_shallow : (n : ℕ) (o : Result (List Variable)) (r : ℕ) (s : State) (f : List Variable → Progress) → ((ws : List Variable) → Shallow n (f ws)) → Shallow n (opened o r s f)
opened_shallow n (ok ws) r s f h = h ws
opened_shallow n (fail e) r s f h = goes_shallow n _

called_shallow : (ps : List Procedure) (n r k : ℕ) (vs rs : List ℕ) (s : State) → Shallow n (called assigned exec ps n r k vs rs s)
unfolding called
called_shallow ps zero r k vs rs s = goes_shallow 0 _
called_shallow ps (suc n) r k vs rs s =
    opened_shallow (suc n) (copied_in assigned s.store (vs ++ rs) 0 (begun (procedure_at ps k).variables)) r s _
    (λ ws. returned_shallow n r (length vs) rs s (exec (called assigned exec ps n) (procedure_at ps k).body (with_store s ws))
    (exec_shallow_by n (called assigned exec ps n) (called_shallow ps n) (procedure_at ps k).body (with_store s ws)))

pub exec_shallow : (ps : List Procedure) (n : ℕ) (i : Instruction) (s : State) → length (open_calls (exec (called assigned exec ps n) i s)) ≤ n
exec_shallow ps n i s = unfold Shallow in exec_shallow_by n (called assigned exec ps n) (called_shallow ps n) i s

pub run_shallow : (p : Profile) (readings : List Reading) (budget : ℕ) → length (open_calls (run p readings budget)) ≤ most_calls
unfolding run
run_shallow p readings budget = exec_shallow p.procedures most_calls p.program (take_readings 0 readings (started p budget))

-- ---- whole runs
pub record RunSteps (budget : ℕ) (q : Progress) : Type 0 where
  pub taken_and_left : steps_of budget q + (last_state q).left ≡ budget
  pub at_most_budget : steps_of budget q ≤ budget
  pub spent_when_out : (s : State) (os : List (List Variable)) → q ≡ out s os → steps_of budget q ≡ budget

pub run_steps : (p : Profile) (readings : List Reading) (budget : ℕ) → RunSteps budget (run p readings budget)
run_steps p readings budget =
    let l = run_left p readings budget in
    record { taken_and_left = omega (arith, l); at_most_budget = omega (arith, l); spent_when_out = λ s os e. spent s os e (unfold run in exec_out p.procedures most_calls p.program (take_readings 0 readings (started p budget))) }
  where
    spent : (s : State) (os : List (List Variable)) → run p readings budget ≡ out s os → OutSpent (run p readings budget) → steps_of budget (run p readings budget) ≡ budget
    spent s os e h =
        let z : (last_state (run p readings budget)).left ≡ 0 = ap (λ (q : Progress). (last_state q).left) e ∙ (unfold OutSpent in subst OutSpent e h) in
        omega arith
