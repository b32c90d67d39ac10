-- What every assignment, yoke change, copy and reading keeps, a whole run keeps, wherever the budget stops it, and the calls that it leaves
-- open keep it too: `exec_keeps`, `called_keeps`, `readings_keep`. The property may differ from scope to scope: the profile's variables are
-- scope 0, those of procedure k scope 1 + k. Assumes nothing.
use Rattle.std.specs.Prelude.{◌≡◌, Bool, eqb, length}
use Rattle.std.proofs.Math.Path.{refl, subst}
use Rattle.std.proofs.Math.Bool.{true, false}
use mathlib.Core.List.{List, [], ◌∷◌, ◌++◌}
use Prim.Native.Nat.{ℕ, zero, suc, ◌+◌}
use Rattle.lingua.specs.Numbers.{reading_place}
use Rattle.lingua.specs.Errors.{no_error, too_deep}
use Rattle.lingua.specs.Outcome.{ok, fail, Result, ◌>>=◌}
use Rattle.lingua.specs.Expression.{Instruction, skip, assign, set_yoke, sequence, branch, loop, handle, call}
use Rattle.lingua.specs.Evaluation.{eval, eval_test, no_current}
use Rattle.lingua.specs.Store.{Variable, contents, assigned, copied, copied_in, yoke_changed, Reading, reading_taken}
use Rattle.lingua.specs.Run.{State, Progress, going, out, with_store, with_error, with_left, settled, proceed, step_with, step, unless_error, act, decided, handled, repeat, Calling, exec, Procedure, procedure_at, begun, clean_only, copied_out, carried, returned, opened, called, taken_unless, take_readings, last_state, open_calls}
use Rattle.safety.specs.Everywhere.{Everywhere, at_assign, at_set_yoke, at_sequence, at_branch, at_loop, at_handle, at_call}
use Rattle.safety.specs.Every.{Every, every_none, every_more}
use Rattle.safety.specs.Answers.{same_answer, bound}

-- ---- what is asked of the property
-- of states: recorded errors and steps taken leave it alone
pub record Stable (P : State → Type 0) : Type 0 where
  pub marked : (s : State) (n p : ℕ) → P s → P (with_error s n p)
  pub stepped : (s : State) (n : ℕ) → s.left ≡ suc n → P s → P (with_left s n)

-- from scope to scope: a procedure's variables have it when a call begins, and the caller's when the body has ended
pub record Family (ps : List Procedure) (F : ℕ → State → Type 0) : Type 0 where
  pub stable : (a : ℕ) → Stable (F a)
  pub begins : (a k : ℕ) (s : State) → F a s → F (suc k) (with_store s (begun (procedure_at ps k).variables))
  pub back : (a k : ℕ) (s t : State) → F a s → F (suc k) t → F a (carried s t)

-- variables ns, each with one of m and following
unfoldable pub Pairwise : (ℕ → ℕ → Type 0) → List ℕ → ℕ → Type 0
Pairwise Q [] m = Unit {0}
Pairwise Q (n ∷ ns) m = Q n m × Pairwise Q ns (suc m)

pub pairwise_all : {Q : ℕ → ℕ → Type 0} → ((n m : ℕ) → Q n m) → (ns : List ℕ) (m : ℕ) → Pairwise Q ns m
unfolding Pairwise
pairwise_all f [] m = tt
pairwise_all f (n ∷ ns) m = (f n m, pairwise_all f ns (suc m))

-- variable n of one scope as variable m of another
unfoldable pub Passes : (ℕ → State → Type 0) → ℕ → ℕ → ℕ → ℕ → Type 0
Passes F a n b m = (s t : State) → F a s → F b t → (ws : List Variable) → copied assigned s.store n t.store m ≡ ok ws → F b (with_store t ws)

-- all copies of a call from scope a of procedure k
pub record KeepsCall (F : ℕ → State → Type 0) (a k : ℕ) (vs rs : List ℕ) : Type 0 where
  pub in_all : Pairwise (λ n m. Passes F a n (suc k) m) (vs ++ rs) 0
  pub out_all : Pairwise (λ n m. Passes F (suc k) m a n) rs (length vs)

-- the property is kept where the instruction's own row changes the store
unfoldable pub Keeps : (ℕ → State → Type 0) → ℕ → Instruction → Type 0
Keeps F a (skip r) = Unit {0}
Keeps F a (assign r n e) =
    (s : State) → F a s → (ws : List Variable) → (eval e (contents s.store) no_current >>= λ x. assigned s.store n x) ≡ ok ws → F a (with_store s ws)
Keeps F a (set_yoke r n y) = (s : State) → F a s → (ws : List Variable) → yoke_changed s.store n y ≡ ok ws → F a (with_store s ws)
Keeps F a (sequence r i j) = Unit {0}
Keeps F a (branch r e i j) = Unit {0}
Keeps F a (loop r e i) = Unit {0}
Keeps F a (handle r n i) = Unit {0}
Keeps F a (call r k vs rs) = KeepsCall F a k vs rs

-- and where a reading is taken
unfoldable pub KeepsReading : (State → Type 0) → Reading → Type 0
KeepsReading P r = (s : State) → P s → (ws : List Variable) → reading_taken s.store r ≡ ok ws → P (with_store s ws)

-- ---- two properties at once
abbrev pub Both : (ℕ → State → Type 0) → (ℕ → State → Type 0) → ℕ → State → Type 0
Both F G a s = F a s × G a s

pairwise_both : {Q R S : ℕ → ℕ → Type 0} → ((n m : ℕ) → Q n m → R n m → S n m) → (ns : List ℕ) (m : ℕ) → Pairwise Q ns m → Pairwise R ns m → Pairwise S ns m
unfolding Pairwise
pairwise_both f [] m q r = tt
pairwise_both f (n ∷ ns) m q r = (f n m q.0 r.0, pairwise_both f ns (suc m) q.1 r.1)

module _ (F G : ℕ → State → Type 0) where
  pub family_both : {ps : List Procedure} → Family ps F → Family ps G → Family ps (Both F G)
  family_both f g =
      record { stable = λ a. record { marked = λ s n p h. ((f.stable a).marked s n p h.0, (g.stable a).marked s n p h.1); stepped = λ s n e h. ((f.stable a).stepped s n e h.0, (g.stable a).stepped s n e h.1) }; begins = λ a k s h. (f.begins a k s h.0, g.begins a k s h.1); back = λ a k s t h u. (f.back a k s t h.0 u.0, g.back a k s t h.1 u.1) }

  passes_both : (a n b m : ℕ) → Passes F a n b m → Passes G a n b m → Passes (Both F G) a n b m
  unfolding Passes
  passes_both a n b m f g s t h k ws e = (f s t h.0 k.0 ws e, g s t h.1 k.1 ws e)

  pub keeps_both : (a : ℕ) (i : Instruction) → Keeps F a i × Keeps G a i → Keeps (Both F G) a i
  unfolding Keeps
  keeps_both a (skip r) q = tt
  keeps_both a (assign r n e) q = λ s h ws k. (q.0 s h.0 ws k, q.1 s h.1 ws k)
  keeps_both a (set_yoke r n y) q = λ s h ws k. (q.0 s h.0 ws k, q.1 s h.1 ws k)
  keeps_both a (sequence r i j) q = tt
  keeps_both a (branch r e i j) q = tt
  keeps_both a (loop r e i) q = tt
  keeps_both a (handle r n i) q = tt
  keeps_both a (call r k vs rs) q =
      record { in_all = pairwise_both (λ n m. passes_both a n (suc k) m) (vs ++ rs) 0 q.0.in_all q.1.in_all; out_all = pairwise_both (λ n m. passes_both (suc k) m a n) rs (length vs) q.0.out_all q.1.out_all }

-- ---- what is shown of a run
-- the variables of an open call: those of a state that has the property of its procedure
pub record Frame (F : ℕ → State → Type 0) (vs : List Variable) : Type 0 where
  pub procedure : ℕ
  pub state : State
  pub has : F (suc procedure) state
  pub is : state.store ≡ vs

pub record Done (F : ℕ → State → Type 0) (a : ℕ) (q : Progress) : Type 0 where
  pub last : F a (last_state q)
  pub opens : Every (Frame F) (open_calls q)

pub settled_keeps : (P : State → Type 0) → Stable P → (s : State) (p : ℕ) (o : Result (List Variable)) → P s → ((ws : List Variable) → o ≡ ok ws → P (with_store s ws)) → P (settled s p o)
settled_keeps P stable s p (ok ws) h k = k ws refl
settled_keeps P stable s p (fail n) h k = stable.marked s n p h

module _ (F : ℕ → State → Type 0) (ps : List Procedure) (family : Family ps F) where
  goes : (a : ℕ) (s : State) → F a s → Done F a (going s)
  goes a s h = record { last = h; opens = every_none }

  -- ---- one scope's instructions, whatever its calls do, if they keep the property
  module _ (a : ℕ) where
    pub step_keeps : (s : State) (f : State → Progress) → F a s → ((t : State) → F a t → Done F a (f t)) → Done F a (step s f)
    unfolding step
    step_keeps s f h k = go s.left refl
      where
        go : (n : ℕ) → s.left ≡ n → Done F a (step_with n s f)
        go zero e = record { last = h; opens = every_none }
        go (suc n) e = k (with_left s n) ((family.stable a).stepped s n e h)

    pub act_keeps : (s : State) (f : State → Progress) → F a s → ((t : State) → F a t → Done F a (f t)) → Done F a (act s f)
    unfolding act
    act_keeps s f h k = go (eqb s.error no_error)
      where
        go : (b : Bool) → Done F a (unless_error b s (λ t. step t f))
        go true = step_keeps s f h k
        go false = goes a s h

    decided_keeps : (o : Result Bool) (p : ℕ) (s : State) (f g : State → Progress) → F a s → Done F a (f s) → Done F a (g s) → Done F a (decided o p s f g)
    decided_keeps (ok true) p s f g h x y = x
    decided_keeps (ok false) p s f g h x y = y
    decided_keeps (fail n) p s f g h x y = goes a (with_error s n p) ((family.stable a).marked s n p h)

    proceed_keeps : (q : Progress) (f : State → Progress) → Done F a q → ((t : State) → F a t → Done F a (f t)) → Done F a (proceed q f)
    proceed_keeps (going s) f h k = k s h.last
    proceed_keeps (out s os) f h k = h

    repeat_keeps : (k : ℕ) (test : State → Result Bool) (p : ℕ) (body : State → Progress) → ((t : State) → F a t → Done F a (body t)) → (s : State) → F a s → Done F a (repeat k test p body s)
    unfolding repeat
    repeat_keeps zero test p body b s h = record { last = h; opens = every_none }
    repeat_keeps (suc k) test p body b s h =
        act_keeps s _ h (λ t u. decided_keeps (test t) p t _ _ u (proceed_keeps (body t) _ (b t u) (λ w v. repeat_keeps k test p body b w v)) (goes a t u))

    handled_keeps : (b : Bool) (s : State) (f : State → Progress) → F a s → ((t : State) → F a t → Done F a (f t)) → Done F a (handled b s f)
    handled_keeps true s f h k = k (with_error s no_error 0) ((family.stable a).marked s no_error 0 h)
    handled_keeps false s f h k = goes a s h

  unfoldable pub CallsKeep : ℕ → Calling → Type 0
  CallsKeep a calls = (r k : ℕ) (vs rs : List ℕ) → KeepsCall F a k vs rs → (s : State) → F a s → Done F a (calls r k vs rs s)

  pub exec_keeps : (a : ℕ) (calls : Calling) → CallsKeep a calls → (i : Instruction) → Everywhere (Keeps F a) i → (s : State) → F a s → Done F a (exec calls i s)
  unfolding exec Keeps CallsKeep
  exec_keeps a calls c (skip r) q s h = act_keeps a s _ h (λ t u. goes a t u)
  exec_keeps a calls c (assign r n e) (at_assign q) s h = act_keeps a s _ h (λ t u. goes a _ (settled_keeps (F a) (family.stable a) t r _ u (q t u)))
  exec_keeps a calls c (set_yoke r n y) (at_set_yoke q) s h = act_keeps a s _ h (λ t u. goes a _ (settled_keeps (F a) (family.stable a) t r _ u (q t u)))
  exec_keeps a calls c (sequence r i j) (at_sequence q x y) s h =
      proceed_keeps a (exec calls i s) _ (exec_keeps a calls c i x s h) (λ t u. exec_keeps a calls c j y t u)
  exec_keeps a calls c (branch r e i j) (at_branch q x y) s h =
      act_keeps a s _ h (λ t u. decided_keeps a (eval_test e (contents t.store)) r t _ _ u (exec_keeps a calls c i x t u) (exec_keeps a calls c j y t u))
  exec_keeps a calls c (loop r e i) (at_loop q x) s h =
      repeat_keeps a (suc s.left) (λ t. eval_test e (contents t.store)) r (λ t. exec calls i t) (λ t u. exec_keeps a calls c i x t u) s h
  exec_keeps a calls c (handle r n i) (at_handle q x) s h =
      step_keeps a s _ h (λ t u. handled_keeps a (eqb t.error n) t _ u (λ w v. exec_keeps a calls c i x w v))
  exec_keeps a calls c (call r k vs rs) (at_call q) s h = act_keeps a s _ h (λ t u. c r k vs rs q t u)

  -- ---- copies
  pub copies_in_keep : (a k : ℕ) (s : State) → F a s → (ns : List ℕ) (m : ℕ) → Pairwise (λ n m. Passes F a n (suc k) m) ns m → (ts : List Variable) → F (suc k) (with_store s ts)
      → (ws : List Variable) → copied_in assigned s.store ns m ts ≡ ok ws → F (suc k) (with_store s ws)
  unfolding copied_in Pairwise Passes
  copies_in_keep a k s h [] m q ts t ws e = subst (λ (us : List Variable). F (suc k) (with_store s us)) (same_answer e) t
  copies_in_keep a k s h (n ∷ ns) m q ts t ws e =
      let p = bound (copied assigned s.store n ts m) _ ws e in
      copies_in_keep a k s h ns (suc m) q.1 p.0 (q.0 s (with_store s ts) h t p.0 p.1) ws p.2

  clean_keeps : (a : ℕ) (b : Bool) (s : State) (f : State → State) → F a s → F a (f s) → F a (clean_only b s f)
  clean_keeps a true s f h k = k
  clean_keeps a false s f h k = h

  pub copies_out_keep : (a k r : ℕ) (t : State) → F (suc k) t → (ns : List ℕ) (m : ℕ) → Pairwise (λ n m. Passes F (suc k) m a n) ns m → (s : State) → F a s
      → F a (copied_out assigned r t.store m ns s)
  unfolding copied_out Pairwise Passes
  copies_out_keep a k r t h [] m q s g = g
  copies_out_keep a k r t h (n ∷ ns) m q s g =
      clean_keeps a (eqb s.error no_error) s _ g
      (copies_out_keep a k r t h ns (suc m) q.1 (settled s r (copied assigned t.store m s.store n))
      (settled_keeps (F a) (family.stable a) s r (copied assigned t.store m s.store n) g (q.0 t s h g)))

  -- ---- calls, if each procedure's body keeps the property
  module _ (bodies : (k : ℕ) → Everywhere (Keeps F (suc k)) (procedure_at ps k).body) where
    returned_keeps : (a r k : ℕ) (vs rs : List ℕ) → KeepsCall F a k vs rs → (s : State) → F a s → (q : Progress) → Done F (suc k) q → Done F a (returned assigned r (length vs) rs s q)
    returned_keeps a r k vs rs c s h (going t) d =
        goes a _ (copies_out_keep a k r t d.last rs (length vs) c.out_all (carried s t) (family.back a k s t h d.last))
    returned_keeps a r k vs rs c s h (out t os) d =
        record { last = family.back a k s t h d.last; opens = every_more (record { procedure = k; state = t; has = d.last; is = refl }) d.opens }

    opened_keeps : (a : ℕ) (o : Result (List Variable)) (r : ℕ) (s : State) (f : List Variable → Progress) → F a s → ((ws : List Variable) → o ≡ ok ws → Done F a (f ws)) → Done F a (opened o r s f)
    opened_keeps a (ok ws) r s f h k = k ws refl
    opened_keeps a (fail n) r s f h k = goes a _ ((family.stable a).marked s n r h)

    pub called_keeps : (n a : ℕ) → CallsKeep a (called assigned exec ps n)
    unfolding called CallsKeep
    called_keeps zero a r k vs rs c s h = goes a _ ((family.stable a).marked s too_deep r h)
    called_keeps (suc n) a r k vs rs c s h =
        opened_keeps a (copied_in assigned s.store (vs ++ rs) 0 (begun (procedure_at ps k).variables)) r s _ h (λ ws e.
        returned_keeps a r k vs rs c s h _
        (exec_keeps (suc k) (called assigned exec ps n) (called_keeps n (suc k)) (procedure_at ps k).body (bodies k) (with_store s ws)
        (copies_in_keep a k s h (vs ++ rs) 0 c.in_all (begun (procedure_at ps k).variables) (family.begins a k s h) ws e)))

-- ---- readings
module _ (P : State → Type 0) (stable : Stable P) where
  pub taken_keeps : (b : Bool) (s : State) (i : ℕ) (r : Reading) → KeepsReading P r → P s → P (taken_unless b s i r)
  unfolding KeepsReading
  taken_keeps true s i r k h = settled_keeps P stable s (reading_place + i) (reading_taken s.store r) h (k s h)
  taken_keeps false s i r k h = h

  pub readings_keep : (i : ℕ) (rs : List Reading) → Every (KeepsReading P) rs → (s : State) → P s → P (take_readings i rs s)
  unfolding take_readings
  readings_keep i [] k s h = h
  readings_keep i (r ∷ rs) (every_more k ks) s h =
      readings_keep (suc i) rs ks (taken_unless (eqb s.error no_error) s i r) (taken_keeps (eqb s.error no_error) s i r k h)
