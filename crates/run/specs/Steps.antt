-- What a step, an action, a decision and a handler are at a moment, by cases of what is recorded. Assumes nothing.
use Rattle.std.specs.Prelude.{◌≡◌, refl, Bool, true, false, [], eqb}
use Rattle.std.proofs.Common.{ap, eq-eqb, ne_eqb}
use Prim.Native.Nat.{ℕ, zero, suc, ◌<◌, ◌≤◌}
use native.Mathlib.Omega.{arith}
use Rattle.lingua.specs.Errors.{no_error}
use Rattle.lingua.specs.Outcome.{ok, fail, Result}
use Rattle.lingua.specs.Run.{State, Progress, going, out, with_left, step_with, step, unless_error, act, decided, proceed, repeat, last_state}

-- ---- a step
pub step_spent : (s : State) (f : State → Progress) → s.left ≡ 0 → step s f ≡ out s []
unfolding step
step_spent s f e = ap (λ (n : ℕ). step_with n s f) e

pub step_taken : (s : State) (f : State → Progress) (n : ℕ) → s.left ≡ suc n → step s f ≡ f (with_left s n)
unfolding step
step_taken s f n e = ap (λ (k : ℕ). step_with k s f) e

-- ---- an action
pub act_passed : (s : State) (f : State → Progress) → (s.error ≡ 0 → ⊥) → act s f ≡ going s
unfolding act
act_passed s f h = ap (λ (b : Bool). unless_error b s (λ t. step t f)) (ne_eqb s.error no_error h)

pub act_steps : (s : State) (f : State → Progress) → s.error ≡ 0 → act s f ≡ step s f
unfolding act
act_steps s f h = ap (λ (b : Bool). unless_error b s (λ t. step t f)) (eq-eqb s.error no_error h)

-- ---- a loop: one turn more than the steps that are left is as good as any more
act_same : (s : State) (f g : State → Progress) → ((n : ℕ) → s.left ≡ suc n → f (with_left s n) ≡ g (with_left s n)) → act s f ≡ act s g
unfolding act step
act_same s f g h = go (eqb s.error no_error)
  where
    steps : (n : ℕ) → s.left ≡ n → step_with n s f ≡ step_with n s g
    steps zero e = refl
    steps (suc n) e = h n e

    go : (b : Bool) → unless_error b s (λ t. step t f) ≡ unless_error b s (λ t. step t g)
    go true = steps s.left refl
    go false = refl

decided_same : (o : Result Bool) (p : ℕ) (s : State) (f g h : State → Progress) → f s ≡ g s → decided o p s f h ≡ decided o p s g h
decided_same (ok true) p s f g h e = e
decided_same (ok false) p s f g h e = refl
decided_same (fail n) p s f g h e = refl

proceed_same : (q : Progress) (f g : State → Progress) → ((t : State) → t.left ≤ (last_state q).left → f t ≡ g t) → proceed q f ≡ proceed q g
proceed_same (going s) f g h = h s (let k : s.left ≤ s.left = omega arith in k)
proceed_same (out s os) f g h = refl

module _ (test : State → Result Bool) (p : ℕ) (body : State → Progress) (shorter : (t : State) → (last_state (body t)).left ≤ t.left) where
  pub repeat_enough : (k j : ℕ) (s : State) → s.left < k → s.left < j → repeat k test p body s ≡ repeat j test p body s
  unfolding repeat
  repeat_enough zero j s l m = absurd (let z : ⊥ = omega arith in z)
  repeat_enough (suc k) zero s l m = absurd (let z : ⊥ = omega arith in z)
  repeat_enough (suc k) (suc j) s l m =
      act_same s _ _ (λ n e. decided_same (test (with_left s n)) p (with_left s n) _ _ (λ u. going u)
      (proceed_same (body (with_left s n)) _ _ (λ w (q : w.left ≤ (last_state (body (with_left s n))).left). let z : (last_state (body (with_left s n))).left ≤ n = shorter (with_left s n) in repeat_enough k j w (omega arith) (omega arith))))
