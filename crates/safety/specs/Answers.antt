-- What an answer shows of the steps that led to it, whatever their errors are: each step had an answer. Assumes nothing.
use Rattle.std.specs.Prelude.{◌≡◌, refl, Bool, true, false, List, [], ◌∷◌, ℕ}
use Rattle.std.proofs.Common.{sym, ap, subst, arith}
use Rattle.std.proofs.Math.Option.{Option, some, none}
use Rattle.lingua.specs.Outcome.{Outcome, ok, fail, Result, ◌>>=◌, ◌>>◌, require, or_fail, both, all_answers}
use Rattle.lingua.specs.Typing.{own_rule}
use Rattle.safety.specs.Every.{Every, every_none, every_more}

module _ {E : Type 0} where
  pub never_ok {ℓ} : {A : Type 0} {B : Type ℓ} {e : E} {a : A} → ◌≡◌ {A = Outcome E A} (fail e) (ok a) → B
  never_ok q = absurd (let z : ◌≡◌ {A = ℕ} 0 1 = cc in let k : ⊥ = omega arith in k)

  pub same_answer : {A : Type 0} {a b : A} → ◌≡◌ {A = Outcome E A} (ok a) (ok b) → a ≡ b
  same_answer q = cc

  pub same_fault : {A : Type 0} {e f : E} → ◌≡◌ {A = Outcome E A} (fail e) (fail f) → e ≡ f
  same_fault q = cc

  pub bound : {A B : Type 0} (o : Outcome E A) (f : A → Outcome E B) (b : B) → (o >>= f) ≡ ok b → (a : A) × (o ≡ ok a) × (f a ≡ ok b)
  bound (ok a) f b q = (a, refl, q)
  bound (fail e) f b q = never_ok q

  pub demanded : {B : Type 0} (t : Bool) (e : E) (o : Outcome E B) (b : B) → (require t e >> o) ≡ ok b → (t ≡ true) × (o ≡ ok b)
  demanded true e o b q = (refl, q)
  demanded false e o b q = never_ok q

  pub after : {B : Type 0} (u : Outcome E (Unit {0})) (o : Outcome E B) (b : B) → (u >> o) ≡ ok b → (u ≡ ok tt) × (o ≡ ok b)
  after (ok v) o b q = (refl, q)
  after (fail e) o b q = never_ok q

  -- of an option
  pub some_answer : {A B : Type 0} (o : Option A) (e : E) (f : A → Outcome E B) (b : B) → (or_fail o e >>= f) ≡ ok b → (a : A) × (o ≡ some a) × (f a ≡ ok b)
  some_answer (some a) e f b q = (a, refl, q)
  some_answer none e f b q = never_ok q

-- two at once
module _ {E A B : Type 0} where
  pub both_answer : (o : Outcome (List E) A) (p : Outcome (List E) B) (c : A × B) → both o p ≡ ok c → (o ≡ ok c.0) × (p ≡ ok c.1)
  both_answer (ok a) (ok b) c q = (ap (λ (d : A × B). ok d.0) (same_answer q), ap (λ (d : A × B). ok d.1) (same_answer q))
  both_answer (ok a) (fail es) c q = never_ok q
  both_answer (fail es) (ok b) c q = never_ok q
  both_answer (fail es) (fail fs) c q = never_ok q

  pub both_bound : {C : Type 0} (o : Outcome (List E) A) (p : Outcome (List E) B) (f : A × B → Outcome (List E) C) (c : C) → (both o p >>= f) ≡ ok c
      → (a : A) × (b : B) × (o ≡ ok a) × (p ≡ ok b) × (f (a, b) ≡ ok c)
  both_bound o p f c q =
      let a = bound (both o p) f c q in
      let b = both_answer o p a.0 a.1 in
      (a.0.0, a.0.1, b.0, b.1, a.2)

-- each outcome's answer, with what holds of all answers
pub all_answered : {E A : Type 0} {P : A → Type 0} (os : List (Outcome E A)) (xs : List A) → all_answers os ≡ ok xs → Every P xs → Every (λ o. (a : A) × (o ≡ ok a) × P a) os
unfolding all_answers
all_answered [] xs q h = every_none
all_answered {A = A} {P} (o ∷ os) xs q h =
    let p = bound o _ xs q in
    let r = bound (all_answers os) _ xs p.2 in
    let k = subst (Every P) (sym (same_answer r.2)) h in
    every_more (p.0, p.1, first k) (all_answered os r.0 r.1 (others k))
  where
    first : {x : A} {ys : List A} → Every P (x ∷ ys) → P x
    first (every_more a b) = a

    others : {x : A} {ys : List A} → Every P (x ∷ ys) → Every P ys
    others (every_more a b) = b

pub own_answer : {A : Type 0} (r : ℕ) (o : Result A) (a : A) → own_rule r o ≡ ok a → o ≡ ok a
own_answer r (ok b) a q = ap {B = Result _} ok (same_answer q)
own_answer r (fail n) a q = never_ok q

-- ---- tests
pub true_is_false {ℓ} : {A : Type ℓ} → true ≡ false → A
true_is_false e = absurd (let z : ◌≡◌ {A = ℕ} 0 1 = cc in let k : ⊥ = omega arith in k)
