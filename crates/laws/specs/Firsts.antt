-- The first number below a bound that has a property (`first_below`, 1 more than it, and 0 where there is none): what holds it, and that no
-- other is nearer. Assumes nothing.
use Rattle.std.specs.Prelude.{◌≡◌, ◌⊎◌, Bool}
use Rattle.std.proofs.Math.Path.{refl, subst}
use Rattle.std.proofs.Common.{sym, ap₂, ◌∙◌, inl, inr}
use Rattle.std.proofs.Math.Bool.{true, false}
use Prim.Native.Nat.{ℕ, zero, suc, ◌≤◌, ◌<◌}
use native.Mathlib.Omega.{arith}
use Rattle.lingua.specs.Trees.{else_at, first_below}
use Rattle.laws.specs.Outcomes.{false_is_true}
use Rattle.laws.specs.Tests.{below_suc}

-- v is no further than w, where 0 is out of reach
pub record Near (v w : ℕ) : Type 0 where
  pub near : 1 ≤ w → (1 ≤ v) × (v ≤ w)

pub near_same : (v : ℕ) → Near v v
near_same v = record { near = λ l. (l, omega arith) }

pub near_trans : {u v w : ℕ} → Near u v → Near v w → Near u w
near_trans h k = record { near = λ l. let a = k.near l in let b = h.near a.0 in (b.0, omega arith) }

module _ (p : ℕ → Bool) where
  pub first_held : (n k : ℕ) → first_below n p ≡ suc k → (k < n) × (p k ≡ true)
  unfolding first_below
  first_held zero k e = absurd (let z : ⊥ = omega arith in z)
  first_held (suc n) k e = go (first_below n p) (p n) refl e (λ j q. first_held n j q)
    where
      go : (v : ℕ) (t : Bool) → p n ≡ t → else_at v t n ≡ suc k → ((j : ℕ) → v ≡ suc j → (j < n) × (p j ≡ true)) → (k < suc n) × (p k ≡ true)
      go zero true q e ih = let same : n ≡ k = omega arith in (omega arith, subst (λ (j : ℕ). p j ≡ true) same q)
      go zero false q e ih = absurd (let z : ⊥ = omega arith in z)
      go (suc v) t q e ih = let r = ih k e in (omega arith, r.1)

  pub first_near : (n k : ℕ) → k < n → p k ≡ true → Near (first_below n p) (suc k)
  unfolding first_below
  first_near zero k l e = absurd (let z : ⊥ = omega arith in z)
  first_near (suc n) k l e = go (first_below n p) (p n) refl (λ m. first_near n k m e) (below_suc n k l) (λ m. first_held n m)
    where
      go : (v : ℕ) (t : Bool) → p n ≡ t → (k < n → Near v (suc k)) → (k < n) ⊎ (k ≡ n) → ((j : ℕ) → v ≡ suc j → (j < n) × (p j ≡ true)) → Near (else_at v t n) (suc k)
      go zero t q ih (inl m) b = absurd (let r = (ih m).near (omega arith) in let z : ⊥ = omega arith in z)
      go zero true q ih (inr m) b = record { near = λ o. (omega arith, omega arith) }
      go zero false q ih (inr m) b = false_is_true (sym q ∙ subst (λ (j : ℕ). p j ≡ true) m e)
      go (suc v) t q ih (inl m) b = ih m
      go (suc v) t q ih (inr m) b = record { near = λ o. (omega arith, let r = b v refl in omega arith) }

  -- what is held by a number below the bound, and no further than any that has the property, is the first
  pub first_is : (n v : ℕ) → ((k : ℕ) → v ≡ suc k → (k < n) × (p k ≡ true)) → ((k : ℕ) → k < n → p k ≡ true → Near v (suc k)) → v ≡ first_below n p
  first_is n v h near = go v (first_below n p) h near (first_held n) (first_near n)
    where
      go : (v w : ℕ) → ((k : ℕ) → v ≡ suc k → (k < n) × (p k ≡ true)) → ((k : ℕ) → k < n → p k ≡ true → Near v (suc k))
          → ((k : ℕ) → w ≡ suc k → (k < n) × (p k ≡ true)) → ((k : ℕ) → k < n → p k ≡ true → Near w (suc k)) → v ≡ w
      go zero zero a b d e = refl
      go zero (suc w) a b d e = let r = d w refl in absurd (let s = (b w r.0 r.1).near (omega arith) in let z : ⊥ = omega arith in z)
      go (suc v) zero a b d e = let r = a v refl in absurd (let s = (e v r.0 r.1).near (omega arith) in let z : ⊥ = omega arith in z)
      go (suc v) (suc w) a b d e =
          let q = a v refl in
          let r = d w refl in
          let s = (b w r.0 r.1).near (omega arith) in
          let t = (e v q.0 q.1).near (omega arith) in
          omega arith

  pub first_at_most : (n : ℕ) → first_below n p ≤ n
  first_at_most n = go (first_below n p) (first_held n)
    where
      go : (v : ℕ) → ((k : ℕ) → v ≡ suc k → (k < n) × (p k ≡ true)) → v ≤ n
      go zero h = omega arith
      go (suc v) h = (h v refl).0

  pub first_only : (n k : ℕ) → k < n → p k ≡ true → ((j : ℕ) → j < n → p j ≡ true → j ≡ k) → first_below n p ≡ suc k
  first_only n k l e h =
      sym (first_is n (suc k) (λ j q. let same : k ≡ j = omega arith in subst (λ (i : ℕ). (i < n) × (p i ≡ true)) same (l, e))
      (λ j m q. let same = h j m q in record { near = λ o. (omega arith, omega arith) }))

  pub first_no : (n : ℕ) → ((j : ℕ) → j < n → p j ≡ true → ⊥) → first_below n p ≡ 0
  first_no n h = sym (first_is n 0 (λ j q. absurd (let z : ⊥ = omega arith in z)) (λ j m q. absurd (h j m q)))

pub first_same : (n : ℕ) (p q : ℕ → Bool) → ((k : ℕ) → k < n → p k ≡ q k) → first_below n p ≡ first_below n q
unfolding first_below
first_same zero p q h = refl
first_same (suc n) p q h = ap₂ (λ (v : ℕ) (t : Bool). else_at v t n) (first_same n p q (λ k l. h k (omega arith))) (h n (omega arith))
