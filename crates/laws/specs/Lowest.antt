-- The first number in order of two lists of rules together: the earlier of the two lists' own. Assumes nothing.
use Rattle.std.specs.Prelude.{◌≡◌, refl, Bool, true, false, List, [], ◌∷◌, ◌++◌, ℕ, zero, suc, ◌<◌, ltb, if◌then◌else◌}
use Rattle.std.proofs.Common.{sym, ap, ◌∙◌, arith, ltb-true, ltb-false, lt-ltb, le-ltb}
use Rattle.std.proofs.Math.Dec.{eqb-suc-zero}
use Rattle.lingua.specs.Value.{all_of}
use Rattle.lingua.specs.Refusal.{Rule, rank, lower_of, lowest}
use Rattle.laws.specs.Outcomes.{and_left, and_right}
use Rattle.laws.specs.Refusals.{before, all_above}

-- the earlier of two refusals, where 0 is none
unfoldable pub lesser : ℕ → ℕ → ℕ
lesser zero m = m
lesser (suc n) zero = suc n
lesser (suc n) (suc m) = if before (suc n) (suc m) then suc n else suc m

lower_suc : (n m : ℕ) → lower_of (suc n) true m ≡ lesser (suc n) m
unfolding lesser
lower_suc n zero = refl
lower_suc n (suc m) = rw eqb-suc-zero

-- lesser takes the first of three in either order of grouping
lesser_assoc : (a b c : ℕ) → lesser (lesser a b) c ≡ lesser a (lesser b c)
unfolding lesser
lesser_assoc zero b c = refl
lesser_assoc (suc a) zero c = refl
lesser_assoc (suc a) (suc b) zero = by (before (suc a) (suc b))
  where
    by : (t : Bool) → lesser (if t then suc a else suc b) zero ≡ (if t then suc a else suc b)
    by true = refl
    by false = refl
lesser_assoc (suc a) (suc b) (suc c) = by (before (suc a) (suc b)) refl (before (suc b) (suc c)) refl
  where
    x : ℕ
    x = rank (suc a)

    y : ℕ
    y = rank (suc b)

    z : ℕ
    z = rank (suc c)

    by : (t : Bool) → ltb x y ≡ t → (u : Bool) → ltb y z ≡ u → lesser (if t then suc a else suc b) (suc c) ≡ lesser (suc a) (if u then suc b else suc c)
    by true e true f = rw (e, lt-ltb x z (omega (arith, ltb-true x y e, ltb-true y z f)))
    by true e false f = refl
    by false e true f = rw (e, f)
    by false e false f = rw (f, le-ltb x z (omega (arith, ltb-false x y e, ltb-false y z f)))

lowest_cons : (r : Rule) (rs : List Rule) → 0 < r.number → lowest (r ∷ rs) ≡ lesser (if r.applies then r.number else 0) (lowest rs)
unfolding lowest lesser
lowest_cons r rs h = by r.number r.applies h
  where
    by : (n : ℕ) (t : Bool) → 0 < n → lower_of n t (lowest rs) ≡ lesser (if t then n else 0) (lowest rs)
    by zero t h = absurd (let z : ⊥ = omega arith in z)
    by (suc n) true h = lower_suc n (lowest rs)
    by (suc n) false h = refl

not_none : (n : ℕ) → before 0 n ≡ true → 0 < n
not_none zero e = let h = ltb-true (rank 0) (rank 0) e in absurd (let z : ⊥ = omega arith in z)
not_none (suc n) e = omega arith

-- rules have numbers from 1 on
pub lowest_append : (rs ss : List Rule) → all_above 0 rs ≡ true → lowest (rs ++ ss) ≡ lesser (lowest rs) (lowest ss)
unfolding lowest lesser all_of
lowest_append [] ss h = refl
lowest_append (r ∷ rs) ss h =
    let p : 0 < r.number = not_none r.number (and_left (before 0 r.number) (all_above 0 rs) h) in
    lowest_cons r (rs ++ ss) p
    ∙ ap (λ (m : ℕ). lesser (if r.applies then r.number else 0) m) (lowest_append rs ss (and_right (before 0 r.number) (all_above 0 rs) h))
    ∙ sym (lesser_assoc (if r.applies then r.number else 0) (lowest rs) (lowest ss))
    ∙ ap (λ (m : ℕ). lesser m (lowest ss)) (sym (lowest_cons r rs p))

pub lesser_none : (n : ℕ) → lesser n 0 ≡ n
unfolding lesser
lesser_none zero = refl
lesser_none (suc n) = refl
