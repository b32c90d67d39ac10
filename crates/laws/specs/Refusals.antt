-- The first number in order of a list of rules: a rule that applies before all others is the refusal, and where there is none, none applies.
-- The order is that of the ranks; of a rank nothing is used but that it is a number. Assumes nothing.
use Rattle.std.specs.Prelude.{◌≡◌, refl, Bool, true, false, ◌&&◌, List, [], ◌∷◌, ◌++◌, ◌⊎◌, ℕ, ◌≤◌, ◌<◌, eqb, ltb, leb, if◌then◌else◌}
use Rattle.std.proofs.Common.{sym, ap, ◌∙◌, inl, inr, ⊎_elim, arith, eq-eqb, ltb-true, ltb-false, leb-true, lt-ltb}
use Rattle.std.proofs.lemmas.Bool.{eqb-false}
use Rattle.lingua.specs.Errors.{no_error}
use Rattle.lingua.specs.Value.{all_of}
use Rattle.lingua.specs.Refusal.{Rule, rule, rank, lower_of, lowest}
use Rattle.laws.specs.Outcomes.{false_is_true, and_left, and_right}

pub lowest_nil : lowest [] ≡ no_error
unfolding lowest
lowest_nil = refl

-- a rule that does not apply is passed over
pub lowest_skip : (n : ℕ) (t : Bool) (rs : List Rule) → t ≡ false → lowest (rule n t ∷ rs) ≡ lowest rs
unfolding lowest
lowest_skip n true rs e = false_is_true (sym e)
lowest_skip n false rs e = refl

pub lowest_skip_last : (rs : List Rule) (n : ℕ) (t : Bool) → t ≡ false → lowest (rs ++ (rule n t ∷ [])) ≡ lowest rs
unfolding lowest
lowest_skip_last [] n t e = lowest_skip n t [] e
lowest_skip_last (r ∷ rs) n t e = ap (λ (m : ℕ). lower_of r.number r.applies m) (lowest_skip_last rs n t e)

-- n comes before m
abbrev pub before : ℕ → ℕ → Bool
before n m = ltb (rank n) (rank m)

-- every rule of the list comes behind n
abbrev pub all_above : ℕ → List Rule → Bool
all_above n rs = all_of (λ r. before n r.number) rs

-- a number that comes behind n stays so
lower_above : (n m k : ℕ) (t : Bool) → rank n < rank k → (m ≡ 0) ⊎ (rank n < rank m) → (lower_of k t m ≡ 0) ⊎ (rank n < rank (lower_of k t m))
lower_above n m k false h w = w
lower_above n m k true h w = by_zero (eqb m 0)
  where
    by_less : (u : Bool) → (m ≡ 0) ⊎ (rank n < rank m) → ((if u then k else m) ≡ 0) ⊎ (rank n < rank (if u then k else m))
    by_less true w = inr h
    by_less false w = w

    by_zero : (z : Bool) → ((if z then k else (if before k m then k else m)) ≡ 0) ⊎ (rank n < rank (if z then k else (if before k m then k else m)))
    by_zero true = inr h
    by_zero false = by_less (before k m) w

lowest_above : (n : ℕ) (rs : List Rule) → all_above n rs ≡ true → (lowest rs ≡ 0) ⊎ (rank n < rank (lowest rs))
unfolding lowest all_of
lowest_above n [] e = inl refl
lowest_above n (r ∷ rs) e =
    lower_above n (lowest rs) r.number r.applies (ltb-true (rank n) (rank r.number) (and_left (before n r.number) (all_above n rs) e))
    (lowest_above n rs (and_right (before n r.number) (all_above n rs) e))

-- the first rule that applies, with those behind it that come later in order, is the answer
pub lowest_first : (n : ℕ) (t : Bool) (rs : List Rule) → t ≡ true → all_above n rs ≡ true → lowest (rule n t ∷ rs) ≡ n
unfolding lowest
lowest_first n false rs e a = false_is_true e
lowest_first n true rs e a = ⊎_elim (λ z. rw (eq-eqb (lowest rs) 0 z)) (λ l. by_zero (eqb (lowest rs) 0) (lt-ltb (rank n) (rank (lowest rs)) l)) (lowest_above n rs a)
  where
    by_zero : (z : Bool) → before n (lowest rs) ≡ true → (if z then n else (if before n (lowest rs) then n else lowest rs)) ≡ n
    by_zero true l = refl
    by_zero false l = rw l

-- no refusal: the first rule doesn't apply, and there is none behind it
pub lowest_none : (n : ℕ) (t : Bool) (rs : List Rule) → 0 < n → lowest (rule n t ∷ rs) ≡ 0 → (t ≡ false) × (lowest rs ≡ 0)
unfolding lowest
lowest_none n false rs h e = (refl, e)
lowest_none n true rs h e = absurd (by_zero (eqb (lowest rs) 0) (eqb-false (lowest rs) 0) e)
  where
    by_less : (u : Bool) → (lowest rs ≡ 0 → ⊥) → (if u then n else lowest rs) ≡ 0 → ⊥
    by_less true z e = omega (arith, e)
    by_less false z e = z e

    by_zero : (z : Bool) → (z ≡ false → lowest rs ≡ 0 → ⊥) → (if z then n else (if before n (lowest rs) then n else lowest rs)) ≡ 0 → ⊥
    by_zero true z e = omega (arith, e)
    by_zero false z e = by_less (before n (lowest rs)) (z refl) e

-- ---- two lists of rules, one of which comes before the other
-- k is not before n
abbrev up_to : ℕ → ℕ → Bool
up_to n k = leb (rank n) (rank k)

abbrev pub all_up_to : ℕ → List Rule → Bool
all_up_to k rs = all_of (λ r. ltb 0 r.number && up_to r.number k) rs

-- the first list refuses nothing and the second decides, or the first decides
pub data Decides (k : ℕ) (rs ss : List Rule) : Type 0 where
  second : lowest rs ≡ no_error → lowest (rs ++ ss) ≡ lowest ss → Decides k rs ss
  first : 0 < lowest rs → rank (lowest rs) ≤ rank k → lowest (rs ++ ss) ≡ lowest rs → Decides k rs ss

-- the first of a number up to k, and of one that is 0 or behind k
lower_here : (n k m : ℕ) → rank n ≤ rank k → (m ≡ 0) ⊎ (rank k < rank m) → lower_of n true m ≡ n
lower_here n k m h w = by_zero (eqb m 0) (eqb-false m 0) w
  where
    by_less : (u : Bool) → (before n m ≡ u) → rank k < rank m → (if u then n else m) ≡ n
    by_less true e l = refl
    by_less false e l = absurd (let z : ⊥ = omega (arith, ltb-false (rank n) (rank m) e) in z)

    by_zero : (z : Bool) → (z ≡ false → m ≡ 0 → ⊥) → (m ≡ 0) ⊎ (rank k < rank m) → (if z then n else (if before n m then n else m)) ≡ n
    by_zero true z w = refl
    by_zero false z (inl e) = absurd (z refl e)
    by_zero false z (inr l) = by_less (before n m) refl l

lower_between : (n k m : ℕ) → 0 < n → rank n ≤ rank k → 0 < m → rank m ≤ rank k → (0 < lower_of n true m) × (rank (lower_of n true m) ≤ rank k)
lower_between n k m a b d e = by_zero (eqb m 0)
  where
    by_less : (u : Bool) → (0 < (if u then n else m)) × (rank (if u then n else m) ≤ rank k)
    by_less true = (a, b)
    by_less false = (d, e)

    by_zero : (z : Bool) → (0 < (if z then n else (if before n m then n else m))) × (rank (if z then n else (if before n m then n else m)) ≤ rank k)
    by_zero true = (a, b)
    by_zero false = by_less (before n m)

decides_more : (k n : ℕ) (t : Bool) (rs ss : List Rule) → 0 < n → rank n ≤ rank k → (lowest ss ≡ 0) ⊎ (rank k < rank (lowest ss)) → Decides k rs ss → Decides k (rule n t ∷ rs) ss
unfolding lowest
decides_more k n false rs ss p h w (second e d) = second e d
decides_more k n false rs ss p h w (first a b d) = first a b d
decides_more k n true rs ss p h w (second e d) =
    let l : lower_of n true (lowest rs) ≡ n = lower_here n k (lowest rs) h (inl e) in
    first (omega (arith, l)) (rw l h) (ap (λ (m : ℕ). lower_of n true m) d ∙ lower_here n k (lowest ss) h w ∙ sym l)
decides_more k n true rs ss p h w (first a b d) =
    let l = lower_between n k (lowest rs) p h a b in
    first l.0 l.1 (ap (λ (m : ℕ). lower_of n true m) d)

pub decides : (k : ℕ) (rs ss : List Rule) → all_up_to k rs ≡ true → all_above k ss ≡ true → Decides k rs ss
unfolding all_of lowest
decides k [] ss e a = second refl refl
decides k (r ∷ rs) ss e a =
    let here = and_left (ltb 0 r.number && up_to r.number k) (all_up_to k rs) e in
    decides_more k r.number r.applies rs ss (ltb-true 0 r.number (and_left (ltb 0 r.number) (up_to r.number k) here))
    (leb-true (rank r.number) (rank k) (and_right (ltb 0 r.number) (up_to r.number k) here)) (lowest_above k ss a)
    (decides k rs ss (and_right (ltb 0 r.number && up_to r.number k) (all_up_to k rs) e) a)

-- the first list alone decides where it refuses, the second where the first does not, and neither refuses where nothing does
module _ {k : ℕ} {rs ss : List Rule} where
  pub first_decides : Decides k rs ss → (lowest rs ≡ 0 → ⊥) → lowest (rs ++ ss) ≡ lowest rs
  first_decides (second e d) h = absurd (h e)
  first_decides (first a b d) h = d

  pub second_decides : Decides k rs ss → lowest rs ≡ 0 → lowest (rs ++ ss) ≡ lowest ss
  second_decides (second e d) z = d
  second_decides (first a b d) z = absurd (let f : ⊥ = omega (arith, a, z) in f)

  pub neither : Decides k rs ss → lowest (rs ++ ss) ≡ 0 → (lowest rs ≡ 0) × (lowest ss ≡ 0)
  neither (second e d) z = (e, sym d ∙ z)
  neither (first a b d) z = absurd (let f : ⊥ = omega (arith, a, sym d ∙ z) in f)
