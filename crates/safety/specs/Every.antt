-- Lists all of whose elements have a property (`Every` of laws, passed on here): of parts joined, mapped, tabulated, and of tests that hold
-- everywhere; and what stands where in a table. Assumes nothing.
use Rattle.std.specs.Prelude.{◌≡◌, refl, Bool, true, ℕ, zero, suc, ◌+◌, ◌≤◌, ◌<◌, length, get_or}
use Rattle.std.proofs.Common.{sym, ap, ◌∙◌, subst, arith}
use mathlib.Core.List.{List, [], ◌∷◌, ◌++◌, map, Memᴰ}
use Rattle.lingua.specs.Value.{all_of}
use Rattle.lingua.specs.Typing.{joined}
use Rattle.lingua.specs.Trees.{tabulate_from, tabulate}
use Rattle.lingua.specs.Format.{every_below}
use Rattle.laws.specs.Outcomes.{and_left, and_right}
use Rattle.laws.specs.Tests.{every_at as below_at}
pub use Rattle.laws.specs.Every.{Every, every_none, every_more, every_implies}

module _ {A : Type 0} {P : A → Type 0} where
  pub every_append : {xs ys : List A} → Every P xs → Every P ys → Every P (xs ++ ys)
  every_append every_none q = q
  every_append (every_more h p) q = every_more h (every_append p q)

  pub every_left : (xs ys : List A) → Every P (xs ++ ys) → Every P xs
  every_left [] ys p = every_none
  every_left (x ∷ xs) ys (every_more h p) = every_more h (every_left xs ys p)

  pub every_right : (xs ys : List A) → Every P (xs ++ ys) → Every P ys
  every_right [] ys p = p
  every_right (x ∷ xs) ys (every_more h p) = every_right xs ys p

  pub every_at : {x : A} {xs : List A} → Every P xs → Memᴰ x xs → P x
  every_at every_none m = elim m [ ]
  every_at (every_more h p) (Memᴰ.head e) = subst P (sym e) h
  every_at (every_more h p) (Memᴰ.tail m) = every_at p m

  pub every_all : ((x : A) → P x) → (xs : List A) → Every P xs
  every_all h [] = every_none
  every_all h (x ∷ xs) = every_more (h x) (every_all h xs)

  pub every_one : {x : A} → P x → Every P (x ∷ [])
  every_one h = every_more h every_none

pub every_map : {A B : Type 0} {P : A → Type 0} {Q : B → Type 0} (f : A → B) → ((x : A) → P x → Q (f x)) → {xs : List A} → Every P xs → Every Q (map f xs)
every_map f h every_none = every_none
every_map f h (every_more {x} p ps) = every_more (h x p) (every_map f h ps)

pub every_unmap : {A B : Type 0} {Q : B → Type 0} (f : A → B) (xs : List A) → Every Q (map f xs) → Every (λ x. Q (f x)) xs
every_unmap f [] p = every_none
every_unmap f (x ∷ xs) (every_more h p) = every_more h (every_unmap f xs p)

-- every element is among the elements
pub every_member : {A : Type 0} (xs : List A) → Every (λ x. Memᴰ x xs) xs
every_member [] = every_none
every_member (x ∷ xs) = every_more (Memᴰ.head refl) (every_implies (λ y m. Memᴰ.tail m) (every_member xs))

-- all the parts' elements
pub every_joined : {A : Type 0} {P : A → Type 0} {xss : List (List A)} → Every (λ xs. Every P xs) xss → Every P (joined xss)
unfolding joined
every_joined every_none = every_none
every_joined (every_more p ps) = every_append p (every_joined ps)

pub every_joined_part : {A : Type 0} {P : A → Type 0} (xss : List (List A)) → Every P (joined xss) → Every (λ xs. Every P xs) xss
unfolding joined
every_joined_part [] p = every_none
every_joined_part (xs ∷ xss) p = every_more (every_left xs (joined xss) p) (every_joined_part xss (every_right xs (joined xss) p))

-- f at i, i + 1 and so on
tabulated_from : {A : Type 0} {P : A → Type 0} (f : ℕ → A) (i n : ℕ) → Every P (tabulate_from i n f) → (k : ℕ) → k < n → P (f (i + k))
unfolding tabulate_from
tabulated_from {P = P} f i (suc n) (every_more h p) zero l = subst (λ (j : ℕ). P (f j)) (let e : i ≡ i + zero = omega arith in e) h
tabulated_from {P = P} f i (suc n) (every_more h p) (suc k) l =
    subst (λ (j : ℕ). P (f j)) (let e : suc i + k ≡ i + suc k = omega arith in e) (tabulated_from f (suc i) n p k (omega arith))
tabulated_from f i zero p k l = absurd (let z : ⊥ = omega arith in z)

pub tabulated : {A : Type 0} {P : A → Type 0} (n : ℕ) (f : ℕ → A) → Every P (tabulate n f) → (k : ℕ) → k < n → P (f k)
unfolding tabulate
tabulated {P = P} n f p k l = subst (λ (j : ℕ). P (f j)) (let e : 0 + k ≡ k = omega arith in e) (tabulated_from f 0 n p k l)

tabulate_from_lem : {A : Type 0} {P : A → Type 0} (f : ℕ → A) (i n : ℕ) → ((k : ℕ) → k < i + n → P (f k)) → Every P (tabulate_from i n f)
unfolding tabulate_from
tabulate_from_lem f i zero h = every_none
tabulate_from_lem f i (suc n) h = every_more (h i (omega arith)) (tabulate_from_lem f (suc i) n (λ k l. h k (omega arith)))

pub every_tabulate : {A : Type 0} {P : A → Type 0} (n : ℕ) (f : ℕ → A) → ((k : ℕ) → k < n → P (f k)) → Every P (tabulate n f)
unfolding tabulate
every_tabulate n f h = tabulate_from_lem f 0 n (λ k l. h k (omega arith))

-- element k, where there are so many, and else what stands for it
pub every_get_d : {A : Type 0} {P : A → Type 0} {xs : List A} {d : A} → Every P xs → P d → (k : ℕ) → P (get_or xs k d)
every_get_d every_none h k = h
every_get_d (every_more p ps) h zero = p
every_get_d (every_more p ps) h (suc k) = every_get_d ps h k

at_from : {A : Type 0} (f : ℕ → A) (i n k : ℕ) (d : A) → k < n → get_or (tabulate_from i n f) k d ≡ f (i + k)
unfolding tabulate_from
at_from f i zero k d l = absurd (let z : ⊥ = omega arith in z)
at_from f i (suc n) zero d l = ap f (let e : i ≡ i + zero = omega arith in e)
at_from f i (suc n) (suc k) d l = at_from f (suc i) n k d (omega arith) ∙ ap f (let e : suc i + k ≡ i + suc k = omega arith in e)

pub tabulate_at : {A : Type 0} (n : ℕ) (f : ℕ → A) (k : ℕ) (d : A) → k < n → get_or (tabulate n f) k d ≡ f k
unfolding tabulate
tabulate_at n f k d l = at_from f 0 n k d l ∙ ap f (let e : 0 + k ≡ k = omega arith in e)

behind_from : {A : Type 0} (f : ℕ → A) (i n k : ℕ) (d : A) → n ≤ k → get_or (tabulate_from i n f) k d ≡ d
unfolding tabulate_from
behind_from f i zero k d l = refl
behind_from f i (suc n) zero d l = absurd (let z : ⊥ = omega arith in z)
behind_from f i (suc n) (suc k) d l = behind_from f (suc i) n k d (omega arith)

pub tabulate_behind : {A : Type 0} (n : ℕ) (f : ℕ → A) (k : ℕ) (d : A) → n ≤ k → get_or (tabulate n f) k d ≡ d
unfolding tabulate
tabulate_behind n f k d l = behind_from f 0 n k d l

mapped_from : {A B : Type 0} (h : A → B) (f : ℕ → A) (i n k : ℕ) (d : B) → k < n → get_or (map h (tabulate_from i n f)) k d ≡ h (f (i + k))
unfolding tabulate_from
mapped_from h f i zero k d l = absurd (let z : ⊥ = omega arith in z)
mapped_from h f i (suc n) zero d l = ap (λ (j : ℕ). h (f j)) (let e : i ≡ i + zero = omega arith in e)
mapped_from h f i (suc n) (suc k) d l =
    mapped_from h f (suc i) n k d (omega arith) ∙ ap (λ (j : ℕ). h (f j)) (let e : suc i + k ≡ i + suc k = omega arith in e)

pub mapped_at : {A B : Type 0} (h : A → B) (n : ℕ) (f : ℕ → A) (k : ℕ) (d : B) → k < n → get_or (map h (tabulate n f)) k d ≡ h (f k)
unfolding tabulate
mapped_at h n f k d l = mapped_from h f 0 n k d l ∙ ap (λ (j : ℕ). h (f j)) (let e : 0 + k ≡ k = omega arith in e)

length_from : {A : Type 0} (f : ℕ → A) (i n : ℕ) → length (tabulate_from i n f) ≡ n
unfolding tabulate_from
length_from f i zero = refl
length_from f i (suc n) = ap suc (length_from f (suc i) n)

pub length_tabulate : {A : Type 0} (n : ℕ) (f : ℕ → A) → length (tabulate n f) ≡ n
unfolding tabulate
length_tabulate n f = length_from f 0 n

-- ---- tests
pub all_true_lem : {A : Type 0} (p : A → Bool) (xs : List A) → all_of p xs ≡ true → Every (λ x. p x ≡ true) xs
unfolding all_of
all_true_lem p [] e = every_none
all_true_lem p (x ∷ xs) e = every_more (and_left (p x) (all_of p xs) e) (all_true_lem p xs (and_right (p x) (all_of p xs) e))

pub below_true : (n : ℕ) (p : ℕ → Bool) → every_below n p ≡ true → (k : ℕ) → k < n → p k ≡ true
below_true n p e k l = below_at n p k e l
