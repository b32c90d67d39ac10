-- Laws of the tests that the rules are made of: texts that are equal, a property of every number below a
-- bound, and bytes that are all zero. Assumes nothing.
use Rattle.std.specs.Prelude.{◌≡◌, refl, Bool, true, false, List, [], ◌∷◌, ◌⊎◌, ℕ, zero, suc, ◌+◌, ◌≤◌, ◌<◌, eqb, ltb, length, get_or, take}
use Rattle.std.proofs.Common.{sym, ap, ◌∙◌, subst, inl, inr, ⊎_elim, add-one, arith, take_all, get_or-take, length-take-le, ext_get_or, eqb-true, eq-eqb, ltb-true, ltb-false}
use Rattle.lingua.specs.Value.{all_of}
use Rattle.lingua.specs.Compute.{same_text}
use Rattle.lingua.specs.Format.{every_below, all_zero}
use Rattle.laws.specs.Outcomes.{false_is_true, and_left, and_right, and_both}
use Rattle.laws.specs.Equal.{same_text_lem, text_same}

-- ---- tests
pub not_true_false : (t : Bool) → (t ≡ true → ⊥) → t ≡ false
not_true_false true n = absurd (n refl)
not_true_false false n = refl

pub true_not_false : (t : Bool) → t ≡ true → t ≡ false → ⊥
true_not_false t e f = false_is_true (sym f ∙ e)

-- ---- every number below a bound
pub below_or : (k n : ℕ) → (k < n) ⊎ (n ≤ k)
below_or k n = by_test (ltb k n) (ltb-true k n) (ltb-false k n)
  where
    by_test : (t : Bool) → (t ≡ true → k < n) → (t ≡ false → n ≤ k) → (k < n) ⊎ (n ≤ k)
    by_test true l e = inl (l refl)
    by_test false l e = inr (e refl)

pub below_suc : (n k : ℕ) → k < suc n → (k < n) ⊎ (k ≡ n)
below_suc n k h = ⊎_elim (λ (q : k < n). inl q) (λ (q : n ≤ k). inr (let e : k ≡ n = omega arith in e)) (below_or k n)

pub every_at : (n : ℕ) (p : ℕ → Bool) (k : ℕ) → every_below n p ≡ true → k < n → p k ≡ true
unfolding every_below
every_at zero p k e h = absurd (let z : ⊥ = omega arith in z)
every_at (suc n) p k e h =
    ⊎_elim (λ l. every_at n p k (and_left (every_below n p) (p n) e) l)
    (λ q. subst (λ (j : ℕ). p j ≡ true) (sym q) (and_right (every_below n p) (p n) e))
    (below_suc n k h)

pub every_all : (n : ℕ) (p : ℕ → Bool) → ((k : ℕ) → k < n → p k ≡ true) → every_below n p ≡ true
unfolding every_below
every_all zero p h = refl
every_all (suc n) p h =
    and_both (every_below n p) (p n) (every_all n p (λ k l. h k (let q : k < suc n = omega arith in q))) (h n (let q : n < suc n = omega arith in q))

pub every_false : (n : ℕ) (p : ℕ → Bool) (k : ℕ) → p k ≡ false → k < n → every_below n p ≡ false
every_false n p k e h = not_true_false (every_below n p) (λ a. true_not_false (p k) (every_at n p k a h) e)

pub every_more : (n : ℕ) (p : ℕ → Bool) → every_below n p ≡ true → p n ≡ true → every_below (n + 1) p ≡ true
unfolding every_below
every_more n p a e = rw add-one (and_both (every_below n p) (p n) a e)

-- a text that is longer than the bytes, or differs from them at a place, is not what they begin with
pub text_short : (bytes text : List ℕ) → length bytes < length text → same_text (take (length text) bytes) text ≡ false
text_short bytes text h =
    not_true_false (same_text (take (length text) bytes) text)
    (λ e. let l : length bytes ≡ length text = ap length (sym (take_all (length text) bytes (omega arith)) ∙ same_text_lem (take (length text) bytes) text e) in omega arith)

pub text_differs : (bytes text : List ℕ) (k : ℕ) → k < length text → (get_or bytes k 0 ≡ get_or text k 0 → ⊥) → same_text (take (length text) bytes) text ≡ false
text_differs bytes text k h d =
    not_true_false (same_text (take (length text) bytes) text)
    (λ e. d (sym (get_or-take (length text) bytes k 0 h) ∙ ap (λ (l : List ℕ). get_or l k 0) (same_text_lem (take (length text) bytes) text e)))

pub text_agrees : (bytes text : List ℕ) → length text ≤ length bytes → ((k : ℕ) → k < length text → get_or bytes k 0 ≡ get_or text k 0)
    → same_text (take (length text) bytes) text ≡ true
text_agrees bytes text h a =
    let n = length-take-le (length text) bytes h in
    ap (λ (l : List ℕ). same_text l text)
    (ext_get_or 0 (take (length text) bytes) text n (λ i l. get_or-take (length text) bytes i 0 (omega arith) ∙ a i (omega arith)))
    ∙ text_same text

-- ---- bytes that are all zero
pub zero_at : (bytes : List ℕ) (k : ℕ) → all_zero bytes ≡ true → get_or bytes k 0 ≡ 0
unfolding all_zero all_of
zero_at [] k e = refl
zero_at (b ∷ bs) zero e = eqb-true b 0 (and_left (eqb b 0) (all_zero bs) e)
zero_at (b ∷ bs) (suc k) e = zero_at bs k (and_right (eqb b 0) (all_zero bs) e)

pub zero_all : (bytes : List ℕ) → ((k : ℕ) → k < length bytes → get_or bytes k 0 ≡ 0) → all_zero bytes ≡ true
unfolding all_zero all_of
zero_all [] h = refl
zero_all (b ∷ bs) h =
    and_both (eqb b 0) (all_zero bs) (eq-eqb b 0 (h 0 (omega arith))) (zero_all bs (λ k l. h (suc k) (omega arith)))

pub zero_not : (bytes : List ℕ) (k : ℕ) → (get_or bytes k 0 ≡ 0 → ⊥) → all_zero bytes ≡ false
zero_not bytes k d = not_true_false (all_zero bytes) (λ e. d (zero_at bytes k e))
