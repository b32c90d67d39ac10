-- Short lists: what is asked of each of their numbers. Assumes nothing.
use mathlib.Core.Path.{◌≡◌, refl, sym, ap, ap₂, ◌∙◌}
use mathlib.Core.Bool.{Bool, ◌&&◌, and_assoc}
use mathlib.Core.List.{List, [], ◌∷◌, ◌++◌}
use Prim.Native.Nat.{ℕ, zero, suc, ◌-◌}
use native.Mathlib.Omega.{arith}
use lib.Dec.{leb, ltb, leb-zero}
use Rattle.lingua.specs.Errors.{is_error, error_numbers}
use Rattle.lingua.specs.Value.{all_of}
use Rattle.lingua.specs.Rows.{yoke_root}
use Rattle.lingua.specs.References.{all_below}
use Rattle.laws.specs.Classes.{error_is}

pub all_ext : (p q : ℕ → Bool) (xs : List ℕ) → ((x : ℕ) → p x ≡ q x) → all_of p xs ≡ all_of q xs
unfolding all_of
all_ext p q [] h = refl
all_ext p q (x ∷ xs) h = ap₂ (λ (a b : Bool). a && b) (h x) (all_ext p q xs h)

-- ---- from a lowest number on, and below an end
pub below_is : (n : ℕ) (xs : List ℕ) → all_of (λ k. leb 0 k && ltb k n) xs ≡ all_below n xs
below_is n xs = all_ext (λ k. leb 0 k && ltb k n) (λ k. ltb k n) xs (λ k. rw (leb-zero k))

pub errors_is : (xs : List ℕ) → all_of (λ k. leb 1 k && ltb k error_numbers) xs ≡ all_of is_error xs
errors_is xs = all_ext (λ k. leb 1 k && ltb k error_numbers) is_error xs (λ k. sym (error_is k))

-- what is asked of a short list is asked of the definition's
pub within_below : (n : ℕ) {xs ys : List ℕ} {b : Bool} → ys ≡ xs → b ≡ all_of (λ k. leb 0 k && ltb k n) ys → all_below n xs ≡ b
within_below n {xs} {ys} {b} e h = sym (h ∙ below_is n ys ∙ ap (λ (l : List ℕ). all_below n l) e)

pub within_attributes : (xs ys : List ℕ) {b : Bool} → all_below 64 ys ≡ all_below 64 xs → b ≡ all_of (λ k. leb 0 k && ltb k 64) ys → all_below 64 xs ≡ b
within_attributes xs ys {b} e h = sym (h ∙ below_is 64 ys ∙ e)

pub within_errors : {xs ys : List ℕ} {b : Bool} → ys ≡ xs → b ≡ all_of (λ k. leb 1 k && ltb k error_numbers) ys → all_of is_error xs ≡ b
within_errors {xs} {ys} {b} e h = sym (h ∙ errors_is ys ∙ ap (λ (l : List ℕ). all_of is_error l) e)

pub root_more : (y : ℕ) → (y ≡ 0 → ⊥) → (y - 1) ∷ [] ≡ yoke_root y
unfolding yoke_root
root_more zero n0 = absurd (n0 refl)
root_more (suc y) n0 = ap (λ (m : ℕ). m ∷ []) less
  where
    less : suc y - 1 ≡ y
    less = omega arith

pub all_append : (p : ℕ → Bool) (xs ys : List ℕ) → all_of p (xs ++ ys) ≡ (all_of p xs && all_of p ys)
unfolding all_of
all_append p [] ys = refl
all_append p (x ∷ xs) ys = ap (λ (b : Bool). p x && b) (all_append p xs ys) ∙ sym (and_assoc (p x) (all_of p xs) (all_of p ys))
