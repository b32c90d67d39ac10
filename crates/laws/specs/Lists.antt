-- Laws of lists that the laws of cells are made of: padded lists, replicated elements, parts and pastes. Assumes nothing.
use Rattle.std.specs.Prelude.{◌≡◌, refl, ℕ, zero, suc, ◌+◌, ◌-◌, ◌≤◌, take, drop}
use Rattle.std.proofs.Math.Path.{sym, ap}
use Rattle.std.proofs.Common.{◌∙◌, le_of_suc-le-suc, take_at, drop_at, take_all}
use mathlib.Core.List.{List, ◌∷◌, ◌++◌, append_assoc}
use Rattle.std.proofs.Math.Nat.{sub-zero}
use native.Mathlib.Omega.{arith}
use Rattle.std.proofs.Math.ListN.{length, replicate, length-append, length-replicate}
use Rattle.std.proofs.lemmas.List.{replicate-append-replicate}
use Rattle.std.proofs.Math.Seq.{paste}
use Rattle.lingua.specs.Value.{pad}

module _ {A : Type 0} where
  pub length_pad : (n : ℕ) (z : A) (xs : List A) → length xs ≤ n → length (pad n z xs) ≡ n
  unfolding pad
  length_pad n z xs h = omega (arith, length-append xs (replicate (n - length xs) z), length-replicate (n - length xs) z)

  pub drop_replicate : (s n : ℕ) (z : A) → drop s (replicate n z) ≡ replicate (n - s) z
  drop_replicate zero n z = ap (λ (k : ℕ). replicate k z) (sym (sub-zero n))
  drop_replicate (suc s) zero z = ap (λ (k : ℕ). replicate k z) (let e : zero ≡ zero - suc s = omega arith in e)
  drop_replicate (suc s) (suc n) z = drop_replicate s n z ∙ ap (λ (k : ℕ). replicate k z) (let e : n - s ≡ suc n - suc s = omega arith in e)

  pub take_replicate : (s n : ℕ) (z : A) → s ≤ n → take s (replicate n z) ≡ replicate s z
  take_replicate zero n z h = refl
  take_replicate (suc s) zero z h = absurd (let k : ⊥ = omega arith in k)
  take_replicate (suc s) (suc n) z h = ap (λ (l : List A). z ∷ l) (take_replicate s n z (le_of_suc-le-suc h))

  -- a part in the middle, replaced by one that is as long
  pub paste_at : (p x r y : List A) (at n : ℕ) → length p ≡ at → length x ≡ n → length y ≡ n → paste (p ++ (x ++ r)) at y n ≡ p ++ (y ++ r)
  paste_at p x r y at n hp hx hy =
      let l : length (p ++ x) ≡ at + n = omega (arith, length-append p x) in
      ap (λ (t : List A). t ++ take n y ++ drop (at + n) (p ++ (x ++ r))) (take_at p (x ++ r) at hp)
      ∙ ap (λ (t : List A). p ++ t ++ drop (at + n) (p ++ (x ++ r))) (take_all n y (omega arith))
      ∙ ap (λ (t : List A). p ++ y ++ t) (ap (λ (t : List A). drop (at + n) t) (sym (append_assoc p x r)) ∙ drop_at (p ++ x) r (at + n) l)
      ∙ append_assoc p y r

  -- what is filled up, with n of the places that are filled up apart
  pub pad_free : (m n : ℕ) (z : A) (xs : List A) → length xs + n ≤ m → pad m z xs ≡ xs ++ (replicate n z ++ replicate (m - (length xs + n)) z)
  unfolding pad
  pad_free m n z xs h =
      ap (λ (l : List A). xs ++ l)
      (ap (λ (k : ℕ). replicate k z) (let e : m - length xs ≡ n + (m - (length xs + n)) = omega arith in e)
      ∙ sym (replicate-append-replicate n (m - (length xs + n)) z))

  pub pad_append : (m : ℕ) (z : A) (xs ys : List A) → pad m z (xs ++ ys) ≡ xs ++ (ys ++ replicate (m - (length xs + length ys)) z)
  unfolding pad
  pad_append m z xs ys =
      append_assoc xs ys _ ∙ ap (λ (k : ℕ). xs ++ (ys ++ replicate (m - k) z)) (length-append xs ys)

  -- two lists whose first parts are as long as each other are equal part by part
  pub append_left : (a b c d : List A) → length a ≡ length c → a ++ b ≡ c ++ d → a ≡ c
  append_left a b c d l e =
      sym (take_at a b (length a) refl) ∙ ap (λ (x : List A). take (length a) x) e ∙ take_at c d (length a) (sym l)

  pub append_right : (a b c d : List A) → length a ≡ length c → a ++ b ≡ c ++ d → b ≡ d
  append_right a b c d l e =
      sym (drop_at a b (length a) refl) ∙ ap (λ (x : List A). drop (length a) x) e ∙ drop_at c d (length a) (sym l)

  pub head_same : {x y : A} {xs ys : List A} → ◌≡◌ {A = List A} (x ∷ xs) (y ∷ ys) → x ≡ y
  head_same e = cc

  pub tail_same : {x y : A} {xs ys : List A} → ◌≡◌ {A = List A} (x ∷ xs) (y ∷ ys) → xs ≡ ys
  tail_same e = cc
