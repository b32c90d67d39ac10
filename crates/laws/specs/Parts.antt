-- Parts of lists, and lists that are filled up: what reading and writing a file's parts rests on. Assumes nothing.
use Rattle.std.specs.Prelude.{◌≡◌, refl, ℕ, zero, suc, ◌+◌, ◌-◌, ◌≤◌, ◌<◌, get_or, take, drop, set}
use Rattle.std.proofs.Common.{sym, ◌∙◌, add-one, length-take, length-drop, drop_of_length-le, length-take-le, get_or-take, get_or-drop, take_at, drop_at, drop-drop, take-suc-set}
use Rattle.std.proofs.Math.Path.{ap}
use mathlib.Core.List.{List, [], ◌∷◌, ◌++◌, append_assoc, append-nil}
use Rattle.std.proofs.Math.Nat.{sub-zero}
use native.Mathlib.Omega.{arith}
use Rattle.std.proofs.Math.ListN.{length, replicate}
use Rattle.std.proofs.lemmas.List.{replicate-append-replicate}
use Rattle.std.proofs.Math.Seq.{take-nil, take-length}
use Rattle.lingua.specs.Value.{pad}

module _ {A : Type 0} where
  pub drop_take : (m k : ℕ) (l : List A) → drop m (take k l) ≡ take (k - m) (drop m l)
  drop_take zero k l = ap (λ (n : ℕ). take n l) (sym (sub-zero k))
  drop_take (suc m) zero l = ap (λ (n : ℕ). take n (drop (suc m) l)) (let e : zero ≡ zero - suc m = omega arith in e)
  drop_take (suc m) (suc k) [] = sym (take-nil (suc k - suc m))
  drop_take (suc m) (suc k) (x ∷ l) =
      drop_take m k l ∙ ap (λ (n : ℕ). take n (drop m l)) (let e : k - m ≡ suc k - suc m = omega arith in e)

  -- a list that is filled up to its own length is as it was
  pub pad_whole : (n : ℕ) (z : A) (xs : List A) → length xs ≡ n → pad n z xs ≡ xs
  unfolding pad
  pad_whole n z xs h =
      let e : n - length xs ≡ 0 = omega arith in
      ap (λ (k : ℕ). xs ++ replicate k z) e ∙ append-nil xs

  pub pad_more : (n : ℕ) (z : A) (xs : List A) → length xs ≤ n → pad n z xs ++ (z ∷ []) ≡ pad (n + 1) z xs
  unfolding pad
  pad_more n z xs h =
      let e : n - length xs + 1 ≡ n + 1 - length xs = omega arith in
      append_assoc xs (replicate (n - length xs) z) (z ∷ [])
      ∙ ap (λ (l : List A). xs ++ l) (replicate-append-replicate (n - length xs) 1 z ∙ ap (λ (k : ℕ). replicate k z) e)

  -- one more place of a list is set to what fills up the front
  pub pad_set : (i : ℕ) (z : A) (xs l : List A) → length xs ≤ i → i < length l → take i l ≡ pad i z xs → take (i + 1) (set l i z) ≡ pad (i + 1) z xs
  pad_set i z xs l h k e =
      ap (λ (n : ℕ). take n (set l i z)) (add-one i) ∙ take-suc-set l i z k ∙ ap (λ (p : List A). p ++ (z ∷ [])) e ∙ pad_more i z xs h

  pub length_taken : (n : ℕ) (l : List A) → length (take n l) ≤ n
  length_taken n l = omega (arith, length-take n l)

  -- a part has as many elements as its bounds say
  pub length_part : (l : List A) (a n : ℕ) → a + n ≤ length l → length (take (a + n - a) (drop a l)) ≡ n
  length_part l a n h =
      let e : a + n - a ≡ n = omega arith in
      ap (λ (m : ℕ). length (take m (drop a l))) e ∙ length-take-le n (drop a l) (omega (arith, length-drop a l))

  -- a copy that is as long as what it is written over is all of it
  pub copy_whole : (src dst : List A) → length src ≡ length dst → take (length src) src ++ drop (length src) dst ≡ src
  copy_whole src dst h =
      ap (λ (l : List A). l ++ drop (length src) dst) (take-length src)
      ∙ ap (λ (l : List A). src ++ l) (drop_of_length-le dst (let e : length dst ≤ length src = omega arith in e)) ∙ append-nil src

  -- a list whose front is written up to a, with a part written behind it up to e
  pub put_next : (p xs ys : List A) (a e : ℕ) → length p ≡ a → a ≤ e
      → take a (p ++ drop a xs) ++ (ys ++ drop (e - a) (drop a (p ++ drop a xs))) ≡ (p ++ ys) ++ drop e xs
  put_next p xs ys a e h l =
      let s : a + (e - a) ≡ e = omega arith in
      ap (λ (t : List A). t ++ (ys ++ drop (e - a) (drop a (p ++ drop a xs)))) (take_at p (drop a xs) a h)
      ∙ ap (λ (t : List A). p ++ (ys ++ t))
      (ap (λ (t : List A). drop (e - a) t) (drop_at p (drop a xs) a h) ∙ drop-drop (e - a) a xs ∙ ap (λ (n : ℕ). drop n xs) s)
      ∙ sym (append_assoc p ys (drop e xs))

  -- what is copied to the front of a list is its front, with nothing filled up
  pub pad_front : (z : A) (xs l r : List A) → r ≡ take (length xs) xs ++ drop (length xs) l → take (length xs) r ≡ pad (length xs) z xs
  pad_front z xs l r e =
      ap (λ (t : List A). take (length xs) t) (e ∙ ap (λ (t : List A). t ++ drop (length xs) l) (take-length xs))
      ∙ take_at xs (drop (length xs) l) (length xs) refl ∙ sym (pad_whole (length xs) z xs refl)

-- four stores behind a front, in a list that has room for just these
pub store_four : (p q : List ℕ) (a b c d : ℕ) → length q ≡ 4
    → set (set (set (set (p ++ q) (length p) a) (suc (length p)) b) (suc (suc (length p))) c) (suc (suc (suc (length p)))) d ≡ p ++ (a ∷ b ∷ c ∷ d ∷ [])
store_four [] [] a b c d h = absurd (let k : ⊥ = omega (arith, h) in k)
store_four [] (x ∷ []) a b c d h = absurd (let k : ⊥ = omega (arith, h) in k)
store_four [] (x ∷ y ∷ []) a b c d h = absurd (let k : ⊥ = omega (arith, h) in k)
store_four [] (x ∷ y ∷ z ∷ []) a b c d h = absurd (let k : ⊥ = omega (arith, h) in k)
store_four [] (x ∷ y ∷ z ∷ w ∷ []) a b c d h = refl
store_four [] (x ∷ y ∷ z ∷ w ∷ v ∷ r) a b c d h = absurd (let k : ⊥ = omega (arith, h) in k)
store_four (x ∷ p) q a b c d h = ap (λ (l : List ℕ). x ∷ l) (store_four p q a b c d h)

pub store_four_at : (n : ℕ) (p q : List ℕ) (a b c d : ℕ) → length p ≡ n → length q ≡ 4
    → set (set (set (set (p ++ q) n a) (suc n) b) (suc (suc n)) c) (suc (suc (suc n))) d ≡ p ++ (a ∷ b ∷ c ∷ d ∷ [])
store_four_at n p q a b c d e h =
    ap (λ (m : ℕ). set (set (set (set (p ++ q) m a) (suc m) b) (suc (suc m)) c) (suc (suc (suc m))) d) (sym e) ∙ store_four p q a b c d h

-- ---- element by element: past its end a list of numbers reads as zero, and so do the zeros that fill it up
zeros_get : (n i : ℕ) → ◌≡◌ {A = ℕ} (get_or (replicate n 0) i 0) 0
zeros_get zero i = refl
zeros_get (suc n) zero = refl
zeros_get (suc n) (suc i) = zeros_get n i

append_zeros_get : (xs : List ℕ) (n i : ℕ) → get_or (xs ++ replicate n 0) i 0 ≡ get_or xs i 0
append_zeros_get [] n i = zeros_get n i
append_zeros_get (x ∷ xs) n zero = refl
append_zeros_get (x ∷ xs) n (suc i) = append_zeros_get xs n i

pub pad_get : (n : ℕ) (xs : List ℕ) (i : ℕ) → get_or (pad n 0 xs) i 0 ≡ get_or xs i 0
unfolding pad
pad_get n xs i = append_zeros_get xs (n - length xs) i

pub part_get : (a n : ℕ) (xs : List ℕ) (i : ℕ) → i < n → get_or (take n (drop a xs)) i 0 ≡ get_or xs (a + i) 0
part_get a n xs i h = get_or-take n (drop a xs) i 0 h ∙ get_or-drop a xs i 0
