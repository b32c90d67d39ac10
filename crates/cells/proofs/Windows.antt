-- Parts of a list and pastes into it, as seen from its first elements. Assumes nothing.
use mathlib.Core.Path.{◌≡◌, sym, ap, ap₂, ◌∙◌}
use mathlib.Core.List.{List, [], ◌∷◌, ◌++◌}
use Prim.Native.Nat.{ℕ, zero, suc, ◌+◌, ◌-◌, ◌≤◌}
use native.Mathlib.Nat.{sub-zero}
use native.Mathlib.Omega.{arith}
use lib.ListN.{length, take, drop, length-drop}
use lib.Seq.{take-nil, take-take, take_at, drop_at, take-append-add, drop-drop, length-take-le, take-append-le, paste, length-paste, length_paste_head, take-paste, drop-paste}

module _ {A : Type 0} where
  pub drop_take : (at m : ℕ) (l : List A) → drop at (take m l) ≡ take (m - at) (drop at l)
  drop_take zero m l = ap (λ (k : ℕ). take k l) (sym (sub-zero m))
  drop_take (suc at) zero l = ap (λ (k : ℕ). take k (drop (suc at) l)) (let e : zero ≡ zero - suc at = omega arith in e)
  drop_take (suc at) (suc m) [] = sym (take-nil (suc m - suc at))
  drop_take (suc at) (suc m) (x ∷ xs) = drop_take at m xs ∙ ap (λ (k : ℕ). take k (drop at xs)) (let e : m - at ≡ suc m - suc at = omega arith in e)

  -- a part of the first m elements is the same part of the whole
  pub take_part : (l : List A) (at n m : ℕ) → at + n ≤ m → take n (drop at (take m l)) ≡ take n (drop at l)
  take_part l at n m h = ap (λ (r : List A). take n r) (drop_take at m l) ∙ take-take n (m - at) (drop at l) (omega arith)

  -- a paste among the first m elements
  pub paste_part : (d : List A) (at : ℕ) (s : List A) (n m : ℕ) → at + n ≤ m → m ≤ length d → n ≤ length s → take m (paste d at s n) ≡ paste (take m d) at s n
  paste_part d at s n m h p q =
      let P = take at d ++ take n s in
      let e : m ≡ length P + (m - (at + n)) = omega (arith, length_paste_head d at s n (omega arith) q) in
      ap (λ (k : ℕ). take k (P ++ drop (at + n) d)) e
      ∙ take-append-add P (drop (at + n) d) (m - (at + n))
      ∙ ap (λ (r : List A). P ++ r) (sym (drop_take (at + n) m d))
      ∙ ap (λ (r : List A). r ++ take n s ++ drop (at + n) (take m d)) (sym (take-take at m d (omega arith)))

  -- what is pasted at the front
  pub paste_front : (d s : List A) (n : ℕ) → n ≤ length s → take n (paste d 0 s n) ≡ take n s
  paste_front d s n q = take_at (take n s) (drop (0 + n) d) n (length-take-le n s q)

  -- what lies behind a paste stays
  pub paste_behind : (d : List A) (at : ℕ) (s : List A) (n k : ℕ) → at ≤ length d → n ≤ length s → at + n ≤ k → drop k (paste d at s n) ≡ drop k d
  paste_behind d at s n k p q h =
      ap (λ (j : ℕ). drop j (paste d at s n)) (let e : k ≡ (at + n) + (k - (at + n)) = omega arith in e)
      ∙ sym (drop-drop (k - (at + n)) (at + n) (paste d at s n))
      ∙ ap (λ (l : List A). drop (k - (at + n)) l) (drop-paste d at s n p q)
      ∙ drop-drop (k - (at + n)) (at + n) d
      ∙ ap (λ (j : ℕ). drop j d) (let e : (at + n) + (k - (at + n)) ≡ k = omega arith in e)

  -- the elements behind the n from at on moved down to them: a removal among the first m
  pub remove_part : (d : List A) (at n m : ℕ) → at + n ≤ m → m ≤ length d
      → take (m - n) (paste d at (drop (at + n) d) (m - (at + n))) ≡ take at (take m d) ++ drop (at + n) (take m d)
  remove_part d at n m h c =
      let s = drop (at + n) d in
      let k = m - (at + n) in
      ap (λ (j : ℕ). take j (paste d at s k)) (let e : m - n ≡ at + k = omega arith in e)
      ∙ take-paste d at s k (omega arith) (omega (arith, length-drop (at + n) d))
      ∙ ap₂ (λ (x y : List A). x ++ y) (sym (take-take at m d (omega arith))) (sym (drop_take (at + n) m d))

  -- the elements from at on moved up by n, and n others in between: an insertion among the first m
  pub insert_part : (d : List A) (at n m k : ℕ) → at ≤ m → m + n ≤ k → k + n ≤ length d
      → (moved : List A) → moved ≡ paste d (at + n) (drop at d) (m - at)
      → take (m + n) (paste moved at (drop k moved) n) ≡ take at (take m d) ++ take n (drop k d) ++ drop at (take m d)
  insert_part d at n m k a b c moved e =
      let s = drop at d in
      let ls : m - at ≤ length s = omega (arith, length-drop at d) in
      let Y = drop k moved in
      let tail : drop k moved ≡ drop k d = ap (λ (l : List A). drop k l) e ∙ paste_behind d (at + n) s (m - at) k (omega arith) ls (omega arith) in
      let head : take (m + n) moved ≡ take (at + n) d ++ take (m - at) s =
      ap (λ (l : List A). take (m + n) l) e
      ∙ ap (λ (j : ℕ). take j (paste d (at + n) s (m - at))) (let q : m + n ≡ at + n + (m - at) = omega arith in q)
      ∙ take-paste d (at + n) s (m - at) (omega arith) ls in
      let lm : length moved ≡ length d = ap length e ∙ length-paste d (at + n) s (m - at) (omega arith) ls in
      let front : take at (take (at + n) d ++ take (m - at) s) ≡ take at (take m d) =
      take-append-le at (take (at + n) d) (take (m - at) s) (omega (arith, length-take-le (at + n) d (omega arith)))
      ∙ take-take at (at + n) d (omega arith)
      ∙ sym (take-take at m d a) in
      paste_part moved at Y n (m + n) (omega arith) (omega (arith, lm)) (omega (arith, length-drop k moved, lm))
      ∙ ap (λ (l : List A). take at l ++ take n Y ++ drop (at + n) l) head
      ∙ ap (λ (l : List A). l ++ take n Y ++ drop (at + n) (take (at + n) d ++ take (m - at) s)) front
      ∙ ap (λ (l : List A). take at (take m d) ++ take n l ++ drop (at + n) (take (at + n) d ++ take (m - at) s)) tail
      ∙ ap (λ (l : List A). take at (take m d) ++ take n (drop k d) ++ l) (drop_at (take (at + n) d) (take (m - at) s) (at + n) (length-take-le (at + n) d (omega arith)) ∙ sym (drop_take at m d))
