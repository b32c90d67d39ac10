-- Copies between lists, and lists with zeros after them. Assumes nothing.
use mathlib.Core.Path.{◌≡◌, refl, sym, ap, ◌∙◌}
use mathlib.Core.List.{List, [], ◌∷◌, ◌++◌, append_assoc}
use Prim.Native.Nat.{ℕ, zero, suc, ◌+◌, ◌-◌, ◌≤◌, ◌<◌}
use native.Mathlib.Numerals.{add-one}
use native.Mathlib.Omega.{arith}
use lib.ListN.{length, take, drop, set, get_or, replicate, length-drop, length-append, length-replicate, replicate-append-replicate}
use lib.Seq.{get_or-drop, take_at, drop_at, drop-append-add, set_at, append_snoc, length-take-le, paste, paste-suc}
use Rattle.lingua.specs.Value.{pad}

-- a turn of a copy
pub paste_more : (d : List ℕ) (at : ℕ) (s : List ℕ) (from j : ℕ) → at + j < length d → from + j < length s
    → set (paste d at (drop from s) j) (at + j) (get_or s (from + j) 0) ≡ paste d at (drop from s) (j + 1)
paste_more d at s from j p q =
    ap (λ (v : ℕ). set (paste d at (drop from s) j) (at + j) v) (sym (get_or-drop from s j 0))
    ∙ paste-suc d at (drop from s) j 0 p (omega (arith, length-drop from s))
    ∙ ap (λ (n : ℕ). paste d at (drop from s) n) (sym (add-one j))

-- ---- zeros after a list
pub length_pad : (n : ℕ) (xs : List ℕ) → length xs ≤ n → length (pad n 0 xs) ≡ n
unfolding pad
length_pad n xs h =
    omega (arith, length-append xs (replicate (n - length xs) 0), length-replicate {A = ℕ} (n - length xs) 0)

pub pad_split : (n k : ℕ) (xs : List ℕ) → length xs ≤ k → k ≤ n → pad n 0 xs ≡ pad k 0 xs ++ replicate (n - k) 0
unfolding pad
pad_split n k xs h l =
    let e : n - length xs ≡ k - length xs + (n - k) = omega arith in
    ap (λ (j : ℕ). xs ++ replicate j 0) e
    ∙ ap (λ (r : List ℕ). xs ++ r) (sym (replicate-append-replicate {A = ℕ} (k - length xs) (n - k) 0))
    ∙ sym (append_assoc xs (replicate (k - length xs) 0) (replicate (n - k) 0))

pub take_pad : (n k : ℕ) (xs : List ℕ) → length xs ≤ k → k ≤ n → take k (pad n 0 xs) ≡ pad k 0 xs
take_pad n k xs h l =
    ap (λ (r : List ℕ). take k r) (pad_split n k xs h l) ∙ take_at (pad k 0 xs) (replicate (n - k) 0) k (length_pad k xs h)

pub pad_pad : (n k : ℕ) (xs : List ℕ) → length xs ≤ k → k ≤ n → pad n 0 (pad k 0 xs) ≡ pad n 0 xs
unfolding pad
pad_pad n k xs h l =
    let e : n - length (pad k 0 xs) ≡ n - k = omega (arith, length_pad k xs h) in
    ap (λ (j : ℕ). pad k 0 xs ++ replicate j 0) e ∙ sym (pad_split n k xs h l)

-- zeros that are there already
pub pad_zeros : (n : ℕ) (xs : List ℕ) (j : ℕ) → length xs + j ≤ n → pad n 0 (xs ++ replicate j 0) ≡ pad n 0 xs
unfolding pad
pad_zeros n xs j h =
    ap (λ (k : ℕ). pad n 0 (xs ++ replicate k 0)) (let e : j ≡ length xs + j - length xs = omega arith in e)
    ∙ pad_pad n (length xs + j) xs (omega arith) h

pub cons_pad : (n x : ℕ) (xs : List ℕ) → x ∷ pad n 0 xs ≡ pad (suc n) 0 (x ∷ xs)
unfolding pad
cons_pad n x xs = ap (λ (j : ℕ). x ∷ (xs ++ replicate j 0)) (let e : n - length xs ≡ suc n - suc (length xs) = omega arith in e)

-- zeros past a list, from a place within them on
drop_zeros : (n k : ℕ) → k ≤ n → ◌≡◌ {A = List ℕ} (drop k (replicate n 0)) (replicate (n - k) 0)
drop_zeros n k h =
    let e : n ≡ k + (n - k) = omega arith in
    ap (λ (j : ℕ). drop k (replicate j 0)) e
    ∙ ap (λ (r : List ℕ). drop k r) (sym (replicate-append-replicate {A = ℕ} k (n - k) 0))
    ∙ drop_at (replicate k 0) (replicate (n - k) 0) k (length-replicate {A = ℕ} k 0)

-- what is pasted at a list's end goes on with the list
pub paste_pad : (xs s : List ℕ) (at k : ℕ) → length xs ≡ at → at + k ≤ 96 → k ≤ length s
    → paste (pad 96 0 xs) at s k ≡ pad 96 0 (xs ++ take k s)
unfolding pad
paste_pad xs s at k e h l =
    let zs : List ℕ = replicate (96 - length xs) 0 in
    let d : drop (at + k) (xs ++ zs) ≡ replicate (96 - length xs - k) 0 =
    ap (λ (j : ℕ). drop (j + k) (xs ++ zs)) (sym e) ∙ drop-append-add xs zs k ∙ drop_zeros (96 - length xs) k (omega arith) in
    let n : 96 - length xs - k ≡ 96 - length (xs ++ take k s) = omega (arith, length-append xs (take k s), length-take-le k s l) in
    ap (λ (r : List ℕ). r ++ take k s ++ drop (at + k) (xs ++ zs)) (take_at xs zs at e)
    ∙ ap (λ (r : List ℕ). xs ++ take k s ++ r) (d ∙ ap (λ (j : ℕ). replicate j 0) n)

replicate_cons : (n : ℕ) → 0 < n → ◌≡◌ {A = List ℕ} (replicate n 0) (0 ∷ replicate (n - 1) 0)
replicate_cons zero h = absurd (let k : ⊥ = omega arith in k)
replicate_cons (suc n) h = ap (λ (k : ℕ). 0 ∷ replicate k 0) (let e : n ≡ suc n - 1 = omega arith in e)

-- so does what is stored there
pub set_pad : (xs : List ℕ) (at v : ℕ) → length xs ≡ at → at < 96 → set (pad 96 0 xs) at v ≡ pad 96 0 (xs ++ (v ∷ []))
unfolding pad
set_pad xs at v e h =
    let n : 96 - length xs - 1 ≡ 96 - length (xs ++ (v ∷ [])) = omega (arith, length-append xs (v ∷ [])) in
    ap (λ (r : List ℕ). set (xs ++ r) at v) (replicate_cons (96 - length xs) (omega arith))
    ∙ set_at xs 0 (replicate (96 - length xs - 1) 0) v at e
    ∙ sym (append_snoc xs v (replicate (96 - length xs - 1) 0))
    ∙ ap (λ (j : ℕ). xs ++ (v ∷ []) ++ replicate j 0) n

pub zeros : ◌≡◌ {A = List ℕ} (replicate 96 0) (pad 96 0 [])
unfolding pad
zeros = refl
