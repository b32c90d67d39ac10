-- Bodies in the flat array: one is read, and one is stored beside the others. Assumes nothing.
use mathlib.Core.Path.{◌≡◌, sym, ap, ◌∙◌}
use mathlib.Core.List.{List, ◌++◌, append_assoc}
use Prim.Native.Nat.{ℕ, ◌+◌, ◌*◌, ◌≤◌, ◌<◌}
use native.Mathlib.Omega.{arith}
use lib.ListN.{length, take, drop, length-drop, take-append-drop}
use lib.Seq.{paste, take_at, drop_at, take-append-le, drop-append-le, take_all, length-take-le}
use Rattle.rules.specs.Types.{body_at}

-- ---- what stands where after the store
front : (n k : ℕ) (u x : List ℕ) → k + n ≤ length u → take n (drop k (u ++ x)) ≡ take n (drop k u)
front n k u x h =
    let l : k ≤ length u = omega arith in
    let m : n ≤ length (drop k u) = omega (arith, length-drop k u) in
    ap (take n) (drop-append-le k u x l) ∙ take-append-le n (drop k u) x m

module _ (d s : List ℕ) (r : ℕ) (room : 96 * r + 96 ≤ length d) (full : length s ≡ 96) where
  head_length : length (take (96 * r) d) ≡ 96 * r
  head_length = length-take-le (96 * r) d (omega arith)

  pub kept_other : (p : ℕ) → p < r → body_at (paste d (96 * r) s 96) p ≡ body_at d p
  unfolding body_at
  kept_other p h =
      let u : List ℕ = take (96 * r) d in
      let l : 96 * p + 96 ≤ length (take (96 * r) d) = omega (arith, head_length) in
      ap (λ (x : List ℕ). take 96 (drop (96 * p) x)) (append_assoc u (take 96 s) (drop (96 * r + 96) d))
      ∙ front 96 (96 * p) u (take 96 s ++ drop (96 * r + 96) d) l
      ∙ sym (front 96 (96 * p) u (drop (96 * r) d) l)
      ∙ ap (λ (x : List ℕ). take 96 (drop (96 * p) x)) (take-append-drop (96 * r) d)

  pub kept_own : body_at (paste d (96 * r) s 96) r ≡ s
  unfolding body_at
  kept_own =
      let u : List ℕ = take (96 * r) d in
      let rest : List ℕ = drop (96 * r + 96) d in
      ap (λ (x : List ℕ). take 96 (drop (96 * r) x)) (append_assoc u (take 96 s) rest)
      ∙ ap (take 96) (drop_at u (take 96 s ++ rest) (96 * r) head_length)
      ∙ take_at (take 96 s) rest 96 (length-take-le 96 s (omega arith))
      ∙ take_all 96 s (omega arith)
