-- One cell that is copied, a variable's part that comes back, and a value that is copied. Assumes nothing.
use mathlib.Core.Path.{◌≡◌, sym, ap, ◌∙◌}
use mathlib.Core.List.{List, ◌++◌}
use Prim.Native.Nat.{ℕ, ◌+◌, ◌-◌, ◌*◌, ◌≤◌, ◌<◌}
use native.Mathlib.Numerals.{add-one}
use native.Mathlib.Omega.{arith}
use lib.IntN.{ℤ, pos}
use lib.ListN.{length, take, drop, get_or, set, length-drop}
use lib.Seq.{drop-drop, get_or-drop, paste, paste-zero, paste-suc}
use Rattle.lingua.specs.Numbers.{body_cells}
use Rattle.lingua.specs.Body.{Body, size}
use Rattle.lingua.specs.Value.{Value, Fits, cells_of}
use Rattle.cells.specs.Stack.{Lies}
use Rattle.cells.proofs.Windows.{paste_front}

cells_turn : (s from : List ℤ) (at i : ℕ) → i < length s → at + i < length from → set (paste s 0 (drop at from) i) i (get_or from (at + i) (pos 0)) ≡ paste s 0 (drop at from) (i + 1)
cells_turn s from at i h k =
    let l : i < length (drop at from) = omega (arith, length-drop at from) in
    ap (λ (x : ℤ). set (paste s 0 (drop at from) i) i x) (sym (get_or-drop at from i (pos 0)))
    ∙ ap (λ (j : ℕ). set (paste s 0 (drop at from) i) j (get_or (drop at from) i (pos 0))) (let e : i ≡ 0 + i = omega arith in e)
    ∙ paste-suc s 0 (drop at from) i (pos 0) (omega arith) l
    ∙ ap (λ (n : ℕ). paste s 0 (drop at from) n) (sym (add-one i))

-- one cell set at the front is a copy of one cell
pub one_cell : (s from : List ℤ) (at n : ℕ) (z : ℤ) → z ≡ get_or from at (pos 0) → n ≡ 1 → 0 < length s → at < length from → set s 0 z ≡ paste s 0 (drop at from) n
one_cell s from at n z e f h k =
    ap (λ (x : ℤ). set s 0 x) (e ∙ ap (λ (j : ℕ). get_or from j (pos 0)) (let j : at ≡ at + 0 = omega arith in j))
    ∙ ap (λ (x : List ℤ). set x 0 (get_or from (at + 0) (pos 0))) (paste-zero s 0 (drop at from))
    ∙ cells_turn s from at 0 h (omega arith)
    ∙ ap (λ (m : ℕ). paste s 0 (drop at from) m) (let m : 0 + 1 ≡ n = omega (arith, f) in m)

-- the store's part comes back between what lies before it and what lies behind it
pub put_is : (cells value part : List ℤ) (n width : ℕ) → part ≡ paste (take (body_cells * n + body_cells - body_cells * n) (drop (body_cells * n) cells)) 0 value width
    → take (body_cells * n) cells ++ (part ++ drop (body_cells * n + body_cells - body_cells * n) (drop (body_cells * n) cells)) ≡ take (body_cells * n) cells ++ (paste (take body_cells (drop (body_cells * n) cells)) 0 value width ++ drop (body_cells * n + body_cells) cells)
put_is cells value part n width e =
    let k : body_cells * n + body_cells - body_cells * n ≡ body_cells = omega arith in
    ap (λ (l : List ℤ). take (body_cells * n) cells ++ (l ++ drop (body_cells * n + body_cells - body_cells * n) (drop (body_cells * n) cells))) e
    ∙ ap (λ (j : ℕ). take (body_cells * n) cells ++ (paste (take j (drop (body_cells * n) cells)) 0 value width ++ drop j (drop (body_cells * n) cells))) k
    ∙ ap (λ (l : List ℤ). take (body_cells * n) cells ++ (paste (take body_cells (drop (body_cells * n) cells)) 0 value width ++ l)) (drop-drop body_cells (body_cells * n) cells)

-- ---- a value copied to the front
pub copied_lies : {after : List ℤ} (s from : List ℤ) (at n : ℕ) (b : Body) (v : Value) → after ≡ paste s 0 (drop at from) n → n ≡ size b → at + n ≤ length from → take (size b) (drop at from) ≡ cells_of b v → Fits v b → Lies after 0 b v
copied_lies {after} s from at n b v e z h q f = record {
  cells =
      ap (λ (k : ℕ). take k after) (sym z)
      ∙ ap (λ (l : List ℤ). take n l) e
      ∙ paste_front s (drop at from) n (omega (arith, length-drop at from))
      ∙ ap (λ (k : ℕ). take k (drop at from)) z
      ∙ q;
  fit = f;
}
