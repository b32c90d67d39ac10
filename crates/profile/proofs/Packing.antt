-- A word's bytes in one number: zeros behind the characters add nothing, so all eight bytes are taken. Assumes nothing.
use mathlib.Core.Path.{◌≡◌, refl, sym, ap, ◌∙◌}
use mathlib.Core.Bool.{Bool, true, false, ◌&&◌}
use mathlib.Core.List.{List, [], ◌∷◌}
use Prim.Native.Nat.{ℕ, zero, suc, ◌+◌, ◌*◌, ◌^◌, ◌<◌}
use native.Mathlib.Nat.{add-zero}
use native.Mathlib.Omega.{arith}
use lib.Dec.{eqb}
use lib.ListN.{get_or, drop}
use lib.Seq.{get_or-drop, drop-drop}
use borrow.Author.Tests.{eqb-true}
use Rattle.std.specs.Prelude.{if◌then◌else◌}
use Rattle.lingua.specs.Value.{all_of, is_text, packed_in}
use Rattle.lingua.specs.Rows.{until_zero}
use Rattle.lingua.specs.Format.{all_zero}
use Rattle.lingua.specs.Rules.{padded_by}
use Rattle.laws.specs.Outcomes.{and_left, and_right}
use Rattle.laws.specs.Words.{text_characters, packed_half}

zeros_packed : (n : ℕ) (cs : List ℕ) → all_zero cs ≡ true → packed_in n cs ≡ 0
unfolding packed_in all_zero all_of
zeros_packed zero cs e = refl
zeros_packed (suc n) [] e = refl
zeros_packed (suc n) (c ∷ cs) e =
    let z : c ≡ 0 = eqb-true c 0 (and_left (eqb c 0) (all_zero cs) e) in
    rw (z, zeros_packed n cs (and_right (eqb c 0) (all_zero cs) e)) (omega arith)

pub padded_packed : (p : ℕ → Bool) (n : ℕ) (cs : List ℕ) → padded_by p cs ≡ true → packed_in n (until_zero cs) ≡ packed_in n cs
unfolding padded_by until_zero packed_in
padded_packed p zero cs e = refl
padded_packed p (suc n) [] e = refl
padded_packed p (suc n) (c ∷ cs) e = by (eqb c 0) refl e (λ q. padded_packed p n cs q)
  where
    by : (t : Bool) → eqb c 0 ≡ t → (if t then all_zero cs else p c && padded_by p cs) ≡ true → (padded_by p cs ≡ true → packed_in n (until_zero cs) ≡ packed_in n cs)
        → packed_in (suc n) (if t then [] else c ∷ until_zero cs) ≡ c * 256 ^ n + packed_in n cs
    by true z q ih = rw (eqb-true c 0 z, zeros_packed n cs q) (omega arith)
    by false z q ih = ap (λ (m : ℕ). c * 256 ^ n + m) (ih (and_right (p c) (padded_by p cs) q))

packed_step : (n : ℕ) (cs : List ℕ) → packed_in (suc n) cs ≡ get_or cs 0 0 * 256 ^ n + packed_in n (drop 1 cs)
unfolding packed_in
packed_step zero [] = refl
packed_step (suc n) [] = omega arith
packed_step n (c ∷ cs) = refl

packed_from : (n k : ℕ) (cs : List ℕ) → packed_in (suc n) (drop k cs) ≡ get_or cs k 0 * 256 ^ n + packed_in n (drop (k + 1) cs)
packed_from n k cs =
    packed_step n (drop k cs)
    ∙ ap (λ (m : ℕ). m * 256 ^ n + packed_in n (drop 1 (drop k cs))) (get_or-drop k cs 0 0 ∙ ap (λ (j : ℕ). get_or cs j 0) (add-zero k))
    ∙ ap (λ (l : List ℕ). get_or cs k 0 * 256 ^ n + packed_in n l) (drop-drop 1 k cs)

eight : (cs : List ℕ) → packed_in 8 cs ≡ get_or cs 0 0 * 72057594037927936 + get_or cs 1 0 * 281474976710656 + get_or cs 2 0 * 1099511627776 + get_or cs 3 0 * 4294967296 + get_or cs 4 0 * 16777216 + get_or cs 5 0 * 65536 + get_or cs 6 0 * 256 + get_or cs 7 0
unfolding packed_in
eight cs =
    let a : packed_in 8 cs ≡ get_or cs 0 0 * 72057594037927936 + packed_in 7 (drop 1 cs) = packed_from 7 0 cs in
    let b : packed_in 7 (drop 1 cs) ≡ get_or cs 1 0 * 281474976710656 + packed_in 6 (drop 2 cs) = packed_from 6 1 cs in
    let c : packed_in 6 (drop 2 cs) ≡ get_or cs 2 0 * 1099511627776 + packed_in 5 (drop 3 cs) = packed_from 5 2 cs in
    let d : packed_in 5 (drop 3 cs) ≡ get_or cs 3 0 * 4294967296 + packed_in 4 (drop 4 cs) = packed_from 4 3 cs in
    let e : packed_in 4 (drop 4 cs) ≡ get_or cs 4 0 * 16777216 + packed_in 3 (drop 5 cs) = packed_from 3 4 cs in
    let f : packed_in 3 (drop 5 cs) ≡ get_or cs 5 0 * 65536 + packed_in 2 (drop 6 cs) = packed_from 2 5 cs in
    let g : packed_in 2 (drop 6 cs) ≡ get_or cs 6 0 * 256 + packed_in 1 (drop 7 cs) = packed_from 1 6 cs in
    let h : packed_in 1 (drop 7 cs) ≡ get_or cs 7 0 * 1 + 0 = packed_from 0 7 cs in
    omega (arith, a, b, c, d, e, f, g, h)

-- the cell of a word
module _ (p : ℕ → Bool) (cs : List ℕ) (padded : padded_by p cs ≡ true) (n : ℕ) (en : n ≡ get_or cs 0 0 * 72057594037927936 + get_or cs 1 0 * 281474976710656 + get_or cs 2 0 * 1099511627776 + get_or cs 3 0 * 4294967296 + get_or cs 4 0 * 16777216 + get_or cs 5 0 * 65536 + get_or cs 6 0 * 256 + get_or cs 7 0) where
  pub word_is : packed_in 8 (until_zero cs) ≡ n
  word_is = padded_packed p 8 cs padded ∙ (eight cs ∙ sym en)

  pub word_half : is_text (until_zero cs) ≡ true → n < 9223372036854775808
  word_half t = omega (arith, word_is, packed_half (until_zero cs) (text_characters (until_zero cs) t))
