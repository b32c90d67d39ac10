-- What an array that holds a body gives, and how bodies are made of others, as lists. Assumes nothing.
use mathlib.Core.Path.{◌≡◌, refl, sym, ap, ◌∙◌}
use mathlib.Core.List.{List, [], ◌∷◌, ◌++◌, append_assoc, append-nil}
use Prim.Native.Nat.{ℕ, ◌+◌, ◌-◌, ◌≤◌, ◌<◌}
use native.Mathlib.Omega.{arith}
use lib.ListN.{length, take, drop, get_or, set, replicate, length-append}
use lib.Seq.{take-append_seam, paste}
use Rattle.lingua.specs.Body.{Body, boolean, number, word, hundredths, list_of, record_of, end, attribute, size, nodes, count_attributes}
use Rattle.lingua.specs.Value.{pad}
use Rattle.lingua.specs.Encode.{bytes, encoded}
use Rattle.laws.specs.Encoded.{bytes_below_lem, length_encoded}
use Rattle.body.specs.Encode.{Holds, Held}
use Rattle.body.specs.Walk.{At, SomeAt}
use Rattle.body.proofs.Bytes.{tag}
use Rattle.body.proofs.Places.{at_tag}
use Rattle.body.proofs.Copies.{take_pad, pad_pad, cons_pad, paste_pad}

pub held_at : (x : List ℕ) (b : Body) → Holds x b → At x 0 b
unfolding encoded pad
held_at x b h = record { rest = replicate (96 - length (bytes b)) 0; is = h.is }

pub held_some : (x : List ℕ) → Held x → SomeAt x 0
held_some x h =
    let k = h.holds in
    record { body = h.body; here = held_at x h.body k; few_cells = k.few_cells; few_nodes = k.few_nodes }

pub held_96 : (x : List ℕ) (b : Body) → Holds x b → length x ≡ 96
held_96 x b h = ap length h.is ∙ length_encoded b h.few_nodes

pub held_length : (x : List ℕ) (b : Body) → Holds x b → length (bytes b) ≤ 95
held_length x b h = omega (arith, bytes_below_lem b, h.few_nodes)

-- the first k bytes of an array that holds a body
first_bytes : (x : List ℕ) (b : Body) (k : ℕ) → Holds x b → length (bytes b) ≤ k → k ≤ 96 → take k x ≡ pad k 0 (bytes b)
unfolding encoded
first_bytes x b k h p q = ap (λ (l : List ℕ). take k l) h.is ∙ take_pad 96 k (bytes b) p q

-- a body after some bytes
pub after : (hs x : List ℕ) (b : Body) (j k : ℕ) → length hs ≡ j → j + k ≡ 96 → length (bytes b) ≤ k → Holds x b
    → paste (pad 96 0 hs) j x k ≡ pad 96 0 (hs ++ bytes b)
unfolding pad
after hs x b j k e f l h =
    let m : length x ≡ 96 = held_96 x b h in
    let n : k - length (bytes b) ≡ 96 - length (hs ++ bytes b) = omega (arith, length-append hs (bytes b)) in
    let p : length (hs ++ bytes b) ≤ 96 = omega (arith, length-append hs (bytes b)) in
    paste_pad hs x j k e (omega arith) (omega arith)
    ∙ ap (λ (r : List ℕ). pad 96 0 (hs ++ r)) (first_bytes x b k h l (omega arith))
    ∙ ap (λ (r : List ℕ). pad 96 0 r)
    (sym (append_assoc hs (bytes b) (replicate (k - length (bytes b)) 0))
    ∙ ap (λ (i : ℕ). hs ++ bytes b ++ replicate i 0) n)
    ∙ pad_pad 96 96 (hs ++ bytes b) p (omega arith)

pub list_made : (x : List ℕ) (b : Body) → Holds x b → paste (set (replicate 96 0) 0 4) 1 x 95 ≡ encoded (list_of b)
unfolding encoded bytes pad
list_made x b h = after (4 ∷ []) x b 1 95 refl refl (held_length x b h) h

pub record_made : (x : List ℕ) (n : ℕ) (b : Body) → Holds x b → nodes b < 32
    → paste (set (set (set (replicate 96 0) 0 5) 1 1) 2 n) 3 x 93 ≡ encoded (record_of (attribute n b end))
unfolding encoded bytes pad count_attributes
record_made x n b h f =
    after (5 ∷ 1 ∷ n ∷ []) x b 3 93 refl refl (omega (arith, bytes_below_lem b)) h
    ∙ ap (λ (l : List ℕ). pad 96 0 (5 ∷ 1 ∷ n ∷ l)) (sym (append-nil (bytes b)))

pub element_taken : (x : List ℕ) (b : Body) → Holds x (list_of b) → Holds (pad 96 0 (take 95 (drop 1 x))) b
unfolding encoded bytes size nodes
element_taken x b h =
    let l : length (bytes b) ≤ 95 = omega (arith, held_length x (list_of b) h) in
    record {
      is =
          ap (λ (r : List ℕ). pad 96 0 (take 95 (drop 1 r))) (h.is ∙ sym (cons_pad 95 4 (bytes b)))
          ∙ ap (λ (r : List ℕ). pad 96 0 r) (take_pad 95 95 (bytes b) l (omega arith)) ∙ pad_pad 96 95 (bytes b) l (omega arith);
      few_cells = omega (arith, h.few_cells);
      few_nodes = omega (arith, h.few_nodes);
    }

pub part_taken : (x : List ℕ) (at n : ℕ) (b : Body) → At x at b → n ≡ length (bytes b) → pad 96 0 (take n (drop at x)) ≡ encoded b
unfolding encoded
part_taken x at n b h e =
    ap (λ (k : ℕ). pad 96 0 (take k (drop at x))) e
    ∙ ap (λ (l : List ℕ). pad 96 0 (take (length (bytes b)) l)) h.is
    ∙ ap (λ (l : List ℕ). pad 96 0 l) (take-append_seam (bytes b) h.rest)

-- a boolean, a number or a word is its tag
simple_bytes : (b : Body) → tag b ≤ 3 → tag b ∷ [] ≡ bytes b
unfolding tag bytes
simple_bytes boolean h = refl
simple_bytes number h = refl
simple_bytes word h = refl
simple_bytes hundredths h = absurd (let z : ⊥ = omega (arith, h) in z)
simple_bytes (list_of b) h = absurd (let z : ⊥ = omega (arith, h) in z)
simple_bytes (record_of fs) h = absurd (let z : ⊥ = omega (arith, h) in z)

pub simple_taken : (x : List ℕ) (at : ℕ) (b : Body) → At x at b → get_or x at 0 ≤ 3 → pad 96 0 (get_or x at 0 ∷ []) ≡ encoded b
unfolding encoded
simple_taken x at b h l =
    let e = at_tag x at b h in
    ap (λ (t : ℕ). pad 96 0 (t ∷ [])) e ∙ ap (λ (r : List ℕ). pad 96 0 r) (simple_bytes b (omega (arith, l, e)))
