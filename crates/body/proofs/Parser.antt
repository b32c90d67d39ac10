-- A parser of bodies' bytes, which shows that a body can be read back: equal bytes are those of equal bodies.
-- Assumes nothing.
use mathlib.Core.Path.{◌≡◌, refl, sym, ap, subst, ◌∙◌}
use mathlib.Core.List.{List, [], ◌∷◌, ◌++◌, append_assoc}
use Prim.Native.Nat.{ℕ, zero, suc, ◌-◌, ◌≤◌, max}
use native.Mathlib.Omega.{arith}
use lib.Dec.{eqb}
use lib.ListN.{length, replicate}
use Rattle.std.specs.Prelude.{if◌then◌else◌}
use Rattle.lingua.specs.Body.{Body, boolean, number, word, hundredths, list_of, record_of, Attributes, end, attribute, depth, attribute_depth, count_attributes}
use Rattle.lingua.specs.Value.{pad}
use Rattle.lingua.specs.Encode.{bytes, attribute_bytes, encoded}
use Rattle.body.specs.Encode.{Holds}

pub record Parsed : Type 0 where
  pub body : Body
  pub rest : List ℕ

pub record ParsedAttributes : Type 0 where
  pub attributes : Attributes
  pub rest : List ℕ

-- attributes at the head of a list, given how a body is read; of other lists, anything
parse_many : (List ℕ → Parsed) → ℕ → List ℕ → ParsedAttributes
parse_many f zero xs = record { attributes = end; rest = xs }
parse_many f (suc k) [] = record { attributes = end; rest = [] }
parse_many f (suc k) (m ∷ xs) =
    record {
      attributes = attribute m (f xs).body (parse_many f k (f xs).rest).attributes;
      rest = (parse_many f k (f xs).rest).rest;
    }

parse_record : (List ℕ → Parsed) → List ℕ → Parsed
parse_record f [] = record { body = boolean; rest = [] }
parse_record f (k ∷ xs) = record { body = record_of (parse_many f k xs).attributes; rest = (parse_many f k xs).rest }

-- a body of at most so many levels at the head of a list
parse : ℕ → List ℕ → Parsed
parse zero xs = record { body = boolean; rest = xs }
parse (suc n) [] = record { body = boolean; rest = [] }
parse (suc n) (t ∷ xs) =
    if eqb t 1 then record { body = boolean; rest = xs } else
    (if eqb t 2 then record { body = number; rest = xs } else
    (if eqb t 3 then record { body = word; rest = xs } else
    (if eqb t 7 then record { body = hundredths; rest = xs } else
    (if eqb t 4 then record { body = list_of (parse n xs).body; rest = (parse n xs).rest } else parse_record (parse n) xs))))

mutual
  unfolding bytes depth count_attributes parse parse_record parse_many

  parse_bytes : (b : Body) (n : ℕ) (r : List ℕ) → depth b ≤ n → parse n (bytes b ++ r) ≡ record { body = b; rest = r }
  parse_bytes boolean zero r h = absurd (let k : ⊥ = omega (arith, h) in k)
  parse_bytes number zero r h = absurd (let k : ⊥ = omega (arith, h) in k)
  parse_bytes word zero r h = absurd (let k : ⊥ = omega (arith, h) in k)
  parse_bytes hundredths zero r h = absurd (let k : ⊥ = omega (arith, h) in k)
  parse_bytes (list_of b) zero r h = absurd (let k : ⊥ = omega (arith, h) in k)
  parse_bytes (record_of fs) zero r h = absurd (let k : ⊥ = omega (arith, h) in k)
  parse_bytes boolean (suc n) r h = refl
  parse_bytes number (suc n) r h = refl
  parse_bytes word (suc n) r h = refl
  parse_bytes hundredths (suc n) r h = refl
  parse_bytes (list_of b) (suc n) r h = let e = parse_bytes b n r (omega (arith, h)) in rw e
  parse_bytes (record_of fs) (suc n) r h = let e = parse_many_lem fs n r (omega (arith, h)) in rw e

  parse_many_lem : (fs : Attributes) (n : ℕ) (r : List ℕ) → attribute_depth fs ≤ n
      → parse_many (parse n) (count_attributes fs) (attribute_bytes fs ++ r) ≡ record { attributes = fs; rest = r }
  parse_many_lem end n r h = refl
  parse_many_lem (attribute m b fs) n r h =
      let p = parse_bytes b n (attribute_bytes fs ++ r) (omega (arith, h)) in
      let q = parse_many_lem fs n r (omega (arith, h)) in
      rw (append_assoc (bytes b) (attribute_bytes fs) r, p, q)

-- a body's bytes at the head of a list determine the body
pub same_head : (b c : Body) (r s : List ℕ) → bytes b ++ r ≡ bytes c ++ s → b ≡ c
same_head b c r s e =
    let n = max (depth b) (depth c) in
    ap (λ (p : Parsed). p.body)
    (sym (parse_bytes b n r (omega arith)) ∙ ap (parse n) e ∙ parse_bytes c n s (omega arith))

-- the encoding is injective
pub encoded_injective : (b c : Body) → encoded b ≡ encoded c → b ≡ c
unfolding encoded pad
encoded_injective b c e = same_head b c (replicate (96 - length (bytes b)) 0) (replicate (96 - length (bytes c)) 0) e

-- what holds of a body that an array holds, holds of every body that it holds
pub for_held : (P : Body → Type 0) {x : List ℕ} {b : Body} → Holds x b → P b → (c : Body) → Holds x c → P c
for_held P {x} {b} h p c k = subst P (encoded_injective b c (sym h.is ∙ k.is)) p
