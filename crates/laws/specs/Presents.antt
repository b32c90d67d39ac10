-- The present bodies as lent memory: where a variable's lies, and that a store changes just it. Carried by the laws of lists that are made
-- of parts of one length (`Stores`). Assumes nothing.
use Rattle.std.specs.Prelude.{◌≡◌, refl, List, [], ◌∷◌, ◌++◌, ℕ, zero, suc, ◌+◌, ◌-◌, ◌*◌, ◌≤◌, ◌<◌, length, take, drop, set, replicate}
use Rattle.std.proofs.Common.{sym, ap, ap₂, ◌∙◌, append_assoc, arith, length-append}
use Rattle.std.proofs.lemmas.List.{length-replicate}
use Rattle.std.proofs.Math.Seq.{paste}
use Rattle.lingua.specs.Numbers.{body_nodes, body_bytes, most_variables, variable_bodies_length}
use Rattle.lingua.specs.Body.{Body, nodes}
use Rattle.lingua.specs.Value.{pad}
use Rattle.lingua.specs.Encode.{encoded}
use Rattle.lingua.specs.Store.{Variable, no_variable, variable_at, present_body, store_bodies, bodies_in}
use Rattle.laws.specs.Lists.{paste_at, pad_free, pad_append}
use Rattle.laws.specs.Encoded.{length_encoded}
use Rattle.laws.specs.Every.{Every, every_implies}
use Rattle.laws.specs.Stores.{parts, Sized, length_parts, part_at, part_set}

abbrev pub variable_bytes : Variable → List ℕ
variable_bytes v = encoded (present_body v)

pub store_bodies_parts : (vs : List Variable) → store_bodies vs ≡ parts variable_bytes vs
unfolding store_bodies parts
store_bodies_parts [] = refl
store_bodies_parts (v ∷ vs) = ap (λ (l : List ℕ). variable_bytes v ++ l) (store_bodies_parts vs)

-- every present body has few enough nodes for its 96 bytes
abbrev pub Compact : List Variable → Type 0
Compact vs = Every (λ v. nodes (present_body v) ≤ body_nodes) vs

pub bodies_sized : {vs : List Variable} → Compact vs → Sized variable_bytes body_bytes vs
bodies_sized hs = every_implies (λ v h. length_encoded (present_body v) h) hs

module _ (vs : List Variable) (n : ℕ) (lt : n < length vs) (hs : Compact vs) where
  -- variable n's 96 bytes
  pub bodies_at : take body_bytes (drop (body_bytes * n) (bodies_in vs)) ≡ variable_bytes (variable_at vs n)
  unfolding bodies_in
  bodies_at = rw (store_bodies_parts vs) (part_at variable_bytes body_bytes variable_bodies_length 0 vs (bodies_sized hs) n lt no_variable)

  -- another variable n: only its bytes change
  pub bodies_set : (v : Variable) → nodes (present_body v) ≤ body_nodes → bodies_in (set vs n v) ≡ paste (bodies_in vs) (body_bytes * n) (variable_bytes v) body_bytes
  unfolding bodies_in
  bodies_set v h =
      rw (store_bodies_parts (set vs n v), store_bodies_parts vs)
      (part_set variable_bytes body_bytes variable_bodies_length 0 vs (bodies_sized hs) n lt no_variable v (length_encoded (present_body v) h))

-- variables with the same present bodies
pub bodies_same : (vs ws : List Variable) → length vs ≡ length ws → ((n : ℕ) → n < length vs → present_body (variable_at vs n) ≡ present_body (variable_at ws n)) → bodies_in vs ≡ bodies_in ws
unfolding bodies_in store_bodies
bodies_same vs ws l h = ap (λ (bs : List ℕ). pad variable_bodies_length 0 bs) (each vs ws l h)
  where
    each : (xs ys : List Variable) → length xs ≡ length ys → ((n : ℕ) → n < length xs → present_body (variable_at xs n) ≡ present_body (variable_at ys n)) → store_bodies xs ≡ store_bodies ys
    each [] [] e k = refl
    each [] (y ∷ ys) e k = absurd (let z : ⊥ = omega (arith, e) in z)
    each (x ∷ xs) [] e k = absurd (let z : ⊥ = omega (arith, e) in z)
    each (x ∷ xs) (y ∷ ys) e k =
        ap₂ (λ (xs ys : List ℕ). xs ++ ys) (ap encoded (k 0 (omega arith)))
        (each xs ys (let j : length xs ≡ length ys = omega (arith, e) in j) (λ n q. k (suc n) (let z : suc n < length (x ∷ xs) = omega arith in z)))

-- another variable n with the same present body changes none
pub bodies_unchanged : (vs : List Variable) (n : ℕ) (v : Variable) → present_body v ≡ present_body (variable_at vs n) → bodies_in (set vs n v) ≡ bodies_in vs
unfolding bodies_in store_bodies
bodies_unchanged vs n v e = ap (λ (l : List ℕ). pad variable_bodies_length 0 l) (each vs n e)
  where
    each : (ws : List Variable) (k : ℕ) → present_body v ≡ present_body (variable_at ws k) → store_bodies (set ws k v) ≡ store_bodies ws
    each [] k q = refl
    each (w ∷ ws) zero q = ap (λ (b : Body). encoded b ++ store_bodies ws) q
    each (w ∷ ws) (suc k) q = ap (λ (l : List ℕ). variable_bytes w ++ l) (each ws k q)

-- ---- their room
pub bodies_long : (vs : List Variable) → variable_bodies_length ≤ length (bodies_in vs)
unfolding bodies_in pad
bodies_long vs =
    omega (arith, length-append (store_bodies vs) (replicate (variable_bodies_length - length (store_bodies vs)) 0), length-replicate {A = ℕ} (variable_bodies_length - length (store_bodies vs)) 0)

-- ---- one variable more
bodies_append : (vs : List Variable) (v : Variable) → store_bodies (vs ++ (v ∷ [])) ≡ store_bodies vs ++ variable_bytes v
unfolding store_bodies
bodies_append [] v = pad_none (variable_bytes v)
  where
    pad_none : (l : List ℕ) → l ++ [] ≡ l
    pad_none [] = refl
    pad_none (x ∷ l) = ap (λ (m : List ℕ). x ∷ m) (pad_none l)
bodies_append (w ∷ vs) v = ap (λ (l : List ℕ). variable_bytes w ++ l) (bodies_append vs v) ∙ sym (append_assoc (variable_bytes w) (store_bodies vs) (variable_bytes v))

length_bodies : (vs : List Variable) → Compact vs → length (store_bodies vs) ≡ body_bytes * length vs
length_bodies vs hs = ap (λ (l : List ℕ). length l) (store_bodies_parts vs) ∙ length_parts variable_bytes body_bytes vs (bodies_sized hs)

pub body_more : (vs : List Variable) (v : Variable) → Compact vs → length vs < most_variables → nodes (present_body v) ≤ body_nodes
    → bodies_in (vs ++ (v ∷ [])) ≡ paste (bodies_in vs) (body_bytes * length vs) (variable_bytes v) body_bytes
unfolding bodies_in
body_more vs v hs few h =
    let xs = store_bodies vs in
    let l : length xs ≡ body_bytes * length vs = length_bodies vs hs in
    let k = length_encoded (present_body v) h in
    let room : length xs + body_bytes ≤ variable_bodies_length = omega (arith, l) in
    let zeros : List ℕ = replicate body_bytes 0 in
    let rest : List ℕ = replicate (variable_bodies_length - (length xs + body_bytes)) 0 in
    ap (λ (m : List ℕ). pad variable_bodies_length 0 m) (bodies_append vs v)
    ∙ pad_append variable_bodies_length 0 xs (variable_bytes v)
    ∙ ap (λ (j : ℕ). xs ++ (variable_bytes v ++ replicate (variable_bodies_length - (length xs + j)) 0)) k
    ∙ sym (paste_at xs zeros rest (variable_bytes v) (body_bytes * length vs) body_bytes l (length-replicate {A = ℕ} body_bytes 0) k)
    ∙ ap (λ (m : List ℕ). paste m (body_bytes * length vs) (variable_bytes v) body_bytes) (sym (pad_free variable_bodies_length body_bytes 0 xs room))
