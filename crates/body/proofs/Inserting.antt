-- A record with one attribute more, put together from parts of its bytes. Assumes nothing.
use mathlib.Core.Path.{◌≡◌, refl, sym, ap, ap₂, ◌∙◌}
use mathlib.Core.Bool.{Bool, true, false}
use mathlib.Core.List.{List, [], ◌∷◌, ◌++◌, append_assoc}
use Prim.Native.Nat.{ℕ, suc, ◌+◌, ◌-◌, ◌≤◌}
use native.Mathlib.Numerals.{add-one}
use native.Mathlib.Omega.{arith}
use lib.Dec.{ltb}
use lib.ListN.{length, take, drop, set, get_or, replicate, length-append, length-drop}
use lib.Seq.{take-append-le, drop-append-le, take-append_seam, drop-drop, take-append-add, drop-append-add, length-take-le, take_at, append_snoc, paste}
use Rattle.lingua.specs.Body.{Body, boolean, number, word, hundredths, list_of, record_of, Attributes, end, attribute, nodes, attribute_nodes, count_attributes, insert_attribute}
use Rattle.lingua.specs.Value.{pad}
use Rattle.lingua.specs.Encode.{bytes, attribute_bytes, encoded}
use Rattle.laws.specs.Encoded.{bytes_below_lem}
use Rattle.body.specs.Encode.{Holds}
use Rattle.body.specs.Walk.{Measured}
use Rattle.body.specs.Find.{Room, bytes_below}
use Rattle.body.specs.declared.walk.Measure.{Measure}
use Rattle.body.proofs.Copies.{paste_pad, set_pad}
use Rattle.body.proofs.Places.{record_count, record_part}
use Rattle.body.proofs.Making.{held_at, held_96}

-- ---- the attributes below a number, and the record with it inserted
some_nodes : (b : Body) → 1 ≤ nodes b
unfolding nodes
some_nodes boolean = omega arith
some_nodes number = omega arith
some_nodes word = omega arith
some_nodes hundredths = omega arith
some_nodes (list_of b) = omega arith
some_nodes (record_of fs) = omega arith

pub count_nodes : (fs : Attributes) → count_attributes fs ≤ attribute_nodes fs
unfolding count_attributes nodes
count_nodes end = omega arith
count_nodes (attribute n b fs) = omega (arith, some_nodes b, count_nodes fs)

pub below_within : (n : ℕ) (fs : Attributes) → bytes_below n fs ≤ length (attribute_bytes fs)
unfolding bytes_below attribute_bytes
below_within n end = omega arith
below_within n (attribute m b fs) = by_test (ltb n m) refl (below_within n fs)
  where
    by_test : (t : Bool) → ltb n m ≡ t → bytes_below n fs ≤ length (attribute_bytes fs)
        → bytes_below n (attribute m b fs) ≤ suc (length (bytes b ++ attribute_bytes fs))
    by_test true e h = rw e (omega arith)
    by_test false e h = rw e (omega (arith, length-append (bytes b) (attribute_bytes fs), h))

pub insert_count : (n : ℕ) (c : Body) (fs : Attributes) → count_attributes (insert_attribute n c fs) ≡ suc (count_attributes fs)
unfolding insert_attribute count_attributes
insert_count n c end = refl
insert_count n c (attribute m b fs) = by_test (ltb n m) refl (insert_count n c fs)
  where
    by_test : (t : Bool) → ltb n m ≡ t → count_attributes (insert_attribute n c fs) ≡ suc (count_attributes fs)
        → count_attributes (insert_attribute n c (attribute m b fs)) ≡ suc (suc (count_attributes fs))
    by_test true e h = rw e refl
    by_test false e h = rw e (ap suc h)

-- one attribute passed
module _ (m : ℕ) (b : Body) (xs : List ℕ) (k : ℕ) where
  pub take_passed : take (1 + length (bytes b) + k) (m ∷ (bytes b ++ xs)) ≡ m ∷ (bytes b ++ take k xs)
  take_passed =
      ap (λ (j : ℕ). take j (m ∷ (bytes b ++ xs))) (let e : 1 + length (bytes b) + k ≡ suc (length (bytes b) + k) = omega arith in e)
      ∙ ap (λ (l : List ℕ). m ∷ l) (take-append-add (bytes b) xs k)

  pub drop_passed : drop (1 + length (bytes b) + k) (m ∷ (bytes b ++ xs)) ≡ drop k xs
  drop_passed =
      ap (λ (j : ℕ). drop j (m ∷ (bytes b ++ xs))) (let e : 1 + length (bytes b) + k ≡ suc (length (bytes b) + k) = omega arith in e)
      ∙ drop-append-add (bytes b) xs k

pub insert_bytes : (n : ℕ) (c : Body) (fs : Attributes)
    → attribute_bytes (insert_attribute n c fs)
    ≡ take (bytes_below n fs) (attribute_bytes fs) ++ (n ∷ (bytes c ++ drop (bytes_below n fs) (attribute_bytes fs)))
unfolding insert_attribute bytes_below attribute_bytes
insert_bytes n c end = refl
insert_bytes n c (attribute m b fs) = by_test (ltb n m) refl (insert_bytes n c fs)
  where
    by_test : (t : Bool) → ltb n m ≡ t
        → attribute_bytes (insert_attribute n c fs)
        ≡ take (bytes_below n fs) (attribute_bytes fs) ++ (n ∷ (bytes c ++ drop (bytes_below n fs) (attribute_bytes fs)))
        → attribute_bytes (insert_attribute n c (attribute m b fs))
        ≡ take (bytes_below n (attribute m b fs)) (m ∷ (bytes b ++ attribute_bytes fs))
        ++ (n ∷ (bytes c ++ drop (bytes_below n (attribute m b fs)) (m ∷ (bytes b ++ attribute_bytes fs))))
    by_test true e h = rw e refl
    by_test false e h =
        let xs = attribute_bytes fs in
        let k = bytes_below n fs in
        rw e
        (rw (take_passed m b xs k, drop_passed m b xs k, h)
        (ap (λ (l : List ℕ). m ∷ l) (sym (append_assoc (bytes b) (take k xs) (n ∷ (bytes c ++ drop k xs))))))

-- ---- the places that the code writes to
pub record Spots (x : List ℕ) (at last more : ℕ) : Type 0 where
  pub from_two : 2 ≤ at
  pub before_last : at ≤ last
  pub fits : last + 1 + more ≤ 96
  pub counted : get_or x 1 0 ≤ 32

module _ (x y : List ℕ) (n at : ℕ) (w m : Measure) (p : (fs : Attributes) → Holds x (record_of fs) → at ≡ 2 + bytes_below n fs)
    (q : (b : Body) → Holds x b → Measured w 0 b) (r : (b : Body) → Holds y b → Measured m 0 b) where
  pub spots : Room x y → Spots x at w.next m.next
  unfolding bytes nodes
  spots s =
      let fs = s.attributes in
      let h = s.holds in
      let a = (q (record_of fs) h).is_next in
      let b = (r s.added s.holds_added).is_next in
      record {
        from_two = omega (arith, p fs h);
        before_last = omega (arith, p fs h, a, below_within n fs);
        fits = omega (arith, a, b, bytes_below_lem (record_of fs), bytes_below_lem s.added, s.room);
        counted = omega (arith, record_count x 0 fs (held_at x (record_of fs) h), count_nodes fs, h.few_nodes);
      }

  -- the bytes that it writes
  module _ (s : Room x y) (fs : Attributes) (c : Body) (h : Holds x (record_of fs)) (k : Holds y c) where
    written_below : take (at - 2) (drop 2 x) ≡ take (bytes_below n fs) (attribute_bytes fs)
    written_below =
        let a = record_part x 0 fs (held_at x (record_of fs) h) in
        ap (λ (l : List ℕ). take (at - 2) l) a.is
        ∙ ap (λ (j : ℕ). take j (attribute_bytes fs ++ a.rest)) (let e : at - 2 ≡ bytes_below n fs = omega (arith, p fs h) in e)
        ∙ take-append-le (bytes_below n fs) (attribute_bytes fs) a.rest (below_within n fs)

    written_added : take m.next y ≡ bytes c
    written_added =
        let a = held_at y c k in
        ap (λ (l : List ℕ). take m.next l) a.is
        ∙ ap (λ (j : ℕ). take j (bytes c ++ a.rest)) (let e : m.next ≡ length (bytes c) = omega (arith, (r c k).is_next) in e)
        ∙ take-append_seam (bytes c) a.rest

    written_above : take (w.next - at) (drop at x) ≡ drop (bytes_below n fs) (attribute_bytes fs)
    unfolding bytes
    written_above =
        let a = record_part x 0 fs (held_at x (record_of fs) h) in
        let xs = attribute_bytes fs in
        let j = bytes_below n fs in
        let e : w.next - at ≡ length (drop j xs) = omega (arith, p fs h, (q (record_of fs) h).is_next, length-drop j xs) in
        ap (λ (i : ℕ). take (w.next - at) (drop i x)) (p fs h)
        ∙ ap (λ (l : List ℕ). take (w.next - at) l) (sym (drop-drop j 2 x) ∙ ap (λ (l : List ℕ). drop j l) a.is ∙ drop-append-le j xs a.rest (below_within n fs))
        ∙ take_at (drop j xs) a.rest (w.next - at) (sym e)

    pub inserted : (b1 b2 b3 : List ℕ)
        → b1 ≡ paste (set (set (replicate 96 0) 0 5) 1 (get_or x 1 0 + 1)) 2 (drop 2 x) (at - 2)
        → b2 ≡ paste (set b1 at n) (at + 1) y m.next
        → b3 ≡ paste b2 (at + 1 + m.next) (drop at x) (w.next - at)
        → b3 ≡ encoded (record_of (insert_attribute n c fs))
    unfolding encoded bytes pad
    inserted b1 b2 b3 f g i =
        let z = spots s in
        let lx = held_96 x (record_of fs) h in
        let ly = held_96 y c k in
        let v : ℕ = get_or x 1 0 + 1 in
        let t : List ℕ = take (bytes_below n fs) (attribute_bytes fs) in
        let d : List ℕ = drop (bytes_below n fs) (attribute_bytes fs) in
        let hs : List ℕ = 5 ∷ v ∷ t in
        let lt : length t ≡ bytes_below n fs = length-take-le (bytes_below n fs) (attribute_bytes fs) (below_within n fs) in
        let lc : m.next ≡ length (bytes c) = omega (arith, (r c k).is_next) in
        let l1 : length hs ≡ at = omega (arith, lt, p fs h) in
        let l2 : length (hs ++ (n ∷ [])) ≡ at + 1 = omega (arith, l1, length-append hs (n ∷ [])) in
        let l3 : length (hs ++ (n ∷ []) ++ bytes c) ≡ at + 1 + m.next = omega (arith, l2, lc, length-append (hs ++ (n ∷ [])) (bytes c)) in
        let e1 : b1 ≡ pad 96 0 hs =
        f ∙ paste_pad (5 ∷ v ∷ []) (drop 2 x) 2 (at - 2) refl (omega (arith, z)) (omega (arith, z, lx, length-drop 2 x))
        ∙ ap (λ (l : List ℕ). pad 96 0 (5 ∷ v ∷ l)) written_below in
        let e2 : b2 ≡ pad 96 0 (hs ++ (n ∷ []) ++ bytes c) =
        g ∙ ap (λ (l : List ℕ). paste (set l at n) (at + 1) y m.next) e1
        ∙ ap (λ (l : List ℕ). paste l (at + 1) y m.next) (set_pad hs at n l1 (omega (arith, z)))
        ∙ paste_pad (hs ++ (n ∷ [])) y (at + 1) m.next l2 (omega (arith, z)) (omega (arith, z, ly))
        ∙ ap (λ (l : List ℕ). pad 96 0 (hs ++ (n ∷ []) ++ l)) written_added in
        let e3 : b3 ≡ pad 96 0 (hs ++ (n ∷ []) ++ bytes c ++ d) =
        i ∙ ap (λ (l : List ℕ). paste l (at + 1 + m.next) (drop at x) (w.next - at)) e2
        ∙ paste_pad (hs ++ (n ∷ []) ++ bytes c) (drop at x) (at + 1 + m.next) (w.next - at) l3 (omega (arith, z)) (omega (arith, z, lx, length-drop at x))
        ∙ ap (λ (l : List ℕ). pad 96 0 (hs ++ (n ∷ []) ++ bytes c ++ l)) written_above in
        let count : v ≡ count_attributes (insert_attribute n c fs) =
        add-one (get_or x 1 0) ∙ ap suc (record_count x 0 fs (held_at x (record_of fs) h)) ∙ sym (insert_count n c fs) in
        e3
        ∙ ap (λ (l : List ℕ). pad 96 0 l)
        (append_assoc (hs ++ (n ∷ [])) (bytes c) d ∙ append_snoc hs n (bytes c ++ d)
        ∙ ap₂ (λ (j : ℕ) (l : List ℕ). 5 ∷ j ∷ l) count (sym (insert_bytes n c fs)))
