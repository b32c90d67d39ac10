-- A record without one of its attributes, by its bytes: those before the attribute, those behind it, and zeros. Assumes nothing.
use mathlib.Core.Path.{◌≡◌, refl, sym, ap, ap₂, ◌∙◌}
use mathlib.Core.Bool.{Bool, true, false}
use mathlib.Core.List.{List, [], ◌∷◌, ◌++◌, append_assoc}
use mathlib.Core.Option.{some}
use Prim.Native.Nat.{ℕ, ◌+◌, ◌-◌, ◌≤◌}
use native.Mathlib.Omega.{arith}
use borrow.Author.Tests.{eqb-true}
use lib.Dec.{eqb}
use lib.ListN.{length, take, drop, set, get_or, replicate, length-append, length-drop}
use lib.Seq.{take_at, drop_at, drop-append_seam, take_all, append_snoc, paste}
use Rattle.lingua.specs.Body.{Body, record_of, Attributes, end, attribute, size, nodes, count_attributes, attribute_body, remove_attribute}
use Rattle.lingua.specs.Value.{pad}
use Rattle.lingua.specs.Encode.{bytes, attribute_bytes, encoded}
use Rattle.laws.specs.Outcomes.{none_is_some, some_same}
use Rattle.laws.specs.Removal.{removed_fewer}
use Rattle.body.specs.declared.walk.Measure.{Measure}
use Rattle.body.specs.Encode.{Holds}
use Rattle.body.specs.Walk.{At, SomeAt, Measured}
use Rattle.body.specs.Find.{bytes_before, PlacedAt}
use Rattle.body.proofs.Copies.{pad_zeros, paste_pad}
use Rattle.body.proofs.Places.{at_end, drops, record_count}
use Rattle.body.proofs.Making.{held_at, held_96, held_length}

-- the bytes around an attribute of body d that is attribute n of fs
pub record Around (n : ℕ) (d : Body) (fs : Attributes) : Type 0 where
  pub before : List ℕ
  pub behind : List ℕ
  pub whole : attribute_bytes fs ≡ before ++ (n ∷ (bytes d ++ behind))
  pub without : attribute_bytes (remove_attribute n fs) ≡ before ++ behind
  pub is_before : length before ≡ bytes_before n fs

pub around : (n : ℕ) (fs : Attributes) (d : Body) → attribute_body n fs ≡ some d → Around n d fs
unfolding attribute_body remove_attribute attribute_bytes bytes_before
around n end d e = none_is_some e
around n (attribute m b fs) d e = by_test (eqb n m) refl (around n fs d)
  where
    by_test : (t : Bool) → eqb n m ≡ t → (attribute_body n fs ≡ some d → Around n d fs) → Around n d (attribute m b fs)
    by_test true q rest =
        let p : b ≡ d = some_same (rw q at e) in
        record {
          before = [];
          behind = attribute_bytes fs;
          whole = ap₂ (λ (k : ℕ) (c : Body). k ∷ (bytes c ++ attribute_bytes fs)) (sym (eqb-true n m q)) p;
          without = rw q refl;
          is_before = rw q refl;
        }
    by_test false q rest =
        let r = rest (rw q at e) in
        let tail = n ∷ (bytes d ++ r.behind) in
        record {
          before = m ∷ (bytes b ++ r.before);
          behind = r.behind;
          whole = ap (λ (l : List ℕ). m ∷ l) (ap (λ (l : List ℕ). bytes b ++ l) r.whole ∙ sym (append_assoc (bytes b) r.before tail));
          without =
              rw q
              (ap (λ (l : List ℕ). m ∷ l) (ap (λ (l : List ℕ). bytes b ++ l) r.without ∙ sym (append_assoc (bytes b) r.before r.behind)));
          is_before = rw q (omega (arith, length-append (bytes b) r.before, r.is_before));
        }

-- the places that the code goes to
pub record CutSpots (x : List ℕ) (at next : ℕ) : Type 0 where
  pub from_three : 3 ≤ at
  pub before_next : at ≤ next
  pub within : next ≤ 96
  pub some_count : 1 ≤ get_or x 1 0

module _ (x : List ℕ) (at n : ℕ) (fs : Attributes) (h : Holds x (record_of fs)) (p : PlacedAt at n fs) where
  abbrev parts : Around n p.body fs
  parts = around n fs p.body p.there

  -- the array up to the attribute's number, and past its body
  abbrev head : List ℕ
  head = 5 ∷ count_attributes fs ∷ parts.before

  abbrev zeros : List ℕ
  zeros = replicate (96 - length (bytes (record_of fs))) 0

  abbrev rest : List ℕ
  rest = parts.behind ++ zeros

  laid : x ≡ head ++ (n ∷ (bytes p.body ++ rest))
  unfolding encoded bytes pad
  laid =
      let d = bytes p.body in
      let b = parts.behind in
      h.is
      ∙ ap (λ (l : List ℕ). 5 ∷ count_attributes fs ∷ (l ++ zeros)) parts.whole
      ∙ ap (λ (l : List ℕ). 5 ∷ count_attributes fs ∷ l)
      (append_assoc parts.before (n ∷ (d ++ b)) zeros ∙ ap (λ (l : List ℕ). parts.before ++ (n ∷ l)) (append_assoc d b zeros))

  head_length : length head ≡ at - 1
  head_length = omega (arith, parts.is_before, p.is_place)

  head_taken : take (at - 1) (drop 0 x) ≡ head
  head_taken = ap (λ (l : List ℕ). take (at - 1) l) laid ∙ take_at head (n ∷ (bytes p.body ++ rest)) (at - 1) head_length

  pub placed_at : At x at p.body
  placed_at =
      record {
        rest = rest;
        is =
            ap (λ (l : List ℕ). drop at l) (laid ∙ sym (append_snoc head n (bytes p.body ++ rest)))
            ∙ drop_at (head ++ (n ∷ [])) (bytes p.body ++ rest) at (omega (arith, length-append head (n ∷ []), head_length, p.is_place));
      }

  pub some_placed : SomeAt x at
  unfolding size nodes
  some_placed =
      let r = removed_fewer n fs p.body p.there in
      record {
        body = p.body;
        here = placed_at;
        few_cells = omega (arith, h.few_cells, r.fewer_cells);
        few_nodes = omega (arith, h.few_nodes, r.fewer_nodes);
      }

  module _ (m : Measure) (g : (b : Body) → At x at b → Measured m at b) where
    pub cut_spots : CutSpots x at m.next
    cut_spots =
        let e = (g p.body placed_at).is_next in
        let r = removed_fewer n fs p.body p.there in
        record {
          from_three = omega (arith, p.is_place);
          before_next = omega (arith, e);
          within = omega (arith, e, at_end x at p.body placed_at, held_96 x (record_of fs) h);
          some_count = omega (arith, record_count x 0 fs (held_at x (record_of fs) h), r.fewer_attributes);
        }

    rest_taken : take (96 - m.next) (drop m.next x) ≡ rest
    unfolding placed_at
    rest_taken =
        let d = bytes p.body in
        let e : drop m.next x ≡ rest =
        ap (λ (k : ℕ). drop k x) (g p.body placed_at).is_next
        ∙ drops x at d rest placed_at.is (length d) ∙ drop-append_seam d rest in
        ap (λ (l : List ℕ). take (96 - m.next) l) e
        ∙ take_all (96 - m.next) rest (omega (arith, ap length e, length-drop m.next x, held_96 x (record_of fs) h))

    pub cut_holds : (b1 b2 : List ℕ) → b1 ≡ pad 96 0 (take (at - 1) (drop 0 x))
        → b2 ≡ paste (set b1 1 (get_or x 1 0 - 1)) (at - 1) (drop m.next x) (96 - m.next) → Holds b2 (record_of (remove_attribute n fs))
    unfolding encoded bytes pad size nodes
    cut_holds b1 b2 f k =
        let r = removed_fewer n fs p.body p.there in
        let z = cut_spots in
        let gs = remove_attribute n fs in
        let v : ℕ = get_or x 1 0 - 1 in
        let hs : List ℕ = 5 ∷ v ∷ parts.before in
        let count : v ≡ count_attributes gs = omega (arith, record_count x 0 fs (held_at x (record_of fs) h), r.fewer_attributes) in
        let lx = held_96 x (record_of fs) h in
        let l1 : length hs ≡ at - 1 = head_length in
        let e1 : set b1 1 v ≡ pad 96 0 hs = ap (λ (l : List ℕ). set l 1 v) (f ∙ ap (λ (l : List ℕ). pad 96 0 l) head_taken) in
        let e2 : b2 ≡ pad 96 0 (hs ++ rest) =
        k ∙ ap (λ (l : List ℕ). paste l (at - 1) (drop m.next x) (96 - m.next)) e1
        ∙ paste_pad hs (drop m.next x) (at - 1) (96 - m.next) l1 (omega (arith, z)) (omega (arith, z, lx, length-drop m.next x))
        ∙ ap (λ (l : List ℕ). pad 96 0 (hs ++ l)) rest_taken in
        let lb : length (hs ++ parts.behind) + (96 - length (bytes (record_of fs))) ≤ 96 =
        omega (arith, length-append hs parts.behind, length-append parts.before (n ∷ (bytes p.body ++ parts.behind)), length-append (bytes p.body) parts.behind, ap length parts.whole, held_length x (record_of fs) h) in
        record {
          is =
              e2 ∙ ap (λ (l : List ℕ). pad 96 0 l) (sym (append_assoc hs parts.behind zeros))
              ∙ pad_zeros 96 (hs ++ parts.behind) (96 - length (bytes (record_of fs))) lb
              ∙ ap₂ (λ (j : ℕ) (l : List ℕ). pad 96 0 (5 ∷ j ∷ l)) count (sym parts.without);
          few_cells = omega (arith, h.few_cells, r.fewer_cells);
          few_nodes = omega (arith, h.few_nodes, r.fewer_nodes);
        }
