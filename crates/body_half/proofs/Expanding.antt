-- A record with one attribute more: its measures, and that the attribute is found in it. Assumes nothing.
use mathlib.Core.Path.{◌≡◌, refl}
use mathlib.Core.Bool.{Bool, true, false, ◌||◌}
use mathlib.Core.List.{List}
use Prim.Native.Nat.{ℕ, ◌+◌, ◌≤◌, max}
use native.Mathlib.Omega.{arith}
use borrow.Author.Tests.{eq-eqb}
use lib.Dec.{ltb, eqb}
use lib.ListN.{get_or}
use Rattle.lingua.specs.Outcome.{is_some}
use Rattle.lingua.specs.Body.{Body, record_of, Attributes, end, attribute, size, sizes, nodes, attribute_nodes, depth, attribute_depth, width, attribute_body, insert_attribute, too_large}
use Rattle.body.specs.declared.walk.Measure.{Measure}
use Rattle.body.specs.Encode.{Holds}
use Rattle.body.specs.Walk.{Measured}
use Rattle.body.specs.Find.{HeldRecord, Room}
use Rattle.body.proofs.Bytes.{within}
use Rattle.body.proofs.Places.{record_count}
use Rattle.body.proofs.Making.{held_at}
use Rattle.body.proofs.Answers.{large_is}
use Rattle.body.proofs.Inserting.{insert_count, count_nodes}

-- what the attributes have together, and the new one besides
pub record Joined (c : Body) (fs gs : Attributes) : Type 0 where
  pub cells_of : sizes gs ≡ sizes fs + size c
  pub nodes_of : attribute_nodes gs ≡ attribute_nodes fs + nodes c
  pub depth_of : attribute_depth gs ≡ max (attribute_depth fs) (depth c)

pub joined : (n : ℕ) (c : Body) (fs : Attributes) → Joined c fs (insert_attribute n c fs)
unfolding insert_attribute size nodes depth
joined n c end = record { cells_of = omega arith; nodes_of = omega arith; depth_of = omega arith }
joined n c (attribute m b fs) = by_test (ltb n m) refl (joined n c fs)
  where
    by_test : (t : Bool) → ltb n m ≡ t → Joined c fs (insert_attribute n c fs)
        → Joined c (attribute m b fs) (insert_attribute n c (attribute m b fs))
    by_test true e h = rw e (record { cells_of = omega arith; nodes_of = omega arith; depth_of = omega arith })
    by_test false e h =
        rw e (record { cells_of = omega (arith, h.cells_of); nodes_of = omega (arith, h.nodes_of); depth_of = omega (arith, h.depth_of) })

pub inserted_found : (n : ℕ) (c : Body) (fs : Attributes) → is_some (attribute_body n (insert_attribute n c fs)) ≡ true
unfolding insert_attribute attribute_body
inserted_found n c end = rw (eq-eqb n n refl) refl
inserted_found n c (attribute m b fs) = by_test (ltb n m) (eqb n m) refl refl (inserted_found n c fs)
  where
    by_test : (t u : Bool) → ltb n m ≡ t → eqb n m ≡ u → is_some (attribute_body n (insert_attribute n c fs)) ≡ true
        → is_some (attribute_body n (insert_attribute n c (attribute m b fs))) ≡ true
    by_test true u e f h = rw (e, eq-eqb n n refl) refl
    by_test false true e f h = rw (e, f) refl
    by_test false false e f h = rw (e, f) h

module _ (x y : List ℕ) (n : ℕ) (m k : Measure) (fs : Attributes) (c : Body) (h : Holds x (record_of fs)) (j : Holds y c)
    (r : Measured m 0 (record_of fs)) (s : Measured k 0 c) where
  pub expand_size : m.cells + k.cells ≡ size (record_of (insert_attribute n c fs))
  unfolding size
  expand_size = omega (arith, r.is_cells, s.is_cells, (joined n c fs).cells_of)

  pub expand_test : (d : ℕ) → d ≡ max m.depth (1 + k.depth)
      → (ltb 64 (m.cells + k.cells) || ltb 32 (m.nodes + k.nodes) || ltb 4 d || ltb 8 (get_or x 1 0 + 1))
      ≡ too_large (record_of (insert_attribute n c fs))
  unfolding nodes depth width
  expand_test d e =
      large_is (record_of (insert_attribute n c fs)) (m.cells + k.cells) (m.nodes + k.nodes) d (get_or x 1 0 + 1) expand_size
      (omega (arith, r.is_nodes, s.is_nodes, (joined n c fs).nodes_of))
      (omega (arith, e, r.is_depth, s.is_depth, (joined n c fs).depth_of))
      (omega (arith, record_count x 0 fs (held_at x (record_of fs) h), insert_count n c fs))

  pub expand_room : too_large (record_of (insert_attribute n c fs)) ≡ false → Room x y
  unfolding nodes
  expand_room e =
      record {
        attributes = fs;
        added = c;
        holds = h;
        holds_added = j;
        room = omega (arith, (joined n c fs).nodes_of, (within (record_of (insert_attribute n c fs)) e).nodes_of);
      }

pub count_small : (x : List ℕ) → HeldRecord x → get_or x 1 0 ≤ 32
unfolding nodes
count_small x h =
    let fs = h.attributes in
    omega (arith, record_count x 0 fs (held_at x (record_of fs) h.holds), count_nodes fs, h.holds.few_nodes)
