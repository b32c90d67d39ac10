-- An attribute that was found in a record. Assumes nothing.
use mathlib.Core.Path.{◌≡◌, refl, sym, ap, ◌∙◌}
use mathlib.Core.Bool.{Bool, true, false}
use mathlib.Core.List.{List}
use mathlib.Core.Option.{some}
use Rattle.std.specs.Prelude.{Option, Some, None, IsSome}
use Rattle.std.specs.Option as found
use Prim.Native.Nat.{ℕ, ◌≤◌}
use native.Mathlib.Omega.{arith}
use lib.Dec.{eqb}
use Rattle.lingua.specs.Outcome.{is_some}
use Rattle.lingua.specs.Body.{Body, record_of, Attributes, end, attribute, size, sizes, nodes, attribute_nodes, attribute_body, attribute_offset}
use Rattle.lingua.specs.Encode.{encoded}
use Rattle.laws.specs.Outcomes.{false_is_true}
use borrow.Author.Rules.{rules}
use Rattle.body.specs.declared.find.Found.{Found}
use Rattle.body.specs.Encode.{Holds, Held}
use Rattle.body.specs.Walk.{At, SomeAt}
use Rattle.body.specs.Find.{FoundAt, FoundIs, PlacedAt, SomePlacedAt}

-- an attribute has no more cells and nodes than its record
pub record Smaller (d : Body) (fs : Attributes) : Type 0 where
  pub cells_of : size d ≤ sizes fs
  pub nodes_of : nodes d ≤ attribute_nodes fs

some_body : {b c : Body} → some b ≡ some c → b ≡ c
some_body h = cc

pub attribute_smaller : (n : ℕ) (fs : Attributes) (d : Body) → attribute_body n fs ≡ some d → Smaller d fs
unfolding attribute_body size nodes
attribute_smaller n end d e = absurd (let k : ◌≡◌ {A = ℕ} 0 1 = cc in let z : ⊥ = omega arith in z)
attribute_smaller n (attribute m b fs) d e = by_test (eqb n m) refl (attribute_smaller n fs d)
  where
    by_test : (t : Bool) → eqb n m ≡ t → (attribute_body n fs ≡ some d → Smaller d fs) → Smaller d (attribute m b fs)
    by_test true q f =
        let p : b ≡ d = some_body (rw q at e) in
        record { cells_of = omega (arith, ap size p); nodes_of = omega (arith, ap nodes p) }
    by_test false q f =
        let r = f (rw q at e) in
        record { cells_of = omega (arith, r.cells_of); nodes_of = omega (arith, r.nodes_of) }

-- an attribute is found where it is there
pub found_is : (x : List ℕ) (n : ℕ) (fs : Attributes) (f : Option Found) → FoundIs f x n fs → is_some (attribute_body n fs) ≡ found.is_some f
found_is x n fs None g = ap is_some g
found_is x n fs (Some f) g = ap is_some g.there

pub found_there : (x : List ℕ) (n : ℕ) (fs : Attributes) (f : Option Found) → FoundIs f x n fs → is_some (attribute_body n fs) ≡ true → IsSome f
found_there x n fs None g e = false_is_true (ap is_some (sym g) ∙ e)
found_there x n fs (Some f) g e = search rules

-- what is known of an attribute that was found
pub record Got (x : List ℕ) (f : Found) (n : ℕ) (fs : Attributes) : Type 0 where
  pub body : Body
  pub is : attribute_body n fs ≡ some body
  pub stands : At x f.at body
  pub is_offset : f.offset ≡ attribute_offset n fs
  pub few_cells : size body ≤ 64
  pub few_nodes : nodes body ≤ 32

module _ (x : List ℕ) (n : ℕ) (f : Found) (fs : Attributes) (h : Holds x (record_of fs)) (g : FoundAt f x n fs) where
  pub got : Got x f n fs
  unfolding size nodes
  got =
      let l = attribute_smaller n fs g.body g.there in
      record {
        body = g.body;
        is = g.there;
        stands = g.stands;
        is_offset = g.is_offset;
        few_cells = omega (arith, l.cells_of, h.few_cells);
        few_nodes = omega (arith, l.nodes_of, h.few_nodes);
      }

  pub placed : PlacedAt f.at n fs
  placed = record { body = g.body; there = g.there; is_place = g.is_place }

  pub some_found : SomePlacedAt x f.at
  some_found = record { attributes = fs; holds = h; number = n; placed = placed }

module _ (x : List ℕ) (n : ℕ) (f : Found) (fs : Attributes) (a : Got x f n fs) where
  pub some_got : SomeAt x f.at
  some_got = record { body = a.body; here = a.stands; few_cells = a.few_cells; few_nodes = a.few_nodes }

  pub holds_got : (r : List ℕ) → ((b : Body) → At x f.at b → r ≡ encoded b) → Holds r a.body
  holds_got r q = record { is = q a.body a.stands; few_cells = a.few_cells; few_nodes = a.few_nodes }

  pub held_got : (r : List ℕ) → ((b : Body) → At x f.at b → r ≡ encoded b) → Held r
  held_got r q = record { body = a.body; holds = holds_got r q }
