-- What the walk of a body's bytes asks and gives, one law for each call and each end. Assumes nothing.
use mathlib.Core.Path.{◌≡◌, refl, sym, ap, subst, ◌∙◌}
use mathlib.Core.List.{List}
use Prim.Native.Nat.{ℕ, ◌+◌, ◌-◌, ◌*◌, ◌≤◌, ◌<◌, max}
use native.Mathlib.Omega.{arith}
use lib.ListN.{length, get_or, length-append}
use Rattle.lingua.specs.Body.{Body, Attributes, end, attribute, size, sizes, nodes, attribute_nodes, depth, attribute_depth, count_attributes}
use Rattle.lingua.specs.Encode.{bytes, attribute_bytes}
use Rattle.body.specs.declared.walk.Measure.{Measure}
use Rattle.body.specs.Walk.{At, AttributesAt, SomeAt, SomeAttributesAt, Measured, AttributesMeasured}
use Rattle.body.proofs.Bytes.{depth_below, attribute_depth_below}
use Rattle.body.proofs.Places.{at_end, at_below, at_tag, list_part, record_count, record_below, record_part, attribute_part, attribute_rest, list_view, record_view, simple_view, more_view}

-- what a body or attributes with few cells and nodes measure is small
pub record Few (m : Measure) (bs : List ℕ) : Type 0 where
  pub few_cells : m.cells ≤ 64
  pub few_nodes : m.nodes ≤ 32
  pub few_levels : m.depth ≤ 32
  pub within : m.next ≤ length bs

pub few_measured : (bs : List ℕ) (at : ℕ) (m : Measure) → ((b : Body) → At bs at b → Measured m at b) → SomeAt bs at → Few m bs
few_measured bs at m f h =
    let r = f h.body h.here in
    record {
      few_cells = omega (arith, r.is_cells, h.few_cells);
      few_nodes = omega (arith, r.is_nodes, h.few_nodes);
      few_levels = omega (arith, r.is_depth, h.few_nodes, depth_below h.body);
      within = omega (arith, r.is_next, at_end bs at h.body h.here);
    }

pub record FewAttributes (m : Measure) : Type 0 where
  pub few_cells : m.cells ≤ 64
  pub few_nodes : m.nodes ≤ 32
  pub few_levels : m.depth ≤ 32

pub few_attributes : (bs : List ℕ) (at n : ℕ) (m : Measure)
    → ((fs : Attributes) → AttributesAt bs at fs → n ≡ count_attributes fs → AttributesMeasured m at fs) → SomeAttributesAt bs at n → FewAttributes m
few_attributes bs at n m f h =
    let r = f h.attributes h.here h.counted in
    record {
      few_cells = omega (arith, r.is_cells, h.few_cells);
      few_nodes = omega (arith, r.is_nodes, h.few_nodes);
      few_levels = omega (arith, r.is_depth, h.few_nodes, attribute_depth_below h.attributes);
    }

module _ (bs : List ℕ) (at : ℕ) where
  -- ---- a list
  pub some_list : get_or bs at 0 ≡ 4 → SomeAt bs at → SomeAt bs (at + 1)
  unfolding size nodes
  some_list e h =
      let v = list_view h.body (sym (at_tag bs at h.body h.here) ∙ e) in
      record {
        body = v.element;
        here = list_part bs at v.element (subst (λ (b : Body). At bs at b) v.is h.here);
        few_cells = omega (arith, h.few_cells, ap size v.is);
        few_nodes = omega (arith, h.few_nodes, ap nodes v.is);
      }

  pub measured_list : (m : Measure) → get_or bs at 0 ≡ 4 → ((b : Body) → At bs (at + 1) b → Measured m (at + 1) b)
      → (b : Body) → At bs at b
      → Measured (record { cells = 1 + 8 * m.cells; nodes = 1 + m.nodes; depth = 1 + m.depth; next = m.next }) at b
  unfolding size nodes depth bytes
  measured_list m e f b h =
      let v = list_view b (sym (at_tag bs at b h) ∙ e) in
      let r = f v.element (list_part bs at v.element (subst (λ (c : Body). At bs at c) v.is h)) in
      record {
        is_cells = omega (arith, r.is_cells, ap size v.is);
        is_nodes = omega (arith, r.is_nodes, ap nodes v.is);
        is_depth = omega (arith, r.is_depth, ap depth v.is);
        is_next = omega (arith, r.is_next, ap (λ (c : Body). length (bytes c)) v.is);
      }

  -- ---- a record
  pub some_record_below : get_or bs at 0 ≡ 5 → SomeAt bs at → at + 1 < length bs
  some_record_below e h =
      let v = record_view h.body (sym (at_tag bs at h.body h.here) ∙ e) in
      record_below bs at v.attributes (subst (λ (b : Body). At bs at b) v.is h.here)

  pub some_record : get_or bs at 0 ≡ 5 → SomeAt bs at → SomeAttributesAt bs (at + 2) (get_or bs (at + 1) 0)
  unfolding size nodes
  some_record e h =
      let v = record_view h.body (sym (at_tag bs at h.body h.here) ∙ e) in
      let a = subst (λ (b : Body). At bs at b) v.is h.here in
      record {
        attributes = v.attributes;
        here = record_part bs at v.attributes a;
        counted = record_count bs at v.attributes a;
        few_cells = omega (arith, h.few_cells, ap size v.is);
        few_nodes = omega (arith, h.few_nodes, ap nodes v.is);
      }

  pub measured_record : (m : Measure) → get_or bs at 0 ≡ 5
      → ((fs : Attributes) → AttributesAt bs (at + 2) fs → get_or bs (at + 1) 0 ≡ count_attributes fs → AttributesMeasured m (at + 2) fs)
      → (b : Body) → At bs at b
      → Measured (record { cells = m.cells; nodes = 1 + m.nodes; depth = 1 + m.depth; next = m.next }) at b
  unfolding size nodes depth bytes
  measured_record m e f b h =
      let v = record_view b (sym (at_tag bs at b h) ∙ e) in
      let a = subst (λ (c : Body). At bs at c) v.is h in
      let r = f v.attributes (record_part bs at v.attributes a) (record_count bs at v.attributes a) in
      record {
        is_cells = omega (arith, r.is_cells, ap size v.is);
        is_nodes = omega (arith, r.is_nodes, ap nodes v.is);
        is_depth = omega (arith, r.is_depth, ap depth v.is);
        is_next = omega (arith, r.is_next, ap (λ (c : Body). length (bytes c)) v.is);
      }

  pub measured_simple : (get_or bs at 0 ≡ 4 → ⊥) → (get_or bs at 0 ≡ 5 → ⊥) → (b : Body) → At bs at b
      → Measured (record { cells = 1; nodes = 1; depth = 1; next = at + 1 }) at b
  measured_simple f g b h =
      let v = simple_view b (λ e. f (at_tag bs at b h ∙ e)) (λ e. g (at_tag bs at b h ∙ e)) in
      record {
        is_cells = sym v.one_cell;
        is_nodes = sym v.one_node;
        is_depth = sym v.one_level;
        is_next = omega (arith, v.one_byte);
      }

  -- by the first byte
  pub measured_first : get_or bs at 0 ≤ 3 → (b : Body) → At bs at b → Measured (record { cells = 1; nodes = 1; depth = 1; next = at + 1 }) at b
  measured_first l =
      measured_simple (λ e. let z : ⊥ = omega (arith, l, e) in z) (λ e. let z : ⊥ = omega (arith, l, e) in z)

-- ---- attributes
module _ (bs : List ℕ) (at n : ℕ) (f : 0 < n) where
  pub first_at : SomeAttributesAt bs at n → SomeAt bs (at + 1)
  unfolding size nodes
  first_at h =
      let v = more_view h.attributes (omega (arith, f, h.counted)) in
      record {
        body = v.first_body;
        here = attribute_part bs at v.first_number v.first_body v.others (subst (λ (fs : Attributes). AttributesAt bs at fs) v.is h.here);
        few_cells = omega (arith, h.few_cells, ap sizes v.is);
        few_nodes = omega (arith, h.few_nodes, ap attribute_nodes v.is);
      }

measured_none : (at : ℕ) (fs : Attributes) → count_attributes fs ≡ 0
    → AttributesMeasured (record { cells = 0; nodes = 0; depth = 0; next = at }) at fs
unfolding size nodes depth bytes count_attributes
measured_none at end e = record { is_cells = refl; is_nodes = refl; is_depth = refl; is_next = omega arith }
measured_none at (attribute m b fs) e = absurd (let k : ⊥ = omega (arith, e) in k)

-- ---- n attributes that a loop passes: what it has added up of those passed, with the attributes ahead, is what the whole measures
pub record Passing (bs : List ℕ) (at n passed cells nodes_of depth_of next : ℕ) (fs : Attributes) : Type 0 where
  pub ahead : Attributes
  pub here : AttributesAt bs next ahead
  pub counted : passed + count_attributes ahead ≡ n
  pub all_cells : cells + sizes ahead ≡ sizes fs
  pub all_nodes : nodes_of + attribute_nodes ahead ≡ attribute_nodes fs
  pub all_levels : max depth_of (attribute_depth ahead) ≡ attribute_depth fs
  pub all_bytes : next + length (attribute_bytes ahead) ≡ at + length (attribute_bytes fs)
  pub onward : at ≤ next

-- so it is whichever n attributes stand there
pub record Passed (bs : List ℕ) (at n passed cells nodes_of depth_of next : ℕ) : Type 0 where
  pub whole : (fs : Attributes) → AttributesAt bs at fs → n ≡ count_attributes fs → Passing bs at n passed cells nodes_of depth_of next fs

pub none_passed : (bs : List ℕ) (at n : ℕ) → Passed bs at n 0 0 0 0 at
none_passed bs at n =
    record {
      whole = λ fs h e.
          record {
            ahead = fs;
            here = h;
            counted = omega (arith, e);
            all_cells = omega arith;
            all_nodes = omega arith;
            all_levels = omega arith;
            all_bytes = refl;
            onward = omega arith;
          };
    }

module _ {bs : List ℕ} {at n passed cells nodes_of depth_of next : ℕ} (k : Passed bs at n passed cells nodes_of depth_of next) where
  pub all_passed : n ≤ passed → (fs : Attributes) → AttributesAt bs at fs → n ≡ count_attributes fs
      → AttributesMeasured (record { cells = cells; nodes = nodes_of; depth = depth_of; next = next }) at fs
  all_passed z fs h e =
      let p = k.whole fs h e in
      let r = measured_none next p.ahead (omega (arith, z, p.counted)) in
      record {
        is_cells = omega (arith, r.is_cells, p.all_cells);
        is_nodes = omega (arith, r.is_nodes, p.all_nodes);
        is_depth = omega (arith, r.is_depth, p.all_levels);
        is_next = omega (arith, r.is_next, p.all_bytes);
      }

  -- what was added up is small
  pub few_passed : SomeAttributesAt bs at n → (cells ≤ 64) × (nodes_of ≤ 32) × (at ≤ next)
  few_passed s =
      let p = k.whole s.attributes s.here s.counted in
      (omega (arith, p.all_cells, s.few_cells), omega (arith, p.all_nodes, s.few_nodes), p.onward)

  -- the next attribute
  module _ (f : passed < n) where
    pub some_next : SomeAttributesAt bs at n → SomeAt bs (next + 1)
    some_next s =
        let p = k.whole s.attributes s.here s.counted in
        first_at bs next (n - passed) (omega (arith, f))
        (record {
          attributes = p.ahead;
          here = p.here;
          counted = omega (arith, p.counted);
          few_cells = omega (arith, p.all_cells, s.few_cells);
          few_nodes = omega (arith, p.all_nodes, s.few_nodes);
        })

    pub next_below : SomeAttributesAt bs at n → next + 1 < length bs
    next_below s = at_below bs (next + 1) (some_next s).body (some_next s).here

    pub one_passed : (m : Measure) → ((b : Body) → At bs (next + 1) b → Measured m (next + 1) b)
        → {c' k' d' x' : ℕ} → c' ≡ cells + m.cells → k' ≡ nodes_of + m.nodes → d' ≡ max depth_of m.depth → x' ≡ m.next
        → Passed bs at n (passed + 1) c' k' d' x'
    unfolding size nodes depth bytes
    one_passed m g ec ek ed ex =
        record {
          whole = λ fs h e.
              let p = k.whole fs h e in
              let v = more_view p.ahead (omega (arith, f, p.counted)) in
              let a = subst (λ (gs : Attributes). AttributesAt bs next gs) v.is p.here in
              let r = g v.first_body (attribute_part bs next v.first_number v.first_body v.others a) in
              record {
                ahead = v.others;
                here =
                    subst (λ (y : ℕ). AttributesAt bs y v.others) (sym (ex ∙ r.is_next))
                    (attribute_rest bs next v.first_number v.first_body v.others a);
                counted = omega (arith, p.counted, v.counted);
                all_cells = omega (arith, ec, r.is_cells, p.all_cells, ap sizes v.is);
                all_nodes = omega (arith, ek, r.is_nodes, p.all_nodes, ap attribute_nodes v.is);
                all_levels = omega (arith, ed, r.is_depth, p.all_levels, ap attribute_depth v.is);
                all_bytes =
                    omega (arith, ex, r.is_next, p.all_bytes, ap (λ (gs : Attributes). length (attribute_bytes gs)) v.is, length-append (bytes v.first_body) (attribute_bytes v.others));
                onward = omega (arith, ex, r.is_next, p.onward);
              };
        }
