-- The search for an attribute of a record, and for the place of a new one: one law for the start, each turn and each end.
-- Assumes nothing.
use mathlib.Core.Path.{◌≡◌, refl, sym, ap, subst, ◌∙◌}
use mathlib.Core.List.{List}
use mathlib.Core.Option.{some, none}
use Prim.Native.Nat.{ℕ, ◌+◌, ◌-◌, ◌≤◌, ◌<◌}
use native.Mathlib.Omega.{arith}
use borrow.Author.Tests.{eq-eqb, ne_eqb, lt-ltb, le-ltb}
use lib.ListN.{length, get_or}
use Rattle.lingua.specs.Body.{Body, record_of, Attributes, end, attribute, size, sizes, nodes, attribute_nodes, count_attributes, attribute_body, attribute_offset}
use Rattle.lingua.specs.Encode.{bytes}
use Rattle.body.specs.declared.walk.Measure.{Measure}
use Rattle.body.specs.Encode.{Holds}
use Rattle.body.specs.Walk.{At, SomeAt, AttributesAt, SomeAttributesAt, Measured}
use Rattle.body.specs.Find.{HeldRecord, FoundAt, bytes_before, bytes_below}
use Rattle.body.proofs.Parser.{encoded_injective}
use Rattle.body.proofs.Places.{at_below, record_below, record_count, record_part, attribute_number, attribute_part, attribute_rest, MoreView, more_view}
use Rattle.body.proofs.Measures.{first_at}
use Rattle.body.proofs.Making.{held_at, held_96}

-- what holds of the attributes of a record that an array holds, holds of every record's that it holds
pub for_record : (P : Attributes → Type 0) {x : List ℕ} {gs : Attributes} → Holds x (record_of gs) → P gs
    → (fs : Attributes) → Holds x (record_of fs) → P fs
for_record P {x} {gs} h p fs k =
    let e = encoded_injective (record_of gs) (record_of fs) (sym h.is ∙ k.is) in
    let q : gs ≡ fs = cc in
    subst P q p

pub count_below_lem : (x : List ℕ) → HeldRecord x → 1 < length x
count_below_lem x h = record_below x 0 h.attributes (held_at x (record_of h.attributes) h.holds)

-- ---- the attributes from a place of a record on, of which so many were passed
pub record Ahead (x : List ℕ) (passed at : ℕ) : Type 0 where
  pub all : Attributes
  pub holds : Holds x (record_of all)
  pub ahead : Attributes
  pub here : AttributesAt x at ahead
  pub counted : passed + count_attributes ahead ≡ get_or x 1 0
  pub few_cells : sizes ahead ≤ 64
  pub few_nodes : attribute_nodes ahead ≤ 32

pub some_ahead : (x : List ℕ) (passed at : ℕ) → Ahead x passed at → SomeAttributesAt x at (get_or x 1 0 - passed)
some_ahead x passed at s =
    record { attributes = s.ahead; here = s.here; counted = omega (arith, s.counted); few_cells = s.few_cells; few_nodes = s.few_nodes }

unfoldable pub ahead_start : (x : List ℕ) → HeldRecord x → Ahead x 0 2
unfolding size nodes
ahead_start x h =
    let fs = h.attributes in
    let a = held_at x (record_of fs) h.holds in
    record {
      all = fs;
      holds = h.holds;
      ahead = fs;
      here = record_part x 0 fs a;
      counted = omega (arith, record_count x 0 fs a);
      few_cells = h.holds.few_cells;
      few_nodes = omega (arith, h.holds.few_nodes);
    }

-- the next attribute, if there is one left
module _ (x : List ℕ) (passed at : ℕ) (f : passed < get_or x 1 0) (s : Ahead x passed at) where
  pub next_view : MoreView s.ahead
  next_view = more_view s.ahead (omega (arith, f, s.counted))

  unfoldable pub next_here : AttributesAt x at (attribute next_view.first_number next_view.first_body next_view.others)
  next_here = subst (λ (gs : Attributes). AttributesAt x at gs) next_view.is s.here

  pub next_number : get_or x at 0 ≡ next_view.first_number
  next_number = attribute_number x at next_view.first_number next_view.first_body next_view.others next_here

  pub next_body : At x (at + 1) next_view.first_body
  next_body = attribute_part x at next_view.first_number next_view.first_body next_view.others next_here

  module _ (m : Measure) (g : (b : Body) → At x (at + 1) b → Measured m (at + 1) b) where
    unfoldable pub next_passed : Ahead x (passed + 1) m.next
    unfolding size nodes
    next_passed =
        let v = next_view in
        record {
          all = s.all;
          holds = s.holds;
          ahead = v.others;
          here =
              subst (λ (k : ℕ). AttributesAt x k v.others) (sym (g v.first_body next_body).is_next)
              (attribute_rest x at v.first_number v.first_body v.others next_here);
          counted = omega (arith, s.counted, v.counted);
          few_cells = omega (arith, s.few_cells, ap sizes v.is);
          few_nodes = omega (arith, s.few_nodes, ap attribute_nodes v.is);
        }

module _ {x : List ℕ} {passed at : ℕ} (s : Ahead x passed at) (f : passed < get_or x 1 0) where
  pub some_next : SomeAt x (at + 1)
  some_next = first_at x at (get_or x 1 0 - passed) (omega (arith, f)) (some_ahead x passed at s)

  pub next_below : at + 1 < 96
  next_below =
      omega (arith, at_below x (at + 1) some_next.body some_next.here, held_96 x (record_of s.all) s.holds)

-- ---- the search for attribute n
pub record Searching (x : List ℕ) (n passed at offset : ℕ) : Type 0 where
  pub state : Ahead x passed at
  pub same_body_lem : attribute_body n state.all ≡ attribute_body n state.ahead
  pub same_place : 2 + bytes_before n state.all ≡ at + bytes_before n state.ahead
  pub same_offset : attribute_offset n state.all ≡ offset + attribute_offset n state.ahead
  pub few_cells : offset + sizes state.ahead ≤ 64

pub search_start : (x : List ℕ) (n : ℕ) → HeldRecord x → Searching x n 0 2 0
unfolding ahead_start size
search_start x n h =
    record {
      state = ahead_start x h;
      same_body_lem = refl;
      same_place = refl;
      same_offset = omega arith;
      few_cells = omega (arith, h.holds.few_cells);
    }

module _ (x : List ℕ) (n passed at offset : ℕ) (s : Searching x n passed at offset) where
  pub search_miss : get_or x 1 0 ≤ passed → (fs : Attributes) → Holds x (record_of fs) → attribute_body n fs ≡ none
  unfolding attribute_body count_attributes
  search_miss z =
      let a = s.state in
      for_record (λ (fs : Attributes). attribute_body n fs ≡ none) a.holds
      (s.same_body_lem ∙ none_left a.ahead (omega (arith, z, a.counted)))
    where
      none_left : (gs : Attributes) → count_attributes gs ≡ 0 → attribute_body n gs ≡ none
      none_left end c = refl
      none_left (attribute m b gs) c = absurd (let k : ⊥ = omega (arith, c) in k)

  module _ (f : passed < get_or x 1 0) where
    pub search_hit : get_or x at 0 ≡ n → (fs : Attributes) → Holds x (record_of fs)
        → FoundAt (record { at = at + 1; offset = offset }) x n fs
    unfolding attribute_body attribute_offset bytes_before
    search_hit e =
        let a = s.state in
        let v = next_view x passed at f a in
        let q = eq-eqb n v.first_number (sym e ∙ next_number x passed at f a) in
        let p : attribute_body n a.ahead ≡ some v.first_body = ap (attribute_body n) v.is ∙ rw q refl in
        let o : attribute_offset n a.ahead ≡ 0 = ap (attribute_offset n) v.is ∙ rw q refl in
        let w : bytes_before n a.ahead ≡ 0 = ap (bytes_before n) v.is ∙ rw q refl in
        for_record (λ (fs : Attributes). FoundAt (record { at = at + 1; offset = offset }) x n fs) a.holds
        (record {
          body = v.first_body;
          there = s.same_body_lem ∙ p;
          stands = next_body x passed at f a;
          is_place = omega (arith, s.same_place, w);
          is_offset = omega (arith, s.same_offset, o);
        })

    pub search_on : (get_or x at 0 ≡ n → ⊥) → (m : Measure) → ((b : Body) → At x (at + 1) b → Measured m (at + 1) b)
        → Searching x n (passed + 1) m.next (offset + m.cells)
    unfolding attribute_body attribute_offset bytes_before size next_passed
    search_on e m g =
        let a = s.state in
        let v = next_view x passed at f a in
        let q = ne_eqb n v.first_number (λ r. e (next_number x passed at f a ∙ sym r)) in
        let i = g v.first_body (next_body x passed at f a) in
        let c = i.is_cells in
        let p : attribute_body n a.ahead ≡ attribute_body n v.others = ap (attribute_body n) v.is ∙ rw q refl in
        let o : attribute_offset n a.ahead ≡ size v.first_body + attribute_offset n v.others = ap (attribute_offset n) v.is ∙ rw q refl in
        let w : bytes_before n a.ahead ≡ 1 + length (bytes v.first_body) + bytes_before n v.others = ap (bytes_before n) v.is ∙ rw q refl in
        record {
          state = next_passed x passed at f a m g;
          same_body_lem = s.same_body_lem ∙ p;
          same_place = omega (arith, s.same_place, w, i.is_next);
          same_offset = omega (arith, s.same_offset, o, c);
          few_cells = omega (arith, s.few_cells, c, ap sizes v.is);
        }

-- ---- the search for the place of attribute n
pub record Placing (x : List ℕ) (n passed at : ℕ) : Type 0 where
  pub state : Ahead x passed at
  pub same_place : 2 + bytes_below n state.all ≡ at + bytes_below n state.ahead

pub place_start : (x : List ℕ) (n : ℕ) → HeldRecord x → Placing x n 0 2
unfolding ahead_start
place_start x n h = record { state = ahead_start x h; same_place = refl }

module _ (x : List ℕ) (n passed at : ℕ) (s : Placing x n passed at) where
  pub place_last : get_or x 1 0 ≤ passed → (fs : Attributes) → Holds x (record_of fs) → at ≡ 2 + bytes_below n fs
  unfolding bytes_below count_attributes
  place_last z =
      let a = s.state in
      for_record (λ (fs : Attributes). at ≡ 2 + bytes_below n fs) a.holds
      (omega (arith, s.same_place, none_below a.ahead (omega (arith, z, a.counted))))
    where
      none_below : (gs : Attributes) → count_attributes gs ≡ 0 → bytes_below n gs ≡ 0
      none_below end c = refl
      none_below (attribute m b gs) c = absurd (let k : ⊥ = omega (arith, c) in k)

  module _ (f : passed < get_or x 1 0) where
    pub place_here : n < get_or x at 0 → (fs : Attributes) → Holds x (record_of fs) → at ≡ 2 + bytes_below n fs
    unfolding bytes_below
    place_here h =
        let a = s.state in
        let v = next_view x passed at f a in
        let q = lt-ltb n v.first_number (omega (arith, h, next_number x passed at f a)) in
        let p : bytes_below n a.ahead ≡ 0 = ap (bytes_below n) v.is ∙ rw q refl in
        for_record (λ (fs : Attributes). at ≡ 2 + bytes_below n fs) a.holds (omega (arith, s.same_place, p))

    pub place_on : get_or x at 0 ≤ n → (m : Measure) → ((b : Body) → At x (at + 1) b → Measured m (at + 1) b)
        → Placing x n (passed + 1) m.next
    unfolding bytes_below next_passed
    place_on h m g =
        let a = s.state in
        let v = next_view x passed at f a in
        let q = le-ltb n v.first_number (omega (arith, h, next_number x passed at f a)) in
        let p : bytes_below n a.ahead ≡ 1 + length (bytes v.first_body) + bytes_below n v.others = ap (bytes_below n) v.is ∙ rw q refl in
        record {
          state = next_passed x passed at f a m g;
          same_place = omega (arith, s.same_place, p, (g v.first_body (next_body x passed at f a)).is_next);
        }
