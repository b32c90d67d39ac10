-- Records of which one is the other with one attribute more: the search for that attribute, and what counts alone decide. Assumes nothing.
use mathlib.Core.Path.{◌≡◌, refl, sym, ap, ◌∙◌}
use mathlib.Core.Bool.{Bool, true, false, ◌||◌}
use mathlib.Core.List.{List}
use mathlib.Core.Option.{some, none}
use Prim.Native.Nat.{ℕ, ◌+◌, ◌≤◌, ◌<◌}
use native.Mathlib.Omega.{arith}
use borrow.Author.Tests.{eq-eqb}
use lib.Dec.{eqb}
use lib.ListN.{get_or}
use Rattle.std.specs.Prelude.{if◌then◌else◌}
use Rattle.lingua.specs.Outcome.{is_some}
use Rattle.lingua.specs.Body.{Body, record_of, Attributes, end, attribute, count_attributes, attributes_of, attribute_body, same_body, same_attributes, remove_attribute, lacks_one_of, lacks_one, coherent}
use Rattle.laws.specs.Outcomes.{false_is_true, is_some_lem, same_attributes_lem}
use Rattle.laws.specs.Removal.{removed_fewer}
use Rattle.body.specs.declared.walk.Measure.{Measure}
use Rattle.body.specs.Encode.{Holds}
use Rattle.body.specs.Walk.{At, Measured}
use Rattle.body.specs.Find.{HeldRecord, HeldWith}
use Rattle.body.proofs.Finding.{for_record, Ahead, ahead_start, next_view, next_number, next_passed}

-- an attribute of hs is one of gs
abbrev pub Among : Attributes → Attributes → Type 0
Among hs gs = (n : ℕ) → is_some (attribute_body n hs) ≡ true → is_some (attribute_body n gs) ≡ true

first_there : (m : ℕ) (b : Body) (hs : Attributes) → is_some (attribute_body m (attribute m b hs)) ≡ true
unfolding attribute_body
first_there m b hs = rw (eq-eqb m m refl) refl

others_there : (n m : ℕ) (b : Body) (hs : Attributes) → is_some (attribute_body n hs) ≡ true → is_some (attribute_body n (attribute m b hs)) ≡ true
unfolding attribute_body
others_there n m b hs e = by (eqb n m)
  where
    by : (t : Bool) → is_some (if t then some b else attribute_body n hs) ≡ true
    by true = refl
    by false = e

-- ---- what is another without one of its attributes has fewer
lacks_more : (hs fs gs : Attributes) → Among hs gs → lacks_one_of hs fs gs ≡ true → count_attributes fs < count_attributes gs
unfolding lacks_one_of
lacks_more end fs gs a e = false_is_true e
lacks_more (attribute n b hs) fs gs a e =
    by_test (same_attributes fs (remove_attribute n gs)) refl (lacks_more hs fs gs (λ m h. a m (others_there m n b hs h)))
  where
    by_test : (t : Bool) → same_attributes fs (remove_attribute n gs) ≡ t → (lacks_one_of hs fs gs ≡ true → count_attributes fs < count_attributes gs)
        → count_attributes fs < count_attributes gs
    by_test true q f =
        let s = is_some_lem (attribute_body n gs) (a n (first_there n b hs)) in
        omega (arith, ap count_attributes (same_attributes_lem fs (remove_attribute n gs) q), (removed_fewer n gs s.0 s.1).fewer_attributes)
    by_test false q f = f (rw q at e)

pub not_lacking : (fs gs : Attributes) → count_attributes gs ≤ count_attributes fs → lacks_one fs gs ≡ false
unfolding lacks_one
not_lacking fs gs h = by_test (lacks_one_of gs fs gs) refl
  where
    by_test : (t : Bool) → lacks_one_of gs fs gs ≡ t → t ≡ false
    by_test true e = absurd (let z : ⊥ = omega (arith, lacks_more gs fs gs (λ n k. k) e) in z)
    by_test false e = refl

-- ---- the search for the attribute that the record in x lacks, among those of the record in y
pub record Lacking (x y : List ℕ) (passed at : ℕ) : Type 0 where
  pub state : Ahead y passed at
  pub among : Among state.ahead state.all
  pub same_answer : (fs : Attributes) → Holds x (record_of fs) → lacks_one fs state.all ≡ lacks_one_of state.ahead fs state.all

pub lacking_start : (x y : List ℕ) → HeldRecord y → Lacking x y 0 2
unfolding ahead_start lacks_one
lacking_start x y h = record { state = ahead_start y h; among = λ n e. e; same_answer = λ fs k. refl }

module _ (x y : List ℕ) (passed at : ℕ) (s : Lacking x y passed at) where
  pub lacking_none : get_or y 1 0 ≤ passed → (fs gs : Attributes) → Holds x (record_of fs) → Holds y (record_of gs) → false ≡ lacks_one fs gs
  unfolding lacks_one_of count_attributes
  lacking_none z fs gs h k =
      for_record (λ (hs : Attributes). false ≡ lacks_one fs hs) s.state.holds
      (sym (s.same_answer fs h ∙ none_left s.state.ahead (omega (arith, z, s.state.counted)))) gs k
    where
      none_left : (hs : Attributes) → count_attributes hs ≡ 0 → lacks_one_of hs fs s.state.all ≡ false
      none_left end e = refl
      none_left (attribute m b hs) e = absurd (let z : ⊥ = omega (arith, e) in z)

  module _ (f : passed < get_or y 1 0) where
    pub lacking_with : HeldWith y (get_or y at 0)
    lacking_with =
        let a = s.state in
        let v = next_view y passed at f a in
        record {
          attributes = a.all;
          holds = a.holds;
          there =
              rw (next_number y passed at f a)
              (s.among v.first_number
              (ap (λ (hs : Attributes). is_some (attribute_body v.first_number hs)) v.is ∙ first_there v.first_number v.first_body v.others));
        }

    module _ (t : Bool) (k : (fs gs : Attributes) → Holds x (record_of fs) → Holds y (record_of gs) → t ≡ same_attributes fs (remove_attribute (get_or y at 0) gs)) where
      -- what is asked of the attributes ahead, by the first of them
      by_first : (fs : Attributes) → Holds x (record_of fs)
          → lacks_one fs s.state.all ≡ (t || lacks_one_of (next_view y passed at f s.state).others fs s.state.all)
      unfolding lacks_one_of
      by_first fs h =
          let a = s.state in
          let v = next_view y passed at f a in
          s.same_answer fs h ∙ ap (λ (hs : Attributes). lacks_one_of hs fs a.all) v.is
          ∙ ap (λ (u : Bool). u || lacks_one_of v.others fs a.all)
          (ap (λ (n : ℕ). same_attributes fs (remove_attribute n a.all)) (sym (next_number y passed at f a)) ∙ sym (k fs a.all h a.holds))

      pub lacking_found : t ≡ true → (fs gs : Attributes) → Holds x (record_of fs) → Holds y (record_of gs) → true ≡ lacks_one fs gs
      lacking_found e fs gs h j =
          for_record (λ (hs : Attributes). true ≡ lacks_one fs hs) s.state.holds
          (sym (by_first fs h ∙ ap (λ (u : Bool). u || lacks_one_of (next_view y passed at f s.state).others fs s.state.all) e)) gs j

      pub lacking_on : t ≡ false → (m : Measure) → ((b : Body) → At y (at + 1) b → Measured m (at + 1) b) → Lacking x y (passed + 1) m.next
      unfolding next_passed
      lacking_on e m g =
          let a = s.state in
          let v = next_view y passed at f a in
          record {
            state = next_passed y passed at f a m g;
            among =
                λ n h. s.among n
                (ap (λ (hs : Attributes). is_some (attribute_body n hs)) v.is ∙ others_there n v.first_number v.first_body v.others h);
            same_answer = λ fs h. by_first fs h ∙ ap (λ (u : Bool). u || lacks_one_of v.others fs a.all) e;
          }

-- ---- whether two bodies that differ are coherent
module _ (b c : Body) (e : false ≡ same_body b c) where
  pub coherent_first : attributes_of b ≡ none → false ≡ coherent b c
  unfolding coherent
  coherent_first p = rw (sym e, p) refl

  module _ (fs : Attributes) (p : attributes_of b ≡ some fs) where
    pub coherent_second : attributes_of c ≡ none → false ≡ coherent b c
    unfolding coherent
    coherent_second q = rw (sym e, p, q) refl

    module _ (gs : Attributes) (q : attributes_of c ≡ some gs) where
      pub coherent_wider : (t : Bool) → count_attributes fs < count_attributes gs → t ≡ lacks_one fs gs → t ≡ coherent b c
      unfolding coherent
      coherent_wider t l r = rw (sym e, p, q, sym r, not_lacking gs fs (omega arith)) (or_false t)
        where
          or_false : (u : Bool) → u ≡ (u || false)
          or_false true = refl
          or_false false = refl

      pub coherent_narrower : (t : Bool) → count_attributes gs ≤ count_attributes fs → t ≡ lacks_one gs fs → t ≡ coherent b c
      unfolding coherent
      coherent_narrower t l r = rw (sym e, p, q, not_lacking fs gs l, sym r) refl
