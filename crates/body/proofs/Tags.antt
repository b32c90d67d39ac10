-- What the first byte of an array says of the body that it holds. Assumes nothing.
use mathlib.Core.Path.{◌≡◌, refl, sym, ap, subst, ◌∙◌}
use mathlib.Core.Bool.{true, false}
use mathlib.Core.List.{List}
use mathlib.Core.Option.{some, none}
use Prim.Native.Nat.{ℕ, ◌≤◌}
use native.Mathlib.Omega.{arith}
use borrow.Author.Tests.{eq-eqb, ne_eqb}
use lib.Dec.{eqb}
use lib.ListN.{get_or}
use Rattle.lingua.specs.Body.{Body, boolean, number, word, hundredths, list_of, record_of, Attributes, is_boolean, is_number, is_word, is_hundredths, is_simple, element_body, attributes_of, same_body}
use Rattle.body.specs.Encode.{Holds, Held}
use Rattle.body.specs.Find.{HeldRecord}
use Rattle.body.specs.Typed.{simple_of}
use Rattle.body.proofs.Bytes.{tag}
use Rattle.body.proofs.Equal.{same_body_lem}
use Rattle.body.proofs.Places.{at_tag, list_view, record_view}
use Rattle.body.proofs.Making.{held_at}

boolean_test : (b : Body) → is_boolean b ≡ eqb (tag b) 1
unfolding is_boolean tag
boolean_test boolean = refl
boolean_test number = refl
boolean_test word = refl
boolean_test hundredths = refl
boolean_test (list_of b) = refl
boolean_test (record_of fs) = refl

number_test : (b : Body) → is_number b ≡ eqb (tag b) 2
unfolding is_number tag
number_test boolean = refl
number_test number = refl
number_test word = refl
number_test hundredths = refl
number_test (list_of b) = refl
number_test (record_of fs) = refl

word_test : (b : Body) → is_word b ≡ eqb (tag b) 3
unfolding is_word tag
word_test boolean = refl
word_test number = refl
word_test word = refl
word_test hundredths = refl
word_test (list_of b) = refl
word_test (record_of fs) = refl

hundredths_test : (b : Body) → is_hundredths b ≡ eqb (tag b) 7
unfolding is_hundredths tag
hundredths_test boolean = refl
hundredths_test number = refl
hundredths_test word = refl
hundredths_test hundredths = refl
hundredths_test (list_of b) = refl
hundredths_test (record_of fs) = refl

-- a body that is no list and no record is simple
simple_test : (b : Body) → (tag b ≡ 4 → ⊥) → (tag b ≡ 5 → ⊥) → is_simple b ≡ true
unfolding is_simple is_boolean is_number is_word is_hundredths tag
simple_test boolean f g = refl
simple_test number f g = refl
simple_test word f g = refl
simple_test hundredths f g = refl
simple_test (list_of b) f g = absurd (f refl)
simple_test (record_of fs) f g = absurd (g refl)

list_test : (b : Body) → tag b ≡ 4 → is_simple b ≡ false
unfolding is_simple is_boolean is_number is_word is_hundredths
list_test b e = ap is_simple (list_view b e).is

record_test : (b : Body) → tag b ≡ 5 → is_simple b ≡ false
unfolding is_simple is_boolean is_number is_word is_hundredths
record_test b e = ap is_simple (record_view b e).is

element_test : (b : Body) → (tag b ≡ 4 → ⊥) → element_body b ≡ none
unfolding element_body tag
element_test boolean f = refl
element_test number f = refl
element_test word f = refl
element_test hundredths f = refl
element_test (list_of b) f = absurd (f refl)
element_test (record_of fs) f = refl

attributes_test : (b : Body) → (tag b ≡ 5 → ⊥) → attributes_of b ≡ none
unfolding attributes_of tag
attributes_test boolean f = refl
attributes_test number f = refl
attributes_test word f = refl
attributes_test hundredths f = refl
attributes_test (list_of b) f = refl
attributes_test (record_of fs) f = absurd (f refl)

module _ (x : List ℕ) (b : Body) (h : Holds x b) where
  pub held_tag : get_or x 0 0 ≡ tag b
  held_tag = at_tag x 0 b (held_at x b h)

  pub is_boolean_lem : get_or x 0 0 ≡ 1 → is_boolean b ≡ true
  is_boolean_lem e = boolean_test b ∙ eq-eqb (tag b) 1 (sym held_tag ∙ e)

  pub not_boolean_lem : (get_or x 0 0 ≡ 1 → ⊥) → is_boolean b ≡ false
  not_boolean_lem f = boolean_test b ∙ ne_eqb (tag b) 1 (λ e. f (held_tag ∙ e))

  pub is_number_lem : get_or x 0 0 ≡ 2 → is_number b ≡ true
  is_number_lem e = number_test b ∙ eq-eqb (tag b) 2 (sym held_tag ∙ e)

  pub not_number : (get_or x 0 0 ≡ 2 → ⊥) → is_number b ≡ false
  not_number f = number_test b ∙ ne_eqb (tag b) 2 (λ e. f (held_tag ∙ e))

  pub is_word_lem : get_or x 0 0 ≡ 3 → is_word b ≡ true
  is_word_lem e = word_test b ∙ eq-eqb (tag b) 3 (sym held_tag ∙ e)

  pub not_word : (get_or x 0 0 ≡ 3 → ⊥) → is_word b ≡ false
  not_word f = word_test b ∙ ne_eqb (tag b) 3 (λ e. f (held_tag ∙ e))

  pub is_hundredths_lem : get_or x 0 0 ≡ 7 → is_hundredths b ≡ true
  is_hundredths_lem e = hundredths_test b ∙ eq-eqb (tag b) 7 (sym held_tag ∙ e)

  pub not_hundredths : (get_or x 0 0 ≡ 7 → ⊥) → is_hundredths b ≡ false
  not_hundredths f = hundredths_test b ∙ ne_eqb (tag b) 7 (λ e. f (held_tag ∙ e))

  -- the tests themselves
  pub first_boolean : eqb (get_or x 0 0) 1 ≡ is_boolean b
  first_boolean = ap (λ (t : ℕ). eqb t 1) held_tag ∙ sym (boolean_test b)

  pub first_number : eqb (get_or x 0 0) 2 ≡ is_number b
  first_number = ap (λ (t : ℕ). eqb t 2) held_tag ∙ sym (number_test b)

  pub first_hundredths : eqb (get_or x 0 0) 7 ≡ is_hundredths b
  first_hundredths = ap (λ (t : ℕ). eqb t 7) held_tag ∙ sym (hundredths_test b)

  pub is_simple_lem : (get_or x 0 0 ≡ 4 → ⊥) → (get_or x 0 0 ≡ 5 → ⊥) → is_simple b ≡ true
  is_simple_lem f g = simple_test b (λ e. f (held_tag ∙ e)) (λ e. g (held_tag ∙ e))

  pub list_not_simple : get_or x 0 0 ≡ 4 → is_simple b ≡ false
  list_not_simple e = list_test b (sym held_tag ∙ e)

  pub record_not_simple : get_or x 0 0 ≡ 5 → is_simple b ≡ false
  record_not_simple e = record_test b (sym held_tag ∙ e)

  pub not_list : (get_or x 0 0 ≡ 4 → ⊥) → element_body b ≡ none
  not_list f = element_test b (λ e. f (held_tag ∙ e))

  pub not_record : (get_or x 0 0 ≡ 5 → ⊥) → attributes_of b ≡ none
  not_record f = attributes_test b (λ e. f (held_tag ∙ e))

-- the tag of a boolean, a number or a word says which one it is
pub by_first : (b : Body) → tag b ≤ 3 → b ≡ simple_of (tag b)
unfolding tag simple_of
by_first boolean h = refl
by_first number h = refl
by_first word h = refl
by_first hundredths h = absurd (let z : ⊥ = omega (arith, h) in z)
by_first (list_of b) h = absurd (let z : ⊥ = omega (arith, h) in z)
by_first (record_of fs) h = absurd (let z : ⊥ = omega (arith, h) in z)

same_tag : (b c : Body) → tag b ≤ 3 → tag b ≡ tag c → b ≡ c
same_tag b c h e = by_first b h ∙ ap simple_of e ∙ sym (by_first c (omega (arith, h, e)))

module _ (x y : List ℕ) (b c : Body) (h : Holds x b) (k : Holds y c) where
  pub same_first : get_or x 0 0 ≤ 3 → get_or x 0 0 ≡ get_or y 0 0 → true ≡ same_body b c
  same_first l e =
      same_body_lem b c (same_tag b c (omega (arith, l, held_tag x b h)) (sym (held_tag x b h) ∙ e ∙ held_tag y c k))

-- an array with a list's or a record's tag holds one
pub record HoldsList (x : List ℕ) (b : Body) : Type 0 where
  pub element : Body
  pub is : element_body b ≡ some element
  pub holds : Holds x (list_of element)

pub is_list : (x : List ℕ) (b : Body) → Holds x b → get_or x 0 0 ≡ 4 → HoldsList x b
unfolding element_body
is_list x b h e =
    let v = list_view b (sym (held_tag x b h) ∙ e) in
    record { element = v.element; is = ap element_body v.is; holds = subst (λ (c : Body). Holds x c) v.is h }

pub record HoldsRecord (x : List ℕ) (b : Body) : Type 0 where
  pub attributes : Attributes
  pub is : attributes_of b ≡ some attributes
  pub holds : Holds x (record_of attributes)

pub is_record : (x : List ℕ) (b : Body) → Holds x b → get_or x 0 0 ≡ 5 → HoldsRecord x b
unfolding attributes_of
is_record x b h e =
    let v = record_view b (sym (held_tag x b h) ∙ e) in
    record { attributes = v.attributes; is = ap attributes_of v.is; holds = subst (λ (c : Body). Holds x c) v.is h }

pub held_record : (x : List ℕ) → Held x → get_or x 0 0 ≡ 5 → HeldRecord x
held_record x h e =
    let v = is_record x h.body h.holds e in
    record { attributes = v.attributes; holds = v.holds }

pub held_element : (x r : List ℕ) → ((b : Body) → Holds x (list_of b) → Holds r b) → Held x → get_or x 0 0 ≡ 4 → Held r
held_element x r f h e =
    let v = is_list x h.body h.holds e in
    record { body = v.element; holds = f v.element v.holds }
