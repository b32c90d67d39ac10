-- What the first bytes of simple operands decide: the tag of the result. Assumes nothing.
use mathlib.Core.Path.{◌≡◌, refl, sym, subst}
use mathlib.Core.List.{List, [], ◌∷◌}
use Prim.Native.Nat.{ℕ, ◌≤◌}
use native.Mathlib.Omega.{arith}
use lib.ListN.{get_or}
use Rattle.std.specs.Prelude.{Option, None, Some, Ok, IfSome}
use Rattle.lingua.specs.Outcome.{Outcome, ok}
use Rattle.lingua.specs.Body.{Body, number, is_number, is_hundredths, is_quantity, same_body}
use Rattle.lingua.specs.Encode.{bytes}
use Rattle.lingua.specs.Operation.{Unary, negation, to_hundredths, to_number, Binary, add, subtract, multiply, divide, less, equal, glue, quantities_to, unary_body, binary_body}
use Rattle.lingua.specs.Typing.{hundredths_flag, unary_second, binary_second}
use Rattle.std.proofs.lemmas.Option.{IfSome_then}
use Rattle.laws.specs.Outcomes as outcomes
use Rattle.body.specs.Encode.{Holds}
use Rattle.body.specs.Typed.{Types, simple_of, binary_offset}
use Rattle.body_half.specs.Half.{Half, simple_typed, SimpleHalf}
use Rattle.body.proofs.Tags.{is_boolean_lem, is_number_lem, is_word_lem, is_hundredths_lem, is_simple_lem, same_first}
use Rattle.body.proofs.Answers.{likewise, scalar_is}
use Rattle.body_half.proofs.Halves.{negation_boolean, to_hundredths_number, to_number_hundredths, equal_like, glue_both}
use Rattle.body_half.proofs.Offsets.{unary_is, binary_is}

simple_types : (t : ℕ) → bytes (simple_of t) ≡ t ∷ [] → (r : Outcome ℕ Body) → r ≡ ok (simple_of t) → Types (Ok (simple_typed t)) r 0
unfolding simple_typed
simple_types t h r e = likewise (scalar_is t _ refl h) e

-- ---- one operand, whose first byte gave the tag t if any
by_one : (o : Unary) (t : ℕ) (r : Option ℕ) (x : List ℕ) (b : Body) → Holds x b → bytes (simple_of t) ≡ t ∷ [] → unary_second o b ≡ 0
    → IfSome r (λ g. (g ≡ t) × (unary_body o b ≡ ok (simple_of t))) → SimpleHalf r (unary_body o b) (λ d. unary_second o b)
by_one o t None x b h k z f = tt
by_one o t (Some r) x b h k z f =
    subst (λ (s : ℕ). Half (Ok (simple_typed s)) (unary_body o b) (λ d. unary_second o b)) (sym f.0)
    (unary_is (Ok (simple_typed t)) o x b h
    (subst (λ (s : ℕ). Types (Ok (simple_typed t)) (unary_body o b) s) (sym z) (simple_types t k (unary_body o b) f.1)))

module _ (x : List ℕ) (b : Body) (h : Holds x b) (r : Option ℕ) where
  pub negation_simple : IfSome r (λ g. (get_or x 0 0 ≡ 1) × (g ≡ 1)) → SimpleHalf r (unary_body negation b) (λ d. unary_second negation b)
  unfolding bytes simple_of unary_second
  negation_simple f = by_one negation 1 r x b h refl refl (IfSome_then r f (λ g q. (q.1, negation_boolean b (is_boolean_lem x b h q.0))))

  pub to_hundredths_simple : IfSome r (λ g. (get_or x 0 0 ≡ 2) × (g ≡ 7)) → SimpleHalf r (unary_body to_hundredths b) (λ d. unary_second to_hundredths b)
  unfolding bytes simple_of unary_second
  to_hundredths_simple f =
      by_one to_hundredths 7 r x b h refl refl (IfSome_then r f (λ g q. (q.1, to_hundredths_number b (is_number_lem x b h q.0))))

  pub to_number_simple : IfSome r (λ g. (get_or x 0 0 ≡ 7) × (g ≡ 2)) → SimpleHalf r (unary_body to_number b) (λ d. unary_second to_number b)
  unfolding bytes simple_of unary_second
  to_number_simple f =
      by_one to_number 2 r x b h refl refl (IfSome_then r f (λ g q. (q.1, to_number_hundredths b (is_hundredths_lem x b h q.0))))

-- ---- two operands, whose first bytes gave the tag t if any
by_two : (o : Binary) (t : ℕ) (r : Option ℕ) (b c : Body) → bytes (simple_of t) ≡ t ∷ [] → binary_offset o b c ≡ 0
    → IfSome r (λ g. (g ≡ t) × (binary_body o b c ≡ ok (simple_of t))) → SimpleHalf r (binary_body o b c) (λ d. binary_second o b c d)
by_two o t None b c k z f = tt
by_two o t (Some r) b c k z f =
    subst (λ (s : ℕ). Half (Ok (simple_typed s)) (binary_body o b c) (λ d. binary_second o b c d)) (sym f.0)
    (binary_is (Ok (simple_typed t)) o b c
    (subst (λ (s : ℕ). Types (Ok (simple_typed t)) (binary_body o b c) s) (sym z) (simple_types t k (binary_body o b c) f.1)))

-- two numbers give the simple body of the tag t, and the second number 0
pub record NumbersGive (o : Binary) (t : ℕ) : Type 0 where
  pub tagged : bytes (simple_of t) ≡ t ∷ []
  pub no_second : binary_offset o number number ≡ 0
  pub body : binary_body o number number ≡ ok (simple_of t)

pub add_gives : NumbersGive add 2
unfolding bytes simple_of binary_offset binary_body quantities_to is_quantity same_body is_number is_hundredths hundredths_flag
add_gives = record { tagged = refl; no_second = refl; body = refl }

pub subtract_gives : NumbersGive subtract 2
unfolding bytes simple_of binary_offset binary_body quantities_to is_quantity same_body is_number is_hundredths hundredths_flag
subtract_gives = record { tagged = refl; no_second = refl; body = refl }

pub multiply_gives : NumbersGive multiply 2
unfolding bytes simple_of binary_offset binary_body quantities_to is_quantity same_body is_number is_hundredths hundredths_flag
multiply_gives = record { tagged = refl; no_second = refl; body = refl }

pub divide_gives : NumbersGive divide 2
unfolding bytes simple_of binary_offset binary_body quantities_to is_quantity same_body is_number is_hundredths hundredths_flag
divide_gives = record { tagged = refl; no_second = refl; body = refl }

pub less_gives : NumbersGive less 1
unfolding bytes simple_of binary_offset binary_body quantities_to is_quantity same_body is_number is_hundredths
less_gives = record { tagged = refl; no_second = refl; body = refl }

-- what was found of two first bytes
numbers_two : (o : Binary) (t : ℕ) (r : Option ℕ) (b c : Body) → NumbersGive o t → IfSome r (λ g. (b ≡ number) × (c ≡ number) × (g ≡ t))
    → SimpleHalf r (binary_body o b c) (λ d. binary_second o b c d)
numbers_two o t None b c g f = tt
numbers_two o t (Some r) b c g f =
    subst (λ (u : Body). Half (Ok (simple_typed r)) (binary_body o u c) (λ d. binary_second o u c d)) (sym f.0)
    (subst (λ (u : Body). Half (Ok (simple_typed r)) (binary_body o number u) (λ d. binary_second o number u d)) (sym f.1)
    (by_two o t (Some r) number number g.tagged g.no_second (f.2, g.body)))

module _ (x y : List ℕ) (b c : Body) (h : Holds x b) (k : Holds y c) (r : Option ℕ) where
  pub numbers_simple : (o : Binary) (t : ℕ) → NumbersGive o t → IfSome r (λ g. (get_or x 0 0 ≡ 2) × (get_or y 0 0 ≡ 2) × (g ≡ t))
      → SimpleHalf r (binary_body o b c) (λ d. binary_second o b c d)
  numbers_simple o t g f =
      numbers_two o t r b c g
      (IfSome_then r f (λ s q. (outcomes.is_number_lem b (is_number_lem x b h q.0), outcomes.is_number_lem c (is_number_lem y c k q.1), q.2)))

  pub glue_simple : IfSome r (λ g. (get_or x 0 0 ≡ 3) × (get_or y 0 0 ≡ 3) × (g ≡ 3)) → SimpleHalf r (binary_body glue b c) (λ d. binary_second glue b c d)
  unfolding bytes simple_of binary_offset
  glue_simple f =
      by_two glue 3 r b c refl refl
      (IfSome_then r f (λ s q. (q.2, glue_both b c (is_word_lem x b h q.0) (is_word_lem y c k q.1))))

  pub equal_simple : IfSome r (λ g. (get_or x 0 0 ≤ 3) × (get_or x 0 0 ≡ get_or y 0 0) × (g ≡ 1)) → SimpleHalf r (binary_body equal b c) (λ d. binary_second equal b c d)
  unfolding bytes simple_of binary_offset
  equal_simple f =
      by_two equal 1 r b c refl refl
      (IfSome_then r f (λ g q.
      let s = is_simple_lem x b h (λ e. let z : ⊥ = omega (arith, e, q.0) in z) (λ e. let z : ⊥ = omega (arith, e, q.0) in z) in
      (q.2, equal_like b c s (sym (same_first x y b c h k q.0 q.1)))))
