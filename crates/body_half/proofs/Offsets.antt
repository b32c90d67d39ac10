-- The halves on bodies with the layout table's second number: the code's is the definition's, and it is small, since an offset lies
-- within a record that has few cells. Assumes nothing.
use mathlib.Core.Path.{◌≡◌, refl, sym, ap, ◌∙◌}
use mathlib.Core.Bool.{Bool, true, false, not}
use mathlib.Core.List.{List}
use Prim.Native.Nat.{ℕ, ◌+◌, ◌≤◌}
use native.Mathlib.Omega.{arith}
use lib.Dec.{eqb}
use Rattle.lingua.specs.Numbers.{body_cells}
use Rattle.lingua.specs.Errors.{attribute_present, no_such_attribute, no_coherence, body_too_large}
use Rattle.std.specs.Prelude.{if◌then◌else◌, Result, Ok, Err}
use Rattle.lingua.specs.declared.errors.Error.{Error}
use Rattle.lingua.specs.Outcome.{Outcome, ok, require, ◌>>◌}
use Rattle.lingua.specs.Body.{Body, boolean, number, word, hundredths, list_of, record_of, Attributes, end, attribute, size, sizes, is_hundredths, same_body, attributes_of, attribute_body, attribute_offset, insert_attribute, too_large}
use Rattle.lingua.specs.Operation.{Unary, negation, make_record, select, make_list, top, pop, remove, to_hundredths, to_number, Binary, add, subtract, multiply, divide, less, equal, glue, expand, change, push, bounded, present, quantities_to, unary_body, binary_body}
use Rattle.lingua.specs.Typing.{offset_in, hundredths_flag, unary_second, binary_second}
use Rattle.laws.specs.Outcomes.{fail_is_ok, ok_same, required, asked}
use Rattle.laws.specs.Halves.{quantities_body}
use Rattle.body.specs.Encode.{Holds}
use Rattle.body.specs.declared.typed.Typed.{Typed as HalfTyped}
use Rattle.body.specs.Typed.{Types, binary_offset, offset_after}
use Rattle.body_half.specs.Half.{Half}

-- ---- offsets
attribute_within : (n : ℕ) (fs : Attributes) → attribute_offset n fs ≤ sizes fs
unfolding attribute_offset sizes
attribute_within n end = omega arith
attribute_within n (attribute m b fs) = by (eqb n m) (attribute_within n fs)
  where
    by : (t : Bool) → attribute_offset n fs ≤ sizes fs → (if t then 0 else size b + attribute_offset n fs) ≤ size b + sizes fs
    by true h = omega arith
    by false h = omega arith

offset_within : (n : ℕ) (b : Body) → offset_in n b ≤ size b
unfolding offset_in attributes_of size
offset_within n boolean = omega arith
offset_within n number = omega arith
offset_within n word = omega arith
offset_within n hundredths = omega arith
offset_within n (list_of b) = omega arith
offset_within n (record_of fs) = attribute_within n fs

-- what is to be shown of an offset: it is the second number, and small
record Second (o s : ℕ) : Type 0 where
  is : o ≡ s
  small : o ≤ body_cells

none_is : (s : ℕ) → s ≡ 0 → Second 0 s
none_is s e = record { is = sym e; small = omega arith }

unary_small : (o : Unary) (b : Body) → size b ≤ body_cells → unary_second o b ≤ body_cells
unfolding unary_second
unary_small negation b h = omega arith
unary_small (make_record n) b h = omega arith
unary_small (select n) b h = omega (arith, offset_within n b)
unary_small make_list b h = omega arith
unary_small top b h = omega arith
unary_small pop b h = omega arith
unary_small (remove n) b h = omega (arith, offset_within n b)
unary_small to_hundredths b h = omega arith
unary_small to_number b h = omega arith

-- an expanded record is the record with the attribute in its place
expanded : (n : ℕ) (b c d : Body) → binary_body (expand n) b c ≡ ok d → offset_after n c (attributes_of b) ≡ offset_in n d
unfolding binary_body attributes_of bounded offset_after offset_in
expanded n boolean c d e = fail_is_ok e
expanded n number c d e = fail_is_ok e
expanded n word c d e = fail_is_ok e
expanded n hundredths c d e = fail_is_ok e
expanded n (list_of b) c d e = fail_is_ok e
expanded n (record_of fs) c d e =
    let p = required (not (present n fs)) attribute_present (bounded (record_of (insert_attribute n c fs))) d e in
    let q = required (not (too_large (record_of (insert_attribute n c fs)))) body_too_large (ok (record_of (insert_attribute n c fs))) d p.1 in
    ap (λ (x : Body). offset_in n x) (ok_same q.1)

-- a changed record keeps its body
changed : (n : ℕ) (b c d : Body) → binary_body (change n) b c ≡ ok d → b ≡ d
unfolding binary_body attributes_of
changed n boolean c d e = fail_is_ok e
changed n number c d e = fail_is_ok e
changed n word c d e = fail_is_ok e
changed n hundredths c d e = fail_is_ok e
changed n (list_of b) c d e = fail_is_ok e
changed n (record_of fs) c d e =
    let p = asked (attribute_body n fs) no_such_attribute (λ x. require (same_body x c) no_coherence >> ok (record_of fs)) d e in
    let q = required (same_body p.0 c) no_coherence (ok (record_of fs)) d p.2 in
    ok_same q.1

-- what is reckoned with keeps its body
flag_small : (b : Body) → hundredths_flag b ≤ body_cells
unfolding hundredths_flag
flag_small b = by (is_hundredths b)
  where
    by : (t : Bool) → (if t then 1 else 0) ≤ body_cells
    by true = omega arith
    by false = omega arith

reckoned_second : (b c d : Body) → quantities_to b b c ≡ ok d → Second (hundredths_flag b) (hundredths_flag d)
reckoned_second b c d e = record { is = ap hundredths_flag (sym (quantities_body e).2); small = flag_small b }

binary_second_lem : (o : Binary) (b c d : Body) → binary_body o b c ≡ ok d → size d ≤ body_cells → Second (binary_offset o b c) (binary_second o b c d)
unfolding binary_offset binary_second binary_body
binary_second_lem add b c d e h = reckoned_second b c d e
binary_second_lem subtract b c d e h = reckoned_second b c d e
binary_second_lem multiply b c d e h = reckoned_second b c d e
binary_second_lem divide b c d e h = reckoned_second b c d e
binary_second_lem less b c d e h = none_is 0 refl
binary_second_lem equal b c d e h = none_is 0 refl
binary_second_lem glue b c d e h = none_is 0 refl
binary_second_lem (expand n) b c d e h =
    record { is = expanded n b c d e; small = omega (arith, expanded n b c d e, offset_within n d) }
binary_second_lem (change n) b c d e h =
    record { is = ap (λ (x : Body). offset_in n x) (changed n b c d e); small = omega (arith, ap (λ (x : Body). offset_in n x) (changed n b c d e), offset_within n d) }
binary_second_lem push b c d e h = none_is 0 refl

-- ---- halves
by_types : (t : Result HalfTyped Error) (r : Outcome ℕ Body) (o : ℕ) (second : Body → ℕ) → Types t r o → ((d : Body) → r ≡ ok d → size d ≤ body_cells → Second o (second d)) → Half t r second
by_types (Ok t) r o second h f =
    let s = f h.body h.is h.holds.few_cells in
    record {
      body = h.body;
      is = h.is;
      passes = record { holds = h.holds; cells = h.is_cells; is_second = h.is_offset ∙ s.is; small = omega (arith, h.is_offset, s.small) };
    }
by_types (Err e) r o second h f = h

pub unary_is : (t : Result HalfTyped Error) (o : Unary) (x : List ℕ) (b : Body) → Holds x b → Types t (unary_body o b) (unary_second o b) → Half t (unary_body o b) (λ d. unary_second o b)
unary_is t o x b h k =
    by_types t (unary_body o b) (unary_second o b) _ k (λ d e s. record { is = refl; small = unary_small o b h.few_cells })

pub binary_is : (t : Result HalfTyped Error) (o : Binary) (b c : Body) → Types t (binary_body o b c) (binary_offset o b c) → Half t (binary_body o b c) (λ d. binary_second o b c d)
binary_is t o b c k = by_types t (binary_body o b c) (binary_offset o b c) _ k (λ d e s. binary_second_lem o b c d e s)
