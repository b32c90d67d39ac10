-- The operations' half on bodies, one law for each way in which it ends. Assumes nothing.
use mathlib.Core.Path.{◌≡◌, refl}
use mathlib.Core.Bool.{true, false, ◌&&◌}
use mathlib.Core.Option.{some, none}
use Prim.Native.Nat.{ℕ}
use lib.Dec.{ltb}
use Rattle.lingua.specs.Outcome.{ok, fail, is_some}
use Rattle.lingua.specs.Body.{Body, list_of, record_of, Attributes, end, attribute, same_body, is_boolean, is_number, is_word, is_hundredths, is_quantity, is_simple, element_body, attributes_of, count_attributes, attribute_body, insert_attribute, remove_attribute, too_large}
use Rattle.lingua.specs.Operation.{negation, make_record, select, make_list, top, pop, remove, to_hundredths, to_number, equal, glue, expand, change, push, bounded, present, quantities_to, unary_body, binary_body}
use Rattle.body.specs.Typed.{simple_of}

-- ---- one operand
pub negation_other : (b : Body) → is_boolean b ≡ false → unary_body negation b ≡ fail 9
unfolding unary_body
negation_other b e0 = rw (e0) refl

pub negation_boolean : (b : Body) → is_boolean b ≡ true → unary_body negation b ≡ ok (simple_of 1)
unfolding unary_body simple_of
negation_boolean b e0 = rw (e0) refl

pub record_large : (n : ℕ) (b : Body) → too_large (record_of (attribute n b end)) ≡ true → unary_body (make_record n) b ≡ fail 18
unfolding unary_body bounded
record_large n b e0 = rw (e0) refl

pub record_bounded : (n : ℕ) (b : Body) → too_large (record_of (attribute n b end)) ≡ false → unary_body (make_record n) b ≡ ok (record_of (attribute n b end))
unfolding unary_body bounded
record_bounded n b e0 = rw (e0) refl

pub select_other : (n : ℕ) (b : Body) → attributes_of b ≡ none → unary_body (select n) b ≡ fail 12
unfolding unary_body
select_other n b e0 = rw (e0) refl

pub select_missing : (n : ℕ) (b : Body) (fs : Attributes) → attributes_of b ≡ some fs → attribute_body n fs ≡ none → unary_body (select n) b ≡ fail 13
unfolding unary_body
select_missing n b fs e0 e1 = rw (e0, e1) refl

pub select_found : (n : ℕ) (b c : Body) (fs : Attributes) → attributes_of b ≡ some fs → attribute_body n fs ≡ some c → unary_body (select n) b ≡ ok c
unfolding unary_body
select_found n b c fs e0 e1 = rw (e0, e1) refl

pub list_large : (b : Body) → too_large (list_of b) ≡ true → unary_body make_list b ≡ fail 18
unfolding unary_body bounded
list_large b e0 = rw (e0) refl

pub list_bounded : (b : Body) → too_large (list_of b) ≡ false → unary_body make_list b ≡ ok (list_of b)
unfolding unary_body bounded
list_bounded b e0 = rw (e0) refl

pub top_other : (b : Body) → element_body b ≡ none → unary_body top b ≡ fail 11
unfolding unary_body
top_other b e0 = rw (e0) refl

pub top_list : (b c : Body) → element_body b ≡ some c → unary_body top b ≡ ok c
unfolding unary_body
top_list b c e0 = rw (e0) refl

pub pop_other : (b : Body) → element_body b ≡ none → unary_body pop b ≡ fail 11
unfolding unary_body
pop_other b e0 = rw (e0) refl

pub pop_list : (b c : Body) → element_body b ≡ some c → unary_body pop b ≡ ok b
unfolding unary_body
pop_list b c e0 = rw (e0) refl

pub remove_other : (n : ℕ) (b : Body) → attributes_of b ≡ none → unary_body (remove n) b ≡ fail 12
unfolding unary_body
remove_other n b e0 = rw (e0) refl

pub remove_missing : (n : ℕ) (b : Body) (fs : Attributes) → attributes_of b ≡ some fs → is_some (attribute_body n fs) ≡ false → unary_body (remove n) b ≡ fail 13
unfolding unary_body present
remove_missing n b fs e0 e1 = rw (e0, e1) refl

pub remove_last : (n : ℕ) (b : Body) (fs : Attributes) → attributes_of b ≡ some fs → is_some (attribute_body n fs) ≡ true → ltb 1 (count_attributes fs) ≡ false → unary_body (remove n) b ≡ fail 19
unfolding unary_body present
remove_last n b fs e0 e1 e2 = rw (e0, e1, e2) refl

pub remove_found : (n : ℕ) (b : Body) (fs : Attributes) → attributes_of b ≡ some fs → is_some (attribute_body n fs) ≡ true → ltb 1 (count_attributes fs) ≡ true → unary_body (remove n) b ≡ ok (record_of (remove_attribute n fs))
unfolding unary_body present
remove_found n b fs e0 e1 e2 = rw (e0, e1, e2) refl

pub to_hundredths_other : (b : Body) → is_number b ≡ false → unary_body to_hundredths b ≡ fail 8
unfolding unary_body
to_hundredths_other b e0 = rw (e0) refl

pub to_hundredths_number : (b : Body) → is_number b ≡ true → unary_body to_hundredths b ≡ ok (simple_of 7)
unfolding unary_body simple_of
to_hundredths_number b e0 = rw (e0) refl

pub to_number_other : (b : Body) → is_hundredths b ≡ false → unary_body to_number b ≡ fail 8
unfolding unary_body
to_number_other b e0 = rw (e0) refl

pub to_number_hundredths : (b : Body) → is_hundredths b ≡ true → unary_body to_number b ≡ ok (simple_of 2)
unfolding unary_body simple_of
to_number_hundredths b e0 = rw (e0) refl

-- ---- two operands
pub quantities_other : (d b c : Body) → is_quantity b && same_body b c ≡ false → quantities_to d b c ≡ fail 8
unfolding quantities_to
quantities_other d b c e0 = rw (e0) refl

pub quantities_both : (d b c : Body) → is_quantity b && same_body b c ≡ true → quantities_to d b c ≡ ok d
unfolding quantities_to
quantities_both d b c e0 = rw (e0) refl

pub equal_other : (b c : Body) → is_simple b ≡ false → binary_body equal b c ≡ fail 17
unfolding binary_body
equal_other b c e0 = rw (e0) refl

pub equal_unlike : (b c : Body) → is_simple b ≡ true → same_body b c ≡ false → binary_body equal b c ≡ fail 17
unfolding binary_body
equal_unlike b c e0 e1 = rw (e0, e1) refl

pub equal_like : (b c : Body) → is_simple b ≡ true → same_body b c ≡ true → binary_body equal b c ≡ ok (simple_of 1)
unfolding binary_body simple_of
equal_like b c e0 e1 = rw (e0, e1) refl

pub glue_first : (b c : Body) → is_word b ≡ false → binary_body glue b c ≡ fail 10
unfolding binary_body
glue_first b c e0 = rw (e0) refl

pub glue_second : (b c : Body) → is_word b ≡ true → is_word c ≡ false → binary_body glue b c ≡ fail 10
unfolding binary_body
glue_second b c e0 e1 = rw (e0, e1) refl

pub glue_both : (b c : Body) → is_word b ≡ true → is_word c ≡ true → binary_body glue b c ≡ ok (simple_of 3)
unfolding binary_body simple_of
glue_both b c e0 e1 = rw (e0, e1) refl

pub expand_other : (n : ℕ) (b c : Body) → attributes_of b ≡ none → binary_body (expand n) b c ≡ fail 12
unfolding binary_body
expand_other n b c e0 = rw (e0) refl

pub expand_present : (n : ℕ) (b c : Body) (fs : Attributes) → attributes_of b ≡ some fs → is_some (attribute_body n fs) ≡ true → binary_body (expand n) b c ≡ fail 14
unfolding binary_body present
expand_present n b c fs e0 e1 = rw (e0, e1) refl

pub expand_large : (n : ℕ) (b c : Body) (fs : Attributes) → attributes_of b ≡ some fs → is_some (attribute_body n fs) ≡ false → too_large (record_of (insert_attribute n c fs)) ≡ true → binary_body (expand n) b c ≡ fail 18
unfolding binary_body present bounded
expand_large n b c fs e0 e1 e2 = rw (e0, e1, e2) refl

pub expand_bounded : (n : ℕ) (b c : Body) (fs : Attributes) → attributes_of b ≡ some fs → is_some (attribute_body n fs) ≡ false → too_large (record_of (insert_attribute n c fs)) ≡ false → binary_body (expand n) b c ≡ ok (record_of (insert_attribute n c fs))
unfolding binary_body present bounded
expand_bounded n b c fs e0 e1 e2 = rw (e0, e1, e2) refl

pub change_other : (n : ℕ) (b c : Body) → attributes_of b ≡ none → binary_body (change n) b c ≡ fail 12
unfolding binary_body
change_other n b c e0 = rw (e0) refl

pub change_missing : (n : ℕ) (b c : Body) (fs : Attributes) → attributes_of b ≡ some fs → attribute_body n fs ≡ none → binary_body (change n) b c ≡ fail 13
unfolding binary_body
change_missing n b c fs e0 e1 = rw (e0, e1) refl

pub change_unlike : (n : ℕ) (b c d : Body) (fs : Attributes) → attributes_of b ≡ some fs → attribute_body n fs ≡ some d → same_body d c ≡ false → binary_body (change n) b c ≡ fail 15
unfolding binary_body
change_unlike n b c d fs e0 e1 e2 = rw (e0, e1, e2) refl

pub change_like : (n : ℕ) (b c d : Body) (fs : Attributes) → attributes_of b ≡ some fs → attribute_body n fs ≡ some d → same_body d c ≡ true → binary_body (change n) b c ≡ ok b
unfolding binary_body
change_like n b c d fs e0 e1 e2 = rw (e0, e1, e2) refl

pub push_other : (b c : Body) → element_body b ≡ none → binary_body push b c ≡ fail 11
unfolding binary_body
push_other b c e0 = rw (e0) refl

pub push_unlike : (b c d : Body) → element_body b ≡ some d → same_body d c ≡ false → binary_body push b c ≡ fail 15
unfolding binary_body
push_unlike b c d e0 e1 = rw (e0, e1) refl

pub push_like : (b c d : Body) → element_body b ≡ some d → same_body d c ≡ true → binary_body push b c ≡ ok b
unfolding binary_body
push_like b c d e0 e1 = rw (e0, e1) refl
