-- The two halves of an operation agree: where the bodies' half gives a body and the values' half a value, the value fits the
-- body. `unary_sound` and `binary_sound` say so of every operation. Assumes nothing.
use Rattle.std.specs.Prelude.{◌≡◌, refl, Bool, true, false, not, List, ◌++◌, ℕ, zero, suc, ◌+◌, ◌/◌, ◌≤◌, leb, ltb, length, ℤ, pos, negsuc, neg_ℤ, ◌+ℤ◌, ◌-ℤ◌, ◌*ℤ◌}
use Rattle.std.proofs.Common.{sym, subst, ◌∙◌, div-le_self, arith, leb-true, le-leb, ltb-true}
use Rattle.std.specs.Int.Signed.{le_z}
use Rattle.lingua.specs.Numbers.{lowest_number, highest_number, parts_of_one, word_length, list_places}
use Rattle.lingua.specs.Errors.{overflow, division_by_zero, list_full, word_too_long}
use Rattle.lingua.specs.Outcome.{ok}
use Rattle.lingua.specs.Body.{Body, boolean, number, word, hundredths, is_number, is_hundredths, is_quantity, list_of, record_of, Attributes}
use Rattle.lingua.specs.Value.{Value, whole, text, items, Values, no_items, item, count_values, in_range, Fits, fit_truth, fit_whole, fit_hundredths, fit_text, fit_items, fit_fields, AllFit, fit_item, FieldsFit, is_text, as_whole, as_text, as_items, as_fields, in_counts, quantity_body, is_count, in_range_of, quantity}
use Rattle.lingua.specs.Operation.{Unary, negation, make_record, select, make_list, top, pop, remove, to_hundredths, to_number, Binary, add, subtract, multiply, divide, less, equal, glue, expand, change, push, unary_body, binary_body}
use Rattle.lingua.specs.Rounding.{nearest}
use Rattle.lingua.specs.Compute.{ranged, same_number, quotient, product, divided, glued, pushed, top_of, pop_of, with_last, unary_value, binary_value}
use Rattle.arith.specs.Ranges.{counted_in_range, whole_part_in_range}
use Rattle.laws.specs.Outcomes.{false_is_true, fail_is_ok, ok_same, required, and_left, and_right, and_both}
use Rattle.laws.specs.Halves.{negation_body, make_record_body, select_body, make_list_body, top_body, pop_body, remove_body, to_hundredths_body, to_number_body, quantities_body, equal_body, glue_body, expand_body, change_body, push_body}
use Rattle.laws.specs.Words.{glued_text}
use Rattle.laws.specs.Records.{make_record_fits, select_fits, change_fits, remove_fits, expand_fits}
use Rattle.laws.specs.Items.{push_fits, fits_last_from, pop_fits, single_fits}

-- ---- what a value that fits a body is
pub fit_number : {x : Value} → Fits x number → in_range (as_whole x) ≡ true
unfolding as_whole
fit_number (fit_whole h) = h

pub fit_counts : {x : Value} → Fits x hundredths → in_counts (as_whole x) ≡ true
unfolding as_whole
fit_counts (fit_hundredths h) = h

pub fit_word : {x : Value} → Fits x word → is_text (as_text x) ≡ true
unfolding as_text
fit_word (fit_text h) = h

pub fit_list : {x : Value} {b : Body} → Fits x (list_of b) → AllFit (as_items x) b
unfolding as_items
fit_list (fit_items le hs) = hs

pub fit_count : {x : Value} {b : Body} → Fits x (list_of b) → count_values (as_items x) ≤ list_places
unfolding as_items
fit_count (fit_items le hs) = le

pub fit_record : {x : Value} {fs : Attributes} → Fits x (record_of fs) → FieldsFit (as_fields x) fs
unfolding as_fields
fit_record (fit_fields hs) = hs

fits_as : {x v : Value} {b d : Body} → v ≡ x → b ≡ d → Fits v b → Fits x d
fits_as {x} {v} {b} {d} p q h = subst (λ (w : Value). Fits w d) p (subst (λ (c : Body). Fits v c) q h)

-- ---- numbers, and hundredths
-- what a value says of itself is what its body says
pub quantity_body_lem : {x : Value} {b : Body} → is_quantity b ≡ true → Fits x b → quantity_body (is_count x) ≡ b
unfolding is_quantity is_number is_hundredths
quantity_body_lem s fit_truth = false_is_true s
quantity_body_lem s (fit_whole h) = refl
quantity_body_lem s (fit_hundredths h) = refl
quantity_body_lem s (fit_text h) = false_is_true s
quantity_body_lem s (fit_items le hs) = false_is_true s
quantity_body_lem s (fit_fields hs) = false_is_true s

pub quantity_counts : {x : Value} {b : Body} → is_quantity b ≡ true → Fits x b → is_count x ≡ is_hundredths b
unfolding is_quantity is_number is_hundredths
quantity_counts s fit_truth = false_is_true s
quantity_counts s (fit_whole h) = refl
quantity_counts s (fit_hundredths h) = refl
quantity_counts s (fit_text h) = false_is_true s
quantity_counts s (fit_items le hs) = false_is_true s
quantity_counts s (fit_fields hs) = false_is_true s

pub quantity_range : {x : Value} {b : Body} → is_quantity b ≡ true → Fits x b → in_range_of (is_count x) (as_whole x) ≡ true
unfolding is_quantity is_number is_hundredths in_range_of as_whole
quantity_range s fit_truth = false_is_true s
quantity_range s (fit_whole h) = h
quantity_range s (fit_hundredths h) = h
quantity_range s (fit_text h) = false_is_true s
quantity_range s (fit_items le hs) = false_is_true s
quantity_range s (fit_fields hs) = false_is_true s

-- a body that is reckoned with is hundredths or else number
pub quantity_is : (b : Body) → is_quantity b ≡ true → quantity_body (is_hundredths b) ≡ b
unfolding is_quantity is_number is_hundredths
quantity_is boolean e = false_is_true e
quantity_is number e = refl
quantity_is word e = false_is_true e
quantity_is hundredths e = refl
quantity_is (list_of b) e = false_is_true e
quantity_is (record_of fs) e = false_is_true e

-- and a number in its range is a value
pub quantity_fits : (h : Bool) (z : ℤ) → in_range_of h z ≡ true → Fits (quantity h z) (quantity_body h)
unfolding in_range_of
quantity_fits true z e = fit_hundredths e
quantity_fits false z e = fit_whole e

within : (z : ℤ) → le_z lowest_number z ≡ true → le_z z highest_number ≡ true → in_range z ≡ true
unfolding in_range
within z = and_both (le_z lowest_number z) (le_z z highest_number)

neg_in_range : (n : ℕ) → n ≤ 1000000 → in_range (neg_ℤ (pos n)) ≡ true
neg_in_range zero h = within (pos zero) refl refl
neg_in_range (suc n) h = within (negsuc n) (le-leb n 999999 (omega arith)) refl

pos_in_range : (n : ℕ) → n ≤ 1000000 → in_range (pos n) ≡ true
pos_in_range n h = within (pos n) refl (le-leb n 1000000 h)

-- a quotient is no further from zero than the number that was divided
pub quotient_in_range : (x y : ℤ) → in_range x ≡ true → in_range (quotient x y) ≡ true
unfolding quotient in_range
quotient_in_range (pos a) (pos b) h =
    let p = leb-true a 1000000 (and_right true (leb a 1000000) h) in pos_in_range (a / b) (omega (arith, p, div-le_self a b))
quotient_in_range (pos a) (negsuc b) h =
    let p = leb-true a 1000000 (and_right true (leb a 1000000) h) in neg_in_range (a / suc b) (omega (arith, p, div-le_self a (suc b)))
quotient_in_range (negsuc a) (pos b) h =
    let p = leb-true a 999999 (and_left (leb a 999999) true h) in neg_in_range (suc a / b) (omega (arith, p, div-le_self (suc a) b))
quotient_in_range (negsuc a) (negsuc b) h =
    let p = leb-true a 999999 (and_left (leb a 999999) true h) in pos_in_range (suc a / suc b) (omega (arith, p, div-le_self (suc a) (suc b)))

pub ranged_fits : (h : Bool) (z : ℤ) (v : Value) → ranged h z ≡ ok v → Fits v (quantity_body h)
unfolding ranged
ranged_fits h z v e =
    let p = required (in_range_of h z) overflow (ok (quantity h z)) v e in
    fits_as (ok_same p.1) refl (quantity_fits h z p.0)

as_body : {x : Value} {b c : Body} → b ≡ c → Fits x b → Fits x c
as_body {x} q h = subst (λ (c : Body). Fits x c) q h

-- ---- one operand
top_sound : (vs : Values) {d : Body} {v : Value} → AllFit vs d → top_of vs ≡ ok v → Fits v d
unfolding top_of
top_sound no_items hs e = fail_is_ok e
top_sound (item w vs) (fit_item h hs) e = fits_as (ok_same e) refl (fits_last_from h hs)

pop_sound : (vs : Values) {d : Body} {v : Value} → AllFit vs d → count_values vs ≤ list_places → pop_of vs ≡ ok v → Fits v (list_of d)
unfolding pop_of
pop_sound no_items hs le e = fail_is_ok e
pop_sound (item w vs) (fit_item h hs) le e = fits_as (ok_same e) refl (pop_fits h hs le)

pub unary_sound : (o : Unary) {x v : Value} {b d : Body} → Fits x b → unary_body o b ≡ ok d → unary_value o x ≡ ok v → Fits v d
unfolding unary_value
unary_sound negation h e f = fits_as (ok_same f) (sym (negation_body e).1) fit_truth
unary_sound (make_record n) h e f = fits_as (ok_same f) (sym (make_record_body {n = n} e)) (make_record_fits n h)
unary_sound (select n) {x} {v} {b} {d} h e f =
    let s = select_body {n = n} e in
    fits_as (ok_same f) refl (select_fits (fit_record (as_body s.is h)) n d s.has)
unary_sound make_list h e f = fits_as (ok_same f) (sym (make_list_body e)) (single_fits h)
unary_sound top {x} h e f = top_sound (as_items x) (fit_list (as_body (top_body e) h)) f
unary_sound pop {x} h e f =
    let p = pop_body e in
    let k = as_body p.1 h in
    as_body (sym p.2) (pop_sound (as_items x) (fit_list k) (fit_count k) f)
unary_sound (remove n) h e f =
    let s = remove_body {n = n} e in
    fits_as (ok_same f) (sym s.result) (fit_fields (remove_fits (fit_record (as_body s.is h)) n s.removed s.has))
unary_sound to_hundredths {x} h e f =
    let p = to_hundredths_body e in
    fits_as (ok_same f) (sym p.1) (fit_hundredths (counted_in_range (as_whole x) (fit_number (as_body p.0 h))))
unary_sound to_number {x} h e f =
    let p = to_number_body e in
    fits_as (ok_same f) (sym p.1) (fit_whole (whole_part_in_range (as_whole x) (fit_counts (as_body p.0 h))))

-- ---- two operands
pub divided_fits : (h : Bool) (x y : ℤ) (v : Value) → in_range_of h x ≡ true → divided h x y ≡ ok v → Fits v (quantity_body h)
unfolding divided in_range_of
divided_fits true x y v k e =
    ranged_fits true (nearest (pos parts_of_one *ℤ x) y) v (required (not (same_number y (pos 0))) division_by_zero (ranged true (nearest (pos parts_of_one *ℤ x) y)) v e).1
divided_fits false x y v k e =
    fits_as (ok_same (required (not (same_number y (pos 0))) division_by_zero (ok (whole (quotient x y))) v e).1) refl (fit_whole (quotient_in_range x y k))

glued_fits : (cs ds : List ℕ) (v : Value) → is_text cs ≡ true → is_text ds ≡ true → glued cs ds ≡ ok v → Fits v word
unfolding glued
glued_fits cs ds v h k e =
    let p = required (leb (length cs + length ds) word_length) word_too_long (ok (text (cs ++ ds))) v e in
    fits_as (ok_same p.1) refl (fit_text (glued_text cs ds h k (leb-true (length cs + length ds) word_length p.0)))

pushed_fits : (vs : Values) (x : Value) {b : Body} {v : Value} → AllFit vs b → Fits x b → pushed vs x ≡ ok v → Fits v (list_of b)
unfolding pushed
pushed_fits vs x {b} {v} hs k e =
    let p = required (ltb (count_values vs) list_places) list_full (ok (items (with_last vs x))) v e in
    fits_as (ok_same p.1) refl (push_fits hs k (ltb-true (count_values vs) list_places p.0))

pub binary_sound : (o : Binary) {x y v : Value} {b c d : Body} → Fits x b → Fits y c → binary_body o b c ≡ ok d → binary_value o x y ≡ ok v → Fits v d
unfolding binary_body binary_value
binary_sound add {x} {y} {v} h k e f =
    let p = quantities_body e in as_body (quantity_body_lem p.0 h ∙ sym p.2) (ranged_fits (is_count x) (as_whole x +ℤ as_whole y) v f)
binary_sound subtract {x} {y} {v} h k e f =
    let p = quantities_body e in as_body (quantity_body_lem p.0 h ∙ sym p.2) (ranged_fits (is_count x) (as_whole x -ℤ as_whole y) v f)
binary_sound multiply {x} {y} {v} h k e f =
    let p = quantities_body e in as_body (quantity_body_lem p.0 h ∙ sym p.2) (ranged_fits (is_count x) (product (is_count x) (as_whole x) (as_whole y)) v f)
binary_sound divide {x} {y} {v} h k e f =
    let p = quantities_body e in
    as_body (quantity_body_lem p.0 h ∙ sym p.2) (divided_fits (is_count x) (as_whole x) (as_whole y) v (quantity_range p.0 h) f)
binary_sound less h k e f = fits_as (ok_same f) (sym (quantities_body e).2) fit_truth
binary_sound equal h k e f = fits_as (ok_same f) (sym (equal_body e).2) fit_truth
binary_sound glue {x} {y} {v} h k e f =
    let p = glue_body e in
    as_body (sym p.2) (glued_fits (as_text x) (as_text y) v (fit_word (as_body p.0 h)) (fit_word (as_body p.1 k)) f)
binary_sound (expand n) h k e f =
    let p = expand_body {n = n} e in
    fits_as (ok_same f) (sym p.result) (fit_fields (expand_fits (fit_record (as_body p.is h)) k n p.absent))
binary_sound (change n) {x} {y} {v} {b} {c} h k e f =
    let p = change_body {n = n} e in
    fits_as (ok_same f) (sym p.1) (fit_fields (change_fits (fit_record (as_body p.0.is h)) n c p.0.has y k))
binary_sound push {x} {y} h k e f =
    let p = push_body e in
    as_body (sym p.1) (pushed_fits (as_items x) y (fit_list (as_body p.0 h)) k f)
