-- Outcomes that hold no type error: a value of a body, or a run error; and lists of run errors. Where an operation's half on bodies
-- passes, applying it gives no type error, and neither do the checks of one operand alone. Assumes nothing.
use Rattle.std.specs.Prelude.{◌≡◌, refl, Bool, not, ◌&&◌, ◌||◌, List, ℕ, suc, ◌+◌, ltb, leb, ℤ, pos, ◌+ℤ◌, ◌-ℤ◌, ◌*ℤ◌, if◌then◌else◌}
use Rattle.std.proofs.Common.{sym, ap, ◌∙◌, subst, arith, ltb-false, lt-ltb}
use Rattle.std.proofs.Math.Bool.{true, false}
use Rattle.std.proofs.Math.Option.{Option, some}
use Rattle.std.proofs.Math.ListN.{length}
use Rattle.std.proofs.lemmas.Bool.{not-true}
use Rattle.lingua.specs.Numbers.{word_length, list_places, body_cells, body_nodes, body_depth, record_attributes, parts_of_one}
use Rattle.lingua.specs.Errors.{is_run_error, overflow, division_by_zero, list_full, word_too_long, number_expected, word_expected, list_expected, record_expected, no_such_attribute, attribute_present, not_comparable, body_too_large}
use Rattle.lingua.specs.Outcome.{ok, fail, Result, ◌>>=◌, ◌>>◌, require, or_fail}
use Rattle.lingua.specs.Body.{Body, boolean, record_of, Attributes, end, attribute, size, nodes, depth, count_attributes, width, too_large, is_boolean, is_quantity, is_word, is_simple, same_body, element_body, attributes_of, attribute_body, insert_attribute}
use Rattle.lingua.specs.Value.{Value, Fits, Values, no_items, item, count_values, as_truth, as_whole, as_text, as_items, Composite, composite, in_range_of, is_count}
use Rattle.lingua.specs.Operation.{Unary, negation, make_record, select, make_list, top, pop, remove, to_hundredths, to_number, Binary, add, subtract, multiply, divide, less, equal, glue, expand, change, push, bounded, present, unary_body, quantities_to, binary_body}
use Rattle.lingua.specs.Compute.{ranged, same_number, product, divided, glued, pushed, top_of, pop_of, unary_value, binary_value}
use Rattle.lingua.specs.Evaluation.{apply_unary, apply_binary, truth_or}
use Rattle.lingua.specs.Meets.{error_in, on_answer, unless_met, expand_met, change_met, push_met, first_met, divisor_met, second_met, binary_met}
use Rattle.laws.specs.Outcomes.{false_is_true, required, asked, and_left, and_right, same_body_lem, or_right}
use Rattle.laws.specs.Sound.{unary_sound, binary_sound}
use Rattle.laws.specs.Classes.{overflow_runs, division_runs, empty_runs, full_runs, long_runs}
use Rattle.safety.specs.Answers.{same_answer, never_ok}
use Rattle.safety.specs.Every.{Every, every_none, every_append, every_one}
use Rattle.safety.specs.Constants.{Fitting}
use Rattle.lingua.specs.Rounding.{nearest}
use Rattle.laws.specs.Halves.{quantities_body}

-- run errors only, no type error
abbrev pub RunErrors : List ℕ → Type 0
RunErrors ns = Every (λ n. is_run_error n ≡ true) ns

-- a value that fits the body, or a run error
pub data Good (b : Body) : Result Composite → Type 0 where
  gives : {x : Composite} → x.body ≡ b → Fitting x → Good b (ok x)
  stops : {n : ℕ} → is_run_error n ≡ true → Good b (fail n)

-- an outcome whose error, if it has one, is a run error
unfoldable pub RunErrorOnly : {A : Type 0} → Result A → Type 0
RunErrorOnly (ok a) = Unit {0}
RunErrorOnly (fail n) = is_run_error n ≡ true

-- ---- what comes next
pub good_as : {b c : Body} {r : Result Composite} → b ≡ c → Good b r → Good c r
good_as {r = r} e h = subst (λ (d : Body). Good d r) e h

pub good_then : {b c : Body} {r : Result Composite} {f : Composite → Result Composite} → Good b r → ((x : Composite) → x.body ≡ b → Fitting x → Good c (f x)) → Good c (r >>= f)
good_then (gives {x} e h) k = k x e h
good_then (stops l) k = stops l

-- an answer has the body, and fits it
pub good_answer : {b : Body} {r : Result Composite} → Good b r → (x : Composite) → r ≡ ok x → (x.body ≡ b) × Fitting x
good_answer {b} (gives e h) x q = subst (λ (z : Composite). (z.body ≡ b) × Fitting z) (same_answer q) (e, h)
good_answer (stops l) x q = never_ok q

pub answer_met : {b : Body} {r : Result Composite} {f : Composite → List ℕ} → Good b r → ((x : Composite) → x.body ≡ b → Fitting x → RunErrors (f x)) → RunErrors (on_answer r f)
answer_met (gives {x} e h) k = k x e h
answer_met (stops l) k = every_none

pub error_met : {b : Body} {r : Result Composite} → Good b r → RunErrors (error_in r)
error_met (gives e h) = every_none
error_met (stops l) = every_one l

pub passed_met : {A : Type 0} (r : Result A) → RunErrorOnly r → RunErrors (error_in r)
unfolding RunErrorOnly
passed_met (ok a) h = every_none
passed_met (fail n) h = every_one h

pub unless_met_lem : (t : Bool) (n : ℕ) → t ≡ true → RunErrors (unless_met t n)
unless_met_lem true n e = every_none
unless_met_lem false n e = false_is_true e

pub unless_run_error : (t : Bool) (n : ℕ) → is_run_error n ≡ true → RunErrors (unless_met t n)
unless_run_error true n l = every_none
unless_run_error false n l = every_one l

-- ---- Booleans
pub truth_known : (n : ℕ) (x : Composite) → x.body ≡ boolean → truth_or n x ≡ ok (as_truth x.value)
unfolding truth_or is_boolean
truth_known n x e = ap (λ (b : Body). require (is_boolean b) n >> ok (as_truth x.value)) e

pub truth_then : {A : Type 0} (P : Result A → Type 0) (n : ℕ) (x : Composite) (f : Bool → Result A) → x.body ≡ boolean → ((t : Bool) → P (f t)) → P (truth_or n x >>= f)
truth_then P n x f e h = subst (λ (o : Result Bool). P (o >>= f)) (sym (truth_known n x e)) (h (as_truth x.value))

pub truth_met : (n : ℕ) (x : Composite) → x.body ≡ boolean → RunErrors (error_in (truth_or n x))
truth_met n x e = subst (λ (o : Result Bool). RunErrors (error_in o)) (sym (truth_known n x e)) every_none

pub truth_answer_met : (n : ℕ) (x : Composite) (f : Bool → List ℕ) → x.body ≡ boolean → ((t : Bool) → RunErrors (f t)) → RunErrors (on_answer (truth_or n x) f)
truth_answer_met n x f e h = subst (λ (o : Result Bool). RunErrors (on_answer o f)) (sym (truth_known n x e)) (h (as_truth x.value))

-- ---- the values' halves give run errors only
required_only : {A : Type 0} (t : Bool) (n : ℕ) (o : Result A) → is_run_error n ≡ true → RunErrorOnly o → RunErrorOnly (require t n >> o)
unfolding RunErrorOnly
required_only true n o l h = h
required_only false n o l h = l

top_only : (vs : Values) → RunErrorOnly (top_of vs)
unfolding top_of RunErrorOnly
top_only no_items = empty_runs
top_only (item v vs) = tt

pop_only : (vs : Values) → RunErrorOnly (pop_of vs)
unfolding pop_of RunErrorOnly
pop_only no_items = empty_runs
pop_only (item v vs) = tt

unary_only : (o : Unary) (x : Value) → RunErrorOnly (unary_value o x)
unfolding unary_value RunErrorOnly
unary_only negation x = tt
unary_only (make_record n) x = tt
unary_only (select n) x = tt
unary_only make_list x = tt
unary_only top x = top_only (as_items x)
unary_only pop x = pop_only (as_items x)
unary_only (remove n) x = tt
unary_only to_hundredths x = tt
unary_only to_number x = tt

ranged_only : (h : Bool) (z : ℤ) → RunErrorOnly (ranged h z)
unfolding ranged
ranged_only h z = required_only (in_range_of h z) overflow _ overflow_runs (unfold RunErrorOnly in tt)

divided_only : (h : Bool) (x y : ℤ) → RunErrorOnly (divided h x y)
unfolding divided
divided_only true x y = required_only (not (same_number y (pos 0))) division_by_zero _ division_runs (ranged_only true (nearest (pos parts_of_one *ℤ x) y))
divided_only false x y = required_only (not (same_number y (pos 0))) division_by_zero _ division_runs (unfold RunErrorOnly in tt)

binary_only : (o : Binary) (x y : Value) → RunErrorOnly (binary_value o x y)
unfolding binary_value
binary_only add x y = ranged_only (is_count x) (as_whole x +ℤ as_whole y)
binary_only subtract x y = ranged_only (is_count x) (as_whole x -ℤ as_whole y)
binary_only multiply x y = ranged_only (is_count x) (product (is_count x) (as_whole x) (as_whole y))
binary_only divide x y = divided_only (is_count x) (as_whole x) (as_whole y)
binary_only less x y = unfold RunErrorOnly in tt
binary_only equal x y = unfold RunErrorOnly in tt
binary_only glue x y =
    unfold glued in required_only (leb (length (as_text x) + length (as_text y)) word_length) word_too_long _ long_runs (unfold RunErrorOnly in tt)
binary_only (expand n) x y = unfold RunErrorOnly in tt
binary_only (change n) x y = unfold RunErrorOnly in tt
binary_only push x y =
    unfold pushed in required_only (ltb (count_values (as_items x)) list_places) list_full _ full_runs (unfold RunErrorOnly in tt)

-- ---- operations whose half on bodies passes
halves_good : (p : Result Body) (q : Result Value) (d : Body) → p ≡ ok d → ((v : Value) → q ≡ ok v → Fits v d) → RunErrorOnly q → Good d (p >>= λ b. q >>= λ v. ok (composite b v))
unfolding RunErrorOnly
halves_good (ok b) (ok v) d e h l = let s = same_answer e in gives s (subst (λ (c : Body). Fits v c) (sym s) (h v refl))
halves_good (ok b) (fail n) d e h l = stops l
halves_good (fail n) q d e h l = never_ok e

pub unary_good : (o : Unary) (x : Composite) (d : Body) → Fitting x → unary_body o x.body ≡ ok d → Good d (apply_unary o x)
unfolding apply_unary
unary_good o x d h e = halves_good (unary_body o x.body) (unary_value o x.value) d e (λ v q. unary_sound o h e q) (unary_only o x.value)

pub binary_good : (o : Binary) (x y : Composite) (d : Body) → Fitting x → Fitting y → binary_body o x.body y.body ≡ ok d → Good d (apply_binary o x y)
unfolding apply_binary
binary_good o x y d h k e =
    halves_good (binary_body o x.body y.body) (binary_value o x.value y.value) d e (λ v q. binary_sound o h k e q) (binary_only o x.value y.value)

-- ---- the checks of one operand alone
quantities_both : (r b c d : Body) → quantities_to r b c ≡ ok d → (is_quantity b ≡ true) × (is_quantity c ≡ true)
quantities_both r b c d e = let p = quantities_body e in (p.0, ap is_quantity p.1 ∙ p.0)

count_insert : (n : ℕ) (b : Body) (fs : Attributes) → count_attributes (insert_attribute n b fs) ≡ suc (count_attributes fs)
unfolding count_attributes insert_attribute
count_insert n b end = refl
count_insert n b (attribute m c fs) = go (ltb n m) (count_insert n b fs)
  where
    go : (t : Bool) → count_attributes (insert_attribute n b fs) ≡ suc (count_attributes fs)
        → count_attributes (if t then attribute n b (attribute m c fs) else attribute m c (insert_attribute n b fs)) ≡ suc (suc (count_attributes fs))
    go true e = refl
    go false e = ap suc e

-- a record that takes another attribute has room for it
has_room : (n : ℕ) (c d : Body) (fs : Attributes) → bounded (record_of (insert_attribute n c fs)) ≡ ok d → ltb (count_attributes fs) record_attributes ≡ true
unfolding bounded too_large width
has_room n c d fs e =
    let b = record_of (insert_attribute n c fs) in
    let p = required (not (too_large b)) body_too_large (ok b) d e in
    let w = or_right (ltb body_cells (size b) || ltb body_nodes (nodes b) || ltb body_depth (depth b)) (ltb record_attributes (width b)) (not-true (too_large b) p.0) in
    lt-ltb (count_attributes fs) record_attributes (omega (arith, ltb-false record_attributes (width b) w, count_insert n c fs))

expand_passes : (n : ℕ) (b c d : Body) → binary_body (expand n) b c ≡ ok d → expand_met n b ≡ ok tt
unfolding binary_body expand_met
expand_passes n b c d e =
    let p = asked (attributes_of b) record_expected _ d e in
    let fs = p.0 in
    let q = required (not (present n fs)) attribute_present (bounded (record_of (insert_attribute n c fs))) d p.2 in
    ap (λ (m : Option Attributes). or_fail m record_expected >>= λ gs. require (not (present n gs)) attribute_present >> require (ltb (count_attributes gs) record_attributes) body_too_large) p.1
    ∙ ap (λ (t : Bool). require t attribute_present >> require (ltb (count_attributes fs) record_attributes) body_too_large) q.0
    ∙ ap (λ (t : Bool). require t body_too_large) (has_room n c d fs q.1)

change_passes : (n : ℕ) (b c d : Body) → binary_body (change n) b c ≡ ok d → (k : Body) × (change_met n b ≡ ok k)
unfolding binary_body change_met
change_passes n b c d e =
    let p = asked (attributes_of b) record_expected _ d e in
    let q = asked (attribute_body n p.0) no_such_attribute _ d p.2 in (
      q.0,
      ap (λ (m : Option Attributes). or_fail m record_expected >>= λ gs. or_fail (attribute_body n gs) no_such_attribute) p.1
          ∙ ap (λ (m : Option Body). or_fail m no_such_attribute) q.1,
    )

push_only : (x : Composite) (k : Body) → element_body x.body ≡ some k → RunErrorOnly (push_met x)
unfolding push_met
push_only x k e =
    subst (λ (m : Option Body). RunErrorOnly (or_fail m list_expected >>= λ b. require (ltb (count_values (as_items x.value)) list_places) list_full)) (sym e)
    (full (ltb (count_values (as_items x.value)) list_places))
  where
    full : (t : Bool) → RunErrorOnly (require t list_full)
    full true = unfold RunErrorOnly in tt
    full false = unfold RunErrorOnly in full_runs

answered_met : {A : Type 0} {r : Result A} {a : A} → r ≡ ok a → RunErrors (error_in r)
answered_met e = subst (λ r. RunErrors (error_in r)) (sym e) every_none

pub first_met_lem : (o : Binary) (x : Composite) (c d : Body) → binary_body o x.body c ≡ ok d → RunErrors (first_met o x)
unfolding first_met binary_body
first_met_lem add x c d e = unless_met_lem (is_quantity x.body) number_expected (quantities_both x.body x.body c d e).0
first_met_lem subtract x c d e = unless_met_lem (is_quantity x.body) number_expected (quantities_both x.body x.body c d e).0
first_met_lem multiply x c d e = unless_met_lem (is_quantity x.body) number_expected (quantities_both x.body x.body c d e).0
first_met_lem divide x c d e = unless_met_lem (is_quantity x.body) number_expected (quantities_both x.body x.body c d e).0
first_met_lem less x c d e = unless_met_lem (is_quantity x.body) number_expected (quantities_both boolean x.body c d e).0
first_met_lem equal x c d e =
    unless_met_lem (is_simple x.body) not_comparable (and_left (is_simple x.body) (same_body x.body c) (required (is_simple x.body && same_body x.body c) not_comparable _ d e).0)
first_met_lem glue x c d e =
    unless_met_lem (is_word x.body) word_expected (and_left (is_word x.body) (is_word c) (required (is_word x.body && is_word c) word_expected _ d e).0)
first_met_lem (expand n) x c d e = answered_met (expand_passes n x.body c d e)
first_met_lem (change n) x c d e = answered_met (change_passes n x.body c d e).1
first_met_lem push x c d e = let p = asked (element_body x.body) list_expected _ d e in passed_met (push_met x) (push_only x p.0 p.1)

pub second_met_lem : (o : Binary) (b : Body) (y : Composite) (d : Body) → binary_body o b y.body ≡ ok d → RunErrors (second_met o y)
unfolding second_met binary_body divisor_met
second_met_lem add b y d e = unless_met_lem (is_quantity y.body) number_expected (quantities_both b b y.body d e).1
second_met_lem subtract b y d e = unless_met_lem (is_quantity y.body) number_expected (quantities_both b b y.body d e).1
second_met_lem multiply b y d e = unless_met_lem (is_quantity y.body) number_expected (quantities_both b b y.body d e).1
second_met_lem divide b y d e =
    passed_met (divisor_met y) (divisor (is_quantity y.body) (not (same_number (as_whole y.value) (pos 0))) (quantities_both b b y.body d e).1)
  where
    divisor : (t u : Bool) → t ≡ true → RunErrorOnly (require t number_expected >> require u division_by_zero)
    divisor true true q = unfold RunErrorOnly in tt
    divisor true false q = unfold RunErrorOnly in division_runs
    divisor false u q = false_is_true q
second_met_lem less b y d e = unless_met_lem (is_quantity y.body) number_expected (quantities_both boolean b y.body d e).1
second_met_lem equal b y d e =
    let p = (required (is_simple b && same_body b y.body) not_comparable _ d e).0 in
    unless_met_lem (is_simple y.body) not_comparable
    (subst (λ (c : Body). is_simple c ≡ true) (same_body_lem b y.body (and_right (is_simple b) (same_body b y.body) p)) (and_left (is_simple b) (same_body b y.body) p))
second_met_lem glue b y d e =
    unless_met_lem (is_word y.body) word_expected (and_right (is_word b) (is_word y.body) (required (is_word b && is_word y.body) word_expected _ d e).0)
second_met_lem (expand n) b y d e = every_none
second_met_lem (change n) b y d e = every_none
second_met_lem push b y d e = every_none

-- an operation on two outcomes: each operand's own checks, and those of both
pub binary_met_lem : (o : Binary) {b c : Body} {p q : Result Composite} (d : Body) → Good b p → Good c q → binary_body o b c ≡ ok d → RunErrors (binary_met o p q)
unfolding binary_met
binary_met_lem o {b} {c} {p} {q} d g h e =
    every_append
    (every_append
    (answer_met g (λ x u f. first_met_lem o x c d (ap (λ (k : Body). binary_body o k c) u ∙ e)))
    (answer_met h (λ y v f. second_met_lem o b y d (ap (λ (k : Body). binary_body o b k) v ∙ e))))
    (answer_met g (λ x u f. answer_met h (λ y v k. error_met (binary_good o x y d f k (ap (λ (j : Body). binary_body o j y.body) u ∙ ap (λ (j : Body). binary_body o b j) v ∙ e)))))
