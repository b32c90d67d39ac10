-- What it shows that an operation's half on bodies gave a body: what the operands' bodies are, and what the result's is.
-- One law for each operation. Then: where the operands' bodies have at most 64 cells, the result's has. Assumes nothing.
use Rattle.std.specs.Prelude.{◌≡◌, refl, Bool, true, false, not, ◌&&◌, ◌||◌, ℕ, ◌+◌, ◌≤◌, ◌<◌, eqb, ltb, if◌then◌else◌}
use Rattle.std.proofs.Common.{sym, ap, ◌∙◌, subst, arith, ltb-true, ltb-false, eq-eqb}
use Rattle.std.proofs.Math.Option.{some}
use Rattle.std.proofs.lemmas.Bool.{not-true}
use Rattle.lingua.specs.Numbers.{body_cells, body_nodes, body_depth, record_attributes}
use Rattle.lingua.specs.Errors.{number_expected, boolean_expected, word_expected, list_expected, record_expected, no_such_attribute, attribute_present, no_coherence, not_comparable, body_too_large, last_attribute}
use Rattle.lingua.specs.Outcome.{ok, or_fail, is_some}
use Rattle.lingua.specs.Body.{Body, boolean, number, word, hundredths, list_of, record_of, Attributes, end, attribute, size, sizes, nodes, depth, width, is_boolean, is_number, is_word, is_hundredths, is_quantity, is_simple, same_body, element_body, attributes_of, count_attributes, attribute_body, attribute_offset, insert_attribute, remove_attribute, too_large}
use Rattle.lingua.specs.WellFormed.{InBounds}
use Rattle.lingua.specs.Operation.{Unary, negation, make_record, select, make_list, top, pop, remove, to_hundredths, to_number, Binary, add, subtract, multiply, divide, less, equal, glue, expand, change, push, bounded, present, unary_body, quantities_to, binary_body}
use Rattle.laws.specs.Outcomes.{false_is_true, ok_same, required, or_fail_ok, asked, is_some_lem, and_left, and_right, or_left, or_right, same_body_lem, is_boolean_lem, is_number_lem, is_word_lem, is_hundredths_lem, is_list, is_record, none_is_some, some_same}
use Rattle.laws.specs.Removal.{removed_fewer}

-- ---- bounds
pub bounded_is : {b d : Body} → bounded b ≡ ok d → d ≡ b
unfolding bounded
bounded_is {b} {d} e = sym (ok_same (required (not (too_large b)) body_too_large (ok b) d e).1)

-- no part of the test of bounds applies
pub bounded_within : (b : Body) {d : Body} → bounded b ≡ ok d → too_large d ≡ false
unfolding bounded
bounded_within b {d} e =
    let p = required (not (too_large b)) body_too_large (ok b) d e in
    subst (λ (c : Body). too_large c ≡ false) (ok_same p.1) (not-true (too_large b) p.0)

-- so a body is within its bounds, and a record has at most 8 attributes
pub in_bounds : (b : Body) → too_large b ≡ false → InBounds b
unfolding too_large
in_bounds b e =
    let cells = ltb body_cells (size b) in
    let many = ltb body_nodes (nodes b) in
    let deep = ltb body_depth (depth b) in
    let p = or_left (cells || many || deep) (ltb record_attributes (width b)) e in
    let q = or_left (cells || many) deep p in
    record {
      few_cells = ltb-false body_cells (size b) (or_left cells many q);
      few_nodes = ltb-false body_nodes (nodes b) (or_right cells many q);
      shallow = ltb-false body_depth (depth b) (or_right (cells || many) deep p);
    }

pub few_attributes : (b : Body) → too_large b ≡ false → width b ≤ record_attributes
unfolding too_large
few_attributes b e =
    ltb-false record_attributes (width b) (or_right (ltb body_cells (size b) || ltb body_nodes (nodes b) || ltb body_depth (depth b)) (ltb record_attributes (width b)) e)

pub bounded_small : (b : Body) {d : Body} → bounded b ≡ ok d → size d ≤ body_cells
bounded_small b {d} e = (in_bounds d (bounded_within b e)).few_cells

-- ---- one operand
pub negation_body : {b d : Body} → unary_body negation b ≡ ok d → (b ≡ boolean) × (d ≡ boolean)
unfolding unary_body
negation_body {b} {d} e = let p = required (is_boolean b) boolean_expected (ok boolean) d e in (is_boolean_lem b p.0, sym (ok_same p.1))

pub make_record_body : {n : ℕ} {b d : Body} → unary_body (make_record n) b ≡ ok d → d ≡ record_of (attribute n b end)
unfolding unary_body
make_record_body e = bounded_is e

-- a record's attributes, among them one
pub record Selects (n : ℕ) (b d : Body) : Type 0 where
  pub attributes : Attributes
  pub is : b ≡ record_of attributes
  pub has : attribute_body n attributes ≡ some d

pub select_body : {n : ℕ} {b d : Body} → unary_body (select n) b ≡ ok d → Selects n b d
unfolding unary_body
select_body {n} {b} {d} e =
    let p = asked (attributes_of b) record_expected (λ fs. or_fail (attribute_body n fs) no_such_attribute) d e in
    record { attributes = p.0; is = is_record b p.0 p.1; has = or_fail_ok (attribute_body n p.0) no_such_attribute d p.2 }

pub make_list_body : {b d : Body} → unary_body make_list b ≡ ok d → d ≡ list_of b
unfolding unary_body
make_list_body e = bounded_is e

pub top_body : {b d : Body} → unary_body top b ≡ ok d → b ≡ list_of d
unfolding unary_body
top_body {b} {d} e = is_list b d (or_fail_ok (element_body b) list_expected d e)

pub pop_body : {b d : Body} → unary_body pop b ≡ ok d → (c : Body) × (b ≡ list_of c) × (d ≡ list_of c)
unfolding unary_body
pop_body {b} {d} e =
    let p = asked (element_body b) list_expected (λ c. ok b) d e in
    let q = is_list b p.0 p.1 in
    (p.0, q, sym (ok_same p.2) ∙ q)

-- a record's attributes, one that is not the only one, and the record without it
pub record Removes (n : ℕ) (b d : Body) : Type 0 where
  pub attributes : Attributes
  pub removed : Body
  pub is : b ≡ record_of attributes
  pub has : attribute_body n attributes ≡ some removed
  pub several : 1 < count_attributes attributes
  pub result : d ≡ record_of (remove_attribute n attributes)

pub remove_body : {n : ℕ} {b d : Body} → unary_body (remove n) b ≡ ok d → Removes n b d
unfolding unary_body present
remove_body {n} {b} {d} e =
    let p = asked (attributes_of b) record_expected _ d e in
    let fs = p.0 in
    let q = required (present n fs) no_such_attribute _ d p.2 in
    let r = required (ltb 1 (count_attributes fs)) last_attribute (ok (record_of (remove_attribute n fs))) d q.1 in
    let s = is_some_lem (attribute_body n fs) q.0 in
    record {
      attributes = fs;
      removed = s.0;
      is = is_record b fs p.1;
      has = s.1;
      several = ltb-true 1 (count_attributes fs) r.0;
      result = sym (ok_same r.1);
    }

pub to_hundredths_body : {b d : Body} → unary_body to_hundredths b ≡ ok d → (b ≡ number) × (d ≡ hundredths)
unfolding unary_body
to_hundredths_body {b} {d} e = let p = required (is_number b) number_expected (ok hundredths) d e in (is_number_lem b p.0, sym (ok_same p.1))

pub to_number_body : {b d : Body} → unary_body to_number b ≡ ok d → (b ≡ hundredths) × (d ≡ number)
unfolding unary_body
to_number_body {b} {d} e = let p = required (is_hundredths b) number_expected (ok number) d e in (is_hundredths_lem b p.0, sym (ok_same p.1))

-- ---- two operands
pub quantities_body : {r b c d : Body} → quantities_to r b c ≡ ok d → (is_quantity b ≡ true) × (c ≡ b) × (d ≡ r)
unfolding quantities_to
quantities_body {r} {b} {c} {d} e =
    let p = required (is_quantity b && same_body b c) number_expected (ok r) d e in
    (and_left (is_quantity b) (same_body b c) p.0, sym (same_body_lem b c (and_right (is_quantity b) (same_body b c) p.0)), sym (ok_same p.1))

pub equal_body : {b c d : Body} → binary_body equal b c ≡ ok d → (is_simple b ≡ true) × (c ≡ b) × (d ≡ boolean)
unfolding binary_body
equal_body {b} {c} {d} e =
    let p = required (is_simple b && same_body b c) not_comparable (ok boolean) d e in
    (and_left (is_simple b) (same_body b c) p.0, sym (same_body_lem b c (and_right (is_simple b) (same_body b c) p.0)), sym (ok_same p.1))

pub glue_body : {b c d : Body} → binary_body glue b c ≡ ok d → (b ≡ word) × (c ≡ word) × (d ≡ word)
unfolding binary_body
glue_body {b} {c} {d} e =
    let p = required (is_word b && is_word c) word_expected (ok word) d e in
    (is_word_lem b (and_left (is_word b) (is_word c) p.0), is_word_lem c (and_right (is_word b) (is_word c) p.0), sym (ok_same p.1))

-- a record's attributes, without one, and the widened record
pub record Expands (n : ℕ) (b c d : Body) : Type 0 where
  pub attributes : Attributes
  pub is : b ≡ record_of attributes
  pub absent : present n attributes ≡ false
  pub result : d ≡ record_of (insert_attribute n c attributes)
  pub within : too_large d ≡ false
  pub small : size d ≤ body_cells

pub expand_body : {n : ℕ} {b c d : Body} → binary_body (expand n) b c ≡ ok d → Expands n b c d
unfolding binary_body
expand_body {n} {b} {c} {d} e =
    let p = asked (attributes_of b) record_expected _ d e in
    let fs = p.0 in
    let q = required (not (present n fs)) attribute_present (bounded (record_of (insert_attribute n c fs))) d p.2 in
    record {
      attributes = fs;
      is = is_record b fs p.1;
      absent = not-true (present n fs) q.0;
      result = bounded_is q.1;
      within = bounded_within (record_of (insert_attribute n c fs)) q.1;
      small = bounded_small (record_of (insert_attribute n c fs)) q.1;
    }

-- a record whose attribute has the second operand's body, and the result's is the record's
pub change_body : {n : ℕ} {b c d : Body} → binary_body (change n) b c ≡ ok d → (s : Selects n b c) × (d ≡ record_of s.attributes)
unfolding binary_body
change_body {n} {b} {c} {d} e =
    let p = asked (attributes_of b) record_expected _ d e in
    let fs = p.0 in
    let q = asked (attribute_body n fs) no_such_attribute _ d p.2 in
    let r = required (same_body q.0 c) no_coherence (ok b) d q.2 in
    let b_is = is_record b fs p.1 in
    (record { attributes = fs; is = b_is; has = q.1 ∙ ap some (same_body_lem q.0 c r.0) }, sym (ok_same r.1) ∙ b_is)

pub push_body : {b c d : Body} → binary_body push b c ≡ ok d → (b ≡ list_of c) × (d ≡ list_of c)
unfolding binary_body
push_body {b} {c} {d} e =
    let p = asked (element_body b) list_expected _ d e in
    let r = required (same_body p.0 c) no_coherence (ok b) d p.2 in
    let b_is : b ≡ list_of c = is_list b p.0 p.1 ∙ ap (λ (x : Body). list_of x) (same_body_lem p.0 c r.0) in
    (b_is, sym (ok_same r.1) ∙ b_is)

-- ---- sizes
-- an attribute's cells lie within its record's
pub attribute_within : (n : ℕ) (fs : Attributes) (d : Body) → attribute_body n fs ≡ some d → attribute_offset n fs + size d ≤ sizes fs
unfolding attribute_body attribute_offset sizes
attribute_within n end d e = none_is_some e
attribute_within n (attribute m b fs) d e = go (eqb n m) e (attribute_within n fs d)
  where
    go : (t : Bool) → (if t then some b else attribute_body n fs) ≡ some d → (attribute_body n fs ≡ some d → attribute_offset n fs + size d ≤ sizes fs)
        → (if t then 0 else size b + attribute_offset n fs) + size d ≤ size b + sizes fs
    go true e rest = omega (arith, ap size (some_same e))
    go false e rest = omega (arith, rest e)

-- a new attribute's place lies within the record's cells, or at their end
pub insert_within : (n : ℕ) (c : Body) (fs : Attributes) → present n fs ≡ false → attribute_offset n (insert_attribute n c fs) ≤ sizes fs
unfolding present attribute_body attribute_offset insert_attribute sizes
insert_within n c end e = rw (eq-eqb n n refl) (omega arith)
insert_within n c (attribute m b fs) e = go (eqb n m) refl e (ltb n m) (insert_within n c fs)
  where
    go : (t : Bool) → eqb n m ≡ t → is_some (if t then some b else attribute_body n fs) ≡ false → (u : Bool)
        → (present n fs ≡ false → attribute_offset n (insert_attribute n c fs) ≤ sizes fs)
        → attribute_offset n (if u then attribute n c (attribute m b fs) else attribute m b (insert_attribute n c fs)) ≤ size b + sizes fs
    go true q e u rest = false_is_true (sym e)
    go false q e true rest = rw (eq-eqb n n refl) (omega arith)
    go false q e false rest = rw q (omega (arith, rest e))

simple_small : {d c : Body} → d ≡ c → size c ≤ body_cells → size d ≤ body_cells
simple_small q h = omega (arith, ap size q, h)

element_small : (b : Body) → size (list_of b) ≤ body_cells → size b ≤ body_cells
unfolding size
element_small b h = omega arith

attribute_small : (n : ℕ) (fs : Attributes) (d : Body) → attribute_body n fs ≡ some d → size (record_of fs) ≤ body_cells → size d ≤ body_cells
unfolding size
attribute_small n fs d e h = omega (arith, attribute_within n fs d e, h)

removed_small : (n : ℕ) (fs : Attributes) (d : Body) → attribute_body n fs ≡ some d → size (record_of fs) ≤ body_cells → size (record_of (remove_attribute n fs)) ≤ body_cells
unfolding size
removed_small n fs d e h = omega (arith, (removed_fewer n fs d e).fewer_cells, h)

boolean_small : size boolean ≤ body_cells
unfolding size
boolean_small = omega arith

number_small : size number ≤ body_cells
unfolding size
number_small = omega arith

word_small : size word ≤ body_cells
unfolding size
word_small = omega arith

hundredths_small : size hundredths ≤ body_cells
unfolding size
hundredths_small = omega arith

pub unary_small : (o : Unary) (b : Body) {d : Body} → size b ≤ body_cells → unary_body o b ≡ ok d → size d ≤ body_cells
unfolding unary_body
unary_small negation b h e = simple_small (negation_body e).1 boolean_small
unary_small (make_record n) b h e = bounded_small (record_of (attribute n b end)) e
unary_small (select n) b {d} h e =
    let s = select_body {n = n} e in attribute_small n s.attributes d s.has (subst (λ (c : Body). size c ≤ body_cells) s.is h)
unary_small make_list b h e = bounded_small (list_of b) e
unary_small top b {d} h e = element_small d (subst (λ (c : Body). size c ≤ body_cells) (top_body e) h)
unary_small pop b {d} h e = let p = pop_body e in simple_small (p.2 ∙ sym p.1) h
unary_small (remove n) b h e =
    let s = remove_body {n = n} e in
    simple_small s.result (removed_small n s.attributes s.removed s.has (subst (λ (c : Body). size c ≤ body_cells) s.is h))
unary_small to_hundredths b h e = simple_small (to_hundredths_body e).1 hundredths_small
unary_small to_number b h e = simple_small (to_number_body e).1 number_small

pub binary_small : (o : Binary) (b c : Body) {d : Body} → size b ≤ body_cells → size c ≤ body_cells → binary_body o b c ≡ ok d → size d ≤ body_cells
unfolding binary_body
binary_small add b c h k e = simple_small (quantities_body e).2 h
binary_small subtract b c h k e = simple_small (quantities_body e).2 h
binary_small multiply b c h k e = simple_small (quantities_body e).2 h
binary_small divide b c h k e = simple_small (quantities_body e).2 h
binary_small less b c h k e = simple_small (quantities_body e).2 boolean_small
binary_small equal b c h k e = simple_small (equal_body e).2 boolean_small
binary_small glue b c h k e = simple_small (glue_body e).2 word_small
binary_small (expand n) b c h k e = (expand_body {n = n} e).small
binary_small (change n) b c h k e = let p = change_body {n = n} e in simple_small (p.1 ∙ sym p.0.is) h
binary_small push b c h k e = let p = push_body e in simple_small (p.1 ∙ sym p.0) h
