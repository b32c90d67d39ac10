-- Operations make well-formed bodies of well-formed bodies, where the attributes that they name are numbered below 64: `unary_formed`,
-- `binary_formed`. Assumes nothing.
use Rattle.std.specs.Prelude.{◌≡◌, refl, Bool, true, false, [], ◌∷◌, ℕ, suc, ◌≤◌, ◌<◌, eqb, ltb, if◌then◌else◌}
use Rattle.std.proofs.Common.{sym, subst, ◌∙◌, arith, ltb-true, ltb-false}
use Rattle.std.proofs.Math.Option.{some}
use Rattle.std.proofs.lemmas.Bool.{eqb-false}
use Rattle.lingua.specs.Numbers.{attribute_numbers}
use Rattle.lingua.specs.Outcome.{ok, is_some}
use Rattle.lingua.specs.Body.{Body, list_of, record_of, Attributes, end, attribute, size, nodes, depth, count_attributes, width, too_large, attribute_body, insert_attribute, remove_attribute}
use Rattle.lingua.specs.WellFormed.{InBounds, WellFormed, formed_boolean, formed_number, formed_word, formed_hundredths, formed_list, formed_record, FormedFrom, formed_end, formed_attribute}
use Rattle.lingua.specs.Value.{all_of}
use Rattle.lingua.specs.Operation.{Unary, negation, make_record, select, make_list, top, pop, remove, to_hundredths, to_number, Binary, add, subtract, multiply, divide, less, equal, glue, expand, change, push, present, unary_body, binary_body}
use Rattle.lingua.specs.Rules.{unary_attribute, binary_attribute, attributes_fit}
use Rattle.laws.specs.Outcomes.{false_is_true, and_left, none_is_some, some_same}
use Rattle.laws.specs.Removal.{removed_fewer}
use Rattle.laws.specs.Halves.{bounded_within, in_bounds, few_attributes, negation_body, make_record_body, select_body, make_list_body, top_body, pop_body, remove_body, to_hundredths_body, to_number_body, quantities_body, equal_body, glue_body, expand_body, change_body, push_body}

-- ---- what a well-formed body shows
pub formed_bounds : {b : Body} → WellFormed b → InBounds b
unfolding size nodes depth
formed_bounds formed_boolean = record { few_cells = omega arith; few_nodes = omega arith; shallow = omega arith }
formed_bounds formed_number = record { few_cells = omega arith; few_nodes = omega arith; shallow = omega arith }
formed_bounds formed_word = record { few_cells = omega arith; few_nodes = omega arith; shallow = omega arith }
formed_bounds formed_hundredths = record { few_cells = omega arith; few_nodes = omega arith; shallow = omega arith }
formed_bounds (formed_list h k) = h
formed_bounds (formed_record h l m k) = h

pub formed_element : {b : Body} → WellFormed (list_of b) → WellFormed b
formed_element (formed_list h k) = k

formed_attributes : {fs : Attributes} → WellFormed (record_of fs) → FormedFrom 0 fs
formed_attributes (formed_record h l m k) = k

pub formed_as : {b d : Body} → b ≡ d → WellFormed b → WellFormed d
formed_as e h = subst WellFormed e h

-- ---- bodies within their bounds
list_formed : (b : Body) → too_large (list_of b) ≡ false → WellFormed b → WellFormed (list_of b)
list_formed b e h = formed_list (in_bounds (list_of b) e) h

record_formed : (fs : Attributes) → too_large (record_of fs) ≡ false → 1 ≤ count_attributes fs → FormedFrom 0 fs → WellFormed (record_of fs)
unfolding width
record_formed fs e l h = formed_record (in_bounds (record_of fs) e) l (few_attributes (record_of fs) e) h

-- ---- attributes
attribute_formed : {k : ℕ} {fs : Attributes} → FormedFrom k fs → (n : ℕ) (d : Body) → attribute_body n fs ≡ some d → WellFormed d
unfolding attribute_body
attribute_formed formed_end n d e = none_is_some e
attribute_formed (formed_attribute {m = m} {b} {fs} p q h hs) n d e = by (eqb n m) e (λ z. attribute_formed hs n d z)
  where
    by : (t : Bool) → (if t then some b else attribute_body n fs) ≡ some d → (attribute_body n fs ≡ some d → WellFormed d) → WellFormed d
    by true z ih = formed_as (some_same z) h
    by false z ih = ih z

-- an attribute that is not there goes into its place
insert_formed : {k : ℕ} {fs : Attributes} → FormedFrom k fs → (n : ℕ) (c : Body) → k ≤ n → n < attribute_numbers → WellFormed c → present n fs ≡ false → FormedFrom k (insert_attribute n c fs)
unfolding present attribute_body insert_attribute
insert_formed formed_end n c l b h e = formed_attribute l b h formed_end
insert_formed {k} (formed_attribute {m = m} {b = d} {fs} p q g gs) n c l b h e = by (ltb n m) refl (eqb n m) refl e (λ i z. insert_formed gs n c i b h z)
  where
    by : (t : Bool) → ltb n m ≡ t → (u : Bool) → eqb n m ≡ u → is_some (if u then some d else attribute_body n fs) ≡ false → (suc m ≤ n → present n fs ≡ false → FormedFrom (suc m) (insert_attribute n c fs))
        → FormedFrom k (if t then attribute n c (attribute m d fs) else attribute m d (insert_attribute n c fs))
    by t x true y z ih = false_is_true (sym z)
    by true x false y z ih = let first : n < m = ltb-true n m x in formed_attribute l b h (formed_attribute first q g gs)
    by false x false y z ih =
        let behind : m ≤ n = ltb-false n m x in
        let apart : n ≡ m → ⊥ = eqb-false n m y in
        formed_attribute p q g (ih (omega arith) z)

count_insert : (n : ℕ) (c : Body) (fs : Attributes) → 1 ≤ count_attributes (insert_attribute n c fs)
unfolding insert_attribute count_attributes
count_insert n c end = omega arith
count_insert n c (attribute m d fs) = by (ltb n m)
  where
    by : (t : Bool) → 1 ≤ count_attributes (if t then attribute n c (attribute m d fs) else attribute m d (insert_attribute n c fs))
    by true = omega arith
    by false = omega arith

-- attributes numbered from m on are numbered from any lower number on
formed_lower : {k m : ℕ} {fs : Attributes} → k ≤ m → FormedFrom m fs → FormedFrom k fs
formed_lower l formed_end = formed_end
formed_lower {k} l (formed_attribute {m = j} p q h hs) = let lower : k ≤ j = omega arith in formed_attribute lower q h hs

-- an attribute goes, and the others stay in their order
remove_formed : {k : ℕ} {fs : Attributes} → FormedFrom k fs → (n : ℕ) → FormedFrom k (remove_attribute n fs)
unfolding remove_attribute
remove_formed formed_end n = formed_end
remove_formed {k} (formed_attribute {m = m} {b} {fs} p q h hs) n = by (eqb n m) (remove_formed hs n)
  where
    by : (t : Bool) → FormedFrom (suc m) (remove_attribute n fs) → FormedFrom k (if t then fs else attribute m b (remove_attribute n fs))
    by true ih = formed_lower (omega arith) hs
    by false ih = formed_attribute p q h ih

pub removed_formed : (n : ℕ) {fs : Attributes} (d : Body) → attribute_body n fs ≡ some d → 1 < count_attributes fs → WellFormed (record_of fs) → WellFormed (record_of (remove_attribute n fs))
unfolding size nodes depth
removed_formed n {fs} d e l (formed_record h few many k) =
    let r = removed_fewer n fs d e in
    formed_record {fs = remove_attribute n fs}
    (record {
      few_cells = omega (arith, r.fewer_cells, h.few_cells);
      few_nodes = omega (arith, r.fewer_nodes, h.few_nodes);
      shallow = omega (arith, r.no_deeper, h.shallow);
    })
    (omega (arith, r.fewer_attributes)) (omega (arith, r.fewer_attributes)) (remove_formed k n)

-- ---- operations
-- the one attribute that an operation names
numbered : (n : ℕ) → attributes_fit (n ∷ []) ≡ true → n < attribute_numbers
unfolding all_of
numbered n e = ltb-true n attribute_numbers (and_left (ltb n attribute_numbers) (attributes_fit []) e)

single_formed : (n : ℕ) (b : Body) → too_large (record_of (attribute n b end)) ≡ false → n < attribute_numbers → WellFormed b → WellFormed (record_of (attribute n b end))
unfolding count_attributes
single_formed n b e l h = record_formed (attribute n b end) e (omega arith) (formed_attribute (omega arith) l h formed_end)

pub unary_formed : (o : Unary) {b d : Body} → attributes_fit (unary_attribute o) ≡ true → WellFormed b → unary_body o b ≡ ok d → WellFormed d
unfolding unary_body unary_attribute
unary_formed negation a h e = formed_as (sym (negation_body e).1) formed_boolean
unary_formed (make_record n) {b} a h e =
    let is = make_record_body {n = n} e in
    formed_as (sym is) (single_formed n b (subst (λ (c : Body). too_large c ≡ false) is (bounded_within (record_of (attribute n b end)) e)) (numbered n a) h)
unary_formed (select n) {b} {d} a h e = let s = select_body {n = n} e in attribute_formed (formed_attributes (formed_as s.is h)) n d s.has
unary_formed make_list {b} a h e =
    let is = make_list_body e in
    formed_as (sym is) (list_formed b (subst (λ (c : Body). too_large c ≡ false) is (bounded_within (list_of b) e)) h)
unary_formed top a h e = formed_element (formed_as (top_body e) h)
unary_formed pop a h e = let p = pop_body e in formed_as (p.1 ∙ sym p.2) h
unary_formed (remove n) a h e = let s = remove_body {n = n} e in formed_as (sym s.result) (removed_formed n s.removed s.has s.several (formed_as s.is h))
unary_formed to_hundredths a h e = formed_as (sym (to_hundredths_body e).1) formed_hundredths
unary_formed to_number a h e = formed_as (sym (to_number_body e).1) formed_number

pub binary_formed : (o : Binary) {b c d : Body} → attributes_fit (binary_attribute o) ≡ true → WellFormed b → WellFormed c → binary_body o b c ≡ ok d → WellFormed d
unfolding binary_body binary_attribute
binary_formed add a h k e = formed_as (sym (quantities_body e).2) h
binary_formed subtract a h k e = formed_as (sym (quantities_body e).2) h
binary_formed multiply a h k e = formed_as (sym (quantities_body e).2) h
binary_formed divide a h k e = formed_as (sym (quantities_body e).2) h
binary_formed less a h k e = formed_as (sym (quantities_body e).2) formed_boolean
binary_formed equal a h k e = formed_as (sym (equal_body e).2) formed_boolean
binary_formed glue a h k e = formed_as (sym (glue_body e).2) formed_word
binary_formed (expand n) {c = c} a h k e =
    let x = expand_body {n = n} e in
    let fs = x.attributes in
    formed_as (sym x.result)
    (record_formed (insert_attribute n c fs) (subst (λ (z : Body). too_large z ≡ false) x.result x.within) (count_insert n c fs)
    (insert_formed (formed_attributes (formed_as x.is h)) n c (omega arith) (numbered n a) k x.absent))
binary_formed (change n) a h k e = let p = change_body {n = n} e in formed_as (p.0.is ∙ sym p.1) h
binary_formed push a h k e = let p = push_body e in formed_as (p.0 ∙ sym p.1) h
