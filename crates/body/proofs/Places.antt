-- Bodies and attributes at places of a list of bytes. Assumes nothing.
use mathlib.Core.Path.{◌≡◌, refl, sym, ap, ◌∙◌}
use mathlib.Core.List.{List, ◌++◌, append_assoc}
use Prim.Native.Nat.{ℕ, ◌+◌, ◌≤◌, ◌<◌}
use native.Mathlib.Nat.{add-zero}
use native.Mathlib.Omega.{arith}
use lib.ListN.{length, drop, get_or, length-append, length-drop}
use lib.Seq.{get_or-drop, drop-drop, drop-append_seam}
use Rattle.lingua.specs.Body.{Body, boolean, number, word, hundredths, list_of, record_of, Attributes, end, attribute, size, nodes, depth, count_attributes}
use Rattle.lingua.specs.Encode.{bytes, attribute_bytes}
use Rattle.body.specs.Walk.{At, AttributesAt}
use Rattle.body.proofs.Bytes.{tag, some_bytes, first_byte}

-- ---- what stands in a list at a place
module _ (bs : List ℕ) (at : ℕ) (xs rest : List ℕ) (e : drop at bs ≡ xs ++ rest) where
  pub byte_at : (i : ℕ) → get_or bs (at + i) 0 ≡ get_or (xs ++ rest) i 0
  byte_at i = sym (get_or-drop at bs i 0) ∙ ap (λ (l : List ℕ). get_or l i 0) e

  pub ends_within : 1 ≤ length xs → at + length xs ≤ length bs
  ends_within h = omega (arith, length-drop at bs, ap (λ (l : List ℕ). length l) e, length-append xs rest)

  pub drops : (n : ℕ) → drop (at + n) bs ≡ drop n (xs ++ rest)
  drops n = sym (drop-drop n at bs) ∙ ap (λ (l : List ℕ). drop n l) e

module _ (bs : List ℕ) (at : ℕ) where
  pub at_end : (b : Body) → At bs at b → at + length (bytes b) ≤ length bs
  at_end b h = ends_within bs at (bytes b) h.rest h.is (some_bytes b)

  pub at_below : (b : Body) → At bs at b → at < length bs
  at_below b h = omega (arith, at_end b h, some_bytes b)

  pub at_tag : (b : Body) → At bs at b → get_or bs at 0 ≡ tag b
  at_tag b h =
      ap (λ (k : ℕ). get_or bs k 0) (sym (add-zero at)) ∙ byte_at bs at (bytes b) h.rest h.is 0
      ∙ first_byte b h.rest

  -- ---- the parts of a list and of a record
  pub list_part : (b : Body) → At bs at (list_of b) → At bs (at + 1) b
  unfolding bytes
  list_part b h = record { rest = h.rest; is = drops bs at (bytes (list_of b)) h.rest h.is 1 }

  pub record_count : (fs : Attributes) → At bs at (record_of fs) → get_or bs (at + 1) 0 ≡ count_attributes fs
  unfolding bytes
  record_count fs h = byte_at bs at (bytes (record_of fs)) h.rest h.is 1

  pub record_below : (fs : Attributes) → At bs at (record_of fs) → at + 1 < length bs
  unfolding bytes
  record_below fs h = omega (arith, at_end (record_of fs) h)

  pub record_part : (fs : Attributes) → At bs at (record_of fs) → AttributesAt bs (at + 2) fs
  unfolding bytes
  record_part fs h = record { rest = h.rest; is = drops bs at (bytes (record_of fs)) h.rest h.is 2 }

  -- ---- the parts of attributes
  pub attribute_number : (n : ℕ) (b : Body) (fs : Attributes) → AttributesAt bs at (attribute n b fs) → get_or bs at 0 ≡ n
  unfolding attribute_bytes
  attribute_number n b fs h =
      ap (λ (k : ℕ). get_or bs k 0) (sym (add-zero at)) ∙ byte_at bs at (attribute_bytes (attribute n b fs)) h.rest h.is 0

  pub attribute_part : (n : ℕ) (b : Body) (fs : Attributes) → AttributesAt bs at (attribute n b fs) → At bs (at + 1) b
  unfolding attribute_bytes
  attribute_part n b fs h =
      record {
        rest = attribute_bytes fs ++ h.rest;
        is = drops bs at (attribute_bytes (attribute n b fs)) h.rest h.is 1 ∙ append_assoc (bytes b) (attribute_bytes fs) h.rest;
      }

  pub attribute_rest : (n : ℕ) (b : Body) (fs : Attributes) → AttributesAt bs at (attribute n b fs)
      → AttributesAt bs (at + 1 + length (bytes b)) fs
  unfolding attribute_bytes attribute_part
  attribute_rest n b fs h =
      let a = attribute_part n b fs h in
      record {
        rest = h.rest;
        is = drops bs (at + 1) (bytes b) a.rest a.is (length (bytes b)) ∙ drop-append_seam (bytes b) a.rest;
      }

-- ---- what a tag, and a count, say of a body
pub record ListView (b : Body) : Type 0 where
  pub element : Body
  pub is : b ≡ list_of element

pub list_view : (b : Body) → tag b ≡ 4 → ListView b
unfolding tag
list_view boolean e = absurd (let k : ⊥ = omega (arith, e) in k)
list_view number e = absurd (let k : ⊥ = omega (arith, e) in k)
list_view word e = absurd (let k : ⊥ = omega (arith, e) in k)
list_view hundredths e = absurd (let k : ⊥ = omega (arith, e) in k)
list_view (list_of b) e = record { element = b; is = refl }
list_view (record_of fs) e = absurd (let k : ⊥ = omega (arith, e) in k)

pub record RecordView (b : Body) : Type 0 where
  pub attributes : Attributes
  pub is : b ≡ record_of attributes

pub record_view : (b : Body) → tag b ≡ 5 → RecordView b
unfolding tag
record_view boolean e = absurd (let k : ⊥ = omega (arith, e) in k)
record_view number e = absurd (let k : ⊥ = omega (arith, e) in k)
record_view word e = absurd (let k : ⊥ = omega (arith, e) in k)
record_view hundredths e = absurd (let k : ⊥ = omega (arith, e) in k)
record_view (list_of b) e = absurd (let k : ⊥ = omega (arith, e) in k)
record_view (record_of fs) e = record { attributes = fs; is = refl }

pub record SimpleView (b : Body) : Type 0 where
  pub one_cell : size b ≡ 1
  pub one_node : nodes b ≡ 1
  pub one_level : depth b ≡ 1
  pub one_byte : length (bytes b) ≡ 1

pub simple_view : (b : Body) → (tag b ≡ 4 → ⊥) → (tag b ≡ 5 → ⊥) → SimpleView b
unfolding tag size nodes depth bytes
simple_view boolean f g = record { one_cell = refl; one_node = refl; one_level = refl; one_byte = refl }
simple_view number f g = record { one_cell = refl; one_node = refl; one_level = refl; one_byte = refl }
simple_view word f g = record { one_cell = refl; one_node = refl; one_level = refl; one_byte = refl }
simple_view hundredths f g = record { one_cell = refl; one_node = refl; one_level = refl; one_byte = refl }
simple_view (list_of b) f g = absurd (f refl)
simple_view (record_of fs) f g = absurd (g refl)

pub record MoreView (fs : Attributes) : Type 0 where
  pub first_number : ℕ
  pub first_body : Body
  pub others : Attributes
  pub is : fs ≡ attribute first_number first_body others
  pub counted : count_attributes fs ≡ 1 + count_attributes others

pub more_view : (fs : Attributes) → 0 < count_attributes fs → MoreView fs
unfolding count_attributes
more_view end f = absurd (let z : ⊥ = omega (arith, f) in z)
more_view (attribute m b fs) f =
    record { first_number = m; first_body = b; others = fs; is = refl; counted = omega arith }
