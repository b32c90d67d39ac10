-- An operation of two operands by its name: what each of them asks of the stack, and what it leaves; arithmetic with the
-- number that it gives. Assumes nothing.
use mathlib.Core.Path.{◌≡◌, refl, sym, ap, ap₂, ◌∙◌, subst}
use mathlib.Core.Bool.{Bool, true, false}
use mathlib.Core.List.{List}
use mathlib.Core.Option.{some}
use Prim.Native.Nat.{ℕ, ◌+◌, ◌≤◌, ◌<◌}
use native.Mathlib.Omega.{arith}
use lib.ListN.{length, set, get_or}
use lib.IntN.{ℤ, pos}
use Rattle.lingua.specs.Numbers.{body_cells}
use Rattle.lingua.specs.Outcome.{ok, Result}
use Rattle.lingua.specs.Body.{Body, boolean, word, list_of, record_of, Attributes, size, sizes, is_hundredths, is_quantity, is_simple, attributes_of, attribute_body, attribute_offset, insert_attribute}
use Rattle.lingua.specs.Value.{Value, Fits, fit_whole, fit_hundredths, in_range_of, quantity, quantity_body, as_whole}
use Rattle.lingua.specs.Operation.{Binary, less, equal, glue, expand, change, push, present, binary_body}
use Rattle.lingua.specs.Compute.{binary_value}
use Rattle.lingua.specs.Typing.{offset_in, binary_second}
use Rattle.lingua.specs.Operations.{binary_meaning}
use Rattle.lingua.specs.declared.operations.BinaryOperation.{BinaryOperation}
use Rattle.laws.specs.Halves.{quantities_body, equal_body, glue_body, expand_body, change_body, push_body, attribute_within, insert_within}
use Rattle.laws.specs.Records.{sizes_insert}
use Rattle.laws.specs.Sound.{quantity_counts, quantity_range}
use Rattle.cells.specs.Stack.{Lies, Holds, Leaves, Counted}
use Rattle.cells.specs.Word.{WordAt}
use Rattle.cells.specs.Operands.{Operands, HasOperands}
use Rattle.cells.proofs.Elements.{leaves_answer}
use Rattle.cells.proofs.Singles.{quantity_cell, put_quantity}
use Rattle.cells.proofs.Operands.{lies_as, leaves_as, lies_counted, lies_word}

-- the offset of an attribute of a record
offset_of : {d : Body} {offset : ℕ} {fs : Attributes} (n : ℕ) → d ≡ record_of fs → offset_in n d ≡ offset → attribute_offset n fs ≡ offset
unfolding offset_in attributes_of
offset_of {d} {offset} n q e = subst (λ (c : Body). offset_in n c ≡ offset) q e

record_size : {b : Body} {fs : Attributes} → b ≡ record_of fs → size b ≡ sizes fs
unfolding size
record_size q = ap size q

-- ---- arithmetic: the operands' cells are numbers or counts in range, and what it gives is put in the first one's place
pub operand_range : {s : List ℤ} {at : ℕ} {b : Body} {x : Value} → is_quantity b ≡ true → Lies s at b x → in_range_of (is_hundredths b) (get_or s at (pos 0)) ≡ true
operand_range {s} {at} {b} {x} q h =
    ap₂ in_range_of (sym (quantity_counts q h.fit)) (quantity_cell q h) ∙ quantity_range q h.fit

-- a number or a count is what its cell says, and in range
quantity_whole : (h : Bool) {v : Value} → Fits v (quantity_body h) → quantity h (as_whole v) ≡ v
unfolding as_whole
quantity_whole true (fit_hundredths h) = refl
quantity_whole false (fit_whole h) = refl

pub quantity_in_range : (h : Bool) {v : Value} → Fits v (quantity_body h) → in_range_of h (as_whole v) ≡ true
unfolding as_whole in_range_of
quantity_in_range true (fit_hundredths h) = h
quantity_in_range false (fit_whole h) = h

pub quantity_leaves : (h : Bool) (s : List ℤ) {o : Result Value} (v : Value) → 0 < length s → o ≡ ok v → Fits v (quantity_body h) → Leaves 0 (set s 0 (as_whole v)) (quantity_body h) o
quantity_leaves h s {o} v l e k =
    leaves_answer (record {
      value = v;
      is = e;
      lies = subst (λ (w : Value). Lies (set s 0 (as_whole v)) 0 (quantity_body h) w) (quantity_whole h k) (put_quantity h s (as_whole v) l (quantity_in_range h k));
    })

module _ {s : List ℤ} {cells others offset : ℕ} {b c d : Body} {x y : Value} where
  -- ---- what is asked
  pub glue_words : Operands glue s cells others offset b c d x y → WordAt s 0 × WordAt s 64
  glue_words h = let p = glue_body h.half in (lies_word (lies_as p.0 h.lies), lies_word (lies_as p.1 h.lies_other))

  pub expand_place : (n : ℕ) → Operands (expand n) s cells others offset b c d x y → offset ≤ cells
  unfolding binary_second
  expand_place n h =
      let p = expand_body {n = n} h.half in
      omega (arith, insert_within n c p.attributes p.absent, offset_of n p.result h.offset_is, record_size p.is, h.cells_are)

  pub expand_room : (n : ℕ) → Operands (expand n) s cells others offset b c d x y → cells + others ≤ body_cells
  expand_room n h =
      let p = expand_body {n = n} h.half in
      omega (arith, p.small, record_size p.result, sizes_insert n c p.attributes, record_size p.is, h.cells_are, h.others_are)

  pub change_room : (n : ℕ) → Operands (change n) s cells others offset b c d x y → offset + others ≤ body_cells
  unfolding binary_second
  change_room n h =
      let p = change_body {n = n} h.half in
      let fs = p.0.attributes in
      omega (arith, attribute_within n fs c p.0.has, offset_of n p.1 h.offset_is, record_size p.0.is, h.small, h.others_are)

  pub push_counted : Operands push s cells others offset b c d x y → Counted s others
  push_counted h =
      let p = push_body h.half in lies_counted others h.others_are (omega (arith, ap size p.0, h.small)) (lies_as p.0 h.lies)

  -- ---- what is left
  module _ (last : List ℤ) where
    pub less_leaves : ((e : Body) (v w : Value) → is_quantity e ≡ true → Lies s 0 e v → Lies s 64 e w → Holds last boolean (binary_value less v w)) → Operands less s cells others offset b c d x y
        → Leaves 0 last d (binary_value less x y)
    unfolding binary_body
    less_leaves f h =
        let p = quantities_body h.half in
        leaves_as p.2 (leaves_answer (f b x y p.0 h.lies (lies_as p.1 h.lies_other)))

    pub equal_leaves : ((e : Body) (v w : Value) → is_simple e ≡ true → Lies s 0 e v → Lies s 64 e w → Holds last boolean (binary_value equal v w)) → Operands equal s cells others offset b c d x y
        → Leaves 0 last d (binary_value equal x y)
    equal_leaves f h =
        let p = equal_body h.half in
        leaves_as p.2 (leaves_answer (f b x y p.0 h.lies (lies_as p.1 h.lies_other)))

    pub glue_leaves : (r : ℕ) → ((v w : Value) → Lies s 0 word v → Lies s 64 word w → Leaves r last word (binary_value glue v w)) → Operands glue s cells others offset b c d x y
        → Leaves r last d (binary_value glue x y)
    glue_leaves r f h = let p = glue_body h.half in leaves_as p.2 (f x y (lies_as p.0 h.lies) (lies_as p.1 h.lies_other))

    pub expand_leaves : (n : ℕ)
        → ((m : ℕ) (fs : Attributes) (e : Body) (v w : Value) → present m fs ≡ false → attribute_offset m (insert_attribute m e fs) ≡ offset → sizes fs ≡ cells → size e ≡ others
        → Lies s 0 (record_of fs) v → Lies s 64 e w → Holds last (record_of (insert_attribute m e fs)) (binary_value (expand m) v w))
        → Operands (expand n) s cells others offset b c d x y → Leaves 0 last d (binary_value (expand n) x y)
    unfolding binary_second
    expand_leaves n f h =
        let p = expand_body {n = n} h.half in
        leaves_as p.result
        (leaves_answer (f n p.attributes c x y p.absent (offset_of n p.result h.offset_is) (sym (record_size p.is) ∙ h.cells_are) h.others_are (lies_as p.is h.lies) h.lies_other))

    pub change_leaves : (n : ℕ)
        → ((m : ℕ) (fs : Attributes) (e : Body) (v w : Value) → attribute_body m fs ≡ some e → attribute_offset m fs ≡ offset → size e ≡ others
        → Lies s 0 (record_of fs) v → Lies s 64 e w → Holds last (record_of fs) (binary_value (change m) v w))
        → Operands (change n) s cells others offset b c d x y → Leaves 0 last d (binary_value (change n) x y)
    unfolding binary_second
    change_leaves n f h =
        let p = change_body {n = n} h.half in
        leaves_as p.1
        (leaves_answer (f n p.0.attributes c x y p.0.has (offset_of n p.1 h.offset_is) h.others_are (lies_as p.0.is h.lies) h.lies_other))

    pub push_leaves : (r : ℕ) → ((e : Body) (v w : Value) → size e ≡ others → Lies s 0 (list_of e) v → Lies s 64 e w → Leaves r last (list_of e) (binary_value push v w))
        → Operands push s cells others offset b c d x y → Leaves r last d (binary_value push x y)
    push_leaves r f h = let p = push_body h.half in leaves_as p.1 (f c x y h.others_are (lies_as p.0 h.lies) h.lies_other)

-- ---- by name
pub named : {op : BinaryOperation} (v : BinaryOperation) → op ≡ v → binary_meaning op ≡ binary_meaning v
named v e = ap binary_meaning e

module _ {s : List ℤ} {cells others offset : ℕ} {o p : Binary} (e : o ≡ p) where
  pub have_named : HasOperands o s cells others offset → HasOperands p s cells others offset
  have_named h = subst (λ (q : Binary). HasOperands q s cells others offset) e h

  pub leave_named : {b c d : Body} {x y : Value} {r : ℕ} {last : List ℤ} → (Operands p s cells others offset b c d x y → Leaves r last d (binary_value p x y))
      → Operands o s cells others offset b c d x y → Leaves r last d (binary_value o x y)
  leave_named {b} {c} {d} {x} {y} {r} {last} f h =
      subst (λ (q : Binary). Leaves r last d (binary_value q x y)) (sym e) (f (subst (λ (q : Binary). Operands q s cells others offset b c d x y) e h))
