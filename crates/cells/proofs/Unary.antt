-- An operation of one operand by its name: what each of them asks of the stack, and what it leaves. Assumes nothing.
use mathlib.Core.Path.{◌≡◌, refl, sym, ap, subst, ◌∙◌}
use mathlib.Core.List.{List}
use mathlib.Core.Option.{some}
use Prim.Native.Nat.{ℕ, ◌+◌, ◌-◌, ◌*◌, ◌/◌, ◌≤◌}
use native.Mathlib.Omega.{arith}
use lib.ListN.{get_or}
use lib.IntN.{ℤ, pos}
use Rattle.lingua.specs.Numbers.{body_cells, list_places}
use Rattle.lingua.specs.Body.{Body, boolean, number, hundredths, is_number, is_hundredths, is_quantity, list_of, record_of, Attributes, size, sizes, attributes_of, attribute_body, attribute_offset, remove_attribute}
use Rattle.lingua.specs.Value.{Value, in_range, in_counts}
use Rattle.lingua.specs.Operation.{Unary, negation, make_record, select, make_list, top, pop, remove, to_hundredths, to_number}
use Rattle.lingua.specs.Compute.{unary_value}
use Rattle.lingua.specs.Typing.{offset_in, unary_second}
use Rattle.lingua.specs.Operations.{unary_meaning}
use Rattle.lingua.specs.declared.operations.UnaryOperation.{UnaryOperation}
use Rattle.laws.specs.Halves.{unary_small, negation_body, make_record_body, select_body, make_list_body, top_body, pop_body, remove_body, to_hundredths_body, to_number_body, attribute_within}
use Rattle.laws.specs.Removal.{removed_fewer}
use Rattle.cells.specs.Stack.{Lies, Holds, Leaves, Counted}
use Rattle.cells.specs.Operands.{Operand, HasOperand}
use Rattle.cells.proofs.Elements.{leaves_answer, list_size}
use Rattle.laws.specs.Sound.{fit_number, fit_counts}
use Rattle.cells.proofs.Singles.{quantity_cell}
use Rattle.cells.proofs.Operands.{lies_as, leaves_as, lies_counted, make_record_law}
use mathlib.Core.Bool.{true}

offset_of : {b : Body} {offset : ℕ} {fs : Attributes} (n : ℕ) → b ≡ record_of fs → offset_in n b ≡ offset → attribute_offset n fs ≡ offset
unfolding offset_in attributes_of
offset_of {b} {offset} n q e = subst (λ (c : Body). offset_in n c ≡ offset) q e

-- an element's cells, from the list's
element_cells : {b : Body} {cells : ℕ} (c : Body) → b ≡ list_of c → size b ≡ cells → size c ≡ (cells - 1) / 8
element_cells c q e = omega (arith, ap size q, list_size c, e)

module _ {s : List ℤ} {cells result offset : ℕ} {b d : Body} {x : Value} where
  -- ---- what is asked
  pub selected_room : (n : ℕ) → Operand (select n) s cells result offset b d x → offset + result ≤ cells
  unfolding size unary_second
  selected_room n h =
      let p = select_body {n = n} h.half in
      omega (arith, attribute_within n p.attributes d p.has, offset_of n p.is h.offset_is, h.result_is, h.cells_are, ap size p.is)

  pub listed_room : Operand make_list s cells result offset b d x → 1 + list_places * cells ≤ body_cells
  listed_room h =
      omega (arith, unary_small make_list b h.small h.half, ap size (make_list_body h.half), list_size b, h.cells_are)

  pub top_counted : Operand top s cells result offset b d x → Counted s result
  top_counted h =
      let q = top_body h.half in lies_counted result h.result_is (omega (arith, ap size q, h.small)) (lies_as q h.lies)

  pub pop_some : Operand pop s cells result offset b d x → 1 ≤ cells
  pop_some h = let p = pop_body h.half in omega (arith, ap size p.1, list_size p.0, h.cells_are)

  pub pop_counted : Operand pop s cells result offset b d x → Counted s ((cells - 1) / 8)
  pop_counted h =
      let p = pop_body h.half in
      lies_counted ((cells - 1) / 8) (element_cells p.0 p.1 h.cells_are) (omega (arith, ap size p.1, h.small)) (lies_as p.1 h.lies)

  -- the record's cells are the result's and the removed attribute's
  removed_cells : (n : ℕ) (h : Operand (remove n) s cells result offset b d x) → let p = remove_body {n = n} h.half in (sizes p.attributes ≡ cells) × (result + size p.removed ≡ cells)
  unfolding size
  removed_cells n h =
      let p = remove_body {n = n} h.half in
      let r = removed_fewer n p.attributes p.removed p.has in
      (omega (arith, ap size p.is, h.cells_are), omega (arith, r.fewer_cells, ap size p.is, ap size p.result, h.cells_are, h.result_is))

  pub removed_less : (n : ℕ) → Operand (remove n) s cells result offset b d x → result ≤ cells
  removed_less n h = omega (arith, (removed_cells n h).1)

  pub removed_room : (n : ℕ) → Operand (remove n) s cells result offset b d x → offset + (cells - result) ≤ cells
  unfolding unary_second
  removed_room n h =
      let p = remove_body {n = n} h.half in
      let q = removed_cells n h in
      omega (arith, attribute_within n p.attributes p.removed p.has, offset_of n p.is h.offset_is, q.0, q.1)

  pub to_hundredths_range : Operand to_hundredths s cells result offset b d x → in_range (get_or s 0 (pos 0)) ≡ true
  unfolding is_quantity is_number
  to_hundredths_range h =
      let k = lies_as (to_hundredths_body h.half).0 h.lies in ap in_range (quantity_cell refl k) ∙ fit_number k.fit

  pub to_number_range : Operand to_number s cells result offset b d x → in_counts (get_or s 0 (pos 0)) ≡ true
  unfolding is_quantity is_number is_hundredths
  to_number_range h =
      let k = lies_as (to_number_body h.half).0 h.lies in ap in_counts (quantity_cell refl k) ∙ fit_counts k.fit

  -- ---- what is left
  module _ (last : List ℤ) where
    pub to_hundredths_leaves : ((v : Value) → Lies s 0 number v → Holds last hundredths (unary_value to_hundredths v)) → Operand to_hundredths s cells result offset b d x → Leaves 0 last d (unary_value to_hundredths x)
    to_hundredths_leaves f h = let p = to_hundredths_body h.half in leaves_as p.1 (leaves_answer (f x (lies_as p.0 h.lies)))

    pub to_number_leaves : ((v : Value) → Lies s 0 hundredths v → Holds last number (unary_value to_number v)) → Operand to_number s cells result offset b d x → Leaves 0 last d (unary_value to_number x)
    to_number_leaves f h = let p = to_number_body h.half in leaves_as p.1 (leaves_answer (f x (lies_as p.0 h.lies)))

    pub negation_leaves : ((v : Value) → Lies s 0 boolean v → Holds last boolean (unary_value negation v)) → Operand negation s cells result offset b d x → Leaves 0 last d (unary_value negation x)
    negation_leaves f h = let p = negation_body h.half in leaves_as p.1 (leaves_answer (f x (lies_as p.0 h.lies)))

    pub select_leaves : (n : ℕ) → ((m : ℕ) (fs : Attributes) (e : Body) (v : Value) → attribute_body m fs ≡ some e → attribute_offset m fs ≡ offset → size e ≡ result
        → Lies s 0 (record_of fs) v → Holds last e (unary_value (select m) v)) → Operand (select n) s cells result offset b d x → Leaves 0 last d (unary_value (select n) x)
    unfolding unary_second
    select_leaves n f h =
        let p = select_body {n = n} h.half in
        leaves_answer (f n p.attributes d x p.has (offset_of n p.is h.offset_is) h.result_is (lies_as p.is h.lies))

    pub make_list_leaves : ((c : Body) (v : Value) → size c ≡ cells → Lies s 0 c v → Holds last (list_of c) (unary_value make_list v)) → Operand make_list s cells result offset b d x
        → Leaves 0 last d (unary_value make_list x)
    make_list_leaves f h = leaves_as (make_list_body h.half) (leaves_answer (f b x h.cells_are h.lies))

    pub top_leaves : (r : ℕ) → ((c : Body) (v : Value) → size c ≡ result → Lies s 0 (list_of c) v → Leaves r last c (unary_value top v)) → Operand top s cells result offset b d x
        → Leaves r last d (unary_value top x)
    top_leaves r f h = f d x h.result_is (lies_as (top_body h.half) h.lies)

    pub pop_leaves : (r : ℕ) → ((c : Body) (v : Value) → size c ≡ (cells - 1) / 8 → Lies s 0 (list_of c) v → Leaves r last (list_of c) (unary_value pop v)) → Operand pop s cells result offset b d x
        → Leaves r last d (unary_value pop x)
    pop_leaves r f h =
        let p = pop_body h.half in
        leaves_as p.2 (f p.0 x (element_cells p.0 p.1 h.cells_are) (lies_as p.1 h.lies))

    pub remove_leaves : (n : ℕ) → ((m : ℕ) (fs : Attributes) (e : Body) (v : Value) → attribute_body m fs ≡ some e → attribute_offset m fs ≡ offset → sizes fs ≡ cells → size e ≡ cells - result
        → Lies s 0 (record_of fs) v → Holds last (record_of (remove_attribute m fs)) (unary_value (remove m) v)) → Operand (remove n) s cells result offset b d x → Leaves 0 last d (unary_value (remove n) x)
    unfolding unary_second
    remove_leaves n f h =
        let p = remove_body {n = n} h.half in
        let q = removed_cells n h in
        let w : size p.removed ≡ cells - result = omega (arith, q.1) in
        leaves_as p.result (leaves_answer (f n p.attributes p.removed x p.has (offset_of n p.is h.offset_is) q.0 w (lies_as p.is h.lies)))

  pub make_record_leaves : (n : ℕ) → Operand (make_record n) s cells result offset b d x → Leaves 0 s d (unary_value (make_record n) x)
  make_record_leaves n h = leaves_as (make_record_body {n = n} h.half) (leaves_answer (make_record_law n h.lies))

-- ---- by name
pub named : {op : UnaryOperation} (v : UnaryOperation) → op ≡ v → unary_meaning op ≡ unary_meaning v
named v e = ap unary_meaning e

module _ {s : List ℤ} {cells result offset : ℕ} {o p : Unary} (e : o ≡ p) where
  pub has_named : HasOperand o s cells result offset → HasOperand p s cells result offset
  has_named h = subst (λ (q : Unary). HasOperand q s cells result offset) e h

  pub leaves_named : {b d : Body} {x : Value} {r : ℕ} {last : List ℤ} → (Operand p s cells result offset b d x → Leaves r last d (unary_value p x))
      → Operand o s cells result offset b d x → Leaves r last d (unary_value o x)
  leaves_named {b} {d} {x} {r} {last} f h =
      subst (λ (q : Unary). Leaves r last d (unary_value q x)) (sym e) (f (subst (λ (q : Unary). Operand q s cells result offset b d x) e h))
