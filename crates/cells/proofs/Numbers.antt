-- Arithmetic on the stack: what it gives is a number, a count or an error, the cells that it takes are in range, and what is put in the
-- first operand's place is the result. Assumes nothing.
use mathlib.Core.Path.{◌≡◌, refl, sym, ap, ap₂, ◌∙◌, subst}
use mathlib.Core.Bool.{Bool, true, false}
use mathlib.Core.List.{List}
use Prim.Native.Nat.{ℕ, ◌<◌}
use lib.Dec.{eqb}
use lib.ListN.{length, set, get_or}
use lib.IntN.{ℤ, pos, ◌+ℤ◌, ◌-ℤ◌}
use mir.Syntax.{w64}
use mir.Val.{to_z, of_z}
use Rattle.std.specs.Prelude.{if◌then◌else◌, Result}
use Rattle.lingua.specs.Outcome.{ok, Result as Outcome}
use Rattle.lingua.specs.Body.{Body, is_hundredths, is_quantity}
use Rattle.lingua.specs.Value.{Value, in_range_of, is_count, quantity, quantity_body, as_whole}
use Rattle.lingua.specs.Operation.{Binary, add, subtract, multiply, divide, quantities_to, binary_body}
use Rattle.lingua.specs.Compute.{ranged, product, divided, binary_value}
use Rattle.lingua.specs.Typing.{hundredths_flag, binary_second}
use Rattle.lingua.specs.declared.errors.Error.{Error}
use Rattle.arith.specs.Told.{told_quantity}
use Rattle.arith.specs.Distances.{quantity_whole}
use Rattle.laws.specs.Halves.{quantities_body}
use Rattle.laws.specs.Sound.{ranged_fits, divided_fits, quantity_body_lem, quantity_counts, quantity_range}
use Rattle.cells.specs.Stack.{Lies, Leaves}
use Rattle.cells.specs.Operands.{Operands}
use Rattle.cells.proofs.Operands.{lies_as, leaves_as}
use Rattle.cells.proofs.Binary.{operand_range, quantity_in_range, quantity_leaves}
use Rattle.cells.proofs.Singles.{range_back, quantity_cell}
use Rattle.cells.specs.Numeric.{Numeric}

-- ---- what arithmetic gives
pub numeric_ranged : (h : Bool) (z : ℤ) → Numeric h (ranged h z)
unfolding ranged
numeric_ranged h z = record { fits = λ v e. ranged_fits h z v e }

pub numeric_divided : (h : Bool) (x y : ℤ) → in_range_of h x ≡ true → Numeric h (divided h x y)
numeric_divided h x y r = record { fits = λ v e. divided_fits h x y v r e }

-- ---- put
pub put_whole : (h : Bool) (s : List ℤ) {o : Outcome Value} (z : ℤ) → 0 < length s → ok (quantity h z) ≡ o → Numeric h o → Leaves 0 (set s 0 (to_z w64 (of_z w64 z))) (quantity_body h) o
put_whole h s {o} z l e k =
    let v = quantity h z in
    let fit = k.fits v (sym e) in
    let p : as_whole v ≡ z = quantity_whole h z in
    subst (λ (y : ℤ). Leaves 0 (set s 0 y) (quantity_body h) o) (p ∙ sym (range_back h z (ap (in_range_of h) (sym p) ∙ quantity_in_range h fit))) (quantity_leaves h s v l (sym e) fit)

-- ---- the operands
-- a cell as the code reads it
abbrev pub read : List ℤ → ℕ → ℤ
read s at = to_z w64 (of_z w64 (get_or s at (pos 0)))

read_is : {s : List ℤ} {at : ℕ} {b : Body} {x : Value} → is_quantity b ≡ true → Lies s at b x → read s at ≡ as_whole x
read_is {s} {at} {b} q h = range_back (is_hundredths b) (get_or s at (pos 0)) (operand_range q h) ∙ quantity_cell q h

read_range : {s : List ℤ} {at : ℕ} {b : Body} {x : Value} → is_quantity b ≡ true → Lies s at b x → in_range_of (is_hundredths b) (read s at) ≡ true
read_range {s} {at} {b} q h =
    ap (in_range_of (is_hundredths b)) (range_back (is_hundredths b) (get_or s at (pos 0)) (operand_range q h)) ∙ operand_range q h

-- the second number is 1 for hundredths alone
flagged : (b : Body) (n : ℕ) → hundredths_flag b ≡ n → eqb n 1 ≡ is_hundredths b
unfolding hundredths_flag
flagged b n e = by (is_hundredths b) refl e
  where
    by : (t : Bool) → is_hundredths b ≡ t → (if t then 1 else 0) ≡ n → eqb n 1 ≡ t
    by true q r = rw (← r)
    by false q r = rw (← r)

-- what `put` says of its result
abbrev Puts : ℕ → List ℤ → Result ℤ Error → Type 0
Puts r last answer = (h : Bool) (o : Outcome Value) → told_quantity h answer ≡ o → Numeric h o → Leaves r last (quantity_body h) o

-- the two cells are in range
abbrev pub Ranges : List ℤ → ℕ → Type 0
Ranges s offset = (in_range_of (eqb offset 1) (read s 0) ≡ true) × (in_range_of (eqb offset 1) (read s 64) ≡ true)

module _ {s : List ℤ} {cells others offset : ℕ} {b c d : Body} {x y : Value} where
  ranges : (o : Binary) → quantities_to b b c ≡ ok d → hundredths_flag d ≡ offset → Operands o s cells others offset b c d x y → Ranges s offset
  ranges o e g h =
      let p = quantities_body e in
      let f : eqb offset 1 ≡ is_hundredths b = flagged d offset g ∙ ap is_hundredths p.2 in (
        ap (λ (t : Bool). in_range_of t (read s 0)) f ∙ read_range p.0 h.lies,
        ap (λ (t : Bool). in_range_of t (read s 64)) f ∙ read_range p.0 (lies_as p.1 h.lies_other),
      )

  pub add_ranges : Operands add s cells others offset b c d x y → Ranges s offset
  unfolding binary_body binary_second
  add_ranges h = ranges add h.half h.offset_is h

  pub subtract_ranges : Operands subtract s cells others offset b c d x y → Ranges s offset
  unfolding binary_body binary_second
  subtract_ranges h = ranges subtract h.half h.offset_is h

  pub multiply_ranges : Operands multiply s cells others offset b c d x y → Ranges s offset
  unfolding binary_body binary_second
  multiply_ranges h = ranges multiply h.half h.offset_is h

  pub divide_ranges : Operands divide s cells others offset b c d x y → Ranges s offset
  unfolding binary_body binary_second
  divide_ranges h = ranges divide h.half h.offset_is h

  module _ (r : ℕ) (last : List ℤ) (answer : Result ℤ Error) (put : Puts r last answer) where
    leaves : (o : Binary) (f : Bool → ℤ → ℤ → Outcome Value) → quantities_to b b c ≡ ok d → hundredths_flag d ≡ offset → Operands o s cells others offset b c d x y
        → told_quantity (eqb offset 1) answer ≡ f (eqb offset 1) (read s 0) (read s 64) → (in_range_of (is_count x) (as_whole x) ≡ true → Numeric (is_count x) (f (is_count x) (as_whole x) (as_whole y)))
        → Leaves r last d (f (is_count x) (as_whole x) (as_whole y))
    leaves o f e g h q k =
        let p = quantities_body e in
        let t : eqb offset 1 ≡ is_count x = flagged d offset g ∙ ap is_hundredths p.2 ∙ sym (quantity_counts p.0 h.lies.fit) in
        leaves_as (p.2 ∙ sym (quantity_body_lem p.0 h.lies.fit))
        (put (is_count x) (f (is_count x) (as_whole x) (as_whole y))
        (ap (λ (u : Bool). told_quantity u answer) (sym t) ∙ q ∙ ap (λ (u : Bool). f u (read s 0) (read s 64)) t ∙ ap₂ (λ (m n : ℤ). f (is_count x) m n) (read_is p.0 h.lies) (read_is p.0 (lies_as p.1 h.lies_other)))
        (k (quantity_range p.0 h.lies.fit)))

    pub add_leaves : told_quantity (eqb offset 1) answer ≡ ranged (eqb offset 1) (read s 0 +ℤ read s 64) → Operands add s cells others offset b c d x y → Leaves r last d (binary_value add x y)
    unfolding binary_body binary_value binary_second
    add_leaves q h = leaves add (λ t m n. ranged t (m +ℤ n)) h.half h.offset_is h q (λ i. numeric_ranged _ _)

    pub subtract_leaves : told_quantity (eqb offset 1) answer ≡ ranged (eqb offset 1) (read s 0 -ℤ read s 64) → Operands subtract s cells others offset b c d x y → Leaves r last d (binary_value subtract x y)
    unfolding binary_body binary_value binary_second
    subtract_leaves q h = leaves subtract (λ t m n. ranged t (m -ℤ n)) h.half h.offset_is h q (λ i. numeric_ranged _ _)

    pub multiply_leaves : told_quantity (eqb offset 1) answer ≡ ranged (eqb offset 1) (product (eqb offset 1) (read s 0) (read s 64)) → Operands multiply s cells others offset b c d x y → Leaves r last d (binary_value multiply x y)
    unfolding binary_body binary_value binary_second
    multiply_leaves q h = leaves multiply (λ t m n. ranged t (product t m n)) h.half h.offset_is h q (λ i. numeric_ranged _ _)

    pub divide_leaves : told_quantity (eqb offset 1) answer ≡ divided (eqb offset 1) (read s 0) (read s 64) → Operands divide s cells others offset b c d x y → Leaves r last d (binary_value divide x y)
    unfolding binary_body binary_value binary_second
    divide_leaves q h = leaves divide (λ t m n. divided t m n) h.half h.offset_is h q (λ i. numeric_divided (is_count x) (as_whole x) (as_whole y) i)
