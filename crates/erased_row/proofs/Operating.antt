-- An operation on evaluated operands, from its half on values. Assumes nothing.
use mathlib.Core.Path.{◌≡◌, sym, ap, subst, ◌∙◌}
use Rattle.std.specs.Prelude as std
use Rattle.std.specs.Prelude.{IsErrAnd}
use Rattle.lingua.specs.declared.errors.Error.{Error}
use Rattle.lingua.specs.Faults.{number_of}
use mathlib.Core.List.{List}
use Prim.Native.Nat.{ℕ, ◌+◌, ◌*◌}
use lib.ListN.{drop, get_or}
use lib.IntN.{ℤ}
use Rattle.lingua.specs.Numbers.{body_cells}
use Rattle.lingua.specs.Outcome.{Result, ◌>>=◌}
use Rattle.lingua.specs.Body.{Body}
use Rattle.lingua.specs.Value.{Value}
use Rattle.lingua.specs.Operation.{Unary, Binary}
use Rattle.lingua.specs.Compute.{unary_value, binary_value}
use Rattle.cells.specs.Stack.{Lies, Leaves}
use Rattle.cells.proofs.Operands.{lies_above}
use Rattle.cells.specs.Operands.{Operand, HasOperand, Operands, HasOperands}
use Rattle.erased_row.specs.Meaning.{UnaryRow, HasUnary, BinaryRow, HasBinary}
use Rattle.erased_row.proofs.Leaving.{leaves_fail, leaves_from, some_error, same_number}

-- ---- one operand
module _ {layout : List ℕ} {o : Unary} {row a : ℕ} {s : List ℤ} (cells result offset : ℕ) (ec : cells ≡ get_or layout (2 * a) 0) (er : result ≡ get_or layout (2 * row) 0) (eo : offset ≡ get_or layout (2 * row + 1) 0) where
  operand_of : {c b : Body} {v : Value} → UnaryRow layout o row a c b → Lies s 0 c v → Operand o s cells result offset c b v
  operand_of u l = record { half = u.half; cells_are = sym (ec ∙ u.operand_at); result_is = sym (er ∙ u.result_at); offset_is = sym (eo ∙ u.second_at); small = u.small; lies = l }

  pub unary_has : {n : ℕ} → HasUnary layout o row a n s → n ≡ 0 → HasOperand o s cells result offset
  unary_has h e =
      let k = h.leaves.answer e in
      record { body = h.operand; given = h.given; value = k.value; operand = operand_of h.numbers k.lies }

  pub unary_leaves : {n m : ℕ} {after : List ℤ} {c b : Body} {p : Result Value} → ((c b : Body) (v : Value) → Operand o s cells result offset c b v → Leaves m after b (unary_value o v))
      → UnaryRow layout o row a c b → Leaves n s c p → n ≡ 0 → Leaves m after b (p >>= λ x. unary_value o x)
  unary_leaves f u h e =
      let k = h.answer e in
      leaves_from (ap {B = Result Value} (λ (q : Result Value). q >>= λ x. unary_value o x) (sym k.is)) (f _ _ _ (operand_of u k.lies))

-- ---- two operands
module _ {layout : List ℕ} {o : Binary} {row a b : ℕ} {s : List ℤ} (cells others offset : ℕ) (ec : cells ≡ get_or layout (2 * a) 0) (er : others ≡ get_or layout (2 * b) 0) (eo : offset ≡ get_or layout (2 * row + 1) 0) where
  operands_of_lem : {c d g : Body} {v w : Value} → BinaryRow layout o row a b c d g → Lies s 0 c v → Lies (drop body_cells s) 0 d w → Operands o s cells others offset c d g v w
  operands_of_lem u l k = record { half = u.half; cells_are = sym (ec ∙ u.first_at); others_are = sym (er ∙ u.other_at); offset_is = sym (eo ∙ u.second_at); small = u.small; small_other = u.small_other; lies = l; lies_other = lies_above k }

  pub binary_has : {n m : ℕ} → HasBinary layout o row a b n m s → n ≡ 0 → m ≡ 0 → HasOperands o s cells others offset
  binary_has h e f =
      let k = h.leaves.answer e in
      let l = h.other_leaves.answer f in
      record { body = h.operand; other = h.other; given = h.given; value = k.value; other_value = l.value; operands = operands_of_lem h.numbers k.lies l.lies }

  pub binary_leaves : {n m r : ℕ} {after : List ℤ} {c d g : Body} {p q : Result Value} → ((c d g : Body) (v w : Value) → Operands o s cells others offset c d g v w → Leaves r after g (binary_value o v w))
      → BinaryRow layout o row a b c d g → Leaves n s c p → Leaves m (drop body_cells s) d q → n ≡ 0 → m ≡ 0 → Leaves r after g (p >>= λ x. q >>= λ y. binary_value o x y)
  binary_leaves {q = q} f u h i e z =
      let k = h.answer e in
      let l = i.answer z in
      leaves_from
      (ap {B = Result Value} (λ (t : Result Value). t >>= λ y. binary_value o k.value y) (sym l.is)
      ∙ ap {B = Result Value} (λ (t : Result Value). t >>= λ x. q >>= λ y. binary_value o x y) (sym k.is))
      (f _ _ _ _ _ (operands_of_lem u k.lies l.lies))

-- the second operand's error, where the first has none
second_error : {n m : ℕ} {s t : List ℤ} {c d : Body} {p q : Result Value} (after : List ℤ) (g : Body) (f : Value → Value → Result Value) → Leaves n s c p → Leaves m t d q → n ≡ 0 → (m ≡ 0 → ⊥) → Leaves m after g (p >>= λ x. q >>= λ y. f x y)
second_error {q = q} after g f h k e z =
    let a = h.answer e in
    leaves_fail z
    (ap {B = Result Value} (λ (t : Result Value). t >>= λ x. q >>= λ y. f x y) a.is
    ∙ ap {B = Result Value} (λ (t : Result Value). t >>= λ y. f a.value y) (k.error z))

pub second_passes : {n : ℕ} {s t : List ℤ} {c d : Body} {p q : Result Value} {a : std.Result (Unit {0}) Error} {e : Error} (r : std.Result (Unit {0}) Error) (after : List ℤ) (g : Body) (f : Value → Value → Result Value) → Leaves n s c p → Leaves (number_of a) t d q → n ≡ 0 → a ≡ std.Err e → IsErrAnd r (λ x. x ≡ e) → Leaves (number_of r) after g (p >>= λ x. q >>= λ y. f x y)
second_passes {p = p} {q = q} r after g f h k z is passed = subst (λ (n : ℕ). Leaves n after g (p >>= λ x. q >>= λ y. f x y)) (same_number r is passed) (second_error after g f h k z (some_error is))
