-- A leaf of one cell, put at the stack's front: the same as its cells copied there. Assumes nothing.
use mathlib.Core.Path.{◌≡◌, refl, subst}
use Rattle.std.specs.Prelude as std
use Rattle.lingua.specs.declared.errors.Error.{Error}
use Rattle.lingua.specs.Faults.{number_of}
use mathlib.Core.Bool.{true}
use mathlib.Core.List.{List}
use Prim.Native.Nat.{ℕ, ◌*◌, ◌<◌}
use native.Mathlib.Omega.{arith}
use lib.IntN.{ℤ, pos}
use lib.ListN.{length, get_or, set}
use Rattle.lingua.specs.Numbers.{body_cells}
use Rattle.lingua.specs.Errors.{not_filled}
use Rattle.lingua.specs.Outcome.{ok, or_fail}
use Rattle.lingua.specs.Body.{Body, size}
use Rattle.lingua.specs.Value.{Value}
use Rattle.lingua.specs.Expression.{Expression}
use Rattle.lingua.specs.Store.{Variable, contents, filled_at}
use Rattle.lingua.specs.Typing.{Bodies}
use Rattle.lingua.specs.Erased.{values_of}
use Rattle.cells.specs.Stack.{Leaves}
use Rattle.run.specs.Memory.{Memory}
use Rattle.run.proofs.Copying.{one_cell}
use Rattle.run.proofs.Parts.{cells_room}
use Rattle.erased_row.specs.Meaning.{Current, Evaluates, EvaluatesUnless}
use Rattle.erased_row.proofs.Storing.{current_room, leaves_current, filled_there, leaves_filled}

-- ---- answered, or left to the evaluation
module _ {rows : List ℕ} {layout : List ℕ} {cells : List ℤ} {states : List ℕ} {now : List ℤ} {e : Expression} {s : List ℤ} where
  pub at_once : {a : std.Result (Unit {0}) Error} → Evaluates rows layout cells states now e (number_of a) s → EvaluatesUnless rows layout cells states now e (std.Some a) s
  at_once {a} h = record { evaluates = λ b q. let k : a ≡ b = cc in subst (λ (r : std.Result (Unit {0}) Error). Evaluates rows layout cells states now e (number_of r) s) k h }

  pub left_over : EvaluatesUnless rows layout cells states now e std.None s
  left_over = record { evaluates = λ b q. let k : ⊥ = cc in absurd k }

-- ---- the cell
pub current_cell : {current : List ℤ} {b : Body} {x : Value} → Current current b x → 1 ≡ size b → 0 < length current
current_cell h m = omega (arith, (current_room 1 h m).0)

pub cell_current : {current : List ℤ} {b : Body} {x : Value} (s : List ℤ) (z : ℤ) → Current current b x → 1 ≡ size b → z ≡ get_or current 0 (pos 0) → 0 < length s → Leaves 0 (set s 0 z) b (ok x)
cell_current {current} s z h m e l = leaves_current s (set s 0 z) 1 h m (one_cell s current 0 1 z e refl l (current_cell h m))

pub cell_filled : {cells : List ℤ} {states : List ℕ} {vs : List Variable} {vars : Bodies} (h : Memory cells states vs vars) (n : ℕ) (s : List ℤ) (z : ℤ) → filled_at states n ≡ true → 1 ≡ size (vars n) → z ≡ get_or cells (body_cells * n) (pos 0) → 0 < length s
    → Leaves 0 (set s 0 z) (vars n) (or_fail (values_of (contents vs) n) not_filled)
cell_filled {cells} h n s z g m e l = leaves_filled h n s (set s 0 z) 1 g m (one_cell s cells (body_cells * n) 1 z e refl l (omega (arith, cells_room h n (filled_there h n g))))
