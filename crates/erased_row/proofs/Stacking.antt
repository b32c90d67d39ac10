-- The second operand is evaluated in the stack's part from cell 64 on: the first stays where it lies, and the second lies behind it.
-- Assumes nothing.
use mathlib.Core.List.{List, ◌++◌}
use Prim.Native.Nat.{ℕ, ◌≤◌}
use lib.ListN.{length, take, drop}
use lib.IntN.{ℤ}
use Rattle.lingua.specs.Numbers.{body_cells}
use Rattle.lingua.specs.Outcome.{Result}
use Rattle.lingua.specs.Body.{Body, size}
use Rattle.lingua.specs.Value.{Value}
use Rattle.cells.specs.Stack.{Lies, Leaves}
use Rattle.cells.proofs.Operands.{lies_kept, lies_behind}

-- a value that lies in another stack too
moved : {n : ℕ} {s after : List ℤ} {b : Body} {p : Result Value} → ((v : Value) → Lies s 0 b v → Lies after 0 b v) → Leaves n s b p → Leaves n after b p
moved f h = record {
  answer = λ z. let a = h.answer z in record { value = a.value; is = a.is; lies = f a.value a.lies };
  error = h.error;
}

-- the first operand stays
pub first_stays : {n : ℕ} {s : List ℤ} {b : Body} {p : Result Value} (above rest : List ℤ) → size b ≤ body_cells → body_cells ≤ length s → Leaves n s b p → Leaves n (take body_cells s ++ (above ++ rest)) b p
first_stays above rest small long h = moved (λ v l. lies_kept (above ++ rest) small long l) h

pub second_lies : {m : ℕ} {b : Body} {q : Result Value} (s above rest : List ℤ) → body_cells ≤ length s → Leaves m above b q → Leaves m (drop body_cells (take body_cells s ++ (above ++ rest))) b q
second_lies s above rest long h = moved (λ v l. lies_behind s rest long l) h
