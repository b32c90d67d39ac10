-- The second operand is evaluated in the stack's part from cell 64 on: the first stays where it lies, and the second lies behind it.
-- Assumes nothing.
use mathlib.Core.List.{List, ◌++◌}
use Prim.Native.Nat.{◌≤◌}
use lib.ListN.{length, take, drop}
use lib.IntN.{ℤ}
use Rattle.std.specs.Prelude.{Result}
use Rattle.lingua.specs.declared.errors.Error.{Error}
use Rattle.lingua.specs.Numbers.{body_cells}
use Rattle.lingua.specs.Outcome.{Result as Outcome}
use Rattle.lingua.specs.Body.{Body, size}
use Rattle.lingua.specs.Value.{Value, Composite}
use Rattle.cells.specs.Stack.{Lies}
use Rattle.cells.proofs.Operands.{lies_kept, lies_behind}
use Rattle.checked_row.specs.declared.answer.Evaluated.{Evaluated}
use Rattle.checked_row.specs.Meaning.{Gives}

-- a value that lies in another stack too
moved : {x : Result Evaluated Error} {s after : List ℤ} {p : Outcome Composite} → ((b : Body) (v : Value) → size b ≤ body_cells → Lies s 0 b v → Lies after 0 b v) → Gives x s p → Gives x after p
moved f h = record {
  answer = λ v z. let a = h.answer v z in record { value = a.value; is = a.is; holds = a.holds; lies = f a.value.body a.value.value a.holds.few_cells a.lies; cells = a.cells };
  error = h.error;
}

-- the first operand stays
pub first_stays : {x : Result Evaluated Error} {s : List ℤ} {p : Outcome Composite} (above rest : List ℤ) → body_cells ≤ length s → Gives x s p → Gives x (take body_cells s ++ (above ++ rest)) p
first_stays above rest long h = moved (λ b v small l. lies_kept (above ++ rest) small long l) h

pub second_lies : {y : Result Evaluated Error} {q : Outcome Composite} (s above rest : List ℤ) → body_cells ≤ length s → Gives y above q → Gives y (drop body_cells (take body_cells s ++ (above ++ rest))) q
second_lies s above rest long h = moved (λ b v small l. lies_behind s rest long l) h
