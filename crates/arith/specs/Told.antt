-- What the code's answer on numbers or counts says. Assumes nothing: these are definitions.
use Rattle.std.specs.Prelude.{ℕ, Bool, ℤ, Result, Ok, Err}
use Rattle.lingua.specs.declared.errors.Error.{Error}
use Rattle.lingua.specs.Outcome.{Outcome, ok, fail}
use Rattle.lingua.specs.Faults.{error_number}
use Rattle.lingua.specs.Value.{Value, quantity}

-- the number, or the count where h says so; or the error's number
abbrev pub told_quantity : Bool → Result ℤ Error → Outcome ℕ Value
told_quantity h (Ok z) = ok (quantity h z)
told_quantity h (Err e) = fail (error_number e)
