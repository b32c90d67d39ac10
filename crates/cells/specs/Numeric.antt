-- What arithmetic gives, where it is no error: a number, or a count of hundredths where h says so. Assumes nothing: these are definitions.
use Rattle.std.specs.Prelude.{◌≡◌, Bool}
use Rattle.lingua.specs.Outcome.{ok, Result}
use Rattle.lingua.specs.Value.{Value, Fits, quantity_body}

pub record Numeric (h : Bool) (o : Result Value) : Type 0 where
  pub fits : (v : Value) → o ≡ ok v → Fits v (quantity_body h)
