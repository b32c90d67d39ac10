-- How a check ends: with an error, or passed. Assumes nothing.
use mathlib.Core.Path.{◌≡◌}
use Prim.Native.Nat.{ℕ}
use Rattle.lingua.specs.Outcome.{ok, fail, Result}
use Rattle.lingua.specs.declared.errors.Error.{Error}
use Rattle.lingua.specs.Faults.{error_number}
use Rattle.laws.specs.Faults.{error_some}
use Rattle.run.specs.Memory.{Admits}

pub admits_error : {r : ℕ} {o : Result (Unit {0})} → (r ≡ 0 → ⊥) → o ≡ fail r → Admits r o
admits_error f e = record { answer = λ z. absurd (f z); error = λ g. e }

pub admits_ok : {r : ℕ} {o : Result (Unit {0})} → r ≡ 0 → o ≡ ok tt → Admits r o
admits_ok e q = record { answer = λ z. q; error = λ f. absurd (f e) }

pub admits_fault : (e : Error) {o : Result (Unit {0})} → o ≡ fail (error_number e) → Admits (error_number e) o
admits_fault e q = admits_error (error_some e) q
