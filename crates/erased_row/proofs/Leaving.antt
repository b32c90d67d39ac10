-- What a result leaves: an error that is handed on, an answer, and the same of equal results. Assumes nothing.
use mathlib.Core.Path.{◌≡◌, sym, ap, subst, ◌∙◌}
use native.Mathlib.Omega.{arith}
use Rattle.std.specs.Prelude as std
use Rattle.std.specs.Prelude.{IsErrAnd}
use Rattle.lingua.specs.declared.errors.Error.{Error}
use Rattle.lingua.specs.Faults.{error_number, number_of}
use Rattle.laws.specs.Faults.{error_number_counted, passed_on}
use mathlib.Core.List.{List}
use Prim.Native.Nat.{ℕ}
use lib.IntN.{ℤ}
use Rattle.lingua.specs.Outcome.{ok, fail, Result, ◌>>=◌}
use Rattle.lingua.specs.Body.{Body}
use Rattle.lingua.specs.Value.{Value}
use Rattle.cells.specs.Stack.{Lies, Leaves}

pub leaves_ok : {n : ℕ} {s : List ℤ} {b : Body} {o : Result Value} (v : Value) → n ≡ 0 → o ≡ ok v → Lies s 0 b v → Leaves n s b o
leaves_ok v e q l = record { answer = λ z. record { value = v; is = q; lies = l }; error = λ f. absurd (f e) }

pub leaves_fail : {n : ℕ} {s : List ℤ} {b : Body} {o : Result Value} → (n ≡ 0 → ⊥) → o ≡ fail n → Leaves n s b o
leaves_fail f q = record { answer = λ z. absurd (f z); error = λ g. q }

-- the same of an equal outcome
pub leaves_from : {n : ℕ} {s : List ℤ} {b : Body} {o p : Result Value} → o ≡ p → Leaves n s b o → Leaves n s b p
leaves_from {n} {s} {b} e h = subst (λ (q : Result Value). Leaves n s b q) e h

-- an operand's error is the result's
pub handed_on : {n : ℕ} {s : List ℤ} {c : Body} {p : Result Value} (after : List ℤ) (b : Body) (f : Value → Result Value) → Leaves n s c p → (n ≡ 0 → ⊥) → Leaves n after b (p >>= f)
handed_on after b f h e = leaves_fail e (ap (λ (o : Result Value). o >>= f) (h.error e))

-- ---- an error that `?` passes on
pub no_zero : (e : Error) → error_number e ≡ 0 → ⊥
no_zero e z = omega (arith, error_number_counted e)

pub some_error : {A : Type 0} {a : std.Result A Error} {e : Error} → a ≡ std.Err e → number_of a ≡ 0 → ⊥
some_error {e = e} is z = no_zero e (sym (ap number_of is) ∙ z)

pub same_number : {A B : Type 0} {a : std.Result A Error} {e : Error} (r : std.Result B Error) → a ≡ std.Err e → IsErrAnd r (λ x. x ≡ e) → number_of a ≡ number_of r
same_number {e = e} r is passed = ap number_of is ∙ sym (passed_on r e passed)

-- it is the result's
pub passes : {s : List ℤ} {c : Body} {p : Result Value} {a : std.Result (Unit {0}) Error} {e : Error} (r : std.Result (Unit {0}) Error) (after : List ℤ) (b : Body) (f : Value → Result Value) → Leaves (number_of a) s c p → a ≡ std.Err e → IsErrAnd r (λ x. x ≡ e) → Leaves (number_of r) after b (p >>= f)
passes {p = p} r after b f h is passed = subst (λ (n : ℕ). Leaves n after b (p >>= f)) (same_number r is passed) (handed_on after b f h (some_error is))
