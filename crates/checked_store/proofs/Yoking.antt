-- A filled variable's value as the current value, and whether it satisfies a yoke. Assumes nothing.
use mathlib.Core.Path.{◌≡◌, refl, sym, ap, ◌∙◌, subst}
use mathlib.Core.Bool.{Bool, true, false}
use mathlib.Core.List.{List}
use mathlib.Core.Option.{Option, some}
use Prim.Native.Nat.{ℕ, ◌+◌, ◌-◌, ◌*◌}
use native.Mathlib.Omega.{arith}
use lib.IntN.{ℤ}
use lib.ListN.{take, drop}
use Rattle.lingua.specs.Numbers.{body_cells}
use Rattle.lingua.specs.Errors.{yoke_expected, yoke_not_satisfied}
use Rattle.lingua.specs.declared.errors.Error.{Error}
use Rattle.lingua.specs.Faults.{error_number}
use Rattle.lingua.specs.Outcome.{ok, fail, Result as Outcome, require, ◌>>=◌}
use Rattle.lingua.specs.Value.{Composite}
use Rattle.lingua.specs.Expression.{Yoke}
use Rattle.lingua.specs.Evaluation.{truth_or, eval_yoke}
use Rattle.lingua.specs.Store.{Variable, variable_at, contents, yoke_holds, filled_at}
use Rattle.run.specs.Memory.{Admits}
use Rattle.run.proofs.Parts.{filled_is, part_lies}
use Rattle.run.proofs.Admitting.{admits_error, admits_fault}
use Rattle.checked_row.specs.Meaning.{Stored, Current}
use Rattle.checked_row.proofs.Storing.{memory_of, filled_there, no_value, value_held}

-- ---- the variable's cells
pub record Fetched (variables : List ℕ) (cells : List ℤ) (body : List ℕ) (vs : List Variable) (n : ℕ) (value : List ℤ) : Type 0 where
  pub composite : Composite
  pub is : (variable_at vs n).content ≡ some composite
  pub current : Current value body composite

pub fetched : (variables : List ℕ) (cells : List ℤ) (states : List ℕ) (vs : List Variable) (n : ℕ) → Stored variables cells states vs → (body : List ℕ) → body ≡ take 96 (drop (96 * n) variables) → filled_at states n ≡ true
    → Fetched variables cells body vs n (take (body_cells * n + body_cells - body_cells * n) (drop (body_cells * n) cells))
fetched variables cells states vs n h body e f =
    let m = memory_of h in
    let lt = filled_there h n f in
    let x = filled_is m n lt f in
    record {
      composite = x.0;
      is = x.1;
      current = record { lies = part_lies m n lt x.0 x.1; holds = value_held h n lt x.0 x.1 body e };
    }

-- ---- the yoke's answer
pub none_holds : (variables : List ℕ) (cells : List ℤ) (states : List ℕ) (vs : List Variable) (n : ℕ) → Stored variables cells states vs → (y : Yoke) → filled_at states n ≡ false → Admits 0 (yoke_holds vs y (variable_at vs n).content)
unfolding yoke_holds
none_holds variables cells states vs n h y e = subst (λ (c : Option Composite). Admits 0 (yoke_holds vs y c)) (sym (no_value h n e)) (record { answer = λ z. refl; error = λ f. absurd (f refl) })

tested : (o : Outcome Composite) → (o >>= λ r. truth_or yoke_expected r >>= λ t. require t yoke_not_satisfied) ≡ ((o >>= truth_or yoke_expected) >>= λ t. require t yoke_not_satisfied)
tested (ok x) = refl
tested (fail n) = refl

module _ (vs : List Variable) (y : Yoke) (c : Option Composite) (x : Composite) (is : c ≡ some x) where
  holds_is : yoke_holds vs y c ≡ ((eval_yoke y (contents vs) x >>= truth_or yoke_expected) >>= λ t. require t yoke_not_satisfied)
  unfolding yoke_holds
  holds_is = ap (λ (d : Option Composite). yoke_holds vs y d) is ∙ tested (eval_yoke y (contents vs) x)

  pub holds_error : (e : Error) → fail (error_number e) ≡ (eval_yoke y (contents vs) x >>= truth_or yoke_expected) → Admits (error_number e) (yoke_holds vs y c)
  holds_error e q = admits_fault e (holds_is ∙ sym (ap (λ (o : Outcome Bool). o >>= λ t. require t yoke_not_satisfied) q))

  module _ (h : Bool) (q : ok h ≡ (eval_yoke y (contents vs) x >>= truth_or yoke_expected)) where
    told : yoke_holds vs y c ≡ require h yoke_not_satisfied
    told = holds_is ∙ sym (ap (λ (o : Outcome Bool). o >>= λ t. require t yoke_not_satisfied) q)

    pub holds_not : h ≡ false → Admits yoke_not_satisfied (yoke_holds vs y c)
    holds_not k = admits_error (λ k. omega arith) (told ∙ ap (λ (t : Bool). require t yoke_not_satisfied) k)

    pub holds_true : h ≡ true → Admits 0 (yoke_holds vs y c)
    holds_true k = record { answer = λ z. told ∙ ap (λ (t : Bool). require t yoke_not_satisfied) k; error = λ f. absurd (f refl) }
