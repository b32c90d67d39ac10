-- Whether a value satisfies a yoke, by what the yoke was told; and whether a variable takes a new one. Assumes nothing.
use mathlib.Core.Path.{◌≡◌, refl, sym, ap, subst}
use mathlib.Core.Bool.{Bool, true, false}
use mathlib.Core.List.{List}
use mathlib.Core.Option.{Option, some}
use Prim.Native.Nat.{ℕ, ◌+◌, ◌-◌, ◌*◌, ◌<◌}
use native.Mathlib.Omega.{arith}
use lib.IntN.{ℤ}
use lib.ListN.{length, take, drop}
use Rattle.lingua.specs.Numbers.{body_cells}
use Rattle.lingua.specs.Errors.{yoke_not_satisfied}
use Rattle.lingua.specs.Outcome.{ok, fail, Result, require, ◌>>=◌}
use Rattle.lingua.specs.Body.{boolean}
use Rattle.lingua.specs.Value.{Value, as_truth, Composite}
use Rattle.lingua.specs.Expression.{Yoke}
use Rattle.lingua.specs.Run.{Declaration}
use Rattle.lingua.specs.Store.{Variable, variable_at, contents, filled_at}
use Rattle.lingua.specs.Typing.{bodies_of}
use Rattle.lingua.specs.Erased.{value_in, values_of, yoke_erased, yoke_holds_erased}
use Rattle.cells.specs.Stack.{Leaves}
use Rattle.cells.proofs.Operands.{lies_as}
use Rattle.run.specs.Memory.{Admits}
use Rattle.run.proofs.Admitting.{admits_error, admits_ok}
use Rattle.run.proofs.Parts.{unfilled_is, filled_is, filled, part_lies}
use Rattle.erased_row.specs.Meaning.{World, Current, ReadyYoke, EvaluatesYoke}
use Rattle.erased_store.specs.Meaning.{AdmitsValue, HasChange, AdmitsYoke}
use Rattle.erased_row.proofs.Cycle.{memory_of}
use Rattle.erased_row.proofs.Telling.{truth_in}

-- ---- what the yoke was told
truth_asked : (o : Result Value) → (o >>= λ t. require (as_truth t) yoke_not_satisfied) ≡ (truth_in o >>= λ b. require b yoke_not_satisfied)
truth_asked (ok v) = refl
truth_asked (fail n) = refl

module _ {rows : List ℕ} {layout : List ℕ} {cells : List ℤ} {states : List ℕ} {value : List ℤ} {y : Yoke} {n : ℕ} {s : List ℤ} (h : EvaluatesYoke rows layout cells states value y n s) where
  by_truth : (q : Result Bool) (r : ℕ) → ((o : Result Value) → Leaves n s boolean o → q ≡ truth_in o) → Admits r (q >>= λ b. require b yoke_not_satisfied) → AdmitsValue rows layout cells states value y r
  unfolding yoke_holds_erased
  by_truth q r f g = record {
    admits = λ ds vs cur x w c d.
        let o = yoke_erased y (values_of (contents vs)) x in
        subst (λ (u : Result (Unit {0})). Admits r u) (sym (truth_asked o)) (subst (λ (p : Result Bool). Admits r (p >>= λ b. require b yoke_not_satisfied)) (f o (h.leaves ds vs cur x w c d)) g);
  }

  pub yoke_error : {m : ℕ} → ((o : Result Value) → Leaves n s boolean o → fail m ≡ truth_in o) → (m ≡ 0 → ⊥) → AdmitsValue rows layout cells states value y m
  yoke_error {m} f e = by_truth (fail m) m f (admits_error e refl)

  module _ {b : Bool} (f : (o : Result Value) → Leaves n s boolean o → ok b ≡ truth_in o) where
    pub not_satisfied : b ≡ false → AdmitsValue rows layout cells states value y yoke_not_satisfied
    not_satisfied q = by_truth (ok b) yoke_not_satisfied f (admits_error (λ z. omega arith) (ap (λ (t : Bool). require t yoke_not_satisfied) q))

    pub satisfied : b ≡ true → AdmitsValue rows layout cells states value y 0
    satisfied q = by_truth (ok b) 0 f (admits_ok refl (ap (λ (t : Bool). require t yoke_not_satisfied) q))

-- ---- a variable and a new yoke
-- its cells, where they lie, are a current value
part_current : {rows : List ℕ} {layout : List ℕ} {cells : List ℤ} {states : List ℕ} (n : ℕ) (ds : List Declaration) (vs : List Variable) → World rows layout cells states ds vs → n < length vs → (x : Composite) → (variable_at vs n).content ≡ some x
    → Current (take (body_cells * n + body_cells - body_cells * n) (drop (body_cells * n) cells)) (bodies_of ds n) x.value
part_current n ds vs w lt x q = record { lies = lies_as (filled (memory_of w) n x q).0 (part_lies (memory_of w) n lt x q); small = w.small n }

module _ {rows : List ℕ} {layout : List ℕ} {cells : List ℤ} {states : List ℕ} (n : ℕ) {y : Yoke} where
  pub none_admits : filled_at states n ≡ false → AdmitsYoke rows layout cells states n y 0
  unfolding yoke_holds_erased
  none_admits e = record {
    admits = λ ds vs w lt d.
        subst (λ (c : Option Composite). Admits 0 (yoke_holds_erased y (values_of (contents vs)) (value_in c))) (sym (unfilled_is (memory_of w) n lt e)) (admits_ok refl refl);
  }

  pub part_ready : HasChange rows layout cells states n y → filled_at states n ≡ true → ReadyYoke rows layout cells states (take (body_cells * n + body_cells - body_cells * n) (drop (body_cells * n) cells)) y
  part_ready r f =
      let x = filled_is (memory_of r.world) n r.there f in
      record { declarations = r.declarations; store = r.store; world = r.world; body = bodies_of r.declarations n; value = x.0.value; is = part_current n r.declarations r.store r.world r.there x.0 x.1; passed = r.passed }

  pub part_admits : {r : ℕ} → filled_at states n ≡ true → AdmitsValue rows layout cells states (take (body_cells * n + body_cells - body_cells * n) (drop (body_cells * n) cells)) y r → AdmitsYoke rows layout cells states n y r
  part_admits {r} f h = record {
    admits = λ ds vs w lt d.
        let x = filled_is (memory_of w) n lt f in
        subst (λ (c : Option Composite). Admits r (yoke_holds_erased y (values_of (contents vs)) (value_in c))) (sym x.1)
        (h.admits ds vs (bodies_of ds n) x.0.value w (part_current n ds vs w lt x.0 x.1) d);
  }
