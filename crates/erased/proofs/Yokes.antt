-- Yokes by their numbers, and the Boolean that stands for the current value outside yokes. Assumes nothing.
use mathlib.Core.Path.{◌≡◌, refl, sym, subst}
use mathlib.Core.Bool.{true}
use mathlib.Core.List.{List, [], ◌∷◌}
use Prim.Native.Nat.{ℕ}
use native.Mathlib.Omega.{arith}
use lib.IntN.{ℤ, pos}
use Rattle.lingua.specs.Body.{boolean, size}
use Rattle.lingua.specs.Value.{fit_truth, cells_of, truth, as_truth}
use Rattle.lingua.specs.Evaluation.{no_current}
use Rattle.lingua.specs.Expression.{Expression, Yoke, always, yoke}
use Rattle.lingua.specs.Typing.{no_current_body}
use Rattle.safety.specs.Derivation.{DerivedYoke}
use Rattle.lingua.specs.Erased.{yoke_erased}
use Rattle.cells.specs.Stack.{Lies}
use Rattle.erased_row.specs.Meaning.{Current, Ready, ReadyYoke, ReadyPlain, Evaluates, EvaluatesYoke, EvaluatesPlain}
use Rattle.erased_row.proofs.Leaving.{leaves_ok}

module _ {rows : List ℕ} {layout : List ℕ} {cells : List ℤ} {states : List ℕ} {now : List ℤ} {y : Yoke} where
  -- the yoke that is always true
  pub always_evaluates : {s : List ℤ} → y ≡ always → Lies s 0 boolean (truth true) → EvaluatesYoke rows layout cells states now y 0 s
  unfolding yoke_erased
  always_evaluates {s} q l =
      subst (λ (z : Yoke). EvaluatesYoke rows layout cells states now z 0 s) (sym q)
      (record { leaves = λ ds vs cur x w h d. leaves_ok (truth true) refl refl l })

  pub yoke_ready : {e : Expression} → y ≡ yoke e → ReadyYoke rows layout cells states now y → Ready rows layout cells states now e
  yoke_ready {e} q r = go (subst (λ (z : Yoke). ReadyYoke rows layout cells states now z) q r)
    where
      go : ReadyYoke rows layout cells states now (yoke e) → Ready rows layout cells states now e
      go k = record { declarations = k.declarations; store = k.store; world = k.world; body = k.body; value = k.value; is = k.is; result = boolean; passed = unfold DerivedYoke in k.passed }

  pub yoke_evaluates : {e : Expression} {n : ℕ} {s : List ℤ} → y ≡ yoke e → Evaluates rows layout cells states now e n s → EvaluatesYoke rows layout cells states now y n s
  unfolding yoke_erased DerivedYoke
  yoke_evaluates {e} {n} {s} q h =
      subst (λ (z : Yoke). EvaluatesYoke rows layout cells states now z n s) (sym q)
      (record { leaves = λ ds vs cur x w c d. h.leaves ds vs cur boolean x w c d })

-- ---- outside yokes
pub none_current : Current (pos 0 ∷ []) no_current_body no_current.value
unfolding cells_of as_truth size
none_current = record { lies = record { cells = refl; fit = fit_truth }; small = omega arith }

module _ {rows : List ℕ} {layout : List ℕ} {cells : List ℤ} {states : List ℕ} {e : Expression} where
  pub plain_ready : ReadyPlain rows layout cells states e → Ready rows layout cells states (pos 0 ∷ []) e
  plain_ready r = record { declarations = r.declarations; store = r.store; world = r.world; body = no_current_body; value = no_current.value; is = none_current; result = r.result; passed = r.passed }

  pub plain_evaluates : {n : ℕ} {s : List ℤ} → Evaluates rows layout cells states (pos 0 ∷ []) e n s → EvaluatesPlain rows layout cells states e n s
  plain_evaluates h = record { leaves = λ ds vs b w d. h.leaves ds vs no_current_body b no_current.value w none_current d }
