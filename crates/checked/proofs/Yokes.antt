-- Yokes by their numbers, and the Boolean that stands for the current value outside yokes. Assumes nothing.
use mathlib.Core.Path.{◌≡◌, refl, sym, ap, subst}
use mathlib.Core.Bool.{true}
use mathlib.Core.List.{List, [], ◌∷◌}
use Prim.Native.Nat.{ℕ, ◌-◌}
use lib.IntN.{pos}
use Rattle.lingua.specs.Numbers.{body_bytes}
use Rattle.lingua.specs.Outcome.{ok}
use Rattle.lingua.specs.Body.{boolean, size}
use Rattle.lingua.specs.Value.{fit_truth, cells_of, as_truth, pad, Composite}
use Rattle.lingua.specs.Expression.{Yoke}
use Rattle.lingua.specs.Evaluation.{Variables, boolean_of, no_current, eval, eval_yoke}
use Rattle.lingua.specs.Trees.{expression_tree, yoke_tree}
use Rattle.profile.specs.Yokes.{always_is, yoke_is}
use Rattle.body.specs.Encode.{Holds}
use Rattle.checked_row.specs.Meaning.{Current}
use Rattle.checked_row.proofs.Giving.{boolean_held}

pub always_true : (rows : List ℕ) (y : ℕ) (vars : Variables) (x : Composite) → y ≡ 0 → ok (boolean_of true) ≡ eval_yoke (yoke_tree rows y) vars x
unfolding eval_yoke
always_true rows y vars x e = ap (λ (z : Yoke). eval_yoke z vars x) (sym (always_is rows y e))

pub yoke_row : (rows : List ℕ) (y : ℕ) (vars : Variables) (x : Composite) → (y ≡ 0 → ⊥) → eval (expression_tree rows (y - 1)) vars x ≡ eval_yoke (yoke_tree rows y) vars x
unfolding eval_yoke
yoke_row rows y vars x f = ap (λ (z : Yoke). eval_yoke z vars x) (sym (yoke_is rows y f))

pub none_current : (body : List ℕ) → body ≡ pad body_bytes 0 (1 ∷ []) → Current (pos 0 ∷ []) body no_current
unfolding cells_of as_truth size
none_current body e = record { lies = record { cells = refl; fit = fit_truth }; holds = subst (λ (x : List ℕ). Holds x boolean) (sym e) boolean_held }
