use mathlib.Core.Path.{◌≡◌, refl, ◌∙◌}
use Prim.Native.Nat.{suc, ◌-◌}
use native.Mathlib.Omega.{arith}
use Rattle.scopes.proofs.Marking.{used_operands, used_to}
use Rattle.scopes.proofs.pass.mark_operands.Goals as goal

pub loop-e-preserved : goal.loop-e-preserved
loop-e-preserved c = used_operands c.args.rows.now c.requires.ready.refers _ (c.loop-e.e - 1) (omega (arith, c.expressions-expressions.ensures.count)) (used_to refl (let q : c.loop-e.e ≡ suc (c.loop-e.e - 1) = omega arith in q) c.loop-e.invariant) refl (c.operands.ensures _ _ ∙ c.expression_row.ensures.operands) c.mark_all.ensures
