use mathlib.Core.Path.{◌≡◌, refl, ◌∙◌}
use Prim.Native.Nat.{suc, ◌-◌}
use native.Mathlib.Omega.{arith}
use Rattle.lingua.specs.Rows.{procedure_count}
use Rattle.scopes.proofs.Marking.{owned_part, owned_to}
use Rattle.scopes.proofs.pass.mark_parts.Goals as goal

pub loop-r-preserved : goal.loop-r-preserved
loop-r-preserved c = owned_part c.args.rows.now c.requires.ready.refers (procedure_count c.args.rows.now) (c.loop-r.r - 1) (omega (arith, c.instructions-instructions.ensures.count)) (owned_to refl (let e : c.loop-r.r ≡ suc (c.loop-r.r - 1) = omega arith in e) c.loop-r.invariant) refl (c.parts.ensures ∙ c.instruction_row.ensures.parts) c.mark_all.ensures
