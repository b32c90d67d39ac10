use native.Mathlib.Numerals.{add-one}
use native.Mathlib.Omega.{arith}
use Rattle.scopes.proofs.Marking.{owned_body}
use Rattle.scopes.proofs.pass.mark_bodies.Goals as goal

pub loop-k-preserved : goal.loop-k-preserved
loop-k-preserved c = owned_body c.args.rows.now c.requires.ready.refers c.loop-k.k _ (omega arith) (omega (arith, c.procedures-k-end.ensures)) c.loop-k.invariant (add-one c.loop-k.k) (add-one c.loop-k.k) c.procedure-procedure.ensures.body c.mark.ensures
