-- `keep_bodies` meets its contract: a turn is `bodies_more`. Assumes nothing.
use Rattle.run.specs.Kept.{BodiesKept}
use Rattle.run.proofs.bodies.keep_bodies.Given as goal

abbrev pub invariant-loop-d : goal.invariant-loop-d
invariant-loop-d l = BodiesKept l.rows l.t l.variables l.d
