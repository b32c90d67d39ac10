-- `type_wrong` meets its contract. The invariant: the array holds the bodies of the rows passed. Assumes nothing.
use Rattle.rules.specs.Types.{BodiesBelow}
use Rattle.rules.proofs.types.type_wrong.Given as goal

abbrev pub invariant-loop-r : goal.invariant-loop-r
invariant-loop-r l = BodiesBelow l.rows l.bodies l.r
