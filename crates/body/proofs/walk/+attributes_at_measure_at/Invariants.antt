-- `body::walk::measure_at` and `attributes_at` meet their contracts. Each call, each turn and each end has its law in `Measures`;
-- the place rises at each call. Assumes nothing.
use Prim.Native.Nat.{◌-◌}
use Rattle.body.proofs.Measures.{Passed}
use Rattle.body.proofs.walk.+attributes_at_measure_at.Given as goal

abbrev pub decreases-attributes_at : goal.decreases-attributes_at
decreases-attributes_at l = 96 - l.at

abbrev pub decreases-measure_at : goal.decreases-measure_at
decreases-measure_at l = 96 - l.at

abbrev pub invariant-attributes_at-loop : goal.invariant-attributes_at-loop
invariant-attributes_at-loop l = Passed l.body l.at l.n l.counter l.cells l.nodes l.depth l.next
