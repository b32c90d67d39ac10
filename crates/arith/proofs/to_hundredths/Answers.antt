-- `to_hundredths` meets its contract: the hundredfold of a number fits. Assumes nothing.
use mir.ValLaws.{to_z-of_z}
use Rattle.lingua.specs.Compute.{counted}
use Rattle.arith.proofs.Range.{counted_fits}
use Rattle.arith.proofs.to_hundredths.Goals as goal

pub overflow_mul-z : goal.overflow_mul-z
overflow_mul-z c = simp (to_z-of_z _ _ c.ranges.x) (counted_fits c.args.x c.requires)

pub returns : goal.returns
unfolding counted
returns c = simp (to_z-of_z _ _ c.ranges.x) (to_z-of_z _ _ (counted_fits c.args.x c.requires))
