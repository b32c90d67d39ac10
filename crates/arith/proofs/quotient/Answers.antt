-- `quotient` meets its contract: the machine cuts toward zero, and the quotient fits. Assumes nothing.
use native.Mathlib.Omega.{arith}
use mir.ValLaws.{to_z-of_z}
use Rattle.lingua.specs.Compute.{quotient}
use Rattle.arith.proofs.Range.{quotient_fits, zero_bits}
use Rattle.arith.proofs.quotient.Goals as goal

pub nonzero_div-q : goal.nonzero_div-q
nonzero_div-q c = (
  zero_bits c.args.y c.requires.fact c.ranges.y,
  simp (to_z-of_z _ _ c.ranges.x, to_z-of_z _ _ c.ranges.y)
      (quotient_fits c.args.x c.args.y (omega (arith, c.requires.x_bound))),
)

pub returns : goal.returns
unfolding quotient
returns c =
    simp (to_z-of_z _ _ c.ranges.x, to_z-of_z _ _ c.ranges.y)
    (to_z-of_z _ _ (quotient_fits c.args.x c.args.y (omega (arith, c.requires.x_bound))))
