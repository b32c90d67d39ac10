-- `size` meets its contract: below zero the machine turns the sign, and the size fits. Assumes nothing.
use mathlib.Core.Path.{ap}
use native.Mathlib.Omega.{arith}
use lib.IntN.{nat_abs}
use mir.ValLaws.{to_z-of_z}
use Rattle.arith.proofs.Halves.{below_zero, from_zero, opposite_fits, size_casts}
use Rattle.arith.proofs.rounding.size.Goals as goal

pub overflow_sub-n : goal.overflow_sub-n
overflow_sub-n c = rw (to_z-of_z _ _ c.ranges.x) (opposite_fits c.args.x (omega (arith, c.requires)))

pub overflow_cast-result : goal.overflow_cast-result
overflow_cast-result c =
    let x = to_z-of_z _ _ c.ranges.x in
    rw (x, to_z-of_z _ _ (opposite_fits c.args.x (omega (arith, c.requires))))
    (size_casts _ (nat_abs c.args.x) (below_zero c.args.x (rw x at c.if-x-lt0.true)) c.requires)

pub returns-then-x-lt0 : goal.returns-then-x-lt0
returns-then-x-lt0 c =
    let x = to_z-of_z _ _ c.ranges.x in
    rw (x, to_z-of_z _ _ (opposite_fits c.args.x (omega (arith, c.requires)))) (ap nat_abs (below_zero c.args.x (rw x at c.if-x-lt0.true)))

pub overflow_cast-result-2 : goal.overflow_cast-result-2
overflow_cast-result-2 c =
    let x = to_z-of_z _ _ c.ranges.x in
    rw x (size_casts _ (nat_abs c.args.x) (from_zero c.args.x (rw x at c.if-x-lt0.false)) c.requires)
