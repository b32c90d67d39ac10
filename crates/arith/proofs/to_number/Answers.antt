-- `to_number` meets its contract: a count may be cut as a number may. Assumes nothing.
use mathlib.Core.Path.{◌∙◌}
use native.Mathlib.Omega.{arith}
use mir.Syntax.{w64}
use mir.ValLaws.{to_z-of_z}
use Rattle.lingua.specs.Compute.{quotient, whole_part}
use Rattle.arith.specs.Ranges.{count_size}
use Rattle.arith.proofs.to_number.Goals as goal

pub quotient-x-requires-clause-x_bound : goal.quotient-x-requires-clause-x_bound
quotient-x-requires-clause-x_bound c =
    simp (to_z-of_z _ _ c.ranges.z) (omega (arith, count_size c.args.z c.requires))

pub returns : goal.returns
unfolding quotient whole_part
returns c =
    to_z-of_z w64 c.quotient-x.result (record { sfits = c.quotient-x.type_inv })
    ∙ simp (to_z-of_z _ _ c.ranges.z) at c.quotient-x.ensures
