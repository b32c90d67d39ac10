-- `add` meets its contract: the machine's result fits, so it is the exact one. Assumes nothing.
use mathlib.Core.Path.{ap, ◌∙◌}
use lib.IntN.{ℤ}
use mir.ValLaws.{to_z-of_z}
use Rattle.lingua.specs.Compute.{ranged}
use Rattle.arith.proofs.Range.{add_fits}
use Rattle.arith.proofs.add.Goals as goal

pub overflow_add-x : goal.overflow_add-x
overflow_add-x c =
    simp (to_z-of_z _ _ c.ranges.x, to_z-of_z _ _ c.ranges.y) (add_fits c.args.hundredths _ _ c.requires.x_value c.requires.y_value)

pub returns : goal.returns
returns c =
    let s = c in
    let h = s.args.hundredths in
    c.checked.ensures
    ∙ ap (λ (z : ℤ). ranged h z)
    (simp (to_z-of_z _ _ s.ranges.x, to_z-of_z _ _ s.ranges.y) (to_z-of_z _ _ (add_fits h _ _ s.requires.x_value s.requires.y_value)))
