-- `multiply` meets its contract: the machine's product fits, so it is the exact one. Assumes nothing.
use mathlib.Core.Path.{ap, ◌∙◌}
use mathlib.Core.Bool.{Bool, true, false}
use lib.IntN.{ℤ}
use mir.Syntax.{w64}
use mir.ValLaws.{to_z-of_z}
use Rattle.lingua.specs.Compute.{ranged}
use Rattle.arith.specs.Told.{told_quantity}
use Rattle.arith.proofs.Range.{multiply_fits, product_size, product_counts, product_numbers}
use Rattle.arith.proofs.multiply.Goals as goal

pub overflow_mul-z : goal.overflow_mul-z
overflow_mul-z c =
    simp (to_z-of_z _ _ c.ranges.x, to_z-of_z _ _ c.ranges.y) (multiply_fits c.args.hundredths _ _ c.requires.x_value c.requires.y_value)

pub nearest-n-requires-clause-x_bound : goal.nearest-n-requires-clause-x_bound
nearest-n-requires-clause-x_bound c =
    let s = c in
    let h = s.args.hundredths in
    simp (to_z-of_z _ _ s.ranges.x, to_z-of_z _ _ s.ranges.y, to_z-of_z _ _ (multiply_fits h _ _ s.requires.x_value s.requires.y_value))
    (product_size h _ _ s.requires.x_value s.requires.y_value)

pub returns-then-hundredths : goal.returns-then-hundredths
returns-then-hundredths c =
    let s = c in
    let h = s.args.hundredths in
    ap (λ (b : Bool). told_quantity b c.checked.result) c.if-hundredths.true
    ∙ c.checked.ensures
    ∙ ap (λ (z : ℤ). ranged true z)
    (to_z-of_z w64 c.nearest-n.result (record { sfits = c.nearest-n.type_inv })
    ∙ simp (to_z-of_z _ _ s.ranges.x, to_z-of_z _ _ s.ranges.y, to_z-of_z _ _ (multiply_fits h _ _ s.requires.x_value s.requires.y_value)) at c.nearest-n.ensures)
    ∙ product_counts h s.args.x s.args.y c.if-hundredths.true

pub returns : goal.returns
returns c =
    let s = c in
    let h = s.args.hundredths in
    ap (λ (b : Bool). told_quantity b c.checked-2.result) c.if-hundredths.false
    ∙ c.checked-2.ensures
    ∙ ap (λ (z : ℤ). ranged false z)
    (simp (to_z-of_z _ _ s.ranges.x, to_z-of_z _ _ s.ranges.y) (to_z-of_z _ _ (multiply_fits h _ _ s.requires.x_value s.requires.y_value)))
    ∙ product_numbers h s.args.x s.args.y c.if-hundredths.false
