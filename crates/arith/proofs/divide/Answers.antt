-- `divide` meets its contract: the bits of a divisor are 0 for 0 alone, and each of the three ends has its law in `Range`. Assumes nothing.
use mathlib.Core.Path.{ap, ◌∙◌}
use mathlib.Core.Bool.{Bool, true}
use native.Mathlib.Omega.{arith}
use lib.IntN.{ℤ}
use mir.Syntax.{w64}
use mir.Val.{to_z, of_z}
use mir.ValLaws.{to_z-of_z}
use Rattle.lingua.specs.Compute.{ranged}
use Rattle.arith.specs.Told.{told_quantity}
use Rattle.arith.specs.Ranges.{quantity_size}
use Rattle.std.specs.Prelude.{Ok}
use Rattle.lingua.specs.Outcome.{ok}
use Rattle.lingua.specs.Value.{whole}
use Rattle.arith.proofs.Range.{hundredfold_size, hundredfold_fits, bits_zero, divide_zero, divide_counts, divide_numbers}
use Rattle.arith.proofs.divide.Goals as goal

pub returns-then-y-eq0 : goal.returns-then-y-eq0
returns-then-y-eq0 c =
    divide_zero c.args.hundredths c.args.x c.args.y (bits_zero c.args.y c.ranges.y c.if-y-eq0.true)

pub overflow_mul-x : goal.overflow_mul-x
overflow_mul-x c = rw (to_z-of_z _ _ c.ranges.x) (hundredfold_fits c.args.hundredths c.args.x c.requires.x_value)

pub nearest-q-requires-clause-x_bound : goal.nearest-q-requires-clause-x_bound
nearest-q-requires-clause-x_bound c =
    let s = c in
    let h = s.args.hundredths in
    simp (to_z-of_z _ _ s.ranges.x, to_z-of_z _ _ s.ranges.y, to_z-of_z _ _ (hundredfold_fits h s.args.x s.requires.x_value))
    (omega (arith, hundredfold_size h s.args.x s.requires.x_value))

pub nearest-q-requires-clause-y_bound : goal.nearest-q-requires-clause-y_bound
nearest-q-requires-clause-y_bound c =
    let s = c in
    let h = s.args.hundredths in
    simp (to_z-of_z _ _ s.ranges.x, to_z-of_z _ _ s.ranges.y, to_z-of_z _ _ (hundredfold_fits h s.args.x s.requires.x_value))
    (quantity_size h s.args.y s.requires.y_value)

pub returns-then-hundredths : goal.returns-then-hundredths
returns-then-hundredths c =
    let s = c in
    let h = s.args.hundredths in
    ap (λ (b : Bool). told_quantity b c.checked.result) c.if-hundredths.true
    ∙ c.checked.ensures
    ∙ ap (λ (z : ℤ). ranged true z)
    (to_z-of_z w64 c.nearest-q.result (record { sfits = c.nearest-q.type_inv })
    ∙ simp (to_z-of_z _ _ s.ranges.x, to_z-of_z _ _ s.ranges.y, to_z-of_z _ _ (hundredfold_fits h s.args.x s.requires.x_value)) at c.nearest-q.ensures)
    ∙ divide_counts h s.args.x s.args.y c.if-hundredths.true (λ e. c.if-y-eq0.false (ap (of_z w64) e))

pub quotient-requires-clause-x_bound : goal.quotient-requires-clause-x_bound
quotient-requires-clause-x_bound c =
    let s = c in
    simp (to_z-of_z _ _ s.ranges.x, to_z-of_z _ _ s.ranges.y)
    (omega (arith, quantity_size s.args.hundredths s.args.x s.requires.x_value))

pub quotient-requires-clause-fact : goal.quotient-requires-clause-fact
quotient-requires-clause-fact c =
    let s = c in
    simp (to_z-of_z _ _ s.ranges.x, to_z-of_z _ _ s.ranges.y)
    (λ e. c.if-y-eq0.false (ap (of_z w64) e))

pub returns : goal.returns
returns c =
    let s = c in
    ap (λ (b : Bool). told_quantity b (Ok (to_z w64 (of_z w64 c.quotient.result)))) c.if-hundredths.false
    ∙ ap (λ (z : ℤ). ok (whole z)) (to_z-of_z w64 c.quotient.result (record { sfits = c.quotient.type_inv })
    ∙ simp (to_z-of_z _ _ s.ranges.x, to_z-of_z _ _ s.ranges.y) at c.quotient.ensures)
    ∙ divide_numbers s.args.hundredths s.args.x s.args.y c.if-hundredths.false (λ e. c.if-y-eq0.false (ap (of_z w64) e))
