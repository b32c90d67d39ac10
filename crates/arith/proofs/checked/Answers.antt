-- `checked` meets its contract: each of its two ends has its law in `Range`. Assumes nothing.
use mathlib.Core.Path.{sym, ap, ◌∙◌}
use mir.ValLaws.{to_z-of_z}
use lib.IntN.{ℤ}
use Rattle.lingua.specs.Outcome.{ok}
use Rattle.lingua.specs.Value.{quantity}
use Rattle.arith.proofs.Range.{checked_within, checked_out}
use Rattle.arith.proofs.checked.Goals as goal

pub returns-then-in_range : goal.returns-then-in_range
returns-then-in_range c =
    let z = to_z-of_z _ _ c.ranges.z in
    ap (λ (n : ℤ). ok (quantity c.args.hundredths n)) z ∙ checked_within c.args.hundredths c.args.z (sym (rw z at c.in_range.ensures) ∙ c.if-in_range.true)

pub returns : goal.returns
returns c =
    let z = to_z-of_z _ _ c.ranges.z in
    checked_out c.args.hundredths c.args.z (sym (rw z at c.in_range.ensures) ∙ c.if-in_range.false)
