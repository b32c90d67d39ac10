-- `ends_fit` meets its contract: the first byte tells which range is asked. Assumes nothing.
use mathlib.Core.Path.{◌∙◌}
use mir.ValLaws.{to_z-of_z}
use Rattle.profile.proofs.Agreeing.{counts_fit, numbers_fit, others_fit}
use Rattle.profile.proofs.agreement.ends_fit.Goals as goal

pub returns-then-tag-eq-HUNDREDTHS : goal.returns-then-tag-eq-HUNDREDTHS
returns-then-tag-eq-HUNDREDTHS c = λ b h. simp (to_z-of_z _ _ c.ranges.low, to_z-of_z _ _ c.ranges.high) at c.both_in_range.ensures ∙ counts_fit c.args.body c.args.low c.args.high b h c.if-tag-eq-HUNDREDTHS.true

pub returns-then-tag-eq-NUMBER : goal.returns-then-tag-eq-NUMBER
returns-then-tag-eq-NUMBER c = λ b h. simp (to_z-of_z _ _ c.ranges.low, to_z-of_z _ _ c.ranges.high) at c.both_in_range-then-tag-eq-NUMBER.ensures ∙ numbers_fit c.args.body c.args.low c.args.high b h c.if-tag-eq-HUNDREDTHS.false c.if-tag-eq-NUMBER.true

pub returns : goal.returns
returns c = λ b h. others_fit c.args.body c.args.low c.args.high b h c.if-tag-eq-HUNDREDTHS.false c.if-tag-eq-NUMBER.false
