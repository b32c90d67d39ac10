-- `body_half::binary::quantities` meets its contract: the first bytes decide. Assumes nothing.
use Rattle.body_half.proofs.Quantities.{two_numbers, two_hundredths, no_quantities}
use Rattle.body_half.proofs.binary.quantities.Goals as goal

pub returns-then-a-eq-NUMBER : goal.returns-then-a-eq-NUMBER
returns-then-a-eq-NUMBER c = λ b d h k. two_numbers c.args.x c.args.y b d h k c.if-a-eq-NUMBER.true

pub returns-then-a-eq-HUNDREDTHS : goal.returns-then-a-eq-HUNDREDTHS
returns-then-a-eq-HUNDREDTHS c = λ b d h k. two_hundredths c.args.x c.args.y b d h k c.if-a-eq-HUNDREDTHS.true

pub returns : goal.returns
returns c = λ b d h k. no_quantities c.args.x c.args.y b d h k c.if-a-eq-NUMBER.false c.if-a-eq-HUNDREDTHS.false
