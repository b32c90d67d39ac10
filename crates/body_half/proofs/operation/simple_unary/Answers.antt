-- `body_half::operation::simple_unary` meets its contract: a first byte gives the tag. Assumes nothing.
use Rattle.lingua.specs.Operations.{unary_meaning}
use Rattle.body_half.proofs.Simple.{negation_simple, to_hundredths_simple, to_number_simple}
use Rattle.body_half.proofs.operation.simple_unary.Goals as goal

pub returns-in-Negation : goal.returns-in-Negation
unfolding unary_meaning
returns-in-Negation c = λ b h. rw c.in-Negation.is (negation_simple c.args.x b h c.when_it.result c.when_it.ensures)

pub returns-in-ToHundredths : goal.returns-in-ToHundredths
unfolding unary_meaning
returns-in-ToHundredths c = λ b h. rw c.in-ToHundredths.is (to_hundredths_simple c.args.x b h c.when_it-in-ToHundredths.result c.when_it-in-ToHundredths.ensures)

pub returns-in-ToNumber : goal.returns-in-ToNumber
unfolding unary_meaning
returns-in-ToNumber c = λ b h. rw c.in-ToNumber.is (to_number_simple c.args.x b h c.when_it-in-ToNumber.result c.when_it-in-ToNumber.ensures)
