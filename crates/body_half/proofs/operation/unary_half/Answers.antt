use Rattle.lingua.specs.Operation.{negation, make_record, select, make_list, top, pop, remove, to_hundredths, to_number}
use Rattle.lingua.specs.Operations.{unary_meaning}
use Rattle.lingua.specs.Typing.{unary_second}
use Rattle.body_half.proofs.Offsets.{unary_is}
use Rattle.body_half.proofs.operation.unary_half.Goals as goal

pub returns-in-Negation : goal.returns-in-Negation
unfolding unary_meaning unary_second
returns-in-Negation c = λ b h. rw c.in-Negation.is (unary_is _ (negation) _ b h (c.negation.ensures b h))

pub returns-in-MakeRecord : goal.returns-in-MakeRecord
unfolding unary_meaning unary_second
returns-in-MakeRecord c = λ b h. rw c.in-MakeRecord.is (unary_is _ (make_record _) _ b h (c.make_record.ensures b h))

pub returns-in-Select : goal.returns-in-Select
unfolding unary_meaning unary_second
returns-in-Select c = λ b h. rw c.in-Select.is (unary_is _ (select _) _ b h (c.select.ensures b h))

pub returns-in-MakeList : goal.returns-in-MakeList
unfolding unary_meaning unary_second
returns-in-MakeList c = λ b h. rw c.in-MakeList.is (unary_is _ (make_list) _ b h (c.make_list.ensures b h))

pub returns-in-Top : goal.returns-in-Top
unfolding unary_meaning unary_second
returns-in-Top c = λ b h. rw c.in-Top.is (unary_is _ (top) _ b h (c.top.ensures b h))

pub returns-in-Pop : goal.returns-in-Pop
unfolding unary_meaning unary_second
returns-in-Pop c = λ b h. rw c.in-Pop.is (unary_is _ (pop) _ b h (c.pop.ensures b h))

pub returns-in-Remove : goal.returns-in-Remove
unfolding unary_meaning unary_second
returns-in-Remove c = λ b h. rw c.in-Remove.is (unary_is _ (remove _) _ b h (c.remove.ensures b h))

pub returns-in-ToHundredths : goal.returns-in-ToHundredths
unfolding unary_meaning unary_second
returns-in-ToHundredths c = λ b h. rw c.in-ToHundredths.is (unary_is _ (to_hundredths) _ b h (c.to_hundredths.ensures b h))

pub returns-in-ToNumber : goal.returns-in-ToNumber
unfolding unary_meaning unary_second
returns-in-ToNumber c = λ b h. rw c.in-ToNumber.is (unary_is _ (to_number) _ b h (c.to_number.ensures b h))
