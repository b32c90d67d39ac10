-- `unary` meets its contract: in each arm, what the operation asks follows from the operand, and what it leaves is what the
-- operation's own function ensures. Assumes nothing.
use native.Mathlib.Omega.{arith}
use Rattle.lingua.specs.Operations.{unary_meaning}
use Rattle.lingua.specs.declared.operations.UnaryOperation.TheVariants.{Negation, MakeRecord, Select, MakeList, Top, Pop, Remove, ToHundredths, ToNumber}
use Rattle.laws.specs.Faults.{passed_on}
use Rattle.cells.proofs.Unary.{selected_room, listed_room, top_counted, pop_some, pop_counted, removed_less, removed_room, to_hundredths_range, to_number_range, to_hundredths_leaves, to_number_leaves, negation_leaves, make_record_leaves, select_leaves, make_list_leaves, top_leaves, pop_leaves, remove_leaves, named, has_named, leaves_named}
use Rattle.cells.proofs.apply.unary.Goals as goal

pub select-requires : goal.select-requires
unfolding unary_meaning
select-requires c = let h = (has_named (named (Select c.in-Select.field-0) c.in-Select.is) c.requires.has_operand).operand in omega (arith, selected_room c.in-Select.field-0 h, h.cells_are, h.small)

pub make_list-requires-clause-width_bound : goal.make_list-requires-clause-width_bound
unfolding unary_meaning
make_list-requires-clause-width_bound c = listed_room (has_named (named MakeList c.in-MakeList.is) c.requires.has_operand).operand

pub top-requires-clause-counted : goal.top-requires-clause-counted
unfolding unary_meaning
top-requires-clause-counted c = top_counted (has_named (named Top c.in-Top.is) c.requires.has_operand).operand

pub overflow_sub-cells : goal.overflow_sub-cells
unfolding unary_meaning
overflow_sub-cells c = pop_some (has_named (named Pop c.in-Pop.is) c.requires.has_operand).operand

pub pop-requires-clause-counted : goal.pop-requires-clause-counted
unfolding unary_meaning
pop-requires-clause-counted c = pop_counted (has_named (named Pop c.in-Pop.is) c.requires.has_operand).operand

pub overflow_sub-cells-in-Remove : goal.overflow_sub-cells-in-Remove
unfolding unary_meaning
overflow_sub-cells-in-Remove c = removed_less c.in-Remove.field-0 (has_named (named (Remove c.in-Remove.field-0) c.in-Remove.is) c.requires.has_operand).operand

pub remove-requires-clause-width_bound : goal.remove-requires-clause-width_bound
unfolding unary_meaning
remove-requires-clause-width_bound c = removed_room c.in-Remove.field-0 (has_named (named (Remove c.in-Remove.field-0) c.in-Remove.is) c.requires.has_operand).operand

pub to_hundredths-requires-clause-pos_value : goal.to_hundredths-requires-clause-pos_value
unfolding unary_meaning
to_hundredths-requires-clause-pos_value c = to_hundredths_range (has_named (named ToHundredths c.in-ToHundredths.is) c.requires.has_operand).operand

pub to_number-requires-clause-pos_value : goal.to_number-requires-clause-pos_value
unfolding unary_meaning
to_number-requires-clause-pos_value c = to_number_range (has_named (named ToNumber c.in-ToNumber.is) c.requires.has_operand).operand

pub returns-in-Negation : goal.returns-in-Negation
unfolding unary_meaning
returns-in-Negation c = λ b d x h. leaves_named (named Negation c.in-Negation.is) (negation_leaves c.negate.new.stack c.negate.ensures) h

pub returns-in-MakeList : goal.returns-in-MakeList
unfolding unary_meaning
returns-in-MakeList c = λ b d x h. leaves_named (named MakeList c.in-MakeList.is) (make_list_leaves c.make_list.new.stack c.make_list.ensures) h

pub returns-in-ToHundredths : goal.returns-in-ToHundredths
unfolding unary_meaning
returns-in-ToHundredths c = λ b d x h. leaves_named (named ToHundredths c.in-ToHundredths.is) (to_hundredths_leaves c.to_hundredths.new.stack c.to_hundredths.ensures) h

pub returns-in-ToNumber : goal.returns-in-ToNumber
unfolding unary_meaning
returns-in-ToNumber c = λ b d x h. leaves_named (named ToNumber c.in-ToNumber.is) (to_number_leaves c.to_number.new.stack c.to_number.ensures) h

pub returns-in-MakeRecord : goal.returns-in-MakeRecord
unfolding unary_meaning
returns-in-MakeRecord c = λ b d x h. leaves_named (named (MakeRecord c.in-MakeRecord.field-0) c.in-MakeRecord.is) (make_record_leaves c.in-MakeRecord.field-0) h

pub returns-in-Select : goal.returns-in-Select
unfolding unary_meaning
returns-in-Select c = λ b d x h. leaves_named (named (Select c.in-Select.field-0) c.in-Select.is) (select_leaves c.select.new.stack c.in-Select.field-0 c.select.ensures) h

pub returns-in-Remove : goal.returns-in-Remove
unfolding unary_meaning
returns-in-Remove c = λ b d x h. leaves_named (named (Remove c.in-Remove.field-0) c.in-Remove.is) (remove_leaves c.remove.new.stack c.in-Remove.field-0 c.remove.ensures) h

pub returns-in_ok-top-in-Top : goal.returns-in_ok-top-in-Top
unfolding unary_meaning
returns-in_ok-top-in-Top c = λ b d x h. leaves_named (named Top c.in-Top.is) (top_leaves c.top.new.stack _ c.in_ok-top-in-Top.ensures) h

pub returns-in_err-top-in-Top : goal.returns-in_err-top-in-Top
unfolding unary_meaning
returns-in_err-top-in-Top c = λ b d x h.
    rw (passed_on _ _ c.from_residual.ensures.1) (leaves_named (named Top c.in-Top.is) (top_leaves c.top.new.stack _ c.in_err-top-in-Top.ensures) h)

pub returns-in_ok-pop-in-Pop : goal.returns-in_ok-pop-in-Pop
unfolding unary_meaning
returns-in_ok-pop-in-Pop c = λ b d x h. leaves_named (named Pop c.in-Pop.is) (pop_leaves c.pop.new.stack _ c.in_ok-pop-in-Pop.ensures) h

pub returns-in_err-pop-in-Pop : goal.returns-in_err-pop-in-Pop
unfolding unary_meaning
returns-in_err-pop-in-Pop c = λ b d x h.
    rw (passed_on _ _ c.from_residual-in_err-pop-in-Pop.ensures.1) (leaves_named (named Pop c.in-Pop.is) (pop_leaves c.pop.new.stack _ c.in_err-pop-in-Pop.ensures) h)
