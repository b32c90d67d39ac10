-- `binary` meets its contract: in each arm, what the operation asks follows from the operands, and what it leaves is what the
-- operation's own function ensures. Assumes nothing.
use Rattle.lingua.specs.Operations.{binary_meaning}
use Rattle.lingua.specs.declared.operations.BinaryOperation.TheVariants.{Add, Subtract, Multiply, Divide, Less, Equal, Glue, Expand, Change, Push}
use Rattle.laws.specs.Faults.{passed_on}
use Rattle.cells.proofs.Binary.{glue_words, expand_place, expand_room, change_room, push_counted, less_leaves, equal_leaves, glue_leaves, expand_leaves, change_leaves, push_leaves, named, have_named, leave_named}
use Rattle.cells.proofs.Numbers.{add_ranges, subtract_ranges, multiply_ranges, divide_ranges, add_leaves, subtract_leaves, multiply_leaves, divide_leaves}
use Rattle.cells.proofs.apply.binary.Goals as goal

pub add-requires : goal.add-requires
unfolding binary_meaning
add-requires c = let r = add_ranges (have_named (named Add c.in-Add.is) c.requires.has_operands).operands in record { x_value = r.0; y_value = r.1 }

pub returns-in_ok-put-in-Add : goal.returns-in_ok-put-in-Add
unfolding binary_meaning
returns-in_ok-put-in-Add c = λ b e d x y h. leave_named (named Add c.in-Add.is) (add_leaves _ c.put.new.stack c.add.result c.in_ok-put-in-Add.ensures c.add.ensures) h

pub returns-in_err-put-in-Add : goal.returns-in_err-put-in-Add
unfolding binary_meaning
returns-in_err-put-in-Add c = λ b e d x y h. rw (passed_on _ _ c.from_residual.ensures.1) (leave_named (named Add c.in-Add.is) (add_leaves _ c.put.new.stack c.add.result c.in_err-put-in-Add.ensures c.add.ensures) h)

pub subtract-requires : goal.subtract-requires
unfolding binary_meaning
subtract-requires c = let r = subtract_ranges (have_named (named Subtract c.in-Subtract.is) c.requires.has_operands).operands in record { x_value = r.0; y_value = r.1 }

pub returns-in_ok-put-in-Subtract : goal.returns-in_ok-put-in-Subtract
unfolding binary_meaning
returns-in_ok-put-in-Subtract c = λ b e d x y h. leave_named (named Subtract c.in-Subtract.is) (subtract_leaves _ c.put-in-Subtract.new.stack c.subtract.result c.in_ok-put-in-Subtract.ensures c.subtract.ensures) h

pub returns-in_err-put-in-Subtract : goal.returns-in_err-put-in-Subtract
unfolding binary_meaning
returns-in_err-put-in-Subtract c = λ b e d x y h. rw (passed_on _ _ c.from_residual-in_err-put-in-Subtract.ensures.1) (leave_named (named Subtract c.in-Subtract.is) (subtract_leaves _ c.put-in-Subtract.new.stack c.subtract.result c.in_err-put-in-Subtract.ensures c.subtract.ensures) h)

pub multiply-requires : goal.multiply-requires
unfolding binary_meaning
multiply-requires c = let r = multiply_ranges (have_named (named Multiply c.in-Multiply.is) c.requires.has_operands).operands in record { x_value = r.0; y_value = r.1 }

pub returns-in_ok-put-in-Multiply : goal.returns-in_ok-put-in-Multiply
unfolding binary_meaning
returns-in_ok-put-in-Multiply c = λ b e d x y h. leave_named (named Multiply c.in-Multiply.is) (multiply_leaves _ c.put-in-Multiply.new.stack c.multiply.result c.in_ok-put-in-Multiply.ensures c.multiply.ensures) h

pub returns-in_err-put-in-Multiply : goal.returns-in_err-put-in-Multiply
unfolding binary_meaning
returns-in_err-put-in-Multiply c = λ b e d x y h. rw (passed_on _ _ c.from_residual-in_err-put-in-Multiply.ensures.1) (leave_named (named Multiply c.in-Multiply.is) (multiply_leaves _ c.put-in-Multiply.new.stack c.multiply.result c.in_err-put-in-Multiply.ensures c.multiply.ensures) h)

pub divide-requires : goal.divide-requires
unfolding binary_meaning
divide-requires c = let r = divide_ranges (have_named (named Divide c.in-Divide.is) c.requires.has_operands).operands in record { x_value = r.0; y_value = r.1 }

pub returns-in_ok-put-in-Divide : goal.returns-in_ok-put-in-Divide
unfolding binary_meaning
returns-in_ok-put-in-Divide c = λ b e d x y h. leave_named (named Divide c.in-Divide.is) (divide_leaves _ c.put-in-Divide.new.stack c.divide.result c.in_ok-put-in-Divide.ensures c.divide.ensures) h

pub returns-in_err-put-in-Divide : goal.returns-in_err-put-in-Divide
unfolding binary_meaning
returns-in_err-put-in-Divide c = λ b e d x y h. rw (passed_on _ _ c.from_residual-in_err-put-in-Divide.ensures.1) (leave_named (named Divide c.in-Divide.is) (divide_leaves _ c.put-in-Divide.new.stack c.divide.result c.in_err-put-in-Divide.ensures c.divide.ensures) h)

pub glue-requires-clause-word_at : goal.glue-requires-clause-word_at
unfolding binary_meaning
glue-requires-clause-word_at c = (glue_words (have_named (named Glue c.in-Glue.is) c.requires.has_operands).operands).0

pub glue-requires-clause-word_at_2 : goal.glue-requires-clause-word_at_2
unfolding binary_meaning
glue-requires-clause-word_at_2 c = (glue_words (have_named (named Glue c.in-Glue.is) c.requires.has_operands).operands).1

pub push-requires-clause-counted : goal.push-requires-clause-counted
unfolding binary_meaning
push-requires-clause-counted c = push_counted (have_named (named Push c.in-Push.is) c.requires.has_operands).operands

pub returns-in_ok-glue-in-Glue : goal.returns-in_ok-glue-in-Glue
unfolding binary_meaning
returns-in_ok-glue-in-Glue c = λ b e d x y h. leave_named (named Glue c.in-Glue.is) (glue_leaves c.glue.new.stack _ c.in_ok-glue-in-Glue.ensures) h

pub returns-in_err-glue-in-Glue : goal.returns-in_err-glue-in-Glue
unfolding binary_meaning
returns-in_err-glue-in-Glue c = λ b e d x y h. rw (passed_on _ _ c.from_residual-in_err-glue-in-Glue.ensures.1) (leave_named (named Glue c.in-Glue.is) (glue_leaves c.glue.new.stack _ c.in_err-glue-in-Glue.ensures) h)

pub returns-in_ok-push-in-Push : goal.returns-in_ok-push-in-Push
unfolding binary_meaning
returns-in_ok-push-in-Push c = λ b e d x y h. leave_named (named Push c.in-Push.is) (push_leaves c.push.new.stack _ c.in_ok-push-in-Push.ensures) h

pub returns-in_err-push-in-Push : goal.returns-in_err-push-in-Push
unfolding binary_meaning
returns-in_err-push-in-Push c = λ b e d x y h. rw (passed_on _ _ c.from_residual-in_err-push-in-Push.ensures.1) (leave_named (named Push c.in-Push.is) (push_leaves c.push.new.stack _ c.in_err-push-in-Push.ensures) h)

pub expand-requires-clause-offset_le_total : goal.expand-requires-clause-offset_le_total
unfolding binary_meaning
expand-requires-clause-offset_le_total c = expand_place _ (have_named (named (Expand c.in-Expand.field-0) c.in-Expand.is) c.requires.has_operands).operands

pub expand-requires-clause-width_bound : goal.expand-requires-clause-width_bound
unfolding binary_meaning
expand-requires-clause-width_bound c = expand_room _ (have_named (named (Expand c.in-Expand.field-0) c.in-Expand.is) c.requires.has_operands).operands

pub change-requires-clause-width_bound : goal.change-requires-clause-width_bound
unfolding binary_meaning
change-requires-clause-width_bound c = change_room _ (have_named (named (Change c.in-Change.field-0) c.in-Change.is) c.requires.has_operands).operands

pub returns-in-Less : goal.returns-in-Less
unfolding binary_meaning
returns-in-Less c = λ b e d x y h. leave_named (named Less c.in-Less.is) (less_leaves c.less.new.stack c.less.ensures) h

pub returns-in-Equal : goal.returns-in-Equal
unfolding binary_meaning
returns-in-Equal c = λ b e d x y h. leave_named (named Equal c.in-Equal.is) (equal_leaves c.equal.new.stack c.equal.ensures) h

pub returns-in-Expand : goal.returns-in-Expand
unfolding binary_meaning
returns-in-Expand c = λ b e d x y h. leave_named (named (Expand c.in-Expand.field-0) c.in-Expand.is) (expand_leaves c.expand.new.stack _ c.expand.ensures) h

pub returns-in-Change : goal.returns-in-Change
unfolding binary_meaning
returns-in-Change c = λ b e d x y h. leave_named (named (Change c.in-Change.field-0) c.in-Change.is) (change_leaves c.change.new.stack _ c.change.ensures) h
