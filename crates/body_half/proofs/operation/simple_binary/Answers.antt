-- `body_half::operation::simple_binary` meets its contract: two first bytes give the tag. Assumes nothing.
use mathlib.Core.Logic.{⊎_elim}
use Rattle.lingua.specs.Operation.{add, subtract, multiply, divide, less}
use Rattle.lingua.specs.Operations.{binary_meaning}
use Rattle.body_half.proofs.Simple.{add_gives, subtract_gives, multiply_gives, divide_gives, less_gives, numbers_simple, equal_simple, glue_simple}
use Rattle.body_half.proofs.operation.simple_binary.Goals as goal

pub returns-in-Add : goal.returns-in-Add
unfolding binary_meaning
returns-in-Add c = λ b d h k.
    let simple = numbers_simple c.args.x c.args.y b d h k c.when_both.result in
    ⊎_elim (λ e. rw e (simple add 2 add_gives c.when_both.ensures)) (⊎_elim (λ e. rw e (simple subtract 2 subtract_gives c.when_both.ensures)) (⊎_elim (λ e. rw e (simple multiply 2 multiply_gives c.when_both.ensures)) (λ e. rw e (simple divide 2 divide_gives c.when_both.ensures)))) c.in-Add.is

pub returns-in-Less : goal.returns-in-Less
unfolding binary_meaning
returns-in-Less c = λ b d h k. rw c.in-Less.is
    (numbers_simple c.args.x c.args.y b d h k c.when_both-in-Less.result less 1 less_gives c.when_both-in-Less.ensures)

pub returns-in-Equal : goal.returns-in-Equal
unfolding binary_meaning
returns-in-Equal c = λ b d h k. rw c.in-Equal.is (equal_simple c.args.x c.args.y b d h k c.when_like.result c.when_like.ensures)

pub returns-in-Glue : goal.returns-in-Glue
unfolding binary_meaning
returns-in-Glue c = λ b d h k. rw c.in-Glue.is (glue_simple c.args.x c.args.y b d h k c.when_both-in-Glue.result c.when_both-in-Glue.ensures)
