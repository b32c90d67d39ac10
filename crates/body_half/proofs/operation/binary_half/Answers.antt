use mathlib.Core.Logic.{⊎_elim}
use Rattle.lingua.specs.Operation.{add, subtract, multiply, divide, less, equal, glue, expand, change, push, binary_body}
use Rattle.lingua.specs.Operations.{binary_meaning}
use Rattle.body.specs.Typed.{binary_offset}
use Rattle.body_half.proofs.Offsets.{binary_is}
use Rattle.body_half.proofs.operation.binary_half.Goals as goal

pub returns-in-Add : goal.returns-in-Add
unfolding binary_meaning binary_offset binary_body
returns-in-Add c = λ b d h k.
    let reckons = c.reckoned.ensures b d h k in
    ⊎_elim (λ e. rw e (binary_is _ add b d reckons)) (⊎_elim (λ e. rw e (binary_is _ subtract b d reckons)) (⊎_elim (λ e. rw e (binary_is _ multiply b d reckons)) (λ e. rw e (binary_is _ divide b d reckons)))) c.in-Add.is

pub returns-in-Less : goal.returns-in-Less
unfolding binary_meaning binary_offset binary_body
returns-in-Less c = λ b d h k. rw c.in-Less.is (binary_is _ (less) b d (c.compared.ensures b d h k))

pub returns-in-Equal : goal.returns-in-Equal
unfolding binary_meaning binary_offset binary_body
returns-in-Equal c = λ b d h k. rw c.in-Equal.is (binary_is _ (equal) b d (c.equal.ensures b d h k))

pub returns-in-Glue : goal.returns-in-Glue
unfolding binary_meaning binary_offset binary_body
returns-in-Glue c = λ b d h k. rw c.in-Glue.is (binary_is _ (glue) b d (c.glue.ensures b d h k))

pub returns-in-Expand : goal.returns-in-Expand
unfolding binary_meaning binary_offset binary_body
returns-in-Expand c = λ b d h k. rw c.in-Expand.is (binary_is _ (expand _) b d (c.expand.ensures b d h k))

pub returns-in-Change : goal.returns-in-Change
unfolding binary_meaning binary_offset binary_body
returns-in-Change c = λ b d h k. rw c.in-Change.is (binary_is _ (change _) b d (c.change.ensures b d h k))

pub returns-in-Push : goal.returns-in-Push
unfolding binary_meaning binary_offset binary_body
returns-in-Push c = λ b d h k. rw c.in-Push.is (binary_is _ (push) b d (c.push.ensures b d h k))
