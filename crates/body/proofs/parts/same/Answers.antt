-- `body::parts::same` meets its contract: the first bytes decide, unless both are that of a list, of a record or of hundredths. Assumes nothing.
use mathlib.Core.Path.{ap}
use mathlib.Core.List.{List}
use Prim.Native.Nat.{ℕ}
use lib.ListN.{get_or}
use Rattle.body.proofs.Equal.{other_held}
use Rattle.body.proofs.Tags.{same_first}
use Rattle.body.proofs.parts.same.Goals as goal

pub returns-then-x-y : goal.returns-then-x-y
returns-then-x-y c = other_held c.args.x c.args.y (λ e. c.if-x-y.true (ap (λ (l : List ℕ). get_or l 0 0) e))

pub returns-then-x-le-WORD : goal.returns-then-x-le-WORD
returns-then-x-le-WORD c = λ b d h k. same_first c.args.x c.args.y b d h k c.if-x-le-WORD.true c.if-x-y.false

pub returns : goal.returns
returns c = c.all_same.ensures
