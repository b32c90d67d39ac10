-- `tallied` meets its contract, by `told_snoc`. Assumes nothing.
use borrow.Author.Rules.{rules}
use Rattle.erased_row.proofs.Telling.{told_snoc}
use Rattle.erased_row.proofs.tally.tallied.Goals as goal

pub returns-in_err-so_far : goal.returns-in_err-so_far
returns-in_err-so_far c = λ rs o h g. rw (told_snoc rs o, ← h, c.in_err-so_far.was) (search rules)

pub returns-in_err-holds : goal.returns-in_err-holds
returns-in_err-holds c = λ rs o h g. rw (told_snoc rs o, ← h, c.in_ok-so_far.was, ← c.truth_of.ensures o g, c.in_err-holds.was) (search rules)

pub returns-then-so_far : goal.returns-then-so_far
returns-then-so_far c = λ rs o h g. rw (told_snoc rs o, ← h, c.in_ok-so_far.was, ← c.truth_of.ensures o g, c.in_ok-holds.was, c.if-so_far.true)

pub returns-else-so_far : goal.returns-else-so_far
returns-else-so_far c = λ rs o h g. rw (told_snoc rs o, ← h, c.in_ok-so_far.was, ← c.truth_of.ensures o g, c.in_ok-holds.was, c.if-so_far.false)
