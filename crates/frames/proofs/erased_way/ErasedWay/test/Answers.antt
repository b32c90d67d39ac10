-- `test` of the erased run meets its contract: the run's own function does. Assumes nothing.
use Rattle.frames.proofs.Ways.{under_standing, erased_tells}
use Rattle.frames.proofs.erased_way.ErasedWay.test.Goals as goal

pub test-requires-clause-has_store : goal.test-requires-clause-has_store
test-requires-clause-has_store c = (under_standing c.requires.stands_under)

pub returns : goal.returns
returns c = λ limits. erased_tells (λ p a vs. c.test.ensures p a limits vs)
