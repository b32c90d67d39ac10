-- `test` of the checked run meets its contract: the run's own function does. Assumes nothing.
use Rattle.frames.proofs.Ways.{checked_running, checked_tells}
use Rattle.frames.proofs.checked_way.CheckedWay.test.Goals as goal

pub eval_test-requires-clause-has_world : goal.eval_test-requires-clause-has_world
eval_test-requires-clause-has_world c = (record { store = c.requires.stands_under.standing.store; world = (checked_running c.requires.stands_under.standing.holds).world })

pub returns : goal.returns
returns c = λ limits. checked_tells (λ vs r. c.eval_test.ensures vs r.world)
