-- `change_yoke` of the checked run meets its contract: the run's own function does. Assumes nothing.
use native.Mathlib.Omega.{arith}
use Rattle.frames.proofs.Lengths.{changed_long}
use Rattle.frames.proofs.Ways.{checked_running, checked_stores}
use Rattle.frames.proofs.checked_way.CheckedWay.change_yoke.Goals as goal

pub change_yoke-requires-clause-has_running : goal.change_yoke-requires-clause-has_running
change_yoke-requires-clause-has_running c = (record { store = c.requires.standing.store; running = checked_running c.requires.standing.holds; there = omega (arith, c.requires.standing.of_scope.declared, c.requires.standing.holds.count) })

pub returns-clause-stores : goal.returns-clause-stores
returns-clause-stores c = checked_stores _ _ (λ vs. changed_long vs _ _) (λ a vs q r k. c.change_yoke.ensures vs r (omega (arith, q.declared, k)))
