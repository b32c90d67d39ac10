-- `assign` of the checked run meets its contract: the run's own function does. Assumes nothing.
use native.Mathlib.Omega.{arith}
use Rattle.frames.proofs.Lengths.{evaluated_long}
use Rattle.frames.proofs.Ways.{checked_running, checked_stores}
use Rattle.frames.proofs.checked_way.CheckedWay.assign.Goals as goal

pub eval_plain-x-requires-clause-has_world : goal.eval_plain-x-requires-clause-has_world
eval_plain-x-requires-clause-has_world c = rw c.seen.ensures (record { store = c.requires.standing.store; world = (checked_running c.requires.standing.holds).world })

pub assign-requires-clause-assignable : goal.assign-requires-clause-assignable
assign-requires-clause-assignable c = let r = checked_running c.requires.standing.holds in (record { store = c.requires.standing.store; running = r; there = omega (arith, c.requires.standing.of_scope.declared, c.requires.standing.holds.count); given = record { outcome = _; gives = (rw c.seen.ensures at c.eval_plain-x.ensures) c.requires.standing.store r.world } })

pub returns-clause-stores : goal.returns-clause-stores
returns-clause-stores c = checked_stores _ _ (evaluated_long _ _) (λ a vs q r k. c.assign.ensures.assigns vs _ r (omega (arith, q.declared, k)) ((rw c.seen.ensures at c.eval_plain-x.ensures) vs r.world))
