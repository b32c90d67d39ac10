-- `take_reading` of the checked run meets its contract: the run's own function does. Assumes nothing.
use Rattle.frames.proofs.Lengths.{taken_long}
use Rattle.frames.proofs.Ways.{read, checked_running, checked_stores, stores_number}
use mir.ValLaws.{to_z-of_z}
use Rattle.frames.proofs.checked_way.CheckedWay.take_reading.Goals as goal

pub take_reading-requires-clause-has_running : goal.take_reading-requires-clause-has_running
take_reading-requires-clause-has_running c = (record { store = c.requires.standing.store; running = checked_running c.requires.standing.holds; there = read c.args.context.now.rows.now c.requires.standing.store c.requires.standing.holds.count c.requires.standing.of_scope c.requires.n_bound.0 })

pub returns-clause-stores : goal.returns-clause-stores
returns-clause-stores c = stores_number _ (to_z-of_z _ _ c.ranges.z) (checked_stores _ _ (λ vs. taken_long vs _) (λ a vs q r k. c.take_reading.ensures.assigns vs r (read c.args.context.now.rows.now vs k q c.requires.n_bound.0)))
