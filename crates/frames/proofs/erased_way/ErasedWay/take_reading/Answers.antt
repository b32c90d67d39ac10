-- `take_reading` of the erased run meets its contract: the run's own function does. Assumes nothing.
use Rattle.frames.proofs.Lengths.{taken_long}
use Rattle.frames.proofs.Ways.{erased_standing, erased_reads, stores_number}
use mir.ValLaws.{to_z-of_z}
use Rattle.frames.proofs.erased_way.ErasedWay.take_reading.Goals as goal

pub take_reading-requires-clause-has_running : goal.take_reading-requires-clause-has_running
take_reading-requires-clause-has_running c = (erased_standing c.requires.standing)

pub returns-clause-stores : goal.returns-clause-stores
returns-clause-stores c = stores_number _ (to_z-of_z _ _ c.ranges.z) (erased_reads _ (λ vs. taken_long vs _) c.take_reading.ensures.bodies_same c.take_reading.ensures.settles)
