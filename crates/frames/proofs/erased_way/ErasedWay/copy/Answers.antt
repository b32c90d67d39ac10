-- `copy` of the erased run meets its contract: the run's own function does. Assumes nothing.
use Rattle.frames.proofs.Ways.{erased_facing, erased_copies}
use Rattle.frames.proofs.erased_way.ErasedWay.copy.Goals as goal

pub copy-requires-clause-has_copy : goal.copy-requires-clause-has_copy
copy-requires-clause-has_copy c = (erased_facing c.requires)

pub returns-clause-copies : goal.returns-clause-copies
returns-clause-copies c = erased_copies c.copy.ensures.bodies_same c.copy.ensures.settles
