-- `assign` of the erased run meets its contract: the run's own function does. Assumes nothing.
use Rattle.frames.proofs.Lengths.{evaluated_long}
use Rattle.frames.proofs.Ways.{erased_standing, erased_stores}
use Rattle.frames.proofs.erased_way.ErasedWay.assign.Goals as goal

pub assign-requires-clause-has_running : goal.assign-requires-clause-has_running
assign-requires-clause-has_running c = (erased_standing c.requires.standing)

pub returns-clause-stores : goal.returns-clause-stores
returns-clause-stores c = erased_stores _ _ (evaluated_long _ _) c.assign.ensures.bodies_same c.assign.ensures.settles
