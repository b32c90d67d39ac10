-- `copy` of the checked run meets its contract: the run's own function does. Assumes nothing.
use Rattle.frames.proofs.Ways.{checked_gives, checked_takes, checked_copies}
use Rattle.frames.proofs.checked_way.CheckedWay.copy.Goals as goal

pub copy-requires-clause-has_stored : goal.copy-requires-clause-has_stored
copy-requires-clause-has_stored c = (checked_gives c.requires)

pub copy-requires-clause-has_running : goal.copy-requires-clause-has_running
copy-requires-clause-has_running c = (checked_takes c.requires)

pub returns-clause-copies : goal.returns-clause-copies
returns-clause-copies c = checked_copies c.copy.ensures.assigns
