-- `change_yoke` of the erased run meets its contract: the run's own function does. Assumes nothing.
use mathlib.Core.Path.{refl}
use Rattle.frames.proofs.Lengths.{changed_long}
use Rattle.frames.proofs.Ways.{erased_standing, erased_stores}
use Rattle.frames.proofs.erased_way.ErasedWay.change_yoke.Goals as goal

pub change_yoke-requires-clause-has_running : goal.change_yoke-requires-clause-has_running
change_yoke-requires-clause-has_running c = (erased_standing c.requires.standing)

pub returns-clause-stores : goal.returns-clause-stores
returns-clause-stores c = erased_stores _ _ (λ vs. changed_long vs _ _) refl c.change_yoke.ensures
