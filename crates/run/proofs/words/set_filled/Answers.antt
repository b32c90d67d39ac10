-- `set_filled` meets its contract, by what `fill_at` says. Assumes nothing.
use mathlib.Core.Path.{refl}
use Rattle.lingua.specs.Store.{fill_at}
use Rattle.run.proofs.words.set_filled.Goals as goal

pub returns : goal.returns
unfolding fill_at
returns c = refl
