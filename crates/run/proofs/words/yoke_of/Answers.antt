-- `yoke_of` meets its contract, by what `yoke_at` says. Assumes nothing.
use mathlib.Core.Path.{refl}
use Rattle.lingua.specs.Store.{yoke_at}
use Rattle.run.proofs.words.yoke_of.Goals as goal

pub returns : goal.returns
unfolding yoke_at
returns c = refl
