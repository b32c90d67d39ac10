-- `set_yoke` meets its contract, by what `set_yoke_at` says. Assumes nothing.
use mathlib.Core.Path.{refl}
use Rattle.lingua.specs.Store.{set_yoke_at}
use Rattle.run.proofs.words.set_yoke.Goals as goal

pub returns : goal.returns
unfolding set_yoke_at
returns c = refl
