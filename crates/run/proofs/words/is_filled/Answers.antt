-- `is_filled` meets its contract, by what `filled_at` says. Assumes nothing.
use mathlib.Core.Path.{refl}
use Rattle.lingua.specs.Store.{flag_at, filled_at}
use Rattle.run.proofs.words.is_filled.Goals as goal

pub returns : goal.returns
unfolding flag_at filled_at
returns c = refl
