-- `body::make::simple` meets its contract: what is stored computes. Assumes nothing.
use mathlib.Core.Path.{refl}
use Rattle.lingua.specs.Value.{pad}
use Rattle.body.proofs.make.simple.Goals as goal

pub returns : goal.returns
unfolding pad
returns c = refl
