-- `keep_yokes` meets its contract: a turn is `yokes_more`. Assumes nothing.
use Rattle.run.specs.Kept.{YokesKept}
use Rattle.run.proofs.start.keep_yokes.Given as goal

abbrev pub invariant-loop-d : goal.invariant-loop-d
invariant-loop-d l = YokesKept l.rows l.t l.states l.d
