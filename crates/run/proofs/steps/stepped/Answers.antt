-- `steps::stepped` takes a step, or is out. Assumes nothing.
use mathlib.Core.Path.{refl}
use mathlib.Core.Bool.{true≢false}
use native.Mathlib.Omega.{arith}
use Rattle.run.proofs.Ending.{steps_none, steps_one, one_more}
use Rattle.run.proofs.steps.stepped.Goals as goal

pub returns-then-m-eq0 : goal.returns-then-m-eq0
returns-then-m-eq0 c = record { is = steps_none c.args.m (omega arith); error = refl; fewer = λ e. absurd (true≢false e) }

pub returns : goal.returns
returns c = record { is = steps_one c.args.m (omega arith); error = refl; fewer = λ e. one_more _ (omega arith) }
