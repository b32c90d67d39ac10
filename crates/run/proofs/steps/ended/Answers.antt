-- `steps::ended` answers as the definition ends. Assumes nothing.
use Rattle.run.proofs.Ending.{ended_out, ended_failed, ended_finished}
use Rattle.run.proofs.steps.ended.Goals as goal

pub returns-then-m : goal.returns-then-m
returns-then-m c = ended_out _ _ c.if-m.true

pub returns-in-Some : goal.returns-in-Some
returns-in-Some c = ended_failed _ _ _ c.if-m.false c.in-Some.is

pub returns-in-None : goal.returns-in-None
returns-in-None c = ended_finished _ _ c.if-m.false c.in-None.is
