-- `typecheck::verdicts::judge` meets its contract: its ways out are the laws of Settling. Assumes nothing.
use Rattle.typecheck.proofs.Settling.{judged_fails, judged_own, judged_passes}
use Rattle.typecheck.proofs.verdicts.judge.Goals as goal

pub returns-in-Ok-true : goal.returns-in-Ok-true
returns-in-Ok-true c = λ o asks l m j.
    judged_passes o asks l m _ (rw (c.in-Ok-true.is, c.in-Ok-true.field-0-test) at j)

pub returns-in-Ok-false : goal.returns-in-Ok-false
returns-in-Ok-false c = λ o asks l m j.
    judged_own o asks l m _ (rw (c.in-Ok-false.is, c.in-Ok-false.field-0-test) at j)

pub returns-in-Err : goal.returns-in-Err
returns-in-Err c = λ o asks l m j.
    rw c.unwrap_or.ensures (judged_fails o asks l m c.in-Err.fault c.args.own (rw c.in-Err.is at j))
