-- `both_taken` meets its contract, by which of the two is there. Assumes nothing.
use Rattle.std.proofs.Common.{refl}
use Rattle.lingua.specs.Faults.{refusal_number}
use Rattle.pair.proofs.Returns.{some_refusal}
use Rattle.pair.proofs.Pairs.{both_there, one_refused, lower_first, lower_none}
use Rattle.pair.proofs.both_taken.Goals as goal

pub returns-in-Ok-Ok : goal.returns-in-Ok-Ok
returns-in-Ok-Ok c = rw (c.in-Ok-Ok.is-0, c.in-Ok-Ok.is-1) (both_there _ _)

pub returns-in-Ok-Err : goal.returns-in-Ok-Err
returns-in-Ok-Err c = one_refused _ _ _ (rw (c.in-Ok-Err.is-0, c.in-Ok-Err.is-1) (lower_none 0 (refusal_number c.in-Ok-Err.b) refl))

pub returns-in-Err-Ok : goal.returns-in-Err-Ok
returns-in-Err-Ok c = one_refused _ _ _ (rw (c.in-Err-Ok.is-0, c.in-Err-Ok.is-1) (lower_first (refusal_number c.in-Err-Ok.a) 0 (some_refusal c.in-Err-Ok.a) refl))
