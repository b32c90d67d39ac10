-- `body::coherence::lacks_one` meets its contract. The invariant is that what is asked of the whole record may be asked of the
-- attributes ahead. Assumes nothing.
use Rattle.body.proofs.Lacking.{Lacking}
use Rattle.body.proofs.coherence.lacks_one.Given as goal

abbrev pub invariant-loop : goal.invariant-loop
invariant-loop l = Lacking l.narrow l.wide l.counter l.at
