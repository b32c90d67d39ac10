-- `body::find::find` meets its contract. The invariant is that what is asked of the whole record may be asked of the
-- attributes ahead. Assumes nothing.
use Rattle.body.proofs.Finding.{Searching}
use Rattle.body.proofs.find.find.Given as goal

abbrev pub invariant-loop : goal.invariant-loop
invariant-loop l = Searching l.body l.n l.counter l.at l.offset
