-- `body::find::place` meets its contract. The invariant is that the bytes passed and those still to pass are the bytes
-- below the new attribute. Assumes nothing.
use Rattle.body.proofs.Finding.{Placing}
use Rattle.body.proofs.find.place.Given as goal

abbrev pub invariant-loop : goal.invariant-loop
invariant-loop l = Placing l.body l.n l.counter l.at
