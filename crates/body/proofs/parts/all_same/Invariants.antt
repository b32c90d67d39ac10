-- `body::parts::all_same` meets its contract: equal arrays hold equal bodies, and others hold others. Assumes nothing.
use Rattle.body.proofs.Equal.{Compared}
use Rattle.body.proofs.parts.all_same.Given as goal

abbrev pub invariant-loop-i : goal.invariant-loop-i
invariant-loop-i l = Compared l.x l.y l.alike l.i
