-- `frames::copies::copies_out` meets its contract. The loop's invariant: the definition from the start equals the definition from here. Assumes
-- nothing.
use Rattle.run.specs.Lending.{lent_in, seen_in, SameSlices}
use Rattle.frames.specs.Lending.{context_of}
use Rattle.frames.proofs.Copying.{GoingOut}
use Rattle.frames.proofs.copies.copies_out.Given as goal

abbrev pub invariant-loop-i : goal.invariant-loop-i
invariant-loop-i g l =
    GoingOut g.W.Way.way (seen_in l.own) (context_of l.context) (lent_in l.initial.memory) (lent_in l.memory) l.row l.field l.count l.first l.m l.i × SameSlices l.initial.memory l.memory
