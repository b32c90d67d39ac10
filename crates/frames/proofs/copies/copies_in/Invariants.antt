-- `frames::copies::copies_in` meets its contract. The loop's invariant: the definition from the start equals the definition from here. Assumes
-- nothing.
use Rattle.run.specs.Lending.{lent_in, seen_in, SameSlices}
use Rattle.frames.specs.Lending.{context_of}
use Rattle.frames.proofs.Copying.{GoingIn}
use Rattle.frames.proofs.copies.copies_in.Given as goal

abbrev pub invariant-loop-i : goal.invariant-loop-i
invariant-loop-i g l =
    GoingIn g.W.Way.way (seen_in l.from) (context_of l.context) (lent_in l.initial.own) (lent_in l.own) l.field l.count l.first l.i × SameSlices l.initial.own l.own
