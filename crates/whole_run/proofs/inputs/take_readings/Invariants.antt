-- `whole_run::inputs::take_readings` meets its contract. The loop's invariant: the definition from the start equals the definition from here.
-- Assumes nothing.
use Rattle.run.specs.Lending.{lent_in, SameSlices}
use Rattle.frames.specs.Lending.{context_of}
use Rattle.whole_run.proofs.Taking.{Taking}
use Rattle.whole_run.proofs.inputs.take_readings.Given as goal

abbrev pub invariant-loop-i : goal.invariant-loop-i
invariant-loop-i g l =
    Taking g.W.Way.way (context_of l.context) (lent_in l.initial.memory) (lent_in l.memory) l.who l.numbers l.initial.moment l.moment l.i × SameSlices l.initial.memory l.memory
