-- `find` meets its contract. The invariant: what is left to look at gives what all give. Assumes nothing.
use Rattle.laws.specs.Lookup.{LeftOf}
use Rattle.profile.proofs.find.find.Given as goal

abbrev pub invariant-loop-d : goal.invariant-loop-d
invariant-loop-d l = LeftOf l.rows l.name l.d l.count
