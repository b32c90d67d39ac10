use Rattle.std.proofs.Common.{take}
use Rattle.scopes.specs.Marks.{Marked}
use Rattle.scopes.proofs.pass.mark_all.Given as goal

abbrev pub invariant-loop-x : goal.invariant-loop-x
invariant-loop-x l = Marked (take l.x-index l.numbers) l.s l.initial.scopes l.scopes
