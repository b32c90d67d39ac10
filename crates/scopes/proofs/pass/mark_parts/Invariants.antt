-- `mark_parts` meets its contract: from the loop's row on, the rows have handed their scopes on. Assumes nothing.
use Rattle.lingua.specs.Rows.{procedure_count}
use Rattle.scopes.specs.Marks.{Owned}
use Rattle.scopes.proofs.pass.mark_parts.Given as goal

abbrev pub invariant-loop-r : goal.invariant-loop-r
invariant-loop-r l = Owned l.rows (procedure_count l.rows) l.r l.scopes
