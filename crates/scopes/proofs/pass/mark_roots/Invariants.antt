-- `mark_roots` meets its contract: the roots of the instruction rows that were passed are marked. Assumes nothing.
use Rattle.lingua.specs.Numbers.{expression_section}
use Rattle.lingua.specs.Rows.{table_count}
use Rattle.scopes.specs.Marks.{Used}
use Rattle.scopes.proofs.pass.mark_roots.Given as goal

abbrev pub invariant-loop-r : goal.invariant-loop-r
invariant-loop-r l = Used l.rows l.r (table_count l.rows expression_section) l.scopes
