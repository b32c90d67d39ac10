-- `mark_operands` meets its contract: from the loop's row on, the rows have handed their scopes on. Assumes nothing.
use Rattle.lingua.specs.Numbers.{instruction_section}
use Rattle.lingua.specs.Rows.{table_count}
use Rattle.scopes.specs.Marks.{Used}
use Rattle.scopes.proofs.pass.mark_operands.Given as goal

abbrev pub invariant-loop-e : goal.invariant-loop-e
invariant-loop-e l = Used l.rows (table_count l.rows instruction_section) l.e l.scopes
