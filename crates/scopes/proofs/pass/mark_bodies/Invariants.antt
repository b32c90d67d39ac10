-- `mark_bodies` meets its contract: the bodies of the procedures that were passed are marked. Assumes nothing.
use Rattle.lingua.specs.Numbers.{instruction_section}
use Rattle.lingua.specs.Rows.{table_count}
use Rattle.scopes.specs.Marks.{Owned}
use Rattle.scopes.proofs.pass.mark_bodies.Given as goal

abbrev pub invariant-loop-k : goal.invariant-loop-k
invariant-loop-k l = Owned l.rows l.k (table_count l.rows instruction_section) l.scopes
