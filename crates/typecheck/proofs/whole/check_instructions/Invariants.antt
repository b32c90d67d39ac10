-- `typecheck::whole::check_instructions` meets its contract: those before r passed, and their entries are in the layout table (`Done`). Assumes nothing.
use Rattle.lingua.specs.Numbers.{instruction_section}
use Rattle.lingua.specs.Rows.{table_count}
use Rattle.typecheck.specs.Verdicts.{instruction_check}
use Rattle.typecheck.proofs.Settling.{Done}
use Rattle.typecheck.proofs.whole.check_instructions.Given as goal

abbrev pub invariant-loop-r : goal.invariant-loop-r
invariant-loop-r l = Done (instruction_check l.rows) (table_count l.rows instruction_section) l.r l.initial.layout l.layout
