-- `tables_of` meets its contract: a section begins where the one before ends. Assumes nothing.
use mathlib.Core.Path.{refl}
use native.Mathlib.Omega.{arith}
use Rattle.decoder.proofs.Counting.{sections, are_tables}
use Rattle.decoder.proofs.tables.tables_of.Goals as goal

pub overflow_add-types : goal.overflow_add-types
overflow_add-types c = omega (arith, sections c.args.rows.now c.table_counts-counted.result.rows c.table_counts-counted.result.begun c.table_counts-counted.ensures)

pub overflow_add-expressions : goal.overflow_add-expressions
overflow_add-expressions c = omega (arith, sections c.args.rows.now c.table_counts-counted.result.rows c.table_counts-counted.result.begun c.table_counts-counted.ensures)

pub overflow_add-instructions : goal.overflow_add-instructions
overflow_add-instructions c = omega (arith, sections c.args.rows.now c.table_counts-counted.result.rows c.table_counts-counted.result.begun c.table_counts-counted.ensures)

pub overflow_add-limits : goal.overflow_add-limits
overflow_add-limits c = omega (arith, sections c.args.rows.now c.table_counts-counted.result.rows c.table_counts-counted.result.begun c.table_counts-counted.ensures)

pub overflow_add-first : goal.overflow_add-first
overflow_add-first c = omega (arith, sections c.args.rows.now c.table_counts-counted.result.rows c.table_counts-counted.result.begun c.table_counts-counted.ensures)

pub overflow_add-first-2 : goal.overflow_add-first-2
overflow_add-first-2 c = omega (arith, sections c.args.rows.now c.table_counts-counted.result.rows c.table_counts-counted.result.begun c.table_counts-counted.ensures)

pub heads_of-heads-requires-clause-by_index : goal.heads_of-heads-requires-clause-by_index
heads_of-heads-requires-clause-by_index c = c.table_counts-counted.ensures.tables

pub heads_of-heads-requires-clause-first_value : goal.heads_of-heads-requires-clause-first_value
heads_of-heads-requires-clause-first_value c = (omega (arith, sections c.args.rows.now c.table_counts-counted.result.rows c.table_counts-counted.result.begun c.table_counts-counted.ensures))

pub returns : goal.returns
returns c = are_tables c.args.rows.now c.table_counts-counted.result.rows c.heads_of-heads.result c.table_counts-counted.result.begun c.table_counts-counted.ensures _ _ _ _ _ refl refl refl refl refl c.heads_of-heads.ensures
