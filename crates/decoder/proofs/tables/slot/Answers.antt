-- `slot` meets its contract: below the procedures a table is its section. Assumes nothing.
use native.Mathlib.Omega.{arith}
use Rattle.lingua.specs.Rows.{begins_procedure}
use Rattle.decoder.proofs.Counting.{bit_small, slot_low, slot_above, slot_here}
use Rattle.decoder.proofs.tables.slot.Goals as goal

pub returns-then-section-lt-PROCEDURE_SECTION : goal.returns-then-section-lt-PROCEDURE_SECTION
returns-then-section-lt-PROCEDURE_SECTION c = slot_low c.args.rows.now c.args.i c.section_at-section.result c.section_at-section.ensures (omega arith)

pub returns-then-begun-gt-MOST_PROCEDURES : goal.returns-then-begun-gt-MOST_PROCEDURES
returns-then-begun-gt-MOST_PROCEDURES c = slot_above c.args.rows.now c.args.i c.section_at-section.result c.args.begun c.section_at-section.ensures (omega arith) c.requires.begun_value (omega arith)

pub overflow_add-result-2 : goal.overflow_add-result-2
overflow_add-result-2 c = omega (arith, c.requires.more_value, bit_small (begins_procedure c.args.rows.now c.args.i))

pub returns : goal.returns
returns c = slot_here c.args.rows.now c.args.i c.section_at-section.result c.args.begun c.args.more c.section_at-section.ensures (omega arith) c.requires.begun_value (omega arith) c.requires.more_value
