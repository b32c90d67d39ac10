-- `is_kind` meets its contract, test by test. Assumes nothing.
use mathlib.Core.Path.{◌∙◌}
use borrow.Author.Tests.{ne_eqb}
use Rattle.decoder.proofs.Counting.{kind_elsewhere, kind_told}
use Rattle.decoder.proofs.tables.is_kind.Goals as goal

pub returns-then-section_at-eq-PROCEDURE_SECTION : goal.returns-then-section_at-eq-PROCEDURE_SECTION
returns-then-section_at-eq-PROCEDURE_SECTION c = kind_told c.args.rows.now c.args.i c.args.kind c.section_at.result c.section_at.ensures c.kind_at.result c.if-section_at-eq-PROCEDURE_SECTION.true c.kind_at.ensures

pub returns-else-section_at-eq-PROCEDURE_SECTION : goal.returns-else-section_at-eq-PROCEDURE_SECTION
returns-else-section_at-eq-PROCEDURE_SECTION c = ne_eqb c.section_at.result 6 c.if-section_at-eq-PROCEDURE_SECTION.false ∙ kind_elsewhere c.args.rows.now c.args.i c.args.kind c.section_at.result c.section_at.ensures c.if-section_at-eq-PROCEDURE_SECTION.false
