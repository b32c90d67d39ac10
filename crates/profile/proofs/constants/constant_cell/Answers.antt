-- `constant_cell` meets its contract: the constant tells how the eight bytes are read. Assumes nothing.
use mathlib.Core.Path.{◌∙◌}
use mir.Syntax.{w64}
use mir.ValLaws.{to_z-of_z}
use Rattle.profile.proofs.ConstantCells.{cell_false, cell_true, cell_number, cell_word, cell_count, word_text, word_padded}
use Rattle.profile.proofs.constants.constant_cell.Goals as goal

pub returns-then-wide_at-eq0 : goal.returns-then-wide_at-eq0
returns-then-wide_at-eq0 c = cell_false c.args.rows.now c.expressions-t.result c.args.r c.expressions-t.ensures c.constant_at-s.result c.constant_at-s.ensures c.wide_at.result c.in-Boolean.is (rw c.bytes-bytes.ensures at c.wide_at.ensures) c.if-wide_at-eq0.true c.requires.constant_row

pub word_cell-requires-clause-bytes_len : goal.word_cell-requires-clause-bytes_len
word_cell-requires-clause-bytes_len c = c.bytes_at.ensures.1

pub word_cell-requires-clause-bytes_value : goal.word_cell-requires-clause-bytes_value
word_cell-requires-clause-bytes_value c = (word_padded c.args.rows.now c.expressions-t.result c.args.r c.expressions-t.ensures c.constant_at-s.result c.constant_at-s.ensures c.bytes_at.result.now c.in-Word.is (rw c.bytes-bytes.ensures at c.bytes_at.ensures.0) c.requires.constant_row)

pub word_cell-requires-clause-bytes_value_2 : goal.word_cell-requires-clause-bytes_value_2
word_cell-requires-clause-bytes_value_2 c = (word_text c.args.rows.now c.expressions-t.result c.args.r c.expressions-t.ensures c.constant_at-s.result c.constant_at-s.ensures c.bytes_at.result.now c.in-Word.is (rw c.bytes-bytes.ensures at c.bytes_at.ensures.0) c.requires.constant_row)

pub returns-else-wide_at-eq0 : goal.returns-else-wide_at-eq0
returns-else-wide_at-eq0 c = cell_true c.args.rows.now c.expressions-t.result c.args.r c.expressions-t.ensures c.constant_at-s.result c.constant_at-s.ensures c.wide_at.result c.in-Boolean.is (rw c.bytes-bytes.ensures at c.wide_at.ensures) c.if-wide_at-eq0.false c.requires.constant_row

pub returns-in-Number : goal.returns-in-Number
returns-in-Number c = cell_number c.args.rows.now c.expressions-t.result c.args.r c.expressions-t.ensures c.constant_at-s.result c.constant_at-s.ensures c.wide_at-in-Number.result _ c.in-Number.is (rw c.bytes-bytes.ensures at c.wide_at-in-Number.ensures) (to_z-of_z w64 c.signed64.result (record { sfits = c.signed64.type_inv }) ∙ c.signed64.ensures) c.requires.constant_row

pub returns-in-Word : goal.returns-in-Word
returns-in-Word c = cell_word c.args.rows.now c.expressions-t.result c.args.r c.expressions-t.ensures c.constant_at-s.result c.constant_at-s.ensures c.bytes_at.result.now _ c.in-Word.is (rw c.bytes-bytes.ensures at c.bytes_at.ensures.0) (to_z-of_z w64 c.word_cell.result (record { sfits = c.word_cell.type_inv }) ∙ c.word_cell.ensures) c.requires.constant_row

pub returns-in-Hundredths : goal.returns-in-Hundredths
returns-in-Hundredths c = cell_count c.args.rows.now c.expressions-t.result c.args.r c.expressions-t.ensures c.constant_at-s.result c.constant_at-s.ensures c.wide_at-in-Hundredths.result _ c.in-Hundredths.is (rw c.bytes-bytes.ensures at c.wide_at-in-Hundredths.ensures) (to_z-of_z w64 c.signed64-in-Hundredths.result (record { sfits = c.signed64-in-Hundredths.type_inv }) ∙ c.signed64-in-Hundredths.ensures) c.requires.constant_row
