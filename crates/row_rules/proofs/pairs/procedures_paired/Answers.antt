-- `procedures_paired` meets its contract: what stands between the limits and the first procedure is a row of neither. Assumes nothing.
use mathlib.Core.Path.{◌∙◌}
use borrow.Author.Tests.{ne_eqb}
use Rattle.row_rules.proofs.Pairing.{paired_late, paired_rows}
use Rattle.row_rules.proofs.pairs.procedures_paired.Goals as goal

pub returns-then-t : goal.returns-then-t
returns-then-t c = rw (← c.bytes-bytes.ensures) (c.pairs_fit.ensures ∙ paired_rows c.bytes-bytes.result.now c.tables-t.result (rw c.bytes-bytes.ensures c.tables-t.ensures) c.if-t.true)

pub returns-else-t : goal.returns-else-t
returns-else-t c = ne_eqb _ _ c.if-t.false ∙ paired_late c.args.rows.now c.tables-t.result c.tables-t.ensures c.if-t.false
