-- `tree_reads` meets its contract: a row reads by its own kind, or by an operand's tree. Assumes nothing.
use Rattle.std.proofs.Common.{ap, ◌∙◌, sym, not}
use Rattle.rules.proofs.Reading.{tree_itself, tree_below}
use Rattle.rules.proofs.places.tree_reads.Goals as goal

pub returns-then-row_reads : goal.returns-then-row_reads
returns-then-row_reads c = c.if-row_reads.true ∙ tree_itself c.args.rows.now c.args.variable c.args.r c.args.marks.now (sym (c.row_reads.ensures _ _ ∙ c.expression_row-row.ensures.reads c.args.variable) ∙ c.if-row_reads.true)

pub returns-else-row_reads : goal.returns-else-row_reads
returns-else-row_reads c = ap not c.none_marked.ensures ∙ tree_below c.args.rows.now c.args.variable c.args.r c.args.marks.now (sym (c.row_reads.ensures _ _ ∙ c.expression_row-row.ensures.reads c.args.variable) ∙ c.if-row_reads.false) _ (c.operands.ensures _ _ ∙ c.expression_row-row.ensures.operands) c.requires.marked
