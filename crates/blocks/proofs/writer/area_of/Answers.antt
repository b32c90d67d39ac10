-- `area_of` meets its contract: each way out is a part of the rows. Assumes nothing.
use Rattle.blocks.proofs.Writes.{area_none, area_last, area_full}
use Rattle.blocks.proofs.writer.area_of.Goals as goal

pub returns-then-length-start : goal.returns-then-length-start
returns-then-length-start c = area_none c.args.rows.now c.args.k c.if-length-start.true

pub returns-then-length-start-2 : goal.returns-then-length-start-2
returns-then-length-start-2 c = area_last c.args.rows.now c.args.k c.if-length-start-2.true

pub returns : goal.returns
returns c = area_full c.args.rows.now c.args.k
