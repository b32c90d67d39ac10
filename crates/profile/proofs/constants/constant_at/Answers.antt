-- `constant_at` meets its contract: the decoded row is the row. Assumes nothing.
use Rattle.std.proofs.Common.{◌+◌}
use Rattle.profile.proofs.ConstantCells.{simple_unknown, simple_known}
use Rattle.profile.proofs.constants.constant_at.Goals as goal

pub returns-in-None : goal.returns-in-None
returns-in-None c = simple_unknown c.args.rows.now c.expressions-t.result c.args.r c.expressions-t.ensures (rw c.bytes.ensures at c.in-None.ensures)

pub returns-in-Some : goal.returns-in-Some
returns-in-Some c = simple_known c.args.rows.now c.expressions-t.result c.args.r c.expressions-t.ensures c.simple_of.result (rw c.bytes.ensures at c.in-Some.ensures) (c.simple_of.ensures c.args.rows.now (c.expressions-t.result.start + c.args.r))
