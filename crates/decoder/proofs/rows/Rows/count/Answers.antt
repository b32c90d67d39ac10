-- `count` meets its contract: the rows are whole ones. Assumes nothing.
use mathlib.Core.Path.{ap}
use Rattle.lingua.specs.Rows.{row_count}
use Rattle.decoder.proofs.rows.Rows.count.Goals as goal

pub returns : goal.returns
unfolding row_count
returns c = ap row_count c.self.view_is
