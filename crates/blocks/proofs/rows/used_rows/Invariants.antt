-- `used_rows` meets its contract. The loop's invariant: the rows from r on are zero, so that as many are used as of the first r. Assumes nothing.
use Rattle.std.proofs.Common.{◌≡◌}
use Rattle.lingua.specs.Rows.{row_count}
use Rattle.lingua.specs.Format.{used_rows}
use Rattle.blocks.proofs.rows.used_rows.Given as goal

abbrev pub invariant-loop-r : goal.invariant-loop-r
invariant-loop-r l = used_rows l.r l.areas ≡ used_rows (row_count l.areas) l.areas
