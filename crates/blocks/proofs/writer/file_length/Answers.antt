-- `file_length` meets its contract, by the kind, and for a profile by whether more than one block is begun. Assumes nothing.
use Rattle.std.proofs.Common.{arith}
use Rattle.lingua.specs.Rows.{row_count}
use Rattle.lingua.specs.Format.{blocks_for, file_length}
use Rattle.lingua.specs.Answers.{file_meaning}
use Rattle.blocks.proofs.writer.file_length.Goals as goal

pub returns-in-Limits : goal.returns-in-Limits
unfolding file_meaning file_length blocks_for
returns-in-Limits c = rw c.in-Limits.is

pub returns-then-begun-le1 : goal.returns-then-begun-le1
unfolding file_meaning file_length blocks_for row_count
returns-then-begun-le1 c = rw c.in_default.is (omega arith)

pub returns : goal.returns
unfolding file_meaning file_length blocks_for row_count
returns c = rw c.in_default.is (omega arith)
