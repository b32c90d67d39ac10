-- `write_file` meets its contract. The loop's invariant: the blocks passed are written, and what lies behind them is as it was. Assumes nothing.
use Rattle.std.proofs.Common.{◌≡◌, ◌*◌, ◌++◌, length, drop}
use Rattle.lingua.specs.Numbers.{block_bytes}
use Rattle.lingua.specs.Format.{blocks_from}
use Rattle.lingua.specs.Answers.{file_meaning}
use Rattle.blocks.proofs.writer.write_file.Given as goal

abbrev pub invariant-loop-k : goal.invariant-loop-k
invariant-loop-k l = (length l.out ≡ length l.initial.out) × (l.out ≡ blocks_from (file_meaning l.kind) l.model l.count 0 l.k l.rows ++ drop (block_bytes * l.k) l.initial.out)
