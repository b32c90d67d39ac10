-- `block_check` meets its contract. The loop's invariant: the sum is the check over the words passed. Assumes nothing.
use Rattle.std.proofs.Common.{◌≡◌}
use Rattle.lingua.specs.Format.{check_over}
use Rattle.blocks.proofs.words.block_check.Given as goal

abbrev pub invariant-loop-i : goal.invariant-loop-i
invariant-loop-i l = l.sum ≡ check_over l.i l.block
