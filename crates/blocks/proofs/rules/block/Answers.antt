-- `block` meets its contract: the block lies in the file. Assumes nothing.
use Rattle.std.proofs.Common.{length, ap, ◌∙◌}
use Rattle.lingua.specs.Format.{block_count}
use Rattle.laws.specs.Blocks.{part_block, length_block}
use Rattle.blocks.proofs.rules.block.Goals as goal

pub returns : goal.returns
unfolding block_count
returns c = (part_block c.args.file.now c.args.k, ap length (part_block c.args.file.now c.args.k) ∙ length_block c.args.file.now c.args.k c.requires)
