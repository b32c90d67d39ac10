-- `empty_block` meets its contract, by the kind. Assumes nothing.
use Rattle.lingua.specs.Format.{empty_block, row_area}
use Rattle.lingua.specs.Answers.{file_meaning}
use Rattle.blocks.proofs.rules.empty_block.Goals as goal

pub returns-in-Profile : goal.returns-in-Profile
unfolding file_meaning empty_block row_area
returns-in-Profile c = rw c.in-Profile.is c.all_zero.ensures

pub returns-in-Limits : goal.returns-in-Limits
unfolding file_meaning empty_block
returns-in-Limits c = rw c.in-Limits.is
