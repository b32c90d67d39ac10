-- `marker_of` meets its contract, by the kind. Assumes nothing.
use Rattle.lingua.specs.Answers.{file_meaning}
use Rattle.blocks.proofs.rules.marker_of.Goals as goal

pub returns-in-Profile : goal.returns-in-Profile
unfolding file_meaning
returns-in-Profile c = rw c.in-Profile.is

pub returns-in-Limits : goal.returns-in-Limits
unfolding file_meaning
returns-in-Limits c = rw c.in-Limits.is
