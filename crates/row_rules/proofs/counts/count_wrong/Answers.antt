-- `count_wrong` meets its contract, by the kind of file. Assumes nothing.
use Rattle.std.proofs.Common.{sym, ap, ◌∙◌, not}
use Rattle.lingua.specs.Answers.{file_meaning}
use Rattle.row_rules.proofs.Forms.{counts_profile, counts_limits}
use Rattle.row_rules.proofs.counts.count_wrong.Goals as goal

pub returns-in-Profile : goal.returns-in-Profile
unfolding file_meaning
returns-in-Profile c = λ rows h. rw c.in-Profile.is (c.profile_count_wrong.ensures ∙ sym (counts_profile rows c.args.tables h))

pub returns-in-Limits : goal.returns-in-Limits
unfolding file_meaning
returns-in-Limits c = λ rows h. rw c.in-Limits.is (ap not c.in_between.ensures ∙ sym (counts_limits rows c.args.tables h))
