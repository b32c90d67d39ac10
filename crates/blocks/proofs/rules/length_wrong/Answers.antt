-- `length_wrong` meets its contract: each way out is one of the test's cases. Assumes nothing.
use Rattle.std.proofs.Common.{sym, rules}
use Rattle.lingua.specs.Format.{length_wrong}
use Rattle.lingua.specs.Answers.{file_meaning}
use Rattle.blocks.proofs.Returns.{length_uneven, length_none, length_some}
use Rattle.blocks.proofs.rules.length_wrong.Goals as goal

pub returns-in-Limits : goal.returns-in-Limits
unfolding file_meaning length_wrong
returns-in-Limits c = rw c.in-Limits.is

pub returns-then-file-count : goal.returns-then-file-count
unfolding file_meaning
returns-then-file-count c = rw c.in_default.is (sym (length_uneven c.args.file.now c.if-file-count.true))

pub returns-then-count-lt1 : goal.returns-then-count-lt1
unfolding file_meaning
returns-then-count-lt1 c = rw c.in_default.is (sym (length_none c.args.file.now (search rules) c.if-count-lt1.true))

pub returns : goal.returns
unfolding file_meaning
returns c = rw c.in_default.is (sym (length_some c.args.file.now (search rules) c.if-count-lt1.false))
