-- `starts_with` meets its contract. Assumes nothing.
use Rattle.std.proofs.Common.{length, take, ◌∙◌}
use Rattle.blocks.proofs.Returns.{begins_is}
use Rattle.blocks.proofs.rules.starts_with.Goals as goal

pub returns : goal.returns
returns c = c.starts_with.ensures.value ∙ begins_is (take (length c.args.text.now) c.args.bytes.now) c.args.text.now
