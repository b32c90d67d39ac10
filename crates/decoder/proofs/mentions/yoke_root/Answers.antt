-- `yoke_root` meets its contract: 0 has no row. Assumes nothing.
use Rattle.lingua.specs.Rows.{yoke_root}
use Rattle.decoder.proofs.Short.{root_more}
use Rattle.decoder.specs.Mentions.{listed}
use Rattle.decoder.proofs.mentions.yoke_root.Goals as goal

pub returns-then-yoke-eq0 : goal.returns-then-yoke-eq0
unfolding listed yoke_root
returns-then-yoke-eq0 c = rw c.if-yoke-eq0.true

pub returns : goal.returns
unfolding listed
returns c = root_more c.args.yoke c.if-yoke-eq0.false
