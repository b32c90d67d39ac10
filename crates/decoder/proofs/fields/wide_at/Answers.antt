-- `wide_at` meets its contract: it reads where the format has the eight bytes. Assumes nothing.
use Rattle.std.proofs.Common.{rules}
use Rattle.lingua.specs.Rows.{wide_at}
use Rattle.decoder.proofs.fields.wide_at.Goals as goal

pub returns : goal.returns
unfolding wide_at
returns c = search rules
