-- `b_at` meets its contract: it reads where the format has the field.
use Rattle.std.proofs.Common.{rules}
use Rattle.lingua.specs.Rows.{b_at}
use Rattle.decoder.proofs.fields.b_at.Goals as goal

pub returns : goal.returns
unfolding b_at
returns c = search rules
