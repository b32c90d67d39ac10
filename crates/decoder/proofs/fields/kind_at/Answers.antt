-- `kind_at` meets its contract: it reads where the format has the field.
use Rattle.std.proofs.Common.{rules}
use Rattle.lingua.specs.Rows.{kind_at}
use Rattle.decoder.proofs.fields.kind_at.Goals as goal

pub returns : goal.returns
unfolding kind_at
returns c = search rules
