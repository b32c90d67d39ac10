-- `c_at` meets its contract: it reads where the format has the field.
use Rattle.std.proofs.Common.{rules}
use Rattle.lingua.specs.Rows.{c_at}
use Rattle.decoder.proofs.fields.c_at.Goals as goal

pub returns : goal.returns
unfolding c_at
returns c = search rules
