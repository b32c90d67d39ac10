-- `a_at` meets its contract: it reads where the format has the field.
use Rattle.std.proofs.Common.{rules}
use Rattle.lingua.specs.Rows.{a_at}
use Rattle.decoder.proofs.fields.a_at.Goals as goal

pub returns : goal.returns
unfolding a_at
returns c = search rules
