-- `section_at` meets its contract: it reads where the format has the field.
use Rattle.std.proofs.Common.{rules}
use Rattle.lingua.specs.Rows.{section_at}
use Rattle.decoder.proofs.fields.section_at.Goals as goal

pub returns : goal.returns
unfolding section_at
returns c = search rules
