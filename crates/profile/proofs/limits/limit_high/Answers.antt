-- `limit_high` meets its contract: an end is the number at its byte. Assumes nothing.
use mathlib.Core.Path.{◌∙◌}
use mir.Syntax.{w64}
use mir.ValLaws.{to_z-of_z}
use Rattle.lingua.specs.Rows.{high_at}
use Rattle.lingua.specs.Trees.{limit_row}
use Rattle.profile.proofs.limits.limit_high.Goals as goal

pub returns : goal.returns
unfolding limit_row high_at
returns c = to_z-of_z w64 c.end_at.result (record { sfits = c.end_at.type_inv }) ∙ c.end_at.ensures
