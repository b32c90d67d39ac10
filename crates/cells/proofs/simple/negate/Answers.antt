-- `negate` meets its contract, by `negate_law`. Assumes nothing.
use mathlib.Core.Path.{◌∙◌}
use mir.Syntax.{w64}
use mir.ValLaws.{to_z-of_z}
use Rattle.cells.proofs.Singles.{negate_law}
use Rattle.cells.proofs.simple.negate.Goals as goal

pub returns : goal.returns
returns c = λ x h. negate_law c.args.stack.now x _ c.requires h (to_z-of_z w64 c.from.result (record { sfits = c.from.type_inv }) ∙ c.from.ensures)
