-- `boolean` meets its contract, by `puts_truth`. Assumes nothing.
use mathlib.Core.Path.{◌∙◌}
use mir.Syntax.{w64}
use mir.ValLaws.{to_z-of_z}
use Rattle.checked_row.proofs.Giving.{puts_truth}
use Rattle.checked_row.proofs.answer.boolean.Goals as goal

pub returns : goal.returns
returns c = rw c.simple_value.ensures (puts_truth c.args.stack.now c.args.holds _ c.requires (to_z-of_z w64 c.from.result (record { sfits = c.from.type_inv }) ∙ c.from.ensures))
