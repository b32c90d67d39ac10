-- `equal` meets its contract, by `equal_law`. Assumes nothing.
use mathlib.Core.Path.{◌∙◌}
use mir.Syntax.{w64}
use mir.ValLaws.{to_z-of_z}
use native.Mathlib.Omega.{arith}
use Rattle.cells.proofs.Singles.{equal_law}
use Rattle.cells.proofs.simple.equal.Goals as goal

pub returns : goal.returns
returns c = λ b x y i h k. equal_law c.args.stack.now b x y _ (omega arith) i h k c.first-1.given c.second-1.given (to_z-of_z w64 c.from.result (record { sfits = c.from.type_inv }) ∙ c.from.ensures)
