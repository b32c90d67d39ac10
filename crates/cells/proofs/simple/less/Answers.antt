-- `less` meets its contract, by `less_law`. Assumes nothing.
use mathlib.Core.Path.{refl, ◌∙◌}
use mir.Syntax.{w64}
use mir.ValLaws.{to_z-of_z}
use native.Mathlib.Omega.{arith}
use Rattle.cells.proofs.Singles.{less_law, bit_byte}
use Rattle.cells.proofs.simple.less.Goals as goal

pub returns : goal.returns
returns c = λ b x y i h k. less_law c.args.stack.now b x y _ _ (omega arith) i h k c.first-1.given c.second-1.given refl (to_z-of_z w64 c.from.result (record { sfits = c.from.type_inv }) ∙ c.from.ensures ∙ bit_byte _)
