-- `to_hundredths` meets its contract, by `to_hundredths_law`. Assumes nothing.
use Rattle.cells.proofs.Singles.{to_hundredths_law}
use Rattle.cells.proofs.simple.to_hundredths.Goals as goal

pub returns : goal.returns
returns c = λ x h. to_hundredths_law c.args.stack.now x c.to_hundredths-counted.result c.requires.stack_nonzero h c.cell-1.given c.to_hundredths-counted.ensures
