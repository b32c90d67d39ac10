-- `to_number` meets its contract, by `to_number_law`. Assumes nothing.
use Rattle.cells.proofs.Singles.{to_number_law}
use Rattle.cells.proofs.simple.to_number.Goals as goal

pub returns : goal.returns
returns c = λ x h. to_number_law c.args.stack.now x c.to_number-part.result c.requires.stack_nonzero h c.cell-1.given c.to_number-part.ensures
