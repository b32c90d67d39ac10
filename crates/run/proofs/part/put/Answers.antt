-- `put` meets its contract, by `put_is`. Assumes nothing.
use Rattle.run.proofs.Copying.{put_is}
use Rattle.run.proofs.part.put.Goals as goal

pub returns-clause-cells_after : goal.returns-clause-cells_after
returns-clause-cells_after c = (put_is c.args.cells.now c.args.value.now _ c.args.n c.args.width c.copy.ensures)
