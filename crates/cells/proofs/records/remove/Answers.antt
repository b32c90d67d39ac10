-- `remove` meets its contract, by `remove_law`. Assumes nothing.
use native.Mathlib.Omega.{arith}
use Rattle.cells.proofs.Fields.{remove_law}
use Rattle.cells.proofs.records.remove.Goals as goal

pub returns : goal.returns
returns c = λ n fs d x e o t w h.
    let a = c.args in
    remove_law a.stack.now c.copy_within.new.self n fs d x a.offset a.width a.total e o t w (omega arith) (omega arith) h c.copy_within.ensures.after
