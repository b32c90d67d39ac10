-- `change` meets its contract, by `change_law`. Assumes nothing.
use mathlib.Core.Path.{◌∙◌}
use Rattle.cells.proofs.Moves.{moved}
use Rattle.cells.proofs.Fields.{change_law}
use Rattle.cells.proofs.records.change.Goals as goal

pub returns : goal.returns
returns c = λ n fs d x y e o w h k.
    let a = c.args in
    change_law a.stack.now c.copy_within.new.self n fs d x y a.offset a.width e o w h k (c.copy_within.ensures.after ∙ moved a.stack.now 64 a.width a.offset)
