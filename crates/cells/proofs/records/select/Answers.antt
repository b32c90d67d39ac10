-- `select` meets its contract, by `select_law`. Assumes nothing.
use mathlib.Core.Path.{◌∙◌}
use Rattle.cells.proofs.Moves.{moved}
use Rattle.cells.proofs.Fields.{select_law}
use Rattle.cells.proofs.records.select.Goals as goal

pub returns : goal.returns
returns c = λ n fs d x e o w h.
    let a = c.args in
    select_law a.stack.now c.copy_within.new.self n fs d x a.offset a.width e o w h c.requires (c.copy_within.ensures.after ∙ moved a.stack.now a.offset a.width 0)
