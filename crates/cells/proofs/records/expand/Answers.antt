-- `expand` meets its contract, by `expand_law`. Assumes nothing.
use native.Mathlib.Omega.{arith}
use mathlib.Core.Path.{◌∙◌}
use Rattle.cells.proofs.Moves.{moved}
use Rattle.cells.proofs.Fields.{expand_law}
use Rattle.cells.proofs.records.expand.Goals as goal

pub returns : goal.returns
returns c = λ n fs d x y e o t w h k.
    let a = c.args in
    expand_law a.stack.now c.copy_within.new.self c.copy_within-2.new.self n fs d x y a.offset a.width a.total e o t w (omega arith) (omega arith) (omega arith) h k
    c.copy_within.ensures.after (c.copy_within-2.ensures.after ∙ moved c.copy_within.new.self 64 a.width a.offset)
