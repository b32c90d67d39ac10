-- `top` meets its contract, by `top_empty` and `top_law`. Assumes nothing.
use mathlib.Core.Path.{◌∙◌}
use Rattle.cells.proofs.Moves.{moved}
use Rattle.cells.proofs.Elements.{counted_cell, top_empty, top_law}
use Rattle.cells.proofs.lists.top.Goals as goal

pub returns-then-count-eq0 : goal.returns-then-count-eq0
returns-then-count-eq0 c = λ b x z h.
    top_empty c.args.stack.now b x _ h (counted_cell c.args.stack.now c.args.width c.requires.counted) c.if-count-eq0.true

pub returns : goal.returns
returns c = λ b x z h.
    let a = c.args in
    top_law a.stack.now c.copy_within.new.self b x _ a.width z h (counted_cell a.stack.now a.width c.requires.counted) c.if-count-eq0.false
    (c.copy_within.ensures.after ∙ moved a.stack.now _ a.width 0)
