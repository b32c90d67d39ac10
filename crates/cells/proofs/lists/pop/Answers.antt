-- `pop` meets its contract, by `pop_empty` and `pop_law`. Assumes nothing.
use Rattle.cells.proofs.Elements.{counted_cell, pop_empty, pop_law}
use Rattle.cells.proofs.lists.pop.Goals as goal

pub returns-then-count-eq0 : goal.returns-then-count-eq0
returns-then-count-eq0 c = λ b x z h.
    pop_empty c.args.stack.now b x _ h (counted_cell c.args.stack.now c.args.width c.requires.counted) c.if-count-eq0.true

pub returns : goal.returns
returns c = λ b x z h.
    let a = c.args in
    pop_law a.stack.now c.clear.new.stack b x _ a.width z h (counted_cell a.stack.now a.width c.requires.counted) c.if-count-eq0.false c.clear.ensures
