-- `push` meets its contract, by `push_full` and `push_law`. Assumes nothing.
use mathlib.Core.Path.{◌∙◌}
use native.Mathlib.Omega.{arith}
use Rattle.cells.proofs.Moves.{moved}
use Rattle.cells.proofs.Elements.{counted_cell, push_full, push_law}
use Rattle.cells.proofs.lists.push.Goals as goal

pub returns-then-count-ge-LIST_PLACES : goal.returns-then-count-ge-LIST_PLACES
returns-then-count-ge-LIST_PLACES c = λ b x y z h j.
    push_full c.args.stack.now b x y _ h (counted_cell c.args.stack.now c.args.width c.requires.counted) (omega (arith, c.if-count-ge-LIST_PLACES.true))

pub returns : goal.returns
returns c = λ b x y z h j.
    let a = c.args in
    push_law a.stack.now c.copy_within.new.self b x y _ a.width z h j (counted_cell a.stack.now a.width c.requires.counted) (omega (arith, c.if-count-ge-LIST_PLACES.false))
    (c.copy_within.ensures.after ∙ moved a.stack.now 64 a.width _)
