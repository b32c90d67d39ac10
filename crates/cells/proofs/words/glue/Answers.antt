-- `glue` meets its contract, by `glue_none` and `glue_law`. Assumes nothing.
use native.Mathlib.Omega.{arith}
use Rattle.cells.proofs.Glue.{numbered_cell, numbered_word, glued_fits, glue_none, glue_law}
use Rattle.cells.proofs.words.glue.Goals as goal

pub returns-in_default : goal.returns-in_default
returns-in_default c = λ x y h k.
    let s = c.args.stack.now in
    glue_none s x y _ _ c.moved_behind.result h k (numbered_cell s 0 c.requires.word_at) (numbered_cell s 64 c.requires.word_at_2) c.moved_behind.ensures c.in_default.is

pub overflow_add-stack : goal.overflow_add-stack
overflow_add-stack c =
    let s = c.args.stack.now in
    omega (arith, glued_fits _ _ c.moved_behind.result _ (numbered_word s 0 c.requires.word_at) (numbered_word s 64 c.requires.word_at_2) c.moved_behind.ensures c.in-Some.is)

pub overflow_cast-stack : goal.overflow_cast-stack
overflow_cast-stack c =
    let s = c.args.stack.now in
    omega (arith, glued_fits _ _ c.moved_behind.result _ (numbered_word s 0 c.requires.word_at) (numbered_word s 64 c.requires.word_at_2) c.moved_behind.ensures c.in-Some.is)

pub returns : goal.returns
returns c = λ x y h k.
    let s = c.args.stack.now in
    glue_law s x y _ _ c.moved_behind.result h k (numbered_cell s 0 c.requires.word_at) (numbered_cell s 64 c.requires.word_at_2) c.moved_behind.ensures _ (omega arith) c.in-Some.is
