-- `leaf` meets its contract: one law of Simple.antt for each leaf; any other row says nothing. Assumes nothing.
use mathlib.Core.Path.{refl, sym, ◌∙◌}
use native.Mathlib.Omega.{arith}
use Rattle.lingua.specs.Evaluation.{eval as meaning}
use Rattle.profile.specs.Constants.{cell_as}
use Rattle.profile.specs.Facts.{RowFacts, row_tree}
use Rattle.profile.specs.Known.{row_known}
use Rattle.cells.proofs.Moves.{cell_back}
use Rattle.run.proofs.Parts.{cells_room}
use Rattle.checked_row.proofs.Storing.{memory_of, flag_there, filled_there, body_room, present_held}
use Rattle.checked_row.proofs.Cycle.{facts, few_named, by_row}
use Rattle.checked_row.proofs.Simple.{own_first, constant_simple, variable_simple, current_long, current_simple}
use Rattle.checked_row.proofs.quick.leaf.Goals as goal

pub expression_row-says-requires-clause-known_expression : goal.expression_row-says-requires-clause-known_expression
expression_row-says-requires-clause-known_expression c = row_known _ c.requires.ready.world.accepted _ c.requires.here

pub constant_cell-requires-clause-constant_row : goal.constant_cell-requires-clause-constant_row
unfolding RowFacts
constant_cell-requires-clause-constant_row c = facts c.requires.ready.world c.requires.here c.in-Constant.is c.expression_row-says.ensures

pub is_filled-requires : goal.is_filled-requires
is_filled-requires c =
    let w = c.requires.ready.world in
    flag_there w.stored _ (few_named w c.requires.here c.in-Variable.is c.expression_row-says.ensures)

pub overflow_mul-n : goal.overflow_mul-n
overflow_mul-n c = omega (arith, few_named c.requires.ready.world c.requires.here c.in-Variable.is c.expression_row-says.ensures)

pub bounds-memory-n : goal.bounds-memory-n
bounds-memory-n c =
    let s = c.requires.ready.world.stored in
    omega (arith, body_room s _ (filled_there s _ (sym c.is_filled.ensures ∙ c.if-not-is_filled.false)))

pub overflow_mul-stack : goal.overflow_mul-stack
overflow_mul-stack c = omega (arith, few_named c.requires.ready.world c.requires.here c.in-Variable.is c.expression_row-says.ensures)

pub offset_bounds-memory-n : goal.offset_bounds-memory-n
offset_bounds-memory-n c = omega (arith, few_named c.requires.ready.world c.requires.here c.in-Variable.is c.expression_row-says.ensures)

pub bounds-memory-n-in-Variable : goal.bounds-memory-n-in-Variable
bounds-memory-n-in-Variable c =
    let s = c.requires.ready.world.stored in
    omega (arith, cells_room (memory_of s) _ (filled_there s _ (sym c.is_filled.ensures ∙ c.if-not-is_filled.false)))

pub bounds-current-0-in-Current : goal.bounds-current-0-in-Current
bounds-current-0-in-Current c =
    let u = c.requires.ready.has in
    current_long u.is (c.in_ok-tag-in-Current.ensures _ _ u.is.holds refl)

pub returns-in_ok-tag-in-Constant : goal.returns-in_ok-tag-in-Constant
unfolding row_tree meaning RowFacts
returns-in_ok-tag-in-Constant c = λ vs x w h.
    let f = facts w c.requires.here c.in-Constant.is c.expression_row-says.ensures in
    by_row w c.requires.here x c.in-Constant.is c.expression_row-says.ensures
    (constant_simple c.args.sight.now.rows.now c.args.row c.args.stack.now _ _ _ f (cell_as (sym (cell_back _ c.constant_cell.type_inv)) c.constant_cell.ensures) (omega (arith, c.requires.room)) c.constant_body-own.ensures (c.in_ok-tag-in-Constant.ensures _ _ c.constant_body-own.ensures refl))

pub returns-in_ok-tag-in-Variable : goal.returns-in_ok-tag-in-Variable
unfolding row_tree meaning
returns-in_ok-tag-in-Variable c = λ vs x w h.
    let filled = sym c.is_filled.ensures ∙ c.if-not-is_filled.false in
    let lt = filled_there w.stored _ filled in
    by_row w c.requires.here x c.in-Variable.is c.expression_row-says.ensures
    (variable_simple w.stored _ lt c.args.stack.now _ _ filled (c.in_ok-tag-in-Variable.ensures _ _ (present_held w.stored _ lt _ refl) (own_first c.args.sight.now.memory.now.bodies.now c.in-Variable.n)) (cell_back _ (omega arith)) (omega (arith, c.requires.room)))

pub returns-in_ok-tag-in-Current : goal.returns-in_ok-tag-in-Current
unfolding row_tree meaning
returns-in_ok-tag-in-Current c = λ vs x w h.
    by_row w c.requires.here x c.in-Current.is c.expression_row-says.ensures
    (current_simple c.args.stack.now _ _ h (c.in_ok-tag-in-Current.ensures _ _ h.holds refl) (cell_back _ (omega arith)) (omega (arith, c.requires.room)))
