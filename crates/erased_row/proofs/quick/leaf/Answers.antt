-- `leaf` meets its contract: one law of Storing.antt or OneCell.antt for each leaf; any other row is left over. Assumes nothing.
use mathlib.Core.Path.{refl, sym, ◌∙◌}
use native.Mathlib.Omega.{arith}
use Rattle.profile.specs.Constants.{cell_as}
use Rattle.profile.specs.Facts.{RowFacts, row_tree}
use Rattle.profile.specs.Known.{row_known}
use Rattle.cells.proofs.Moves.{cell_back}
use Rattle.run.proofs.Parts.{cells_room}
use Rattle.erased_row.proofs.Storing.{leaves_constant, flag_there, filled_there, leaves_empty}
use Rattle.erased_row.proofs.Passing.{layout_room}
use Rattle.erased_row.proofs.Cycle.{meant, variable_few, memory_of, constant_evaluates, variable_evaluates, has_current, current_evaluates}
use Rattle.erased_row.proofs.OneCell.{at_once, current_cell, cell_current, cell_filled}
use Rattle.erased_row.proofs.quick.leaf.Goals as goal

pub expression_row-says-requires-clause-known_expression : goal.expression_row-says-requires-clause-known_expression
expression_row-says-requires-clause-known_expression c = row_known _ c.requires.ready.world.accepted _ c.requires.row_lt_count

pub constant_cell-requires-clause-constant_row : goal.constant_cell-requires-clause-constant_row
unfolding RowFacts
constant_cell-requires-clause-constant_row c = (meant c.requires.ready c.requires.row_lt_count c.in-Constant.is c.expression_row-says.ensures).facts

pub size_at-requires : goal.size_at-requires
size_at-requires c = layout_room c.requires.ready.world c.requires.row_lt_count

pub is_filled-requires : goal.is_filled-requires
is_filled-requires c = flag_there (memory_of c.requires.ready.world) _ (variable_few c.requires.ready c.requires.row_lt_count c.in-Variable.is c.expression_row-says.ensures refl)

pub returns-then-not-is_filled : goal.returns-then-not-is_filled
unfolding row_tree
returns-then-not-is_filled c =
    let m = meant c.requires.ready c.requires.row_lt_count c.in-Variable.is c.expression_row-says.ensures in
    at_once (m.evaluates _ _ (variable_evaluates (λ vs vars h z. leaves_empty h _ _ _ (sym c.is_filled.ensures ∙ c.if-not-is_filled.true))))

pub overflow_mul-stack : goal.overflow_mul-stack
overflow_mul-stack c = omega (arith, variable_few c.requires.ready c.requires.row_lt_count c.in-Variable.is c.expression_row-says.ensures refl)

pub offset_bounds-memory-n : goal.offset_bounds-memory-n
offset_bounds-memory-n c = omega (arith, variable_few c.requires.ready c.requires.row_lt_count c.in-Variable.is c.expression_row-says.ensures refl)

pub bounds-memory-n : goal.bounds-memory-n
bounds-memory-n c =
    let h = memory_of c.requires.ready.world in
    omega (arith, cells_room h _ (filled_there h _ (sym c.is_filled.ensures ∙ c.if-not-is_filled.false)))

pub size_at-requires-in-Current : goal.size_at-requires-in-Current
size_at-requires-in-Current c = layout_room c.requires.ready.world c.requires.row_lt_count

pub bounds-current-0 : goal.bounds-current-0
unfolding row_tree
bounds-current-0 c =
    let m = meant c.requires.ready c.requires.row_lt_count c.in-Current.is c.expression_row-says.ensures in
    let h = has_current m.ready in
    current_cell h.is (omega (arith, c.if-size_at-eq1.true, c.size_at-in-Current.ensures, h.size_is))

pub returns-then-size_at-eq1 : goal.returns-then-size_at-eq1
unfolding row_tree
returns-then-size_at-eq1 c =
    let m = meant c.requires.ready c.requires.row_lt_count c.in-Current.is c.expression_row-says.ensures in
    at_once
    (m.evaluates _ _
    (current_evaluates (λ b x h z. cell_current c.args.stack.now _ h (omega (arith, c.if-size_at-eq1.true, c.size_at-in-Current.ensures, z)) (cell_back _ c.stack-then-size_at-eq1-1.given) (omega (arith, c.requires.row_in_bounds)))))

pub returns-in-Constant : goal.returns-in-Constant
unfolding RowFacts row_tree
returns-in-Constant c =
    let m = meant c.requires.ready c.requires.row_lt_count c.in-Constant.is c.expression_row-says.ensures in
    at_once (m.evaluates _ _ (constant_evaluates (leaves_constant c.args.rows.now c.args.row c.args.stack.now _ m.facts (cell_as (sym (cell_back _ c.constant_cell.type_inv)) c.constant_cell.ensures) (omega (arith, c.requires.row_in_bounds)))))

pub returns-else-not-is_filled : goal.returns-else-not-is_filled
unfolding row_tree
returns-else-not-is_filled c =
    let m = meant c.requires.ready c.requires.row_lt_count c.in-Variable.is c.expression_row-says.ensures in
    at_once
    (m.evaluates _ _
    (variable_evaluates (λ vs vars h z. cell_filled h _ c.args.stack.now _ (sym c.is_filled.ensures ∙ c.if-not-is_filled.false) (omega (arith, c.if-size_at-ne1.false, c.size_at.ensures, z)) (cell_back _ c.stack-1.given) (omega (arith, c.requires.row_in_bounds)))))
