-- `report::lines::put_line` meets its contract: the line of a name, a flag and a part of the cells. Assumes nothing.
use mathlib.Core.Path.{ap, ◌∙◌}
use native.Mathlib.Omega.{arith}
use Rattle.std.specs.Option.{option_copied}
use Rattle.lingua.specs.Numbers.{declaration_section}
use Rattle.profile.proofs.Declaring.{pairs}
use Rattle.run.proofs.Parts.{states_room, cells_room}
use Rattle.checked_row.proofs.Storing.{memory_of}
use Rattle.report.proofs.Putting.{there, lent, line_put}
use Rattle.report.proofs.lines.put_line.Goals as goal

pub bytes_at-name-requires : goal.bytes_at-name-requires
bytes_at-name-requires c = rw c.bytes.ensures (omega (arith, c.declarations-t.ensures.within, c.requires.d_bound, pairs c.args.rows.now declaration_section _ c.declarations-t.ensures))

pub present_cells-requires : goal.present_cells-requires
present_cells-requires c =
    let h = c.requires.has_left in
    record { cells = _; states = _; store = h.store; stored = h.left.stored; there = there h.left c.requires.d_bound }

pub overflow_mul-from : goal.overflow_mul-from
overflow_mul-from c =
    let h = c.requires.has_left in
    let l = there h.left c.requires.d_bound in
    record { fits = omega (arith, h.left.stored.few, l) }

pub overflow_add-to : goal.overflow_add-to
overflow_add-to c =
    let h = c.requires.has_left in
    let l = there h.left c.requires.d_bound in
    record { fits = omega (arith, c.present_cells.ensures _ _ _ h.left.stored l, (h.left.stored.holdable _ l).few_cells, h.left.stored.few, l) }

pub is_filled-requires : goal.is_filled-requires
is_filled-requires c =
    let h = c.requires.has_left in states_room (memory_of h.left.stored) _ (there h.left c.requires.d_bound)

pub offset_bounds-cells-from : goal.offset_bounds-cells-from
offset_bounds-cells-from c =
    let h = c.requires.has_left in
    let l = there h.left c.requires.d_bound in
    record { fits = omega (arith, h.left.stored.few, l) }

pub slice_bounds-then_some-end : goal.slice_bounds-then_some-end
slice_bounds-then_some-end c =
    let h = c.requires.has_left in
    let l = there h.left c.requires.d_bound in
    omega (arith, cells_room (memory_of h.left.stored) _ l, c.present_cells.ensures _ _ _ h.left.stored l, (h.left.stored.holdable _ l).few_cells, l)

pub returns : goal.returns
returns c = λ vs h.
    let name = c.bytes_at-name.ensures.0 in
    line_put c.args.rows.now c.args.cells.now c.args.states.now vs _ _ c.declarations-t.result c.args.d c.present_cells.result _ c.declarations-t.ensures (rw c.bytes.ensures at name) (c.present_cells.ensures _ _ vs h.stored (there h c.requires.d_bound)) c.is_filled.ensures (ap option_copied c.then_some-content.ensures ∙ lent _ _) c.put_variable_line.ensures
