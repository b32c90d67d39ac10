-- `copied` meets its contract, by `gives_current`. Assumes nothing.
use mathlib.Core.Path.{refl}
use Rattle.checked_row.proofs.Storing.{current_room, gives_current}
use Rattle.checked_row.proofs.leaves.copied.Goals as goal

pub copy-requires-clause-n_in_bounds : goal.copy-requires-clause-n_in_bounds
copy-requires-clause-n_in_bounds c =
    let h = c.requires.has_current.is in
    let r = current_room c.measure_body-m.result.cells h (c.measure_body-m.ensures _ h.holds).is_cells in
    r.0

pub returns : goal.returns
returns c = λ x h. gives_current c.args.stack.now _ _ _ h (c.measure_body-m.ensures _ h.holds).is_cells c.copy.ensures refl refl
