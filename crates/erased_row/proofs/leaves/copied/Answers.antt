-- `copied` meets its contract, by `leaves_current`. Assumes nothing.
use mathlib.Core.Path.{◌∙◌}
use Rattle.erased_row.proofs.Storing.{current_room}
use Rattle.erased_row.proofs.leaves.copied.Goals as goal

pub copy-requires-clause-n_in_bounds : goal.copy-requires-clause-n_in_bounds
copy-requires-clause-n_in_bounds c =
    let h = c.requires.has_current in
    let r = current_room c.size_at-size.result h.is (c.size_at-size.ensures ∙ h.size_is) in
    r.0
