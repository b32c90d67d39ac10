-- `constant` meets its contract, by `leaves_constant`. Assumes nothing.
use mathlib.Core.Path.{sym}
use Rattle.cells.proofs.Moves.{cell_back}
use Rattle.profile.specs.Constants.{cell_as}
use Rattle.erased_row.proofs.Storing.{leaves_constant}
use Rattle.erased_row.proofs.leaves.constant.Goals as goal

pub returns : goal.returns
returns c = leaves_constant c.args.rows.now c.args.row c.args.stack.now _ c.requires.constant_row.0 (cell_as (sym (cell_back _ c.constant_cell.type_inv)) c.constant_cell.ensures) c.requires.constant_row.1
