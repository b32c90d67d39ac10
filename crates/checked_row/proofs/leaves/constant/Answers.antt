-- `constant` meets its contract, by `gives_constant`. Assumes nothing.
use mathlib.Core.Path.{refl, sym}
use Rattle.profile.specs.Constants.{cell_as}
use Rattle.checked_row.proofs.Storing.{gives_constant}
use Rattle.cells.proofs.Moves.{cell_back}
use Rattle.checked_row.proofs.leaves.constant.Goals as goal

pub returns : goal.returns
returns c = gives_constant c.args.rows.now c.args.r c.args.stack.now _ _ c.requires.constant_row.0 (cell_as (sym (cell_back _ c.constant_cell.type_inv)) c.constant_cell.ensures) c.requires.constant_row.1 c.constant_body-body.ensures refl
