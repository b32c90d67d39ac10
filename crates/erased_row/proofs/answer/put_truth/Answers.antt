-- `put_truth` meets its contract, by `put_truth`. Assumes nothing.
use mathlib.Core.Path.{◌∙◌}
use Rattle.cells.proofs.Moves.{cell_back}
use Rattle.cells.proofs.Singles.{put_truth}
use Rattle.erased_row.proofs.Telling.{bit_is}
use Rattle.erased_row.proofs.answer.put_truth.Goals as goal

pub returns : goal.returns
returns c = put_truth c.args.stack.now c.args.holds _ c.requires (cell_back _ c.from.type_inv ∙ c.from.ensures ∙ bit_is c.args.holds)
