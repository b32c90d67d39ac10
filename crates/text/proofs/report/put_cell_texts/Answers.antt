use Rattle.std.proofs.Common.{rules, arith}
use lib.IntN.{pos}
use lib.ListN.{get_or}
use mir.Syntax.{w64}
use mir.ValLaws.{to_z-of_z}
use Rattle.lingua.specs.Report.{cell_texts}
use Rattle.text.proofs.Cells.{cells_next, cells_all}
use Rattle.text.proofs.Texts.{append_none}
use Rattle.text.proofs.report.put_cell_texts.Goals as goal

pub loop-cell-init : goal.loop-cell-init
unfolding cell_texts
loop-cell-init c = append_none _

pub loop-cell-preserved : goal.loop-cell-preserved
loop-cell-preserved c =
    let put = rw (to_z-of_z w64 (get_or c.args.cells.now c.loop-cell.cell-index (pos 0)) (search rules)) at c.put_signed.ensures in
    cells_next c.args.cells.now c.loop-cell.cell-index c.loop-cell-test.true c.loop-cell.invariant c.put.ensures put

pub returns : goal.returns
returns c = cells_all c.args.cells.now c.loop-cell.cell-index (omega arith) c.loop-cell.invariant
