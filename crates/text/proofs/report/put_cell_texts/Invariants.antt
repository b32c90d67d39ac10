-- `text::report::put_cell_texts` meets its contract. The invariant: the cells passed stand behind the text that was there. Assumes nothing.
use lib.ListN.{take}
use Rattle.lingua.specs.Report.{cell_texts}
use Rattle.text.specs.Appended.{Appended}
use Rattle.text.proofs.report.put_cell_texts.Given as goal

abbrev pub invariant-loop-cell : goal.invariant-loop-cell
invariant-loop-cell l = Appended l.initial.page (cell_texts (take l.cell-index l.cells)) l.page
