-- `report::variables::put_variables` meets its contract: nothing of refused files, else the lines of the rows that were taken. Assumes nothing.
use lib.Seq.{length-take-le}
use mathlib.Core.Path.{sym}
use Rattle.pair.proofs.Given.{tables_there}
use Rattle.report.proofs.Taking.{none_put, lines_put}
use Rattle.report.proofs.variables.put_variables.Goals as goal

pub slice_bounds-with-end : goal.slice_bounds-with-end
slice_bounds-with-end c = sym (length-take-le _ _ (c.requires.by_index.1.1.is.taken _ c.in-Ok.is).within)

pub with-rows-requires : goal.with-rows-requires
with-rows-requires c = tables_there (c.requires.by_index.1.1.is.taken _ c.in-Ok.is)

pub put_lines-requires : goal.put_lines-requires
put_lines-requires c = record { has_left = rw c.with-rows.ensures (c.requires.has_left _ c.in-Ok.is) }

pub returns-in-Ok : goal.returns-in-Ok
returns-in-Ok c = λ prof lims others types vs h left. lines_put prof lims _ _ _ _ h _ c.in-Ok.is c.with-rows.ensures _ _ vs (c.put_lines.ensures vs (rw c.with-rows.ensures (left _ c.in-Ok.is)))

pub returns-in_default : goal.returns-in_default
returns-in_default c = λ prof lims others types vs h left. none_put prof lims _ _ _ _ h _ _ vs _ c.in_default.not-Ok
