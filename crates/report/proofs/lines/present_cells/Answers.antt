-- `report::lines::present_cells` meets its contract: what is measured is the present body. Assumes nothing.
use Rattle.checked_row.proofs.Storing.{body_room, present_held}
use Rattle.report.proofs.lines.present_cells.Goals as goal

pub taken-body-requires : goal.taken-body-requires
taken-body-requires c = body_room c.requires.stored _ c.requires.there

pub measure_body-m-requires : goal.measure_body-m-requires
measure_body-m-requires c =
    record { body = _; holds = present_held c.requires.stored _ c.requires.there _ c.taken-body.ensures }

pub returns : goal.returns
returns c = λ cells states vs h l. (c.measure_body-m.ensures _ (present_held h _ l _ c.taken-body.ensures)).is_cells
