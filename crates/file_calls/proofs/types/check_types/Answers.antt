-- `file_calls::types::check_types` meets its contract: refused by its buffer or by the files, or as the whole check concludes. Assumes nothing.
use mathlib.Core.Path.{refl, sym}
use lib.Seq.{length-take-le}
use Rattle.pair.proofs.Given.{room_there, tables_there}
use Rattle.pair.proofs.Returns.{passed_on}
use Rattle.file_calls.proofs.Checking.{check_short, check_refused, ready, check_done}
use Rattle.file_calls.proofs.types.check_types.Goals as goal

pub returns-then-layout-ne-LAYOUT_LENGTH : goal.returns-then-layout-ne-LAYOUT_LENGTH
returns-then-layout-ne-LAYOUT_LENGTH c = check_short _ _ _ c.if-layout-ne-LAYOUT_LENGTH.true

pub take_pair-requires : goal.take_pair-requires
take_pair-requires c = room_there _ _ _ refl refl refl

pub returns-in_err-pair : goal.returns-in_err-pair
returns-in_err-pair c = rw (passed_on _ c.from_residual.ensures.1) (check_refused _ _ _ _ _ _ c.if-layout-ne-LAYOUT_LENGTH.false c.in_err-pair.ensures)

pub slice_bounds-areas-end : goal.slice_bounds-areas-end
slice_bounds-areas-end c = (c.in_ok-pair.ensures.taken _ refl).within

pub slice_bounds-with-end : goal.slice_bounds-with-end
slice_bounds-with-end c = sym (length-take-le _ _ (c.in_ok-pair.ensures.taken _ refl).within)

pub with-rows-requires : goal.with-rows-requires
with-rows-requires c = tables_there (c.in_ok-pair.ensures.taken _ refl)

pub check_profile-requires-clause-ready : goal.check_profile-requires-clause-ready
check_profile-requires-clause-ready c = ready _ _ c.args.layout.now _ _ _ _ _ c.if-layout-ne-LAYOUT_LENGTH.false c.in_ok-pair.ensures c.with-rows.ensures

pub returns : goal.returns
returns c = check_done _ _ _ _ _ _ _ _ c.if-layout-ne-LAYOUT_LENGTH.false c.in_ok-pair.ensures c.with-rows.ensures _ _ c.check_profile.ensures
