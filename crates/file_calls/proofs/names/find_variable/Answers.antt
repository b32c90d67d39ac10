-- `file_calls::names::find_variable` meets its contract: refused by the profile's rules, or as the search ends. Assumes nothing.
use mathlib.Core.Path.{refl, sym}
use Rattle.std.proofs.Common.{rules}
use lib.Seq.{length-take-le}
use Rattle.lingua.specs.Answers.{file_meaning}
use Rattle.pair.proofs.Returns.{passed_on, room_most}
use Rattle.lingua.specs.Format.{profile}
use Rattle.file_calls.proofs.Naming.{find_refused, looked_small, index_small, find_done}
use Rattle.file_calls.proofs.names.find_variable.Goals as goal

pub take-requires-clause-kind_in_bounds : goal.take-requires-clause-kind_in_bounds
unfolding file_meaning
take-requires-clause-kind_in_bounds c = room_most profile

pub returns-in_err-taken : goal.returns-in_err-taken
unfolding file_meaning
returns-in_err-taken c = rw (passed_on _ c.from_residual.ensures.1) (find_refused _ _ _ _ c.in_err-taken.ensures)

pub slice_bounds-areas-end : goal.slice_bounds-areas-end
slice_bounds-areas-end c = (c.in_ok-taken.ensures.taken _ refl).within

pub slice_bounds-with-end : goal.slice_bounds-with-end
slice_bounds-with-end c = sym (length-take-le _ _ (c.in_ok-taken.ensures.taken _ refl).within)

pub with-rows-requires : goal.with-rows-requires
with-rows-requires c =
    let t = c.in_ok-taken.ensures.taken _ refl in rw t.rows t.tables

pub overflow_cast-result : goal.overflow_cast-result
unfolding file_meaning
overflow_cast-result c = record { fits = looked_small _ _ _ _ _ _ c.in_ok-taken.ensures c.with-rows.ensures _ c.find-found.ensures }

pub map-requires : goal.map-requires
unfolding file_meaning
map-requires c =
    let h = index_small _ _ _ _ _ _ c.in_ok-taken.ensures c.with-rows.ensures _ c.find-found.ensures in search rules

pub returns : goal.returns
unfolding file_meaning
returns c = find_done _ _ _ _ _ _ c.in_ok-taken.ensures c.with-rows.ensures _ c.find-found.ensures (search rules)
