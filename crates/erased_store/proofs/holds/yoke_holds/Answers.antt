-- `yoke_holds` meets its contract, by `none_admits` and `part_admits`. Assumes nothing.
use mathlib.Core.Path.{sym, ◌∙◌}
use Rattle.run.proofs.Parts.{states_room, cells_room}
use Rattle.erased_row.proofs.Cycle.{memory_of}
use Rattle.erased_store.proofs.Satisfying.{none_admits, part_ready, part_admits}
use Rattle.erased_store.proofs.holds.yoke_holds.Goals as goal

pub is_filled-requires : goal.is_filled-requires
is_filled-requires c = let r = c.requires.has_change in states_room (memory_of r.world) _ r.there

pub returns-then-not-is_filled : goal.returns-then-not-is_filled
returns-then-not-is_filled c = none_admits c.args.n (sym c.is_filled.ensures ∙ c.if-not-is_filled.true)

pub slice_bounds-satisfies-end : goal.slice_bounds-satisfies-end
slice_bounds-satisfies-end c = let r = c.requires.has_change in cells_room (memory_of r.world) _ r.there

pub satisfies-requires-clause-ready_yoke : goal.satisfies-requires-clause-ready_yoke
satisfies-requires-clause-ready_yoke c = part_ready c.args.n c.requires.has_change (sym c.is_filled.ensures ∙ c.if-not-is_filled.false)

pub returns : goal.returns
returns c = part_admits c.args.n (sym c.is_filled.ensures ∙ c.if-not-is_filled.false) c.satisfies.ensures
