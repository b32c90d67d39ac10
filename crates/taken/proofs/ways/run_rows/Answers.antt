-- `taken::ways::run_rows` meets its contract: memory is begun, and the run goes on from there. Assumes nothing.
use borrow.Author.Rules.{rules}
use Rattle.taken.proofs.Beginning.{begins_by, readies, clears}
use Rattle.taken.proofs.Calling.{present_left}
use Rattle.taken.proofs.ways.run_rows.Goals as goal

pub begin_bodies-requires-clause-begins_by : goal.begin_bodies-requires-clause-begins_by
begin_bodies-requires-clause-begins_by g c = begins_by _ c.requires.lends

pub run-requires-clause-begins : goal.run-requires-clause-begins
run-requires-clause-begins g c = record { limits = _; ready = readies c.requires.startable.accepted c.start.ensures _ c.declarations.ensures c.requires.lends c.begin_bodies.ensures (clears _ _ _ c.requires.lends (c.fill.ensures.after (λ y e. e)) (c.fill-2.ensures.after (λ y e. e)) (c.fill-3.ensures.after (λ y e. e)) c.requires.startable.long_open_cells c.requires.startable.long_open_states) }

pub returns-clause-run : goal.returns-clause-run
returns-clause-run g c = let k = c.run.ensures.runs.is _ (readies c.requires.startable.accepted c.start.ensures _ c.declarations.ensures c.requires.lends c.begin_bodies.ensures (clears _ _ _ c.requires.lends (c.fill.ensures.after (λ y e. e)) (c.fill-2.ensures.after (λ y e. e)) (c.fill-3.ensures.after (λ y e. e)) c.requires.startable.long_open_cells c.requires.startable.long_open_states)) in search (rules, k, c.run.ensures.same_slices.0, c.run.ensures.same_slices.1)

pub returns-clause-present : goal.returns-clause-present
returns-clause-present g c = let k = present_left _ _ c.run.ensures.runs (readies c.requires.startable.accepted c.start.ensures _ c.declarations.ensures c.requires.lends c.begin_bodies.ensures (clears _ _ _ c.requires.lends (c.fill.ensures.after (λ y e. e)) (c.fill-2.ensures.after (λ y e. e)) (c.fill-3.ensures.after (λ y e. e)) c.requires.startable.long_open_cells c.requires.startable.long_open_states)) in search (rules, k, c.run.ensures.same_slices.0, c.run.ensures.same_slices.1)
