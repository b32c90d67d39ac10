use mathlib.Core.Path.{refl, sym, ◌∙◌}
use native.Mathlib.Omega.{arith}
use Rattle.run.proofs.Slices.{slices_stay, slices_after}
use Rattle.std.proofs.Common.{rules}
use Rattle.cells.proofs.Moves.{cell_back}
use Rattle.whole_run.proofs.Taking.{few_readings, reads_variable_lem, taking_first, taking_standing, taking_stops, taking_ends, taking_more}
use Rattle.whole_run.proofs.inputs.take_readings.Goals as goal

pub loop-i-init : goal.loop-i-init
loop-i-init g c = (taking_first c.requires.going, slices_stay _)

pub returns-then-is_some-clause-takes : goal.returns-then-is_some-clause-takes
returns-then-is_some-clause-takes g c = taking_stops c.loop-i.invariant.0 (sym c.is_some.ensures ∙ c.if-is_some.true)

pub take_one-moment-requires-clause-standing : goal.take_one-moment-requires-clause-standing
take_one-moment-requires-clause-standing g c = (taking_standing c.loop-i.invariant.0 c.requires.standing (omega (arith, c.loop-i.auto.stack)))

pub take_one-moment-requires-clause-n_bound : goal.take_one-moment-requires-clause-n_bound
take_one-moment-requires-clause-n_bound g c = (reads_variable_lem c.requires.readable c.loop-i.i (omega arith))

pub take_one-moment-requires-clause-going : goal.take_one-moment-requires-clause-going
take_one-moment-requires-clause-going g c = ((c.loop-i.invariant.0.goes, sym c.is_some.ensures ∙ c.if-is_some.false))

pub loop-i-preserved : goal.loop-i-preserved
loop-i-preserved g c = (taking_more c.loop-i.invariant.0 _ _ _ _ c.take_one-moment.ensures.takes c.requires.readable.same_length (omega arith) refl (search (rules, cell_back)) refl (sym c.is_some.ensures ∙ c.if-is_some.false), slices_after c.loop-i.invariant.1 c.take_one-moment.ensures.same_slices)

pub returns-clause-takes : goal.returns-clause-takes
returns-clause-takes g c = taking_ends c.loop-i.invariant.0 (omega arith)

pub offset_bounds-numbers-i : goal.offset_bounds-numbers-i
offset_bounds-numbers-i g c = omega (arith, c.loop-i-test.true, few_readings c.requires.readable)

pub overflow_add-place : goal.overflow_add-place
overflow_add-place g c = omega (arith, c.loop-i-test.true, few_readings c.requires.readable)

pub overflow_cast-place : goal.overflow_cast-place
overflow_cast-place g c = record { fits = omega (arith, few_readings c.requires.readable, c.loop-i-test.true) }
