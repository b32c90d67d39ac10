-- `whole_run::whole::run` meets its contract: the readings, then the program from the last row. Assumes nothing.
use native.Mathlib.Omega.{arith}
use Rattle.run.proofs.Slices.{slices_after}
use Rattle.whole_run.proofs.Ending.{fresh_going, begins_standing, some_row, program_asked, left_within, run_answered}
use Rattle.whole_run.proofs.whole.run.Goals as goal

pub take_readings-taken-requires-clause-standing : goal.take_readings-taken-requires-clause-standing
take_readings-taken-requires-clause-standing g c = (begins_standing c.requires.begins)

pub take_readings-taken-requires-clause-going : goal.take_readings-taken-requires-clause-going
take_readings-taken-requires-clause-going g c = (fresh_going _ c.args.budget c.fresh-first.ensures)

pub overflow_sub-row : goal.overflow_sub-row
overflow_sub-row g c = some_row c.requires.begins c.instructions-instructions.ensures

pub exec-last-requires : goal.exec-last-requires
exec-last-requires g c = program_asked c.requires.begins c.instructions-instructions.ensures c.take_readings-taken.ensures.takes (omega (arith, c.take_readings-taken.auto.stack))

pub ended-requires : goal.ended-requires
ended-requires g c = (left_within c.instructions-instructions.ensures c.args.budget c.fresh-first.ensures c.take_readings-taken.ensures.takes c.exec-last.ensures.executes c.requires.begins)

pub returns-clause-runs : goal.returns-clause-runs
returns-clause-runs g c = run_answered c.instructions-instructions.ensures c.args.budget c.fresh-first.ensures c.take_readings-taken.ensures.takes c.exec-last.ensures.executes _ c.ended.ensures

pub returns-clause-same_slices : goal.returns-clause-same_slices
returns-clause-same_slices g c = (slices_after c.take_readings-taken.ensures.same_slices c.exec-last.ensures.same_slices.0, c.exec-last.ensures.same_slices.1)
