use native.Mathlib.Omega.{arith}
use Rattle.laws.specs.Stores.{yoke_room}
use Rattle.run.proofs.Unfilled.{few_counted, states_long, yokes_none, yokes_more}
use Rattle.run.proofs.start.keep_yokes.Goals as goal

pub loop-d-init : goal.loop-d-init
loop-d-init c = yokes_none c.args.rows.now c.args.t c.args.states.now c.requires.states_value

pub set_yoke-requires : goal.set_yoke-requires
set_yoke-requires c =
    yoke_room c.loop-d.states c.loop-d.d (omega (arith, c.loop-d.auto.states, states_long c.args.states.now c.requires.states_value)) (omega (arith, few_counted c.args.rows.now c.args.t c.requires.accepted_rows c.requires.has_scope))

pub loop-d-preserved : goal.loop-d-preserved
loop-d-preserved c =
    yokes_more c.args.rows.now c.args.t c.loop-d.states c.loop-d.d c.declared_yoke-yoke.result c.requires.accepted_rows (omega arith) c.loop-d.invariant c.declared_yoke-yoke.ensures.value _ c.set_yoke.ensures
