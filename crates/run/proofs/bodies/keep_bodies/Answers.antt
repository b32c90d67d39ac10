use mathlib.Core.Path.{ap, ◌∙◌}
use mathlib.Core.List.{List}
use Prim.Native.Nat.{ℕ}
use native.Mathlib.Omega.{arith}
use lib.ListN.{length, length-replicate}
use Rattle.lingua.specs.Numbers.{variable_bodies_length}
use Rattle.run.proofs.Unfilled.{few_counted}
use Rattle.run.proofs.Keeping.{bodies_none, bodies_more}
use Rattle.run.proofs.bodies.keep_bodies.Goals as goal

pub loop-d-init : goal.loop-d-init
loop-d-init c = bodies_none c.args.rows.now c.args.t c.args.variables.now c.requires.variables_value

pub keep-requires : goal.keep-requires
keep-requires c =
    omega (arith, c.loop-d.auto.variables, ap (λ (l : List ℕ). length l) c.requires.variables_value ∙ length-replicate {A = ℕ} variable_bodies_length 0, few_counted c.args.rows.now c.args.t c.requires.variables_known.accepted c.requires.variables_known.scope)

pub loop-d-preserved : goal.loop-d-preserved
loop-d-preserved c =
    bodies_more c.args.rows.now c.args.t c.loop-d.variables _ c.loop-d.d c.declared_body-body.result c.requires.variables_known.accepted (omega arith) c.loop-d.invariant c.declared_body-body.ensures c.keep.ensures
