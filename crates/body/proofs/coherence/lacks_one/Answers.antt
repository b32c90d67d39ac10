use native.Mathlib.Omega.{arith}
use Rattle.body.proofs.Finding.{some_next, next_below}
use Rattle.body.proofs.Lacking.{lacking_start, lacking_with, lacking_found, lacking_on, lacking_none}
use Rattle.body.proofs.coherence.lacks_one.Goals as goal

pub loop-init : goal.loop-init
loop-init c = lacking_start c.args.narrow c.args.wide c.requires

pub bounds-wide-at : goal.bounds-wide-at
bounds-wide-at c = omega (arith, next_below c.loop.invariant.state c.loop-test.true)

pub lacks-requires : goal.lacks-requires
lacks-requires c = lacking_with _ _ _ _ c.loop.invariant c.loop-test.true

pub returns-then-lacks : goal.returns-then-lacks
returns-then-lacks c = lacking_found _ _ _ _ c.loop.invariant c.loop-test.true c.lacks.result c.lacks.ensures c.if-lacks.true

pub overflow_add-at : goal.overflow_add-at
overflow_add-at c = omega (arith, next_below c.loop.invariant.state c.loop-test.true)

pub measured-m-requires : goal.measured-m-requires
measured-m-requires c = some_next c.loop.invariant.state c.loop-test.true

pub loop-preserved : goal.loop-preserved
loop-preserved c =
    lacking_on _ _ _ _ c.loop.invariant c.loop-test.true c.lacks.result c.lacks.ensures c.if-lacks.false
    c.measured-m.result c.measured-m.ensures

pub returns : goal.returns
returns c = lacking_none _ _ _ _ c.loop.invariant c.loop-test.false
