use native.Mathlib.Omega.{arith}
use Rattle.body.proofs.Finding.{some_next, next_below, place_start, place_here, place_on, place_last}
use Rattle.body.proofs.find.place.Goals as goal

pub loop-init : goal.loop-init
loop-init c = place_start c.args.body c.args.n c.requires

pub bounds-body-at : goal.bounds-body-at
bounds-body-at c = omega (arith, next_below c.loop.invariant.state c.loop-test.true)

pub returns-then-n-body : goal.returns-then-n-body
returns-then-n-body c = place_here _ _ _ _ c.loop.invariant c.loop-test.true c.if-n-body.true

pub overflow_add-at : goal.overflow_add-at
overflow_add-at c = omega (arith, next_below c.loop.invariant.state c.loop-test.true)

pub measured-m-requires : goal.measured-m-requires
measured-m-requires c = some_next c.loop.invariant.state c.loop-test.true

pub loop-preserved : goal.loop-preserved
loop-preserved c =
    place_on _ _ _ _ c.loop.invariant c.loop-test.true c.if-n-body.false c.measured-m.result c.measured-m.ensures

pub returns : goal.returns
returns c = place_last _ _ _ _ c.loop.invariant c.loop-test.false
