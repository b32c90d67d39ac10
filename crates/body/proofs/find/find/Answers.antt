use native.Mathlib.Omega.{arith}
use Rattle.body.proofs.Finding.{some_next, next_below, search_start, search_hit, search_on, search_miss}
use Rattle.body.proofs.find.find.Goals as goal

pub loop-init : goal.loop-init
loop-init c = search_start c.args.body c.args.n c.requires

pub bounds-body-at : goal.bounds-body-at
bounds-body-at c = omega (arith, next_below c.loop.invariant.state c.loop-test.true)

pub overflow_add-result : goal.overflow_add-result
overflow_add-result c = omega (arith, next_below c.loop.invariant.state c.loop-test.true)

pub returns-then-body-at : goal.returns-then-body-at
returns-then-body-at c = search_hit _ _ _ _ _ c.loop.invariant c.loop-test.true c.if-body-at.true

pub overflow_add-at : goal.overflow_add-at
overflow_add-at c = omega (arith, next_below c.loop.invariant.state c.loop-test.true)

pub measured-m-requires : goal.measured-m-requires
measured-m-requires c = some_next c.loop.invariant.state c.loop-test.true

pub overflow_add-offset : goal.overflow_add-offset
overflow_add-offset c =
    omega (arith, (search_on _ _ _ _ _ c.loop.invariant c.loop-test.true c.if-body-at.false c.measured-m.result c.measured-m.ensures).few_cells)

pub loop-preserved : goal.loop-preserved
loop-preserved c =
    search_on _ _ _ _ _ c.loop.invariant c.loop-test.true c.if-body-at.false c.measured-m.result c.measured-m.ensures

pub returns : goal.returns
returns c = search_miss _ _ _ _ _ c.loop.invariant c.loop-test.false
