-- `nearest` meets its contract: each of its four ends has its law in `Halves`. Assumes nothing.
use native.Mathlib.Omega.{arith}
use mir.ValLaws.{to_z-of_z}
use Rattle.arith.specs.Nearest.{nonzero}
use Rattle.arith.proofs.Range.{fits_below}
use Rattle.arith.proofs.Halves.{rounded_sizes, rounded_small, minus_fits, ends_plus_below, ends_plus_above, ends_minus_below, ends_minus_above}
use Rattle.arith.proofs.rounding.nearest.Goals as goal

pub size-d-requires : goal.size-d-requires
size-d-requires c = rw (to_z-of_z _ _ c.ranges.y) (omega (arith, c.requires.y_bound))

pub nearest_size-q-requires-clause-n_bound : goal.nearest_size-q-requires-clause-n_bound
nearest_size-q-requires-clause-n_bound c =
    let x = rw (to_z-of_z _ _ c.ranges.x) at c.size-n.ensures in
    let y = rw (to_z-of_z _ _ c.ranges.y) at c.size-d.ensures in
    (omega (arith, x, c.requires.x_bound))

pub nearest_size-q-requires-clause-d_nonzero : goal.nearest_size-q-requires-clause-d_nonzero
nearest_size-q-requires-clause-d_nonzero c =
    let x = rw (to_z-of_z _ _ c.ranges.x) at c.size-n.ensures in
    let y = rw (to_z-of_z _ _ c.ranges.y) at c.size-d.ensures in
    (omega (arith, y, nonzero c.args.y c.requires.fact))

pub overflow_cast-q : goal.overflow_cast-q
overflow_cast-q c =
    let x = to_z-of_z _ _ c.ranges.x in
    let y = to_z-of_z _ _ c.ranges.y in
    let r = rounded_sizes c.args.x c.args.y _ _ c.size-n.result c.size-d.result c.nearest_size-q.result x y c.size-n.ensures c.size-d.ensures c.nearest_size-q.ensures in
    let s = rounded_small _ _ c.nearest_size-q.result c.requires.x_bound c.requires.y_bound r in
    fits_below _ (omega (arith, s))

pub returns-then-y-lt0 : goal.returns-then-y-lt0
returns-then-y-lt0 c =
    let x = to_z-of_z _ _ c.ranges.x in
    let y = to_z-of_z _ _ c.ranges.y in
    let r = rounded_sizes c.args.x c.args.y _ _ c.size-n.result c.size-d.result c.nearest_size-q.result x y c.size-n.ensures c.size-d.ensures c.nearest_size-q.ensures in
    let s = rounded_small _ _ c.nearest_size-q.result c.requires.x_bound c.requires.y_bound r in
    ends_plus_below c.args.x c.args.y c.nearest_size-q.result r s (rw x at c.if-x-lt0.true) (rw y at c.if-y-lt0.true)

pub overflow_sub-result : goal.overflow_sub-result
overflow_sub-result c =
    let x = to_z-of_z _ _ c.ranges.x in
    let y = to_z-of_z _ _ c.ranges.y in
    let r = rounded_sizes c.args.x c.args.y _ _ c.size-n.result c.size-d.result c.nearest_size-q.result x y c.size-n.ensures c.size-d.ensures c.nearest_size-q.ensures in
    let s = rounded_small _ _ c.nearest_size-q.result c.requires.x_bound c.requires.y_bound r in
    minus_fits c.args.x c.args.y c.nearest_size-q.result r s

pub returns-then-x-lt0 : goal.returns-then-x-lt0
returns-then-x-lt0 c =
    let x = to_z-of_z _ _ c.ranges.x in
    let y = to_z-of_z _ _ c.ranges.y in
    let r = rounded_sizes c.args.x c.args.y _ _ c.size-n.result c.size-d.result c.nearest_size-q.result x y c.size-n.ensures c.size-d.ensures c.nearest_size-q.ensures in
    let s = rounded_small _ _ c.nearest_size-q.result c.requires.x_bound c.requires.y_bound r in
    ends_minus_below c.args.x c.args.y c.nearest_size-q.result r s (rw x at c.if-x-lt0.true) (rw y at c.if-y-lt0.false)

pub overflow_sub-result-then-y-lt0-2 : goal.overflow_sub-result-then-y-lt0-2
overflow_sub-result-then-y-lt0-2 c =
    let x = to_z-of_z _ _ c.ranges.x in
    let y = to_z-of_z _ _ c.ranges.y in
    let r = rounded_sizes c.args.x c.args.y _ _ c.size-n.result c.size-d.result c.nearest_size-q.result x y c.size-n.ensures c.size-d.ensures c.nearest_size-q.ensures in
    let s = rounded_small _ _ c.nearest_size-q.result c.requires.x_bound c.requires.y_bound r in
    minus_fits c.args.x c.args.y c.nearest_size-q.result r s

pub returns-then-y-lt0-2 : goal.returns-then-y-lt0-2
returns-then-y-lt0-2 c =
    let x = to_z-of_z _ _ c.ranges.x in
    let y = to_z-of_z _ _ c.ranges.y in
    let r = rounded_sizes c.args.x c.args.y _ _ c.size-n.result c.size-d.result c.nearest_size-q.result x y c.size-n.ensures c.size-d.ensures c.nearest_size-q.ensures in
    let s = rounded_small _ _ c.nearest_size-q.result c.requires.x_bound c.requires.y_bound r in
    ends_minus_above c.args.x c.args.y c.nearest_size-q.result r s (rw x at c.if-x-lt0.false) (rw y at c.if-y-lt0-2.true)

pub returns : goal.returns
returns c =
    let x = to_z-of_z _ _ c.ranges.x in
    let y = to_z-of_z _ _ c.ranges.y in
    let r = rounded_sizes c.args.x c.args.y _ _ c.size-n.result c.size-d.result c.nearest_size-q.result x y c.size-n.ensures c.size-d.ensures c.nearest_size-q.ensures in
    let s = rounded_small _ _ c.nearest_size-q.result c.requires.x_bound c.requires.y_bound r in
    ends_plus_above c.args.x c.args.y c.nearest_size-q.result r s (rw x at c.if-x-lt0.false) (rw y at c.if-y-lt0-2.false)
