use Rattle.run.proofs.Slices.{slices_stay, slices_after}
use mathlib.Core.Path.{ap}
use Rattle.lingua.specs.Faults.{number_of}
use Rattle.laws.specs.Faults.{passed_on}
use Rattle.erased_row.proofs.Leaving.{no_zero}
use native.Mathlib.Omega.{arith}
use Rattle.frames.proofs.Copying.{in_first, in_facing, in_stops, in_more, in_ends}
use Rattle.frames.proofs.copies.copies_in.Goals as goal

pub loop-i-init : goal.loop-i-init
loop-i-init g c = (in_first c.args.field c.args.count c.args.first, slices_stay _)

pub copy-requires : goal.copy-requires
copy-requires g c = in_facing c.args.field c.args.count c.args.first c.loop-i.i c.loop-i.invariant.0 (omega (arith, c.loop-i-test.true)) (c.group.ensures.0 c.args.count (omega (arith, c.loop-i-test.true))) c.requires.has_facing (omega (arith, c.loop-i.auto.stack))

pub returns-in_err-copy-clause-copies : goal.returns-in_err-copy-clause-copies
returns-in_err-copy-clause-copies g c = rw (passed_on _ _ c.from_residual.ensures.1) (in_stops c.args.field c.args.count c.args.first c.loop-i.i c.loop-i.invariant.0 (omega (arith, c.loop-i-test.true)) (c.group.ensures.0 c.args.count (omega (arith, c.loop-i-test.true))) c.in_err-copy.ensures.copies (no_zero _))

pub loop-i-preserved : goal.loop-i-preserved
loop-i-preserved g c = (in_more c.args.field c.args.count c.args.first c.loop-i.i c.loop-i.invariant.0 (omega (arith, c.loop-i-test.true)) (c.group.ensures.0 c.args.count (omega (arith, c.loop-i-test.true))) c.copy.ensures.copies (ap number_of c.in_ok-copy.was), slices_after c.loop-i.invariant.1 c.copy.ensures.same_slices)

pub returns-clause-copies : goal.returns-clause-copies
returns-clause-copies g c = in_ends c.args.field c.args.count c.args.first c.loop-i.i c.loop-i.invariant.0 (omega (arith, c.loop-i.invariant.1, c.loop-i-test.false))
