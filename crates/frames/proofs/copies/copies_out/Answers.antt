use native.Mathlib.Omega.{arith}
use Rattle.std.proofs.Common.{sym, ◌∙◌}
use Rattle.run.proofs.Slices.{slices_stay, slices_after}
use Rattle.frames.proofs.Copying.{out_none, out_first, out_facing, out_stops, out_more, out_ends}
use Rattle.frames.proofs.copies.copies_out.Goals as goal

pub returns-then-is_some-clause-copies : goal.returns-then-is_some-clause-copies
returns-then-is_some-clause-copies g c = out_none c.args.row c.args.field c.args.count c.args.first c.args.m (sym c.is_some.ensures ∙ c.if-is_some.true)

pub loop-i-init : goal.loop-i-init
loop-i-init g c = (out_first c.args.row c.args.field c.args.count c.args.first c.args.m, slices_stay _)

pub copy-copied-requires : goal.copy-copied-requires
copy-copied-requires g c = out_facing c.args.row c.args.field c.args.count c.args.first c.args.m c.loop-i.i c.loop-i.invariant.0 (omega (arith, c.loop-i-test.true)) (c.group.ensures.0 c.args.count (omega (arith, c.loop-i-test.true))) c.requires.has_facing (omega (arith, c.loop-i.auto.stack))

pub returns-then-is_err-clause-copies : goal.returns-then-is_err-clause-copies
returns-then-is_err-clause-copies g c = out_stops c.args.row c.args.field c.args.count c.args.first c.args.m c.loop-i.i c.loop-i.invariant.0 (omega (arith, c.loop-i-test.true)) (c.group.ensures.0 c.args.count (omega (arith, c.loop-i-test.true))) _ c.copy-copied.ensures.copies (sym c.is_some.ensures ∙ c.if-is_some.false) _ (sym c.is_err.ensures.value ∙ c.if-is_err.true) c.settled.ensures

pub loop-i-preserved : goal.loop-i-preserved
loop-i-preserved g c = (out_more c.args.row c.args.field c.args.count c.args.first c.args.m c.loop-i.i c.loop-i.invariant.0 (omega (arith, c.loop-i-test.true)) (c.group.ensures.0 c.args.count (omega (arith, c.loop-i-test.true))) _ c.copy-copied.ensures.copies (sym c.is_some.ensures ∙ c.if-is_some.false) (sym c.is_err.ensures.value ∙ c.if-is_err.false), slices_after c.loop-i.invariant.1 c.copy-copied.ensures.same_slices)

pub returns-clause-copies : goal.returns-clause-copies
returns-clause-copies g c = out_ends c.args.row c.args.field c.args.count c.args.first c.args.m c.loop-i.i c.loop-i.invariant.0 (omega (arith, c.loop-i.invariant.1, c.loop-i-test.false))
