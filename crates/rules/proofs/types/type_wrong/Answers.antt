use native.Mathlib.Omega.{arith}
use Rattle.rules.proofs.TypeRows.{one_more, row_wrong, none_wrong}
use Rattle.rules.proofs.types.type_wrong.Goals as goal

pub returns-in_default-clause-value : goal.returns-in_default-clause-value
returns-in_default-clause-value c = row_wrong c.args.rows.now c.loop-r.r (omega (arith, c.types-types.ensures.count)) c.in_default.ensures

pub loop-r-preserved : goal.loop-r-preserved
loop-r-preserved c = one_more c.args.rows.now c.loop-r.bodies c.keep.new.bodies c.loop-r.r c.in-Ok.made (omega (arith, c.types-types.ensures.count, c.requires.types_ready.few)) c.loop-r.invariant c.in-Ok.ensures c.keep.ensures

pub returns-clause-value : goal.returns-clause-value
returns-clause-value c = (none_wrong c.args.rows.now c.loop-r.bodies c.loop-r.r c.loop-r.invariant (omega (arith, c.types-types.ensures.count)))
