use mathlib.Core.Path.{refl}
use native.Mathlib.Omega.{arith}
use lib.ListN.{length-set}
use Rattle.rules.proofs.Reading.{marked_none, marked_more}
use Rattle.rules.proofs.places.readers.Goals as goal

pub loop-r-init : goal.loop-r-init
loop-r-init c = (refl, marked_none c.args.rows.now c.args.variable 0 _)

pub loop-r-preserved : goal.loop-r-preserved
loop-r-preserved c = (simp length-set (omega arith), marked_more c.args.rows.now c.args.variable c.loop-r.r c.loop-r.marks c.tree_reads-mark.result (omega (arith, c.expressions-expressions.ensures.count)) c.tree_reads-mark.ensures c.loop-r.invariant.1)
