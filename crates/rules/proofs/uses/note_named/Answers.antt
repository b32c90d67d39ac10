use mathlib.Core.List.{◌++◌}
use native.Mathlib.Omega.{arith}
use Rattle.lingua.specs.Trees.{tabulate}
use Rattle.lingua.specs.Typing.{joined}
use Rattle.rules.proofs.Usage.{turn_none, turn_more, turn_all}
use Rattle.rules.proofs.uses.note_named.Goals as goal

pub loop-r-init : goal.loop-r-init
loop-r-init g c = λ names named xs h. turn_none names c.args.uses.now xs h

pub loop-r-preserved : goal.loop-r-preserved
loop-r-preserved g c = λ names named xs h.
    turn_more names c.note_all.new.uses xs c.loop-r.r _ (named.each c.loop-r.r c.named.result c.loop-r-test.true c.named.ensures)
    (c.note_all.ensures (xs ++ joined (tabulate c.loop-r.r names)) (c.loop-r.invariant names named xs h))

pub returns : goal.returns
returns g c = λ names named xs h. turn_all names c.loop-r.uses xs c.loop-r.r c.args.n (omega arith) (c.loop-r.invariant names named xs h)
