use native.Mathlib.Omega.{arith}
use Rattle.lingua.specs.Numbers.{declaration_section}
use Rattle.profile.proofs.Declaring.{pairs}
use Rattle.report.proofs.Putting.{lines_begin, lines_next, lines_all}
use Rattle.report.proofs.lines.put_lines.Goals as goal

pub loop-d-init : goal.loop-d-init
loop-d-init c = λ vs h. lines_begin _ _ _ vs _

pub put_line-requires-clause-d_bound : goal.put_line-requires-clause-d_bound
put_line-requires-clause-d_bound c = omega (arith, pairs c.args.rows.now declaration_section _ c.declarations-t.ensures)

pub loop-d-preserved : goal.loop-d-preserved
loop-d-preserved c = λ vs h. lines_next c.args.rows.now c.args.cells.now c.args.states.now vs c.loop-d.d (c.loop-d.invariant vs h) (c.put_line.ensures vs h)

pub returns : goal.returns
returns c = λ vs h.
    lines_all c.args.rows.now c.args.cells.now c.args.states.now vs c.loop-d.d (omega (arith, pairs c.args.rows.now declaration_section _ c.declarations-t.ensures)) (c.loop-d.invariant vs h)
