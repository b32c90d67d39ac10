-- `report::lines::put_lines` meets its contract. The invariant: the lines of the variables passed stand behind the text that was there. Assumes nothing.
use mathlib.Core.List.{List}
use Rattle.lingua.specs.Store.{Variable}
use Rattle.text.specs.Appended.{Appended}
use Rattle.report.specs.Memory.{Left, memory_lines}
use Rattle.report.proofs.lines.put_lines.Given as goal

abbrev pub invariant-loop-d : goal.invariant-loop-d
invariant-loop-d l =
    (vs : List Variable) → Left l.rows l.bodies l.cells l.states vs → Appended l.initial.page (memory_lines l.rows l.cells l.states vs 0 l.d) l.page
