-- The cycle of instructions meets its contracts, in both ways to run: exec on a row calls the others at that row, they call exec on lower
-- rows, and a call's body is any row, but the area for calls is shorter there. One law of run/specs/Instructing, or of Calling and Opened
-- here, for each way that a member ends. Assumes nothing.
use mathlib.Core.List.{List}
use Prim.Native.Nat.{ℕ, ◌+◌, ◌*◌}
use lib.ListN.{length}
use Rattle.lingua.specs.Store.{Variable}
use Rattle.lingua.specs.Expression.{loop}
use Rattle.lingua.specs.Trees.{expression_tree, instruction_tree}
use Rattle.lingua.specs.Run.{Profile, exec as meaning}
use Rattle.run.specs.Statuses.{state_of}
use Rattle.run.specs.Instructing.{Turning}
use Rattle.frames.specs.Meaning.{Holds}
use Rattle.run.specs.Lending.{lent_in, SameSlices}
use Rattle.frames.specs.Lending.{context_of}
use Rattle.opening.specs.Meaning.{setting_of}
use Rattle.walk.specs.Meaning.{calling, Stands}
use Rattle.walk.proofs.exec.+instructions.Given as goal

abbrev pub decreases-body : goal.decreases-body
decreases-body g l = 4 * (length l.cells.now + l.row) + 4

abbrev pub decreases-branch : goal.decreases-branch
decreases-branch g l = 4 * (length l.area.now.cells.now + l.row) + 2

abbrev pub decreases-call : goal.decreases-call
decreases-call g l = 4 * (length l.area.now.cells.now + l.of.row) + 2

abbrev pub decreases-exec : goal.decreases-exec
decreases-exec g l = 4 * (length l.area.now.cells.now + l.row) + 3

abbrev pub decreases-handle : goal.decreases-handle
decreases-handle g l = 4 * (length l.area.now.cells.now + l.row) + 2

abbrev pub decreases-opened : goal.decreases-opened
decreases-opened g l = 4 * (length l.area.now.cells.now + l.of.row) + 1

abbrev pub decreases-turns : goal.decreases-turns
decreases-turns g l = 4 * (length l.area.now.cells.now + l.row) + 2

abbrev pub invariant-turns-loop-at : goal.invariant-turns-loop-at
invariant-turns-loop-at g l =
    SameSlices l.initial.memory l.memory × SameSlices l.initial.area l.area × ((p : Profile) (b n : ℕ) (vs : List Variable) → Stands l.row g.W.Way.way p b n (setting_of l.setting) (lent_in l.initial.memory) (lent_in l.initial.area) vs
    → Turning (calling l.setting.context.rows.now n) (Holds g.W.Way.way p b (context_of l.setting.context)) (lent_in l.initial.area) (lent_in l.memory) (lent_in l.area) l.row (expression_tree l.setting.context.rows.now l.e) (instruction_tree l.setting.context.rows.now l.i) l.at
    (meaning (calling l.setting.context.rows.now n) (loop l.row (expression_tree l.setting.context.rows.now l.e) (instruction_tree l.setting.context.rows.now l.i)) (state_of l.initial.at vs)))

abbrev pub decreases-turns-loop-at : goal.decreases-turns-loop-at
decreases-turns-loop-at g l = l.at.left
