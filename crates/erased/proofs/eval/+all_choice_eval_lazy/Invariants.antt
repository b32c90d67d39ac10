-- The cycle of evaluation meets its contracts: eval on a row calls the others at that row, and they call eval on lower rows.
-- One law of Cycle.antt or Walking.antt for each way that a member ends. Assumes nothing.
use mathlib.Core.Path.{◌≡◌}
use mathlib.Core.List.{List}
use Prim.Native.Nat.{◌+◌, ◌*◌}
use lib.ListN.{length}
use Rattle.lingua.specs.Body.{Body}
use Rattle.lingua.specs.Value.{Value}
use Rattle.lingua.specs.Run.{Declaration}
use Rattle.lingua.specs.Store.{Variable}
use Rattle.lingua.specs.Trees.{expression_tree}
use Rattle.run.specs.Reached.{Tells}
use Rattle.erased_row.specs.Meaning.{all_told}
use Rattle.erased.proofs.Walking.{Listed, first_results}
use Rattle.erased.proofs.eval.+all_choice_eval_lazy.Given as goal

abbrev pub decreases-all : goal.decreases-all
decreases-all l = 2 * l.row

abbrev pub decreases-choice : goal.decreases-choice
decreases-choice l = 2 * l.row

abbrev pub decreases-eval : goal.decreases-eval
decreases-eval l = 2 * l.row + 1

abbrev pub decreases-lazy : goal.decreases-lazy
decreases-lazy l = 2 * l.row

abbrev pub invariant-all-loop-i : goal.invariant-all-loop-i
invariant-all-loop-i l = (length l.stack ≡ length l.initial.stack) × ((ds : List Declaration) (vs : List Variable) (b : Body) (x : Value) → Listed l.rows l.layout l.memory.cells.now l.memory.states.now l.current (expression_tree l.rows l.a) l.width ds vs b x → Tells l.seen (all_told (first_results (expression_tree l.rows l.a) vs x l.i)))
