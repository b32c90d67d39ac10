-- The cycle of evaluation meets its contracts: eval on a row calls the others at that row, and they call eval on lower rows.
-- One law of Cycle.antt for each way that a member ends. Assumes nothing.
use mathlib.Core.List.{List, map}
use Prim.Native.Nat.{◌+◌, ◌*◌}
use lib.ListN.{take}
use Rattle.lingua.specs.Body.{Body, list_of}
use Rattle.lingua.specs.Value.{Value, composite, value_list, as_items}
use Rattle.lingua.specs.Store.{Variable, contents}
use Rattle.lingua.specs.Trees.{expression_tree}
use Rattle.lingua.specs.Evaluation.{eval as meaning}
use Rattle.body.specs.Encode.{Holds}
use Rattle.cells.specs.Stack.{Lies}
use Rattle.run.specs.Lending.{seen_in}
use Rattle.checked_row.specs.Meaning.{World, Sees}
use Rattle.checked.proofs.eval.+all_choice_eval_lazy.Given as goal

abbrev pub decreases-all : goal.decreases-all
decreases-all l = 2 * l.row

abbrev pub decreases-choice : goal.decreases-choice
decreases-choice l = 2 * l.row

abbrev pub decreases-eval : goal.decreases-eval
decreases-eval l = 2 * l.row + 1

abbrev pub decreases-lazy : goal.decreases-lazy
decreases-lazy l = 2 * l.row

abbrev pub invariant-all-loop-i : goal.invariant-all-loop-i
invariant-all-loop-i l = (vs : List Variable) (b : Body) (x : Value) → World l.sight.rows.now (seen_in l.sight.memory.now) vs → Holds l.inner b → Lies l.sight.current.now.cells.now 0 (list_of b) x → Sees l.seen (map (λ v. meaning (expression_tree l.sight.rows.now l.a) (contents vs) (composite b v)) (take l.i (value_list (as_items x))))
