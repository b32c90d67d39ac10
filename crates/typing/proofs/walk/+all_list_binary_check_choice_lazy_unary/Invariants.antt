-- The walk down an expression's tree meets its contracts: each return is one law of Returns, and each call is of a lower row.
-- The measure is twice the row, and one more for `check`, which hands its own row on. Assumes nothing.
use Prim.Native.Nat.{◌+◌, ◌*◌}
use Rattle.typing.proofs.walk.+all_list_binary_check_choice_lazy_unary.Given as goal

abbrev pub decreases-all_list : goal.decreases-all_list
decreases-all_list l = 2 * l.row

abbrev pub decreases-binary : goal.decreases-binary
decreases-binary l = 2 * l.row

abbrev pub decreases-check : goal.decreases-check
decreases-check l = 2 * l.row + 1

abbrev pub decreases-choice : goal.decreases-choice
decreases-choice l = 2 * l.row

abbrev pub decreases-lazy : goal.decreases-lazy
decreases-lazy l = 2 * l.row

abbrev pub decreases-unary : goal.decreases-unary
decreases-unary l = 2 * l.row
