-- `opening::call::leave` meets its contract: out of budget the variables stay open, else the references come back. Assumes nothing.
use Rattle.opening.proofs.Given.{counted, few_values, few_references}
use Rattle.opening.proofs.Leaving.{cells_fit, states_fit, present_fit, left_there, left_few, left_narrow, back_has_facing, leaves_open, leaves_back}
use Rattle.opening.proofs.call.leave.Goals as goal

pub keep_open-requires-clause-bodies_in_bounds : goal.keep_open-requires-clause-bodies_in_bounds
keep_open-requires-clause-bodies_in_bounds g c = (present_fit c.requires.left)

pub keep_open-requires-clause-cells_in_bounds : goal.keep_open-requires-clause-cells_in_bounds
keep_open-requires-clause-cells_in_bounds g c = (cells_fit c.requires.left)

pub keep_open-requires-clause-states_in_bounds : goal.keep_open-requires-clause-states_in_bounds
keep_open-requires-clause-states_in_bounds g c = (states_fit c.requires.left)

pub returns-then-ended-clause-leaves : goal.returns-then-ended-clause-leaves
returns-then-ended-clause-leaves g c = leaves_open c.if-ended.true c.keep_open.ensures.open_cells_after c.keep_open.ensures.open_states_after c.keep_open.ensures.open_bodies_after

pub procedure-procedure-requires-clause-k_lt_count : goal.procedure-procedure-requires-clause-k_lt_count
procedure-procedure-requires-clause-k_lt_count g c = left_there c.requires.left

pub procedure-procedure-requires-clause-k_lt_most : goal.procedure-procedure-requires-clause-k_lt_most
procedure-procedure-requires-clause-k_lt_most g c = left_few c.requires.left

pub copies_out-requires-clause-has_facing : goal.copies_out-requires-clause-has_facing
copies_out-requires-clause-has_facing g c =
    let count = counted c.procedure-procedure.ensures c.given-values.ensures c.given-references.ensures in
    (back_has_facing c.requires count)

pub copies_out-requires-clause-count_le_most_parameters : goal.copies_out-requires-clause-count_le_most_parameters
copies_out-requires-clause-count_le_most_parameters g c =
    let count = counted c.procedure-procedure.ensures c.given-values.ensures c.given-references.ensures in
    ((few_references count, few_values count))

pub returns-clause-leaves : goal.returns-clause-leaves
returns-clause-leaves g c = leaves_back (counted c.procedure-procedure.ensures c.given-values.ensures c.given-references.ensures) c.if-ended.false c.copies_out.ensures.copies

pub overflow_cast-call : goal.overflow_cast-call
overflow_cast-call g c = record { fits = left_narrow c.requires.left }
