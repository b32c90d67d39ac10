-- `opening::call::enter` meets its contract: the variables that begin, then the two copies in, each from the memory that the one before left.
-- Assumes nothing.
use mathlib.Core.Path.{◌∙◌}
use native.Mathlib.Omega.{arith}
use mathlib.Core.Path.{refl}
use Rattle.laws.specs.Faults.{passed_on, error_some}
use Rattle.opening.proofs.Given.{counted, few_values, few_references}
use Rattle.opening.proofs.Entering.{callee_there, callee_few, callee_accepted, callee_scope, callee_begins, values_facing, values_fail, references_facing, entered}
use Rattle.opening.proofs.call.enter.Goals as goal

pub procedure-procedure-requires-clause-k_lt_count : goal.procedure-procedure-requires-clause-k_lt_count
procedure-procedure-requires-clause-k_lt_count g c = callee_there c.requires.calling

pub procedure-procedure-requires-clause-k_lt_most : goal.procedure-procedure-requires-clause-k_lt_most
procedure-procedure-requires-clause-k_lt_most g c = callee_few c.requires.calling

pub variables-variables-requires-clause-k_lt_count : goal.variables-variables-requires-clause-k_lt_count
variables-variables-requires-clause-k_lt_count g c = callee_there c.requires.calling

pub variables-variables-requires-clause-k_lt_most : goal.variables-variables-requires-clause-k_lt_most
variables-variables-requires-clause-k_lt_most g c = callee_few c.requires.calling

pub begin-requires-clause-accepted_rows : goal.begin-requires-clause-accepted_rows
begin-requires-clause-accepted_rows g c = ((callee_accepted c.requires.calling, callee_scope c.requires.calling c.variables-variables.ensures))

pub begin-requires-clause-begins_by : goal.begin-requires-clause-begins_by
begin-requires-clause-begins_by g c = (callee_begins c.requires.calling c.requires.zeros_by)

pub copies_in-requires-clause-has_facing : goal.copies_in-requires-clause-has_facing
copies_in-requires-clause-has_facing g c =
    let count = counted c.procedure-procedure.ensures c.given-values.ensures c.given-references.ensures in
    (values_facing count c.variables-variables.ensures c.requires.zeros_by.cells_are c.begin.ensures c.requires.calling)

pub copies_in-requires-clause-count_le_most_parameters : goal.copies_in-requires-clause-count_le_most_parameters
copies_in-requires-clause-count_le_most_parameters g c =
    let count = counted c.procedure-procedure.ensures c.given-values.ensures c.given-references.ensures in
    ((few_values count, omega arith))

pub returns-in_err-copies_in-clause-enters : goal.returns-in_err-copies_in-clause-enters
returns-in_err-copies_in-clause-enters g c =
    rw (passed_on _ _ c.from_residual.ensures.1) (values_fail (counted c.procedure-procedure.ensures c.given-values.ensures c.given-references.ensures) c.variables-variables.ensures c.requires.zeros_by.cells_are c.begin.ensures c.in_err-copies_in.ensures.copies (error_some _))

pub copies_in-requires-2-clause-has_facing : goal.copies_in-requires-2-clause-has_facing
copies_in-requires-2-clause-has_facing g c =
    let count = counted c.procedure-procedure.ensures c.given-values.ensures c.given-references.ensures in
    (references_facing count c.variables-variables.ensures c.requires.zeros_by.cells_are c.begin.ensures c.in_ok-copies_in.ensures.copies refl c.requires.calling (omega (arith, c.copies_in.auto.stack)))

pub copies_in-requires-2-clause-count_le_most_parameters : goal.copies_in-requires-2-clause-count_le_most_parameters
copies_in-requires-2-clause-count_le_most_parameters g c =
    let count = counted c.procedure-procedure.ensures c.given-values.ensures c.given-references.ensures in
    ((few_references count, few_values count))

pub returns-clause-enters : goal.returns-clause-enters
returns-clause-enters g c =
    entered (counted c.procedure-procedure.ensures c.given-values.ensures c.given-references.ensures) c.variables-variables.ensures c.requires.zeros_by.cells_are c.begin.ensures c.in_ok-copies_in.ensures.copies refl c.copies_in-2.ensures.copies
