-- `typecheck::given::call_fits` meets its contract: the procedure's variables are there, its parameters first. Assumes nothing.
use native.Mathlib.Omega.{arith}
use Rattle.typecheck.proofs.Scoping.{few_procedures_lem}
use Rattle.typecheck.proofs.Giving.{values_given, references_given, values_unfit, references_decide}
use Rattle.typecheck.proofs.given.call_fits.Goals as goal

pub procedure-procedure-requires-clause-k_lt_most : goal.procedure-procedure-requires-clause-k_lt_most
procedure-procedure-requires-clause-k_lt_most c = omega (arith, c.requires.procedure, few_procedures_lem _ c.requires.known.accepted)

pub variables-parameters-requires-clause-k_lt_most : goal.variables-parameters-requires-clause-k_lt_most
variables-parameters-requires-clause-k_lt_most c = omega (arith, c.requires.procedure, few_procedures_lem _ c.requires.known.accepted)

pub given_fit-requires : goal.given_fit-requires
given_fit-requires c = values_given c.requires c.procedure-procedure.ensures c.variables-parameters.ensures

pub returns-then-not-given_fit : goal.returns-then-not-given_fit
returns-then-not-given_fit c =
    values_unfit c.requires c.procedure-procedure.ensures c.variables-parameters.ensures _ c.given_fit.ensures c.if-not-given_fit.true

pub given_fit-requires-2 : goal.given_fit-requires-2
given_fit-requires-2 c = references_given c.requires c.procedure-procedure.ensures c.variables-parameters.ensures

pub returns : goal.returns
returns c =
    references_decide c.requires c.procedure-procedure.ensures c.variables-parameters.ensures _ _ c.given_fit.ensures c.if-not-given_fit.false c.given_fit-2.ensures
