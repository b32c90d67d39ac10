-- `typecheck::whole::check_rows` meets its contract: the first list's type error, or the second's, or both lists' entries. Assumes nothing.
use Rattle.std.proofs.lemmas.Result.{err_from_is_err_and}
use Rattle.typing.proofs.Reading.{row_refers}
use Rattle.rules.proofs.Lowest.{sized}
use Rattle.typecheck.proofs.Wholes.{first_fails, both_settle}
use Rattle.typecheck.proofs.whole.check_rows.Goals as goal

pub instruction_scopes-scopes-requires-clause-sized : goal.instruction_scopes-scopes-requires-clause-sized
instruction_scopes-scopes-requires-clause-sized c = sized c.args.rows.now c.requires.ready.accepted.counts

pub instruction_scopes-scopes-requires-clause-rows_value : goal.instruction_scopes-scopes-requires-clause-rows_value
instruction_scopes-scopes-requires-clause-rows_value c = row_refers c.args.rows.now c.requires.ready.accepted

pub returns-in_err-check_scopes : goal.returns-in_err-check_scopes
returns-in_err-check_scopes c =
    let p = err_from_is_err_and c.from_residual.result c.from_residual.ensures.1 in
    rw (p.1, p.2) (first_fails _ _ c.in_err-check_scopes.ensures)

pub returns : goal.returns
returns c = both_settle _ c.in_ok-check_scopes.ensures _ _ c.check_instructions.ensures
