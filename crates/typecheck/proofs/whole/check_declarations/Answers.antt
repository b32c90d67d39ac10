use Rattle.std.proofs.lemmas.Result.{err_from_is_err_and}
use native.Mathlib.Omega.{arith}
use Rattle.typecheck.specs.Verdicts.{declarations_check}
use Rattle.typecheck.proofs.Scoping.{few_known, pairs_known}
use Rattle.typecheck.proofs.Settling.{done_none, done_more, done_fails, done_all}
use Rattle.typecheck.proofs.whole.check_declarations.Goals as goal

pub loop-d-init : goal.loop-d-init
loop-d-init c = done_none _ _ _

pub overflow_cast-place : goal.overflow_cast-place
overflow_cast-place c = omega (arith, c.loop-d-test.true, pairs_known c.requires.declarations_asked.known, c.requires.first_bound, few_known c.requires.declarations_asked.known)

pub check_declaration-requires-clause-d_bound : goal.check_declaration-requires-clause-d_bound
check_declaration-requires-clause-d_bound c = omega (arith, c.loop-d-test.true, pairs_known c.requires.declarations_asked.known)

pub returns-in_err-check_declaration : goal.returns-in_err-check_declaration
unfolding declarations_check
returns-in_err-check_declaration c =
    let p = err_from_is_err_and c.from_residual.result c.from_residual.ensures.1 in
    rw (p.1, p.2)
    (done_fails _ _ _ _ _ c.loop-d.invariant _ (omega (arith, c.loop-d-test.true, pairs_known c.requires.declarations_asked.known)) c.in_err-check_declaration.ensures)

pub loop-d-preserved : goal.loop-d-preserved
loop-d-preserved c =
    done_more _ _ _ _ _ c.loop-d.invariant _ (omega (arith, c.loop-d-test.true, pairs_known c.requires.declarations_asked.known)) c.in_ok-check_declaration.ensures

pub returns : goal.returns
unfolding declarations_check
returns c =
    let e = pairs_known c.requires.declarations_asked.known in
    done_all _ _ _ _ _ c.loop-d.invariant (omega (arith, c.loop-d-test.false, e)) (omega (arith, c.loop-d.auto.d-end, e))
