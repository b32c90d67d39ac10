use Rattle.std.proofs.Common.{Ok, Err}
use Rattle.std.proofs.lemmas.Result.{err_from_is_err_and}
use native.Mathlib.Omega.{arith}
use Rattle.rules.specs.Accepted.{counts}
use Rattle.typecheck.proofs.Settling.{done_none, done_more, done_fails, done_all}
use Rattle.typecheck.proofs.Scoping.{few_procedures_lem, row_settles}
use Rattle.typecheck.proofs.whole.check_instructions.Goals as goal

pub loop-r-init : goal.loop-r-init
loop-r-init c = done_none _ _ _

pub bounds-scopes-r : goal.bounds-scopes-r
bounds-scopes-r c = omega (arith, c.loop-r-test.true, c.instructions-t.ensures.count, (counts c.args.rows.now c.requires.ready.accepted.counts).instructions.most)

pub scope-requires-clause-s_le_most : goal.scope-requires-clause-s_le_most
scope-requires-clause-s_le_most c = omega (arith, c.requires.instruction_scopes.few c.loop-r.r, few_procedures_lem c.args.rows.now c.requires.ready.accepted)

pub returns-in_err-check_instruction : goal.returns-in_err-check_instruction
returns-in_err-check_instruction c =
    let p = err_from_is_err_and c.from_residual.result c.from_residual.ensures.1 in
    rw (p.1, p.2)
    (done_fails _ _ _ _ _ c.loop-r.invariant _ (omega (arith, c.loop-r-test.true, c.instructions-t.ensures.count))
    (row_settles c.requires.instruction_scopes c.loop-r.r (Err _) c.loop-r.layout c.check_instruction.new.layout c.scope.ensures c.in_err-check_instruction.ensures))

pub loop-r-preserved : goal.loop-r-preserved
loop-r-preserved c =
    done_more _ _ _ _ _ c.loop-r.invariant _ (omega (arith, c.loop-r-test.true, c.instructions-t.ensures.count))
    (row_settles c.requires.instruction_scopes c.loop-r.r (Ok tt) c.loop-r.layout c.check_instruction.new.layout c.scope.ensures c.in_ok-check_instruction.ensures)

pub returns : goal.returns
returns c =
    done_all _ _ _ _ _ c.loop-r.invariant (omega (arith, c.loop-r-test.false, c.instructions-t.ensures.count)) (omega (arith, c.loop-r.auto.r-end, c.instructions-t.ensures.count))
