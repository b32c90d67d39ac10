use Rattle.std.proofs.Common.{refl, Ok, Err}
use Rattle.std.proofs.lemmas.Result.{err_from_is_err_and}
use native.Mathlib.Omega.{arith}
use Rattle.lingua.specs.Numbers.{scope_table}
use Rattle.profile.proofs.Declaring.{pairs}
use Rattle.typecheck.specs.Verdicts.{before}
use Rattle.typecheck.proofs.Settling.{done_none, done_more, done_fails, done_all}
use Rattle.typecheck.proofs.Scoping.{few_procedures_lem, places_few, before_more, scope_settles}
use Rattle.typecheck.proofs.whole.check_scopes.Goals as goal

pub overflow_add-s-end : goal.overflow_add-s-end
overflow_add-s-end c = omega (arith, few_procedures_lem c.args.rows.now c.requires.ready.accepted)

pub loop-s-init : goal.loop-s-init
unfolding before
loop-s-init c = (refl, done_none _ _ _)

pub scope-t-requires-clause-s_le_most : goal.scope-t-requires-clause-s_le_most
scope-t-requires-clause-s_le_most c = omega (arith, c.loop-s-test.true, c.procedures-s-end.ensures, few_procedures_lem c.args.rows.now c.requires.ready.accepted)

pub check_declarations-requires-clause-first_bound : goal.check_declarations-requires-clause-first_bound
check_declarations-requires-clause-first_bound c =
    omega (arith, c.loop-s-test.true, c.loop-s.invariant.0, places_few c.requires.ready.accepted c.loop-s.s (omega (arith, c.loop-s-test.true, c.procedures-s-end.ensures)))

pub returns-in_err-check_declarations : goal.returns-in_err-check_declarations
returns-in_err-check_declarations c =
    let p = err_from_is_err_and c.from_residual.result c.from_residual.ensures.1 in
    rw (p.1, p.2)
    (done_fails _ _ _ _ _ c.loop-s.invariant.1 _ (omega (arith, c.loop-s-test.true, c.procedures-s-end.ensures))
    (scope_settles c.loop-s.s (Err _) c.loop-s.layout c.check_declarations.new.layout c.scope-t.ensures c.loop-s.invariant.0 c.in_err-check_declarations.ensures))

pub overflow_add-first : goal.overflow_add-first
overflow_add-first c =
    omega (arith, c.loop-s-test.true, c.loop-s.invariant.0, places_few c.requires.ready.accepted c.loop-s.s (omega (arith, c.loop-s-test.true, c.procedures-s-end.ensures)), pairs c.args.rows.now (scope_table c.loop-s.s) c.scope-t.result c.scope-t.ensures)

pub loop-s-preserved : goal.loop-s-preserved
loop-s-preserved c = (
  omega (arith, c.loop-s.invariant.0, pairs c.args.rows.now (scope_table c.loop-s.s) c.scope-t.result c.scope-t.ensures, before_more c.args.rows.now c.loop-s.s),
  done_more _ _ _ _ _ c.loop-s.invariant.1 _ (omega (arith, c.loop-s-test.true, c.procedures-s-end.ensures))
      (scope_settles c.loop-s.s (Ok tt) c.loop-s.layout c.check_declarations.new.layout c.scope-t.ensures c.loop-s.invariant.0 c.in_ok-check_declarations.ensures),
)

pub returns : goal.returns
returns c =
    done_all _ _ _ _ _ c.loop-s.invariant.1 (omega (arith, c.loop-s-test.false, c.procedures-s-end.ensures)) (omega (arith, c.loop-s.auto.s-end, c.procedures-s-end.ensures))
