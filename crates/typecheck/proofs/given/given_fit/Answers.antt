use mathlib.Core.Path.{◌≡◌, ap, sym, subst, ◌∙◌}
use Prim.Native.Nat.{ℕ, ◌+◌, ◌-◌, ◌<◌}
use native.Mathlib.Omega.{arith}
use Rattle.lingua.specs.Rows.{pair_count, groups}
use Rattle.lingua.specs.Typing.{given_fit}
use Rattle.safety.specs.Every.{Every}
use Rattle.typing.specs.Check.{variable_bodies, declared_bodies}
use Rattle.typecheck.proofs.Scoping.{few_known}
use Rattle.typecheck.proofs.Giving.{group_first, group_rest, fit_fails, fit_more, fit_all}
use Rattle.typecheck.proofs.given.given_fit.Goals as goal

pub overflow_add-m-end : goal.overflow_add-m-end
overflow_add-m-end c = omega (arith, c.requires.within, few_known c.requires.wanted)

pub loop-m-init : goal.loop-m-init
loop-m-init c =
    let a = c.args in
    let e : a.first + a.n - a.first ≡ a.n = omega arith in
    (ap (λ (k : ℕ). given_fit (declared_bodies a.scope.now) (groups k a.w) (variable_bodies a.scope.now.rows.now a.parameters.section) a.first) e, subst (λ (k : ℕ). Every (λ i. i < pair_count a.scope.now.rows.now a.scope.now.variables.section) (groups k a.w)) (sym e) c.requires.declared)

pub variable_body-given-requires-clause-n_bound : goal.variable_body-given-requires-clause-n_bound
variable_body-given-requires-clause-n_bound c =
    let a = c.args in
    group_first _ (a.first + a.n - (c.loop-m.m + 1)) c.loop-m.rest (omega (arith, c.loop-m-test.true)) c.loop-m.invariant.1

pub returns-then-not-same : goal.returns-then-not-same
returns-then-not-same c =
    let a = c.args in
    fit_fails _ _ _ c.loop-m.rest c.loop-m.m _ c.loop-m.invariant.0 (a.first + a.n - (c.loop-m.m + 1)) (omega (arith, c.loop-m-test.true)) (sym (c.same.ensures _ _ c.variable_body-given.ensures c.variable_body-wanted.ensures) ∙ c.if-not-same.true)

pub loop-m-preserved : goal.loop-m-preserved
loop-m-preserved c =
    let a = c.args in
    let r = a.first + a.n - (c.loop-m.m + 1) in
    (fit_more _ _ _ c.loop-m.rest c.loop-m.m _ c.loop-m.invariant.0 r (omega (arith, c.loop-m-test.true)) (sym (c.same.ensures _ _ c.variable_body-given.ensures c.variable_body-wanted.ensures) ∙ c.if-not-same.false), group_rest _ r c.loop-m.rest (omega (arith, c.loop-m-test.true)) c.loop-m.invariant.1)

pub returns : goal.returns
returns c = fit_all _ _ _ c.loop-m.rest c.loop-m.m _ c.loop-m.invariant.0 (omega (arith, c.loop-m-test.false))
