use mathlib.Core.Path.{sym, ◌∙◌}
use native.Mathlib.Omega.{arith}
use lib.ListN.{length-set}
use Rattle.lingua.specs.Numbers.{limit_section}
use Rattle.laws.specs.Outcomes.{false_is_true}
use Rattle.profile.proofs.Declaring.{pairs}
use Rattle.profile.proofs.Agreeing.{owned_none, owned_more, owner_small, limits_wrong, limits_right, all_owned}
use Rattle.profile.proofs.agreement.limit_wrong.Goals as goal

pub loop-l-init : goal.loop-l-init
loop-l-init c = (c.requires.owners_len, owned_none c.args.rows.now c.args.limits.now _)

pub limit_owner-owner-requires-clause-declarations_known : goal.limit_owner-owner-requires-clause-declarations_known
limit_owner-owner-requires-clause-declarations_known c = c.requires.declarations_known

pub limit_owner-owner-requires-clause-l_bound : goal.limit_owner-owner-requires-clause-l_bound
limit_owner-owner-requires-clause-l_bound c = omega (arith, c.loop-l-test.true, pairs c.args.limits.now limit_section c.limits-t.result c.limits-t.ensures)

pub shape_of-owners-in_default : goal.shape_of-owners-in_default
shape_of-owners-in_default c = c.loop-l.invariant.0 ∙ sym c.requires.owners_len

pub returns-in_default-clause-value : goal.returns-in_default-clause-value
returns-in_default-clause-value c = (limits_wrong c.args.rows.now c.args.limits.now c.limits-t.result c.requires.limits_read (pairs c.args.limits.now limit_section c.limits-t.result c.limits-t.ensures) c.loop-l.l c.limit_owner-owner.result c.in_default.is c.limit_owner-owner.ensures c.loop-l-test.true)

pub returns-in_default-clause-limits_owned : goal.returns-in_default-clause-limits_owned
returns-in_default-clause-limits_owned c = (λ e. false_is_true (sym e))

pub overflow_cast-owners : goal.overflow_cast-owners
overflow_cast-owners c =
    record { fits = omega (arith, owner_small c.args.rows.now c.args.limits.now c.requires.declarations_known.accepted c.limit_owner-owner.result _ c.loop-l.l c.in-Some.is c.limit_owner-owner.ensures) }

pub bounds-owners-l : goal.bounds-owners-l
bounds-owners-l c = omega (arith, c.loop-l.invariant.0, c.requires.limits_read.few, pairs c.args.limits.now limit_section c.limits-t.result c.limits-t.ensures)

pub loop-l-preserved : goal.loop-l-preserved
loop-l-preserved c = (
  length-set c.loop-l.owners c.loop-l.l _ ∙ c.loop-l.invariant.0,
  owned_more c.args.rows.now c.args.limits.now c.loop-l.owners c.loop-l.l _ c.limit_owner-owner.result
      (omega (arith, c.loop-l.invariant.0, c.requires.limits_read.few, pairs c.args.limits.now limit_section c.limits-t.result c.limits-t.ensures)) c.in-Some.is c.limit_owner-owner.ensures c.loop-l.invariant.1,
)

pub shape_of-owners : goal.shape_of-owners
shape_of-owners c = c.loop-l.invariant.0 ∙ sym c.requires.owners_len

pub returns-clause-value : goal.returns-clause-value
returns-clause-value c =
    let n = pairs c.args.limits.now limit_section c.limits-t.result c.limits-t.ensures in (limits_right c.args.rows.now c.args.limits.now c.limits-t.result c.requires.limits_read n _ c.loop-l.l c.loop-l.invariant.1 (omega arith))

pub returns-clause-limits_owned : goal.returns-clause-limits_owned
returns-clause-limits_owned c =
    let n = pairs c.args.limits.now limit_section c.limits-t.result c.limits-t.ensures in (λ e. all_owned c.args.rows.now c.args.limits.now c.limits-t.result c.requires.limits_read n _ c.loop-l.l c.loop-l.invariant.1 (omega arith))
