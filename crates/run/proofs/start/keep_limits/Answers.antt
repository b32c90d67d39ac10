use Rattle.lingua.specs.Numbers.{limit_section}
use Rattle.profile.proofs.Declaring.{pairs}
use native.Mathlib.Omega.{arith}
use Rattle.run.proofs.Keeping.{limits_none, later_kept}
use Rattle.run.proofs.start.keep_limits.Goals as goal

pub loop-l-init : goal.loop-l-init
loop-l-init c = λ rows h.
    limits_none rows c.args.limits.now _ _ _ (c.fill.ensures.after (λ y e. e)) c.requires.kept_len (pairs c.args.limits.now limit_section _ c.limits-t.ensures)

pub keep_limit-requires : goal.keep_limit-requires
keep_limit-requires c =
    (c.requires.by_index.0, later_kept c.requires.by_index.1 c.limits-t.ensures (omega (arith, c.loop-l-test.true)) (omega (arith, c.loop-l.auto.l)) (c.loop-l.invariant c.requires.by_index.0 c.requires.by_index.1))

pub loop-l-preserved : goal.loop-l-preserved
loop-l-preserved c = λ rows h. c.keep_limit.ensures rows (later_kept h c.limits-t.ensures (omega (arith, c.loop-l-test.true)) (omega (arith, c.loop-l.auto.l)) (c.loop-l.invariant rows h))
