use Rattle.std.proofs.Common.{ℕ, ◌≡◌, ◌+◌, ◌-◌, sym, ap, refl, ◌∙◌, arith}
use Rattle.lingua.specs.Rows.{row_count}
use Rattle.lingua.specs.Format.{used_rows}
use Rattle.blocks.proofs.Steps.{used_here, used_before}
use Rattle.blocks.proofs.rows.used_rows.Goals as goal

pub loop-r-init : goal.loop-r-init
unfolding row_count
loop-r-init c = refl

pub returns-then-not-all_zero : goal.returns-then-not-all_zero
returns-then-not-all_zero c =
    let e : c.loop-r.r - 1 + 1 ≡ c.loop-r.r = omega (arith, c.loop-r-test.true) in
    sym (used_here c.args.areas.now (c.loop-r.r - 1) c.all_zero.result c.all_zero.ensures c.if-not-all_zero.true)
    ∙ (ap (λ (n : ℕ). used_rows n c.args.areas.now) e ∙ c.loop-r.invariant)

pub loop-r-preserved : goal.loop-r-preserved
loop-r-preserved c =
    let e : c.loop-r.r - 1 + 1 ≡ c.loop-r.r = omega (arith, c.loop-r-test.true) in
    sym (used_before c.args.areas.now (c.loop-r.r - 1) c.all_zero.result c.all_zero.ensures c.if-not-all_zero.false)
    ∙ (ap (λ (n : ℕ). used_rows n c.args.areas.now) e ∙ c.loop-r.invariant)

pub returns : goal.returns
unfolding used_rows
returns c =
    let e : 0 ≡ c.loop-r.r = omega (arith, c.loop-r-test.false) in
    ap (λ (n : ℕ). used_rows n c.args.areas.now) e ∙ c.loop-r.invariant
