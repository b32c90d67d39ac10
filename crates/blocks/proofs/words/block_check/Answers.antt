use Rattle.std.proofs.Common.{ℕ, ◌+◌, ◌%◌, ◌^◌, ap, ◌∙◌, ap₂, add-one, arith, refl}
use Rattle.lingua.specs.Format.{rotated, mixed, check_over, block_check}
use Rattle.blocks.proofs.Returns.{rotated_is}
use Rattle.blocks.proofs.words.block_check.Goals as goal

pub loop-i-init : goal.loop-i-init
unfolding check_over
loop-i-init c = refl

pub loop-i-preserved : goal.loop-i-preserved
unfolding check_over mixed
loop-i-preserved c =
    rw add-one
    (c.rotate_left-sum.ensures
    ∙ (rotated_is ((c.loop-i.sum + c.word32_at.result) % 2 ^ 32) (omega arith)
    ∙ ap₂ (λ (a b : ℕ). rotated ((a + b) % 2 ^ 32)) c.loop-i.invariant c.word32_at.ensures))

pub returns : goal.returns
unfolding block_check
returns c = c.loop-i.invariant ∙ ap (λ (n : ℕ). check_over n c.args.block.now) (omega arith)
