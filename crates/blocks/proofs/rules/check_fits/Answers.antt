-- `check_fits` meets its contract. Assumes nothing.
use Rattle.std.proofs.Common.{ℕ, eqb, ap₂}
use Rattle.blocks.proofs.rules.check_fits.Goals as goal

pub returns : goal.returns
returns c = ap₂ (λ (a b : ℕ). eqb a b) c.word32_at.ensures c.block_check.ensures
