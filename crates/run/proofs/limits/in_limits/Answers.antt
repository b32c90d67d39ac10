-- `in_limits` meets its contract, by `no_limit` and `limit_is`. Assumes nothing.
use mathlib.Core.Path.{◌∙◌}
use Prim.Native.Nat.{◌+◌, ◌*◌}
use lib.IntN.{pos}
use lib.ListN.{get_or}
use mir.ValLaws.{to_z-of_z}
use Rattle.cells.proofs.Moves.{cell_back}
use Rattle.run.proofs.Limiting.{no_limit, limit_is, between_as}
use Rattle.run.proofs.limits.in_limits.Goals as goal

pub returns-then-kept-n-eq0 : goal.returns-then-kept-n-eq0
returns-then-kept-n-eq0 c = λ l h. no_limit _ _ l _ h c.if-kept-n-eq0.true

pub returns : goal.returns
returns c = λ l h. c.between.ensures ∙ between_as {low = get_or c.args.kept.now (3 * c.args.n + 1) (pos 0)} {high = get_or c.args.kept.now (3 * c.args.n + 2) (pos 0)} {z = c.args.z} (cell_back _ c.low-1.given) (cell_back _ c.high-1.given) (to_z-of_z _ _ c.ranges.z) ∙ limit_is _ _ l _ h c.if-kept-n-eq0.false
