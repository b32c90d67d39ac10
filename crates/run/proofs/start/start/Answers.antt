-- `start` meets its contract, by `begun` from what each part ensures. Assumes nothing.
use mathlib.Core.Path.{ap, ◌∙◌}
use Prim.Native.Nat.{ℕ}
use lib.IntN.{pos}
use lib.ListN.{replicate}
use Rattle.run.proofs.Keeping.{begun}
use Rattle.run.proofs.start.start.Goals as goal

pub returns : goal.returns
returns c = begun c.args.rows.now c.args.limits.now _ _ _ _ c.requires.accepted c.declarations.ensures (c.fill.ensures.after (λ y e. e) ∙ ap (λ (n : ℕ). replicate n (pos 0)) c.requires.long_cells) c.keep_yokes.ensures (c.keep_limits.ensures c.args.rows.now (record { accepted = c.requires.accepted; limited = c.requires.limited }))
