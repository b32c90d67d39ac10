-- `unyoked` meets its contract: one law of Admitting.antt for each way that it ends. Assumes nothing.
use mathlib.Core.Path.{ap, ◌∙◌}
use lib.IntN.{ℤ}
use Rattle.lingua.specs.Store.{within}
use Rattle.cells.proofs.Moves.{cell_back}
use Rattle.checked_store.proofs.Admitting.{held_own, free_other_body, free_out_of_limits, free_passes}
use Rattle.checked_store.proofs.admit.unyoked.Goals as goal

pub returns-then-not-coherent : goal.returns-then-not-coherent
returns-then-not-coherent c = λ vs v x b free h. free_other_body vs v x free (c.coherent.ensures _ _ (held_own b c.taken-own.ensures) h.holds) c.if-not-coherent.true

pub returns-then-not-in_limits : goal.returns-then-not-in_limits
returns-then-not-in_limits c = λ vs v x b free h. free_out_of_limits vs v x free (c.coherent.ensures _ _ (held_own b c.taken-own.ensures) h.holds) c.if-not-coherent.false (c.in_limits.ensures _ b.limited ∙ ap (λ (z : ℤ). within v.limit z) (cell_back _ c.whole-z.type_inv ∙ c.whole-z.ensures x h)) c.if-not-in_limits.true

pub returns : goal.returns
returns c = λ vs v x b free h. free_passes vs v x free (c.coherent.ensures _ _ (held_own b c.taken-own.ensures) h.holds) c.if-not-coherent.false (c.in_limits.ensures _ b.limited ∙ ap (λ (z : ℤ). within v.limit z) (cell_back _ c.whole-z.type_inv ∙ c.whole-z.ensures x h)) c.if-not-in_limits.false
