-- `store_within` meets its contract, by `outside` and `inside`. Assumes nothing.
use mathlib.Core.Path.{ap, ◌∙◌}
use lib.IntN.{ℤ}
use Rattle.lingua.specs.Store.{within}
use Rattle.cells.proofs.Moves.{cell_back}
use Rattle.erased_store.proofs.Assigning.{outside, inside}
use Rattle.erased_store.proofs.store.store_within.Goals as goal

pub returns-then-not-in_limits-clause-settles : goal.returns-then-not-in_limits-clause-settles
returns-then-not-in_limits-clause-settles c = λ p a rows layout vs x w l f s. outside w _ l f s _ (λ l q. c.in_limits.ensures l q ∙ ap (λ (z : ℤ). within l z) (cell_back _ c.in_limits-arg-1.given)) c.if-not-in_limits.true

pub returns-clause-settles : goal.returns-clause-settles
returns-clause-settles c = λ p a rows layout vs x w l f s. inside w _ l f s _ (λ l q. c.in_limits.ensures l q ∙ ap (λ (z : ℤ). within l z) (cell_back _ c.in_limits-arg-1.given)) c.if-not-in_limits.false _ _ c.put.ensures.cells_after c.put.ensures.states_after
