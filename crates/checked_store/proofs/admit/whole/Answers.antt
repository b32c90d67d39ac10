-- `whole` meets its contract, by `whole_is` and `other_whole`. Assumes nothing.
use mathlib.Core.Path.{◌∙◌}
use native.Mathlib.Omega.{arith}
use Rattle.cells.proofs.Moves.{cell_back}
use Rattle.checked_store.proofs.Admitting.{number_counts, hundredths_counts, other_counts, quantity_room, whole_is, other_whole}
use Rattle.checked_store.proofs.admit.whole.Goals.{then-tag-eq-NUMBER-via-then-tag-eq-NUMBER, then-tag-eq-NUMBER-via-else-tag-eq-NUMBER+then-tag-eq-HUNDREDTHS}
use Rattle.checked_store.proofs.admit.whole.Goals as goal

pub bounds-value-0-then-tag-eq-NUMBER : goal.bounds-value-0-then-tag-eq-NUMBER
bounds-value-0-then-tag-eq-NUMBER c =
    let h = c.requires.is in
    quantity_room h (elim c.then-tag-eq-NUMBER.branch [ then-tag-eq-NUMBER-via-then-tag-eq-NUMBER w ↦ number_counts _ _ h.holds w.if-tag-eq-NUMBER.true | then-tag-eq-NUMBER-via-else-tag-eq-NUMBER+then-tag-eq-HUNDREDTHS w ↦ hundredths_counts _ _ h.holds w.if-tag-eq-HUNDREDTHS.true ])

pub returns-then-tag-eq-NUMBER : goal.returns-then-tag-eq-NUMBER
returns-then-tag-eq-NUMBER c = λ x h.
    cell_back _ (omega arith)
    ∙ whole_is h (elim c.then-tag-eq-NUMBER.branch [ then-tag-eq-NUMBER-via-then-tag-eq-NUMBER w ↦ number_counts _ _ h.holds w.if-tag-eq-NUMBER.true | then-tag-eq-NUMBER-via-else-tag-eq-NUMBER+then-tag-eq-HUNDREDTHS w ↦ hundredths_counts _ _ h.holds w.if-tag-eq-HUNDREDTHS.true ])

pub returns : goal.returns
returns c = λ x h. other_whole h (other_counts _ _ h.holds c.if-tag-eq-NUMBER.false c.if-tag-eq-HUNDREDTHS.false)
