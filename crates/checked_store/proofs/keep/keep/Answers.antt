-- `keep` meets its contract: a record by `record_stored`, any other value by `other_stored`. Assumes nothing.
use mathlib.Core.Path.{refl}
use Rattle.body.proofs.Tags.{not_record}
use Rattle.checked_store.proofs.Replacing.{record_stored, other_stored}
use Rattle.checked_store.proofs.keep.keep.Goals as goal

pub returns-then-value-eq-RECORD-clause-stores_value : goal.returns-then-value-eq-RECORD-clause-stores_value
returns-then-value-eq-RECORD-clause-stores_value c = record { running = λ rows limits vs x w l cur width same. record_stored w _ l cur width _ _ _ c.put.ensures.states_after c.requires.long _ c.put.ensures.cells_after c.clear.ensures c.keep.ensures }

pub returns-else-value-eq-RECORD-clause-stores_value : goal.returns-else-value-eq-RECORD-clause-stores_value
returns-else-value-eq-RECORD-clause-stores_value c = record { running = λ rows limits vs x w l cur width same. other_stored w _ l cur width _ _ _ c.put.ensures.states_after (not_record _ _ cur.holds c.if-value-eq-RECORD.false) same c.put.ensures.cells_after refl }
