-- `change_yoke` meets its contract, by `not_changed` and `changed`. Assumes nothing.
use mathlib.Core.Path.{ap}
use Rattle.lingua.specs.Faults.{number_of}
use Rattle.laws.specs.Faults.{passed_on}
use Rattle.erased_row.proofs.Leaving.{no_zero}
use Rattle.run.proofs.Parts.{word_room}
use Rattle.erased_row.proofs.Cycle.{memory_of}
use Rattle.erased_store.proofs.Instructions.{yoke_there, change_ready, not_changed, changed}
use Rattle.erased_store.proofs.change.change_yoke.Goals as goal

pub yoke_holds-requires-clause-has_change : goal.yoke_holds-requires-clause-has_change
yoke_holds-requires-clause-has_change c = let r = c.requires.has_running in change_ready r.running r.of_scope (yoke_there r.running r.of_scope)

pub returns-in_err-yoke_holds : goal.returns-in_err-yoke_holds
returns-in_err-yoke_holds c = λ p a vs w row. rw (passed_on _ _ c.from_residual.ensures.1) (not_changed w row (yoke_there w row) c.in_err-yoke_holds.ensures (no_zero _))

pub set_yoke-requires : goal.set_yoke-requires
set_yoke-requires c = let r = c.requires.has_running in word_room (memory_of r.running.world) _ (yoke_there r.running r.of_scope)

pub returns : goal.returns
returns c = λ p a vs w row. changed w row (yoke_there w row) c.yoke_holds.ensures (ap number_of c.in_ok-yoke_holds.was) c.requires.y_le_count _ c.set_yoke.ensures
