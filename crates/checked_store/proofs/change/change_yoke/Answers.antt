-- `change_yoke` meets its contract, by `not_changed` and `changed`. Assumes nothing.
use mathlib.Core.Path.{refl}
use Rattle.laws.specs.Faults.{passed_on, error_some}
use Rattle.run.proofs.Parts.{word_room}
use Rattle.checked_row.proofs.Storing.{memory_of}
use Rattle.checked_store.proofs.Changing.{not_changed, changed}
use Rattle.checked_store.proofs.change.change_yoke.Goals as goal

pub returns-in_err-yoke_holds : goal.returns-in_err-yoke_holds
returns-in_err-yoke_holds c = λ vs w l. rw (passed_on _ _ c.from_residual.ensures.1) (not_changed w c.args.n l c.args.y _ (rw c.from.ensures at (c.in_err-yoke_holds.ensures vs w.world)) (error_some _))

pub set_yoke-requires : goal.set_yoke-requires
set_yoke-requires c = let r = c.requires.has_running in word_room (memory_of r.running.world.stored) _ r.there

pub returns : goal.returns
returns c = λ vs w l. changed w c.args.n l c.args.y _ (rw c.from.ensures at (c.in_ok-yoke_holds.ensures vs w.world)) refl c.requires.y_le_count _ c.set_yoke.ensures
