-- `assign` meets its contract, by those of `eval_plain` and `store`. Assumes nothing.
use mathlib.Core.Path.{ap}
use Rattle.lingua.specs.Faults.{number_of}
use Rattle.laws.specs.Faults.{passed_on}
use Rattle.erased_row.proofs.Leaving.{no_zero}
use Rattle.erased_row.proofs.Passing.{layout_room}
use Rattle.erased_store.proofs.Seeing.{same_cells, same_states}
use Rattle.erased_store.proofs.Instructions.{assign_there, assign_ready, not_assigned, given, given_value, assigned_settles}
use Rattle.erased_store.proofs.assign.assign.Goals as goal

pub eval_plain-requires-clause-ready_plain : goal.eval_plain-requires-clause-ready_plain
eval_plain-requires-clause-ready_plain c = let r = c.requires.has_running in rw (same_cells c.seen.ensures) (rw (same_states c.seen.ensures) (assign_ready r.running r.of_scope))

pub returns-in_err-eval_plain-clause-settles : goal.returns-in_err-eval_plain-clause-settles
returns-in_err-eval_plain-clause-settles c = λ p a vs w row. rw (passed_on _ _ c.from_residual.ensures.1) (not_assigned w row (rw (same_states c.seen.ensures) at (rw (same_cells c.seen.ensures) at c.in_err-eval_plain.ensures)) (no_zero _))

pub size_at-width-requires : goal.size_at-width-requires
size_at-width-requires c = layout_room c.requires.has_running.running.world c.requires.e_lt_count

pub store-requires-clause-storable : goal.store-requires-clause-storable
store-requires-clause-storable c = let r = c.requires.has_running in let e = (rw (same_states c.seen.ensures) at (rw (same_cells c.seen.ensures) at c.eval_plain.ensures)) in (record { profile = r.profile; scope = r.scope; store = r.store; running = r.running; there = assign_there r.running r.of_scope; composite = given r.running r.of_scope e (ap number_of c.in_ok-eval_plain.was); is = given_value r.running r.of_scope e (ap number_of c.in_ok-eval_plain.was) c.requires.e_lt_count _ c.size_at-width.ensures })

pub returns-clause-settles : goal.returns-clause-settles
returns-clause-settles c = λ p a vs w row. let e = (rw (same_states c.seen.ensures) at (rw (same_cells c.seen.ensures) at c.eval_plain.ensures)) in assigned_settles w row e (ap number_of c.in_ok-eval_plain.was) (c.store.ensures.settles p a vs _ w (assign_there w row) (given_value w row e (ap number_of c.in_ok-eval_plain.was) c.requires.e_lt_count _ c.size_at-width.ensures))
