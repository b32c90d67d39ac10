-- `store` meets its contract: by that of `store_within`, on the stack or on the copy, or with the yoke's error. Assumes nothing.
use mathlib.Core.Path.{ap}
use native.Mathlib.Omega.{arith}
use Rattle.lingua.specs.Faults.{number_of}
use Rattle.laws.specs.Faults.{passed_on}
use Rattle.erased_row.proofs.Leaving.{no_zero}
use Rattle.run.proofs.Parts.{word_room}
use Rattle.run.proofs.Settling.{keeps}
use Rattle.erased_row.proofs.Cycle.{memory_of}
use Rattle.erased_store.proofs.Seeing.{same_cells, same_states}
use Rattle.erased_store.proofs.Assigning.{yoke_there, always_satisfied, value_ready, own_admits, yoke_fails, room}
use Rattle.erased_store.proofs.Values.{value_copied}
use borrow.Author.Rules.{rules}
use Rattle.erased_store.proofs.store.store.Goals as goal

pub yoke_in-yoke-requires : goal.yoke_in-yoke-requires
yoke_in-yoke-requires c = let r = c.requires.storable in word_room (memory_of r.running.world) _ r.there

pub store_within-requires : goal.store_within-requires
store_within-requires c = let r = c.requires.storable in room r.running _ r.there r.is (omega (arith, c.requires.count_in_bounds))

pub returns-then-yoke-eq0-clause-settles : goal.returns-then-yoke-eq0-clause-settles
returns-then-yoke-eq0-clause-settles c = λ p a vs x w l f. c.store_within.ensures.settles p a _ _ vs x w l f (always_satisfied w _ l c.yoke_in-yoke.ensures x c.if-yoke-eq0.true)

pub satisfies-requires-clause-ready_yoke : goal.satisfies-requires-clause-ready_yoke
satisfies-requires-clause-ready_yoke c = let r = c.requires.storable in rw (same_cells c.seen.ensures) (rw (same_states c.seen.ensures) (value_ready r.running c.args.n r.there (value_copied r.is _ c.copy.ensures) c.yoke_in-yoke.ensures))

pub satisfies-requires-clause-y_le_count : goal.satisfies-requires-clause-y_le_count
satisfies-requires-clause-y_le_count c = let r = c.requires.storable in yoke_there r.running c.args.n r.there c.yoke_in-yoke.ensures

pub satisfies-requires-clause-y_in_bounds : goal.satisfies-requires-clause-y_in_bounds
satisfies-requires-clause-y_in_bounds c = let r = c.requires.storable in omega (arith, yoke_there r.running c.args.n r.there c.yoke_in-yoke.ensures, c.requires.count_in_bounds)

pub returns-in_err-satisfies-clause-settles : goal.returns-in_err-satisfies-clause-settles
returns-in_err-satisfies-clause-settles c = λ p a vs x w l f. rw (passed_on _ _ c.from_residual.ensures.1) (keeps _ (no_zero _) (yoke_fails w _ x f.declared_body_lem (own_admits w _ l (value_copied f _ c.copy.ensures) c.yoke_in-yoke.ensures (rw (same_states c.seen.ensures) at (rw (same_cells c.seen.ensures) at c.in_err-satisfies.ensures))) (no_zero _)))

pub store_within-requires-2 : goal.store_within-requires-2
store_within-requires-2 c = let r = c.requires.storable in room r.running _ r.there (value_copied r.is _ c.copy.ensures) (search rules)

pub returns-clause-settles : goal.returns-clause-settles
returns-clause-settles c = λ p a vs x w l f. let g = value_copied f _ c.copy.ensures in c.store_within-2.ensures.settles p a _ _ vs x w l g (record { holds = (own_admits w _ l g c.yoke_in-yoke.ensures (rw (same_states c.seen.ensures) at (rw (same_cells c.seen.ensures) at c.satisfies.ensures))).answer (ap number_of c.in_ok-satisfies.was) })
