-- `copy` meets its contract: by that of `store_within` on the variable's own cells, or with the yoke's error, or that there is no value. Assumes
-- nothing.
use mathlib.Core.Path.{ap, sym, ◌∙◌}
use native.Mathlib.Omega.{arith}
use Rattle.lingua.specs.Faults.{number_of}
use Rattle.laws.specs.Faults.{passed_on}
use Rattle.erased_row.proofs.Leaving.{no_zero}
use Rattle.run.proofs.Parts.{states_room, word_room, cells_room}
use Rattle.run.proofs.Settling.{keeps, settles_as}
use Rattle.erased_row.proofs.Cycle.{memory_of}
use Rattle.erased_store.proofs.Seeing.{same_cells, same_states}
use Rattle.erased_store.proofs.Assigning.{yoke_there, value_ready, own_admits, yoke_fails, room}
use Rattle.erased_store.proofs.Copying.{not_copied, copied_is, given_part}
use borrow.Author.Rules.{rules}
use Rattle.erased_store.proofs.copy.copy.Goals as goal

pub is_filled-requires : goal.is_filled-requires
is_filled-requires c = let r = c.requires.has_copy in states_room (memory_of r.giving.world) _ r.there

pub returns-then-not-is_filled-clause-settles : goal.returns-then-not-is_filled-clause-settles
returns-then-not-is_filled-clause-settles c = λ p a b theirs bodies vs ws v l w k q. keeps _ (λ z. omega arith) (not_copied v _ l (sym c.is_filled.ensures ∙ c.if-not-is_filled.true) ws c.args.m)

pub slice_bounds-value-end : goal.slice_bounds-value-end
slice_bounds-value-end c = let r = c.requires.has_copy in cells_room (memory_of r.giving.world) _ r.there

pub yoke_in-yoke-requires : goal.yoke_in-yoke-requires
yoke_in-yoke-requires c = let r = c.requires.has_copy in word_room (memory_of r.running.world) _ r.taking

pub satisfies-requires-clause-ready_yoke : goal.satisfies-requires-clause-ready_yoke
satisfies-requires-clause-ready_yoke c =
    let r = c.requires.has_copy in
    let f = given_part r.giving c.args.n r.there (sym c.is_filled.ensures ∙ c.if-not-is_filled.false) r.same in
    rw (same_cells c.seen.ensures) (rw (same_states c.seen.ensures) (value_ready r.running c.args.m r.taking f c.yoke_in-yoke.ensures))

pub satisfies-requires-clause-y_le_count : goal.satisfies-requires-clause-y_le_count
satisfies-requires-clause-y_le_count c = let r = c.requires.has_copy in yoke_there r.running c.args.m r.taking c.yoke_in-yoke.ensures

pub satisfies-requires-clause-y_in_bounds : goal.satisfies-requires-clause-y_in_bounds
satisfies-requires-clause-y_in_bounds c = let r = c.requires.has_copy in omega (arith, yoke_there r.running c.args.m r.taking c.yoke_in-yoke.ensures, c.requires.count_in_bounds)

pub returns-in_err-satisfies-clause-settles : goal.returns-in_err-satisfies-clause-settles
returns-in_err-satisfies-clause-settles c = λ p a b theirs bodies vs ws v l w k q. let e = sym c.is_filled.ensures ∙ c.if-not-is_filled.false in let f = given_part v c.args.n l e q in rw (passed_on _ _ c.from_residual.ensures.1) (keeps _ (no_zero _) (sym (copied_is v c.args.n l e ws c.args.m) ∙ yoke_fails w c.args.m _ f.declared_body_lem (own_admits w c.args.m k f c.yoke_in-yoke.ensures (rw (same_states c.seen.ensures) at (rw (same_cells c.seen.ensures) at c.in_err-satisfies.ensures))) (no_zero _)))

pub store_within-requires : goal.store_within-requires
store_within-requires c =
    let r = c.requires.has_copy in
    let f = given_part r.giving c.args.n r.there (sym c.is_filled.ensures ∙ c.if-not-is_filled.false) r.same in
    room r.running c.args.m r.taking f (search rules)

pub returns-clause-settles : goal.returns-clause-settles
returns-clause-settles c = λ p a b theirs bodies vs ws v l w k q.
    let e = sym c.is_filled.ensures ∙ c.if-not-is_filled.false in
    let f = given_part v c.args.n l e q in
    settles_as (copied_is v c.args.n l e ws c.args.m) (c.store_within.ensures.settles p b _ _ ws _ w k f (record { holds = (own_admits w c.args.m k f c.yoke_in-yoke.ensures (rw (same_states c.seen.ensures) at (rw (same_cells c.seen.ensures) at c.satisfies.ensures))).answer (ap number_of c.in_ok-satisfies.was) }))
