-- `admitted` meets its contract: one law of Admitting.antt for each way that it ends. Assumes nothing.
use mathlib.Core.Path.{ap, ◌∙◌}
use native.Mathlib.Omega.{arith}
use lib.IntN.{ℤ}
use Rattle.cells.proofs.Moves.{cell_back}
use Rattle.lingua.specs.Store.{variable_at, within}
use Rattle.run.proofs.Parts.{word_room}
use Rattle.checked_row.proofs.Storing.{memory_of, body_room, present_held}
use Rattle.laws.specs.Faults.{passed_on}
use Rattle.checked_store.proofs.Admitting.{yoke_there, own_yoke, yoke_error, other_body, no_truth, not_satisfied, out_of_limits, passes}
use Rattle.checked_store.proofs.admit.admitted.Goals as goal

pub yoke_of-yoke-requires : goal.yoke_of-yoke-requires
yoke_of-yoke-requires c = let r = c.requires.checkable in word_room (memory_of r.running.world.stored) _ r.there

pub eval_yoke-given-requires-clause-y_le_count : goal.eval_yoke-given-requires-clause-y_le_count
eval_yoke-given-requires-clause-y_le_count c =
    let r = c.requires.checkable in
    yoke_there r.running c.args.n r.there c.yoke_of-yoke.ensures

pub eval_yoke-given-requires-clause-y_in_bounds : goal.eval_yoke-given-requires-clause-y_in_bounds
eval_yoke-given-requires-clause-y_in_bounds c =
    let r = c.requires.checkable in
    let y = yoke_there r.running c.args.n r.there c.yoke_of-yoke.ensures in
    (omega (arith, y, c.requires.count_in_bounds))

pub returns-in_err-given : goal.returns-in_err-given
returns-in_err-given c = λ vs x w l h. rw (passed_on _ _ c.from_residual.ensures.1) (yoke_error vs _ x (own_yoke w _ l c.yoke_of-yoke.ensures x (c.eval_yoke-given.ensures vs x w.world h)) _ c.in_err-given.was)

pub taken-own-requires : goal.taken-own-requires
taken-own-requires c = let r = c.requires.checkable in body_room r.running.world.stored _ r.there

pub coherent-requires-clause-held : goal.coherent-requires-clause-held
coherent-requires-clause-held c =
    let r = c.requires.checkable in
    (record { body = _; holds = present_held r.running.world.stored _ r.there _ c.taken-own.ensures })

pub returns-then-not-coherent : goal.returns-then-not-coherent
returns-then-not-coherent c = λ vs x w l h. other_body vs _ x (own_yoke w _ l c.yoke_of-yoke.ensures x (c.eval_yoke-given.ensures vs x w.world h)) c.in_ok-given.was (c.coherent.ensures _ _ (present_held w.world.stored c.args.n l _ c.taken-own.ensures) h.holds) c.if-not-coherent.true

pub returns-in_err-truth_of : goal.returns-in_err-truth_of
returns-in_err-truth_of c = λ vs x w l h. rw (passed_on _ _ c.from_residual-in_err-truth_of.ensures.1) (no_truth vs _ x (own_yoke w _ l c.yoke_of-yoke.ensures x (c.eval_yoke-given.ensures vs x w.world h)) c.in_ok-given.was (c.coherent.ensures _ _ (present_held w.world.stored c.args.n l _ c.taken-own.ensures) h.holds) c.if-not-coherent.false _ (c.in_err-truth_of.ensures _ (own_yoke w _ l c.yoke_of-yoke.ensures x (c.eval_yoke-given.ensures vs x w.world h))))

pub returns-then-not-branch : goal.returns-then-not-branch
returns-then-not-branch c = λ vs x w l h. not_satisfied vs _ x (own_yoke w _ l c.yoke_of-yoke.ensures x (c.eval_yoke-given.ensures vs x w.world h)) c.in_ok-given.was (c.coherent.ensures _ _ (present_held w.world.stored c.args.n l _ c.taken-own.ensures) h.holds) c.if-not-coherent.false (c.in_ok-truth_of.ensures _ (own_yoke w _ l c.yoke_of-yoke.ensures x (c.eval_yoke-given.ensures vs x w.world h))) c.if-not-branch.true

pub returns-then-not-in_limits : goal.returns-then-not-in_limits
returns-then-not-in_limits c = λ vs x w l h. out_of_limits vs _ x (own_yoke w _ l c.yoke_of-yoke.ensures x (c.eval_yoke-given.ensures vs x w.world h)) c.in_ok-given.was (c.coherent.ensures _ _ (present_held w.world.stored c.args.n l _ c.taken-own.ensures) h.holds) c.if-not-coherent.false (c.in_ok-truth_of.ensures _ (own_yoke w _ l c.yoke_of-yoke.ensures x (c.eval_yoke-given.ensures vs x w.world h))) c.if-not-branch.false (c.in_limits.ensures _ (w.limited c.args.n l) ∙ ap (λ (z : ℤ). within (variable_at vs c.args.n).limit z) (cell_back _ c.whole-z.type_inv ∙ c.whole-z.ensures x h)) c.if-not-in_limits.true

pub returns : goal.returns
returns c = λ vs x w l h. passes vs _ x (own_yoke w _ l c.yoke_of-yoke.ensures x (c.eval_yoke-given.ensures vs x w.world h)) c.in_ok-given.was (c.coherent.ensures _ _ (present_held w.world.stored c.args.n l _ c.taken-own.ensures) h.holds) c.if-not-coherent.false (c.in_ok-truth_of.ensures _ (own_yoke w _ l c.yoke_of-yoke.ensures x (c.eval_yoke-given.ensures vs x w.world h))) c.if-not-branch.false (c.in_limits.ensures _ (w.limited c.args.n l) ∙ ap (λ (z : ℤ). within (variable_at vs c.args.n).limit z) (cell_back _ c.whole-z.type_inv ∙ c.whole-z.ensures x h)) c.if-not-in_limits.false
