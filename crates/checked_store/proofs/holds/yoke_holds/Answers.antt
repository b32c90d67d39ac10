-- `yoke_holds` meets its contract: one law of Yoking.antt for each way that it ends. Assumes nothing.
use mathlib.Core.Path.{sym, ◌∙◌}
use Rattle.laws.specs.Faults.{passed_on}
use Rattle.run.proofs.Parts.{cells_room}
use Rattle.checked_row.proofs.Storing.{memory_of, flag_there, filled_there, body_room}
use Rattle.checked_store.proofs.Yoking.{fetched, none_holds, holds_error, holds_not, holds_true}
use Rattle.checked_store.proofs.holds.yoke_holds.Goals as goal

pub is_filled-requires : goal.is_filled-requires
is_filled-requires c = let r = c.requires.has_world in flag_there r.world.stored _ c.requires.n_lt_most_variables

pub returns-then-not-is_filled : goal.returns-then-not-is_filled
returns-then-not-is_filled c = λ vs w. none_holds _ _ _ vs c.args.n w.stored _ (sym c.is_filled.ensures ∙ c.if-not-is_filled.true)

pub taken-requires : goal.taken-requires
taken-requires c = let r = c.requires.has_world in body_room r.world.stored _ (filled_there r.world.stored _ (sym c.is_filled.ensures ∙ c.if-not-is_filled.false))

pub slice_bounds-value-end : goal.slice_bounds-value-end
slice_bounds-value-end c = let r = c.requires.has_world in cells_room (memory_of r.world.stored) _ (filled_there r.world.stored _ (sym c.is_filled.ensures ∙ c.if-not-is_filled.false))

pub eval_yoke-given-requires-clause-ready : goal.eval_yoke-given-requires-clause-ready
eval_yoke-given-requires-clause-ready c =
    let r = c.requires.has_world in
    let f = fetched _ _ _ r.store c.args.n r.world.stored _ c.taken.ensures (sym c.is_filled.ensures ∙ c.if-not-is_filled.false) in
    (record { store = r.store; world = r.world; has = record { value = f.composite; is = f.current } })

pub returns-in_err-truth_of : goal.returns-in_err-truth_of
returns-in_err-truth_of c = λ vs w.
    let f = fetched _ _ _ vs c.args.n w.stored _ c.taken.ensures (sym c.is_filled.ensures ∙ c.if-not-is_filled.false) in
    rw (passed_on _ _ c.from_residual.ensures.1) (holds_error vs _ _ f.composite f.is _ (c.in_err-truth_of.ensures _ (c.eval_yoke-given.ensures vs f.composite w f.current)))

pub returns-then-not-branch : goal.returns-then-not-branch
returns-then-not-branch c = λ vs w.
    let f = fetched _ _ _ vs c.args.n w.stored _ c.taken.ensures (sym c.is_filled.ensures ∙ c.if-not-is_filled.false) in
    holds_not vs _ _ f.composite f.is _ (c.in_ok-truth_of.ensures _ (c.eval_yoke-given.ensures vs f.composite w f.current)) c.if-not-branch.true

pub returns : goal.returns
returns c = λ vs w.
    let f = fetched _ _ _ vs c.args.n w.stored _ c.taken.ensures (sym c.is_filled.ensures ∙ c.if-not-is_filled.false) in
    holds_true vs _ _ f.composite f.is _ (c.in_ok-truth_of.ensures _ (c.eval_yoke-given.ensures vs f.composite w f.current)) c.if-not-branch.false
