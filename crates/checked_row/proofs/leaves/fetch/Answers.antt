-- `fetch` meets its contract, by `gives_variable`. Assumes nothing.
use mathlib.Core.Path.{refl, sym, ◌∙◌}
use native.Mathlib.Omega.{arith}
use Rattle.checked_row.proofs.Giving.{gives_error}
use Rattle.checked_row.proofs.Storing.{flag_there, filled_there, body_room, present_held, cells_within, not_filled_is, gives_variable}
use Rattle.checked_row.proofs.leaves.fetch.Goals as goal

pub is_filled-requires : goal.is_filled-requires
is_filled-requires c = let h = c.requires.has_stored in flag_there h.stored _ h.there

pub returns-then-not-is_filled : goal.returns-then-not-is_filled
returns-then-not-is_filled c = λ vs h. gives_error _ (not_filled_is h _ (sym c.is_filled.ensures ∙ c.if-not-is_filled.true))

pub taken-body-requires : goal.taken-body-requires
taken-body-requires c =
    let h = c.requires.has_stored in
    body_room h.stored _ (filled_there h.stored _ (sym c.is_filled.ensures ∙ c.if-not-is_filled.false))

pub measure_body-m-requires : goal.measure_body-m-requires
measure_body-m-requires c =
    let h = c.requires.has_stored in
    let lt = filled_there h.stored _ (sym c.is_filled.ensures ∙ c.if-not-is_filled.false) in
    record { body = _; holds = present_held h.stored _ lt _ c.taken-body.ensures }

pub copy-requires-clause-n_in_bounds : goal.copy-requires-clause-n_in_bounds
copy-requires-clause-n_in_bounds c =
    let h = c.requires.has_stored in
    let lt = filled_there h.stored _ (sym c.is_filled.ensures ∙ c.if-not-is_filled.false) in
    (cells_within h.stored _ lt _ c.taken-body.ensures (λ b k. (c.measure_body-m.ensures b k).is_cells)).0

pub copy-requires-clause-n_in_bounds_2 : goal.copy-requires-clause-n_in_bounds_2
copy-requires-clause-n_in_bounds_2 c =
    let h = c.requires.has_stored in
    let lt = filled_there h.stored _ (sym c.is_filled.ensures ∙ c.if-not-is_filled.false) in
    omega (arith, (cells_within h.stored _ lt _ c.taken-body.ensures (λ b k. (c.measure_body-m.ensures b k).is_cells)).1, c.requires.body_cells_in_bounds)

pub returns : goal.returns
returns c = λ vs h.
    let g = sym c.is_filled.ensures ∙ c.if-not-is_filled.false in
    let l = filled_there h _ g in
    gives_variable h _ l c.args.stack.now _ _ _ _ g c.taken-body.ensures (c.measure_body-m.ensures _ (present_held h _ l _ c.taken-body.ensures)).is_cells c.copy.ensures refl refl
