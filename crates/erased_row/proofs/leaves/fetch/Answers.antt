-- `fetch` meets its contract, by `leaves_empty` and `leaves_filled`. Assumes nothing.
use mathlib.Core.Path.{sym, ◌∙◌}
use native.Mathlib.Omega.{arith}
use Rattle.run.proofs.Parts.{cells_room}
use Rattle.erased_row.proofs.Storing.{flag_there, filled_there, leaves_empty, leaves_filled}
use Rattle.erased_row.proofs.leaves.fetch.Goals as goal

pub is_filled-requires : goal.is_filled-requires
is_filled-requires c = let h = c.requires.has_variable in flag_there h.memory _ h.few

pub returns-then-not-is_filled : goal.returns-then-not-is_filled
returns-then-not-is_filled c = λ vs vars h z. leaves_empty h _ _ _ (sym c.is_filled.ensures ∙ c.if-not-is_filled.true)

pub copy-requires-clause-n_in_bounds : goal.copy-requires-clause-n_in_bounds
copy-requires-clause-n_in_bounds c =
    let h = c.requires.has_variable in
    let l = filled_there h.memory _ (sym c.is_filled.ensures ∙ c.if-not-is_filled.false) in
    (omega (arith, cells_room h.memory _ l, c.size_at-size.ensures, h.size_is, h.memory.small c.args.n l))

pub copy-requires-clause-n_in_bounds_2 : goal.copy-requires-clause-n_in_bounds_2
copy-requires-clause-n_in_bounds_2 c =
    let h = c.requires.has_variable in
    let l = filled_there h.memory _ (sym c.is_filled.ensures ∙ c.if-not-is_filled.false) in
    (omega (arith, c.size_at-size.ensures, h.size_is, h.memory.small c.args.n l, c.requires.body_cells_in_bounds))

pub returns : goal.returns
returns c = λ vs vars h z. leaves_filled h _ c.args.stack.now _ _ (sym c.is_filled.ensures ∙ c.if-not-is_filled.false) (c.size_at-size.ensures ∙ z) c.copy.ensures
