-- `opening::leaf::assignment` meets its contract: passed over, out, or settled. Assumes nothing.
use Rattle.std.proofs.Common.{sym, ◌∙◌}
use Rattle.profile.specs.Facts.{instruction_row_tree}
use Rattle.run.specs.Instructing.{assign_passed, assign_out, assign_settled}
use Rattle.opening.proofs.Rows.{leaf_narrow, leaf_executes, assign_there, assign_row}
use Rattle.opening.proofs.leaf.assignment.Goals as goal

pub returns-then-is_some-clause-executes : goal.returns-then-is_some-clause-executes
unfolding instruction_row_tree
returns-then-is_some-clause-executes g c = leaf_executes c.requires.asked_leaf c.requires.assign_at (λ p b vs h k calls o. assign_passed calls vs h c.requires.asked_leaf.going _ _ _ (sym c.is_some.ensures ∙ c.if-is_some.true))

pub returns-then-taken-clause-executes : goal.returns-then-taken-clause-executes
unfolding instruction_row_tree
returns-then-taken-clause-executes g c = leaf_executes c.requires.asked_leaf c.requires.assign_at (λ p b vs h k calls o. assign_out calls vs h c.requires.asked_leaf.going _ _ _ c.stepped-taken.ensures (sym c.is_some.ensures ∙ c.if-is_some.false) c.if-taken.true)

pub assign-stored-requires-clause-standing : goal.assign-stored-requires-clause-standing
assign-stored-requires-clause-standing g c = (record { profile = c.requires.asked_leaf.profile; scope = c.requires.asked_leaf.scope; store = c.requires.asked_leaf.store; holds = c.requires.asked_leaf.holds; of_scope = assign_row c.requires.asked_leaf c.requires.assign_at c.requires.asked_leaf.scope c.requires.asked_leaf.holds.here c.requires.asked_leaf.under; enough = c.requires.asked_leaf.enough })

pub assign-stored-requires-clause-e_lt_count : goal.assign-stored-requires-clause-e_lt_count
assign-stored-requires-clause-e_lt_count g c = (assign_there c.requires.asked_leaf c.requires.assign_at)

pub returns-clause-executes : goal.returns-clause-executes
unfolding instruction_row_tree
returns-clause-executes g c = leaf_executes c.requires.asked_leaf c.requires.assign_at (λ p b vs h k calls o. assign_settled calls vs h c.requires.asked_leaf.going _ _ _ c.stepped-taken.ensures (sym c.is_some.ensures ∙ c.if-is_some.false) _ _ c.if-taken.false (c.assign-stored.ensures.stores.settles p b vs (assign_row c.requires.asked_leaf c.requires.assign_at b h.here k) h) c.settled.ensures)

pub overflow_cast-row : goal.overflow_cast-row
overflow_cast-row g c = record { fits = leaf_narrow c.requires.asked_leaf }
