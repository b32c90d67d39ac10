-- `opening::leaf::yoke_change` meets its contract: passed over, out, or settled. Assumes nothing.
use Rattle.std.proofs.Common.{sym, ◌∙◌}
use Rattle.profile.specs.Facts.{instruction_row_tree}
use Rattle.run.specs.Instructing.{change_passed, change_out, change_settled}
use Rattle.opening.proofs.Rows.{leaf_narrow, leaf_executes, yoke_there, yoke_row, few_yokes}
use Rattle.opening.proofs.leaf.yoke_change.Goals as goal

pub returns-then-is_some-clause-executes : goal.returns-then-is_some-clause-executes
unfolding instruction_row_tree
returns-then-is_some-clause-executes g c = leaf_executes c.requires.asked_leaf c.requires.set_yoke_at (λ p b vs h k calls o. change_passed calls vs h c.requires.asked_leaf.going _ _ _ (sym c.is_some.ensures ∙ c.if-is_some.true))

pub returns-then-taken-clause-executes : goal.returns-then-taken-clause-executes
unfolding instruction_row_tree
returns-then-taken-clause-executes g c = leaf_executes c.requires.asked_leaf c.requires.set_yoke_at (λ p b vs h k calls o. change_out calls vs h c.requires.asked_leaf.going _ _ _ c.stepped-taken.ensures (sym c.is_some.ensures ∙ c.if-is_some.false) c.if-taken.true)

pub change_yoke-changed-requires-clause-standing : goal.change_yoke-changed-requires-clause-standing
change_yoke-changed-requires-clause-standing g c = (record { profile = c.requires.asked_leaf.profile; scope = c.requires.asked_leaf.scope; store = c.requires.asked_leaf.store; holds = c.requires.asked_leaf.holds; of_scope = yoke_row c.requires.asked_leaf c.requires.set_yoke_at c.requires.asked_leaf.scope c.requires.asked_leaf.holds.here c.requires.asked_leaf.under; enough = c.requires.asked_leaf.enough })

pub change_yoke-changed-requires-clause-y_le_count : goal.change_yoke-changed-requires-clause-y_le_count
change_yoke-changed-requires-clause-y_le_count g c = (yoke_there c.requires.asked_leaf c.requires.set_yoke_at)

pub returns-clause-executes : goal.returns-clause-executes
unfolding instruction_row_tree
returns-clause-executes g c = leaf_executes c.requires.asked_leaf c.requires.set_yoke_at (λ p b vs h k calls o. change_settled calls vs h c.requires.asked_leaf.going _ _ _ c.stepped-taken.ensures (sym c.is_some.ensures ∙ c.if-is_some.false) _ _ c.if-taken.false (c.change_yoke-changed.ensures.stores.settles p b vs (yoke_row c.requires.asked_leaf c.requires.set_yoke_at b h.here k) h) c.settled.ensures)

pub overflow_cast-y : goal.overflow_cast-y
overflow_cast-y g c = record { fits = few_yokes c.requires.asked_leaf c.requires.set_yoke_at }

pub overflow_cast-row : goal.overflow_cast-row
overflow_cast-row g c = record { fits = leaf_narrow c.requires.asked_leaf }
