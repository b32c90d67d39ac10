-- Whose variables a row names: 1 + the first procedure whose body leads to it. What a body that leads to the row holds, and is no further
-- than any such body, is the row's scope (`step_scope`, `use_scope`). Assumes nothing.
use Rattle.std.specs.Prelude.{◌≡◌, ℕ, suc, ◌≤◌, ◌<◌}
use mathlib.Core.List.{List, Memᴰ as In}
use Rattle.lingua.specs.Errors.{is_among}
use Rattle.lingua.specs.Rows.{procedure_count, body_row}
use Rattle.lingua.specs.Trees.{instruction_scope, expression_scope}
use Rattle.laws.specs.Among.{in_true, true_in}
use Rattle.laws.specs.Firsts.{Near, first_held, first_near, first_is, first_at_most}
use Rattle.laws.specs.Reached.{steps_of, used_from}

module _ (rows : List ℕ) where
  -- what a body that leads to the row holds, and is no further than any such body, is the row's scope
  pub step_scope : (x v : ℕ) → ((k : ℕ) → v ≡ suc k → (k < procedure_count rows) × In x (steps_of rows (body_row rows k)))
      → ((k : ℕ) → k < procedure_count rows → In x (steps_of rows (body_row rows k)) → Near v (suc k)) → v ≡ instruction_scope rows x
  unfolding instruction_scope
  step_scope x v f g =
      first_is (λ k. is_among (steps_of rows (body_row rows k)) x) (procedure_count rows) v (λ k e. let s = f k e in (s.0, in_true s.1)) (λ k l e. g k l (true_in x (steps_of rows (body_row rows k)) e))

  pub use_scope : (x v : ℕ) → ((k : ℕ) → v ≡ suc k → (k < procedure_count rows) × In x (used_from rows (body_row rows k)))
      → ((k : ℕ) → k < procedure_count rows → In x (used_from rows (body_row rows k)) → Near v (suc k)) → v ≡ expression_scope rows x
  unfolding expression_scope
  use_scope x v f g =
      first_is (λ k. is_among (used_from rows (body_row rows k)) x) (procedure_count rows) v (λ k e. let s = f k e in (s.0, in_true s.1)) (λ k l e. g k l (true_in x (used_from rows (body_row rows k)) e))

  pub step_held : (x k : ℕ) → instruction_scope rows x ≡ suc k → (k < procedure_count rows) × In x (steps_of rows (body_row rows k))
  unfolding instruction_scope
  step_held x k e =
      let s = first_held (λ j. is_among (steps_of rows (body_row rows j)) x) (procedure_count rows) k e in (s.0, true_in x (steps_of rows (body_row rows k)) s.1)

  pub step_near : (x k : ℕ) → k < procedure_count rows → In x (steps_of rows (body_row rows k)) → Near (instruction_scope rows x) (suc k)
  unfolding instruction_scope
  step_near x k l m = first_near (λ j. is_among (steps_of rows (body_row rows j)) x) (procedure_count rows) k l (in_true m)

  pub scope_at_most : (x : ℕ) → instruction_scope rows x ≤ procedure_count rows
  unfolding instruction_scope
  scope_at_most x = first_at_most (λ k. is_among (steps_of rows (body_row rows k)) x) (procedure_count rows)

  pub use_at_most : (x : ℕ) → expression_scope rows x ≤ procedure_count rows
  unfolding expression_scope
  use_at_most x = first_at_most (λ k. is_among (used_from rows (body_row rows k)) x) (procedure_count rows)
