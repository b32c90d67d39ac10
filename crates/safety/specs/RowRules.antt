-- One rule for each row: what the type check found of a row's tree, in terms of the rows that the row names (`row_rule`). Assumes nothing.
use Rattle.std.specs.Prelude.{◌≡◌, List, ℕ, ◌<◌}
use Rattle.std.proofs.Common.{subst}
use Rattle.std.proofs.Math.Option.{some}
use Rattle.lingua.specs.Outcome.{ok}
use Rattle.lingua.specs.Body.{Body, boolean, size, element_body}
use Rattle.lingua.specs.Operation.{unary_body, binary_body}
use Rattle.lingua.specs.Expression.{Expression}
use Rattle.lingua.specs.Evaluation.{no_current}
use Rattle.lingua.specs.Typing.{Entry, unary_second, binary_second, Bodies}
use Rattle.lingua.specs.Rows.{constant_value, ExpressionRow, constant_row, variable_row, current_row, unary_row, binary_row, lazy_row, choice_row, all_list_row, unknown_expression, expression_row, operands}
use Rattle.lingua.specs.Trees.{expression_of, expression_tree}
use Rattle.safety.specs.Every.{Every}
use Rattle.safety.specs.Checked.{entry}
use Rattle.safety.specs.Derivation.{Derived, of_constant, of_variable, of_current, of_unary, of_binary, of_lazy, of_choice, of_all_list}
use Rattle.safety.specs.Forest.{expression_of_row}

-- row r, on a current value of body cur, gives body b, where the row a gives the bodies that `Gives a` says
unfoldable pub RowRule : (Entry → Type 0) → Bodies → (ℕ → Body → Body → Type 0) → ℕ → ExpressionRow → Body → Body → Type 0
RowRule H vars Gives r (constant_row c) cur b = ((constant_value c).body ≡ b) × H (entry r cur b 0)
RowRule H vars Gives r (variable_row n) cur b = (vars n ≡ b) × H (entry r cur b 0)
RowRule H vars Gives r current_row cur b = (cur ≡ b) × H (entry r cur b 0)
RowRule H vars Gives r (unary_row o a) cur b = (c : Body) × Gives a cur c × (unary_body o c ≡ ok b) × H (entry r cur b (unary_second o c))
RowRule H vars Gives r (binary_row o a₁ a₂) cur b =
    (c d : Body) × Gives a₁ cur c × Gives a₂ cur d × (binary_body o c d ≡ ok b) × H (entry r cur b (binary_second o c d b))
RowRule H vars Gives r (lazy_row k a₁ a₂) cur b = Gives a₁ cur boolean × Gives a₂ cur boolean × (boolean ≡ b) × H (entry r cur b 0)
RowRule H vars Gives r (choice_row a₁ a₂ a₃) cur b = Gives a₁ cur boolean × Gives a₂ cur b × Gives a₃ cur b × H (entry r cur b 0)
RowRule H vars Gives r (all_list_row a) cur b = (c : Body) × (element_body cur ≡ some c) × Gives a c boolean × (boolean ≡ b) × H (entry r cur b (size c))
RowRule H vars Gives r unknown_expression cur b = (no_current.body ≡ b) × H (entry r cur b 0)

module _ {H : Entry → Type 0} {vars : Bodies} where
  node_rule : (r : ℕ) (row : ExpressionRow) (look : ℕ → Expression) {cur b : Body} → Derived H vars (expression_of r row look) cur b → RowRule H vars (λ a. Derived H vars (look a)) r row cur b
  unfolding expression_of RowRule
  node_rule r (constant_row c) look (of_constant q h) = (q, h)
  node_rule r (variable_row n) look (of_variable q h) = (q, h)
  node_rule r current_row look (of_current q h) = (q, h)
  node_rule r (unary_row o a) look (of_unary {c = c} d q h) = (c, d, q, h)
  node_rule r (binary_row o a₁ a₂) look (of_binary {c = c} {d} p s q h) = (c, d, p, s, q, h)
  node_rule r (lazy_row k a₁ a₂) look (of_lazy p s q h) = (p, s, q, h)
  node_rule r (choice_row a₁ a₂ a₃) look (of_choice p s t h) = (p, s, t, h)
  node_rule r (all_list_row a) look (of_all_list {c = c} q d p h) = (c, q, d, p, h)
  node_rule r unknown_expression look (of_constant q h) = (q, h)

  pub row_rule : (rows : List ℕ) (r : ℕ) → Every (λ a. a < r) (operands (expression_row rows r)) → {cur b : Body} → Derived H vars (expression_tree rows r) cur b
      → RowRule H vars (λ a. Derived H vars (expression_tree rows a)) r (expression_row rows r) cur b
  row_rule rows r l {cur} {b} d =
      node_rule r (expression_row rows r) (λ a. expression_tree rows a) (subst (λ (e : Expression). Derived H vars e cur b) (expression_of_row rows r l) d)
