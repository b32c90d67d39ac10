-- The variables that an expression reads: an instruction's are those of its row's scope (`root_reads`), and a yoke reads none (`closed_reads`).
-- Assumes nothing.
use mathlib.Core.Path.{◌≡◌, refl, subst}
use mathlib.Core.Bool.{Bool, true, false, not, ◌||◌}
use mathlib.Core.List.Memᴰ.{append_left as in_left}
use mathlib.Core.List.Memᴰ.{append_right as in_right}
use mathlib.Core.List.Memᴰ.{head as here}
use mathlib.Core.List.Memᴰ.{tail as there}
use mathlib.Core.List.{List, ◌++◌, Memᴰ as In}
use Prim.Native.Nat.{ℕ, zero, suc, ◌≤◌, ◌<◌}
use native.Mathlib.Omega.{arith}
use lib.Dec.{ltb}
use borrow.Author.Tests.{not-false}
use Rattle.lingua.specs.Numbers.{expression_section, instruction_section, scope_table}
use Rattle.lingua.specs.Expression.{Expression, constant, variable, current, unary, binary, lazy, choice, all_list}
use Rattle.lingua.specs.Rows.{table_count, pair_count, ExpressionRow, constant_row, variable_row, current_row, unary_row, binary_row, lazy_row, choice_row, all_list_row, unknown_expression, expression_row}
use Rattle.lingua.specs.Trees.{below, lower, no_expression, expression_of, expression_in, expression_tree, expression_rows, instruction_scope}
use Rattle.lingua.specs.References.{expression_variables, rows_refer, variables_wrong, reference_wrong, reads_variable}
use Rattle.laws.specs.Outcomes.{or_left, or_right}
use Rattle.laws.specs.Refers.{Refers, refers, roots_of}
use Rattle.laws.specs.Reached.{term_below}
use Rattle.safety.specs.Answers.{true_is_false}
use Rattle.safety.specs.Every.{Every, every_more}
use Rattle.safety.specs.Accepted.{AcceptedRows, expression_variables_lem}
use Rattle.safety.specs.Scoped.{term_scope}
use Rattle.typing.specs.Check.{ReadsBelow}

module _ (m : ℕ) where
  -- ---- an expression that reads none
  pub closed_reads : (e : Expression) → reads_variable e ≡ false → ReadsBelow m e
  unfolding reads_variable ReadsBelow
  closed_reads (constant r c) h = tt
  closed_reads (variable r n) h = true_is_false h
  closed_reads (current r) h = tt
  closed_reads (unary r o e) h = closed_reads e h
  closed_reads (binary r o e f) h =
      (closed_reads e (or_left (reads_variable e) (reads_variable f) h), closed_reads f (or_right (reads_variable e) (reads_variable f) h))
  closed_reads (lazy r k e f) h =
      (closed_reads e (or_left (reads_variable e) (reads_variable f) h), closed_reads f (or_right (reads_variable e) (reads_variable f) h))
  closed_reads (choice r p e f) h =
      let g = or_right (reads_variable p) (reads_variable e || reads_variable f) h in
      (closed_reads p (or_left (reads_variable p) (reads_variable e || reads_variable f) h), closed_reads e (or_left (reads_variable e) (reads_variable f) g), closed_reads f (or_right (reads_variable e) (reads_variable f) g))
  closed_reads (all_list r e) h = closed_reads e h

  -- ---- by rows: each row of the tree names variables below m
  own_row : (r : ℕ) (row : ExpressionRow) (look : ℕ → Expression) → In r (expression_rows (expression_of r row look))
  unfolding expression_of expression_rows
  own_row r (constant_row c) look = here refl
  own_row r (variable_row n) look = here refl
  own_row r current_row look = here refl
  own_row r (unary_row o a) look = here refl
  own_row r (binary_row o a b) look = here refl
  own_row r (lazy_row k a b) look = here refl
  own_row r (choice_row a b c) look = here refl
  own_row r (all_list_row a) look = here refl
  own_row r unknown_expression look = here refl

  node_reads : (r : ℕ) (row : ExpressionRow) (look : ℕ → Expression) → Every (λ n. n < m) (expression_variables row)
      → ((a : ℕ) → ((x : ℕ) → In x (expression_rows (look a)) → In x (expression_rows (expression_of r row look))) → ReadsBelow m (look a)) → ReadsBelow m (expression_of r row look)
  unfolding expression_of expression_rows expression_variables ReadsBelow
  node_reads r (constant_row c) look v h = tt
  node_reads r (variable_row n) look (every_more l v) h = l
  node_reads r current_row look v h = tt
  node_reads r (unary_row o a) look v h = h a (λ x i. there i)
  node_reads r (binary_row o a b) look v h =
      (h a (λ x i. there (in_left (expression_rows (look b)) i)), h b (λ x i. there (in_right (expression_rows (look a)) i)))
  node_reads r (lazy_row k a b) look v h =
      (h a (λ x i. there (in_left (expression_rows (look b)) i)), h b (λ x i. there (in_right (expression_rows (look a)) i)))
  node_reads r (choice_row a b c) look v h =
      let first : List ℕ = expression_rows (look a) in
      let second : List ℕ = expression_rows (look b) in
      let third : List ℕ = expression_rows (look c) in
      (h a (λ x i. there (in_left (second ++ third) i)), h b (λ x i. there (in_right first (in_left third i))), h c (λ x i. there (in_right first (in_right second i))))
  node_reads r (all_list_row a) look v h = h a (λ x i. there i)
  node_reads r unknown_expression look v h = tt

  module _ (rows : List ℕ) where
    abbrev Named : Expression → Type 0
    Named e = (x : ℕ) → In x (expression_rows e) → Every (λ k. k < m) (expression_variables (expression_row rows x))

    lower_reads : (f : ℕ → Expression) (r a : ℕ) (t : Bool) → (Named (f a) → ReadsBelow m (f a)) → Named (below t f (no_expression r) a) → ReadsBelow m (below t f (no_expression r) a)
    unfolding ReadsBelow
    lower_reads f r a true g h = g h
    lower_reads f r a false g h = tt

    in_reads : (n r : ℕ) → Named (expression_in n rows r) → ReadsBelow m (expression_in n rows r)
    unfolding expression_in
    in_reads zero r h = unfold ReadsBelow in tt
    in_reads (suc n) r h =
        node_reads r (expression_row rows r) (lower r (λ a. expression_in n rows a) (no_expression r)) (h r (own_row r (expression_row rows r) (lower r (λ a. expression_in n rows a) (no_expression r))))
        (λ a s. lower_reads (λ k. expression_in n rows k) r a (ltb a r) (λ g. in_reads n a g) (λ x i. h x (s x i)))

    pub tree_reads : (r : ℕ) → Named (expression_tree rows r) → ReadsBelow m (expression_tree rows r)
    unfolding expression_tree
    tree_reads r h = in_reads (suc r) r h

-- ---- what instructions evaluate or set
pub row_refers : (rows : List ℕ) → AcceptedRows rows → rows_refer rows ≡ true
unfolding reference_wrong
row_refers rows accepted = not-false (rows_refer rows) (or_left (not (rows_refer rows)) (variables_wrong rows) accepted.references)

pub root_reads : (rows : List ℕ) → AcceptedRows rows → (r e : ℕ) → r < table_count rows instruction_section → In e (roots_of rows r) → ReadsBelow (pair_count rows (scope_table (instruction_scope rows r))) (expression_tree rows e)
root_reads rows accepted r e l i =
    let known : Refers rows = refers rows (row_refers rows accepted) in
    let few : e < table_count rows expression_section = known.roots r e l i in
    tree_reads (pair_count rows (scope_table (instruction_scope rows r))) rows e
    (λ x m. let low : x ≤ e = term_below rows known e x few m in subst (λ (a : ℕ). Every (λ n. n < pair_count rows (scope_table a)) (expression_variables (expression_row rows x))) (term_scope rows accepted.uses accepted.references r e x l i m) (expression_variables_lem rows accepted x (omega arith)))
