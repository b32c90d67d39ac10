-- What is known of accepted rows, and what the code's rows say of them. Assumes nothing: these are definitions.
use Rattle.std.specs.Prelude.{◌≡◌, true, List, ℕ}
use Rattle.lingua.specs.Numbers.{expression_section, instruction_section}
use Rattle.lingua.specs.Value.{Composite}
use Rattle.lingua.specs.Evaluation.{no_current}
use Rattle.lingua.specs.Rows.{kind_at, row_in, constant_value, ExpressionRow, constant_row, variable_row, current_row, unary_row, binary_row, lazy_row, choice_row, all_list_row, unknown_expression, expression_kinds, expression_row, instruction_kinds}
use Rattle.lingua.specs.Rules.{attributes_fit, expression_attributes}
use Rattle.safety.specs.Accepted.{Known}
use Rattle.decoder.specs.Decoded.{expression_meaning}
use Rattle.decoder.specs.declared.decode.ExpressionRow.{ExpressionRow as CodeRow}

-- row r of the expressions is of a known kind, and its attributes are numbered below 64
pub record KnownExpression (rows : List ℕ) (r : ℕ) : Type 0 where
  pub kind : Known expression_kinds (kind_at rows (row_in rows expression_section r))
  pub attributes : attributes_fit (expression_attributes (expression_row rows r)) ≡ true

pub record KnownInstruction (rows : List ℕ) (r : ℕ) : Type 0 where
  pub kind : Known instruction_kinds (kind_at rows (row_in rows instruction_section r))

-- the composite of a constant's row; what stands for another does not matter
unfoldable pub value_of : ExpressionRow → Composite
value_of (constant_row c) = constant_value c
value_of (variable_row n) = no_current
value_of current_row = no_current
value_of (unary_row o a) = no_current
value_of (binary_row o a b) = no_current
value_of (lazy_row k a b) = no_current
value_of (choice_row a b c) = no_current
value_of (all_list_row a) = no_current
value_of unknown_expression = no_current

-- the composite of row r of the expressions, where it is a constant's
unfoldable pub constant_of : List ℕ → ℕ → Composite
constant_of rows r = value_of (expression_row rows r)

-- row r of the expressions
pub record RowSays (rows : List ℕ) (r : ℕ) (c : CodeRow) : Type 0 where
  pub says : expression_meaning rows (row_in rows expression_section r) c ≡ expression_row rows r
