-- What the code's marks of expression rows say. Assumes nothing: these are definitions.
use Rattle.std.specs.Prelude.{◌≡◌, Bool, true, false, not, List, ℕ, ◌<◌, get_or}
use Rattle.lingua.specs.Expression.{Expression}
use Rattle.lingua.specs.Numbers.{expression_section}
use Rattle.lingua.specs.Rows.{table_count, ExpressionRow, constant_row, variable_row, current_row, unary_row, binary_row, lazy_row, choice_row, all_list_row, unknown_expression}
use Rattle.lingua.specs.Trees.{expression_tree}
use Rattle.lingua.specs.References.{reads_variable, reads_current, reference_wrong}
use Rattle.decoder.specs.Tables.{Sized}

-- whether an expression reads a variable, or else the current value
unfoldable pub reads : Bool → Expression → Bool
reads true e = reads_variable e
reads false e = reads_current e

-- the marks of the rows below n are right
unfoldable pub Marked : List ℕ → Bool → ℕ → List Bool → Type 0
Marked rows variable n marks = (r : ℕ) → r < n → get_or marks r false ≡ reads variable (expression_tree rows r)

-- what rules 7 and 10 have shown when places are asked, and marks of all expression rows
pub record PlacesMarked (rows : List ℕ) (variable : Bool) (marks : List Bool) : Type 0 where
  pub sized : Sized rows
  pub references : reference_wrong rows ≡ false
  pub marked : Marked rows variable (table_count rows expression_section) marks

-- whether a row reads by itself
unfoldable pub reads_row : Bool → ExpressionRow → Bool
reads_row variable (constant_row c) = false
reads_row variable (variable_row n) = variable
reads_row variable current_row = not variable
reads_row variable (unary_row o a) = false
reads_row variable (binary_row o a b) = false
reads_row variable (lazy_row k a b) = false
reads_row variable (choice_row a b c) = false
reads_row variable (all_list_row a) = not variable
reads_row variable unknown_expression = false
