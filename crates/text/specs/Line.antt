-- One variable's line of the report, as `content_text` and `variable_lines` of the report's text have it. Assumes nothing: these are definitions.
use Rattle.std.specs.Prelude.{Option, Some, None, List, [], ◌∷◌, ◌++◌, ℕ, ℤ}
use Rattle.lingua.specs.Report.{space, newline, cell_texts}
use Rattle.lingua.specs.Rows.{until_zero}

-- its cells, or - where it is not filled
abbrev pub content_of : Option (List ℤ) → List ℕ
content_of (Some cells) = cell_texts cells
content_of None = space ∷ 45 ∷ []

unfoldable pub variable_line : List ℕ → Option (List ℤ) → List ℕ
variable_line name content = until_zero name ++ (content_of content ++ (newline ∷ []))
