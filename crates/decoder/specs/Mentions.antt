-- What the code's short lists hold, and when the code's row names what a row of the definitions does. Assumes nothing: these are definitions.
use Rattle.std.specs.Prelude.{◌≡◌, Bool, List, [], ℕ}
use Rattle.lingua.specs.Rows.{TypeRow, ExpressionRow, InstructionRow, operands, parts, evaluated, yoke_set}
use Rattle.lingua.specs.Rules.{attributes_fit, type_attributes, expression_attributes, handled_errors}
use Rattle.lingua.specs.References.{type_parts, expression_variables, instruction_variables, on_call}
use Rattle.decoder.specs.Decoded.{type_meaning, expression_meaning, instruction_meaning}
use Rattle.decoder.specs.Reads.{reads_row}
use Rattle.decoder.specs.declared.mentions.UpToThree.{UpToThree}
use Rattle.decoder.specs.declared.mentions.UpToThree.TheVariants as up_to
use Rattle.decoder.specs.declared.decode.TypeRow.{TypeRow as CodeType}
use Rattle.decoder.specs.declared.decode.ExpressionRow.{ExpressionRow as CodeRow}
use Rattle.decoder.specs.declared.decode.InstructionRow.{InstructionRow as CodeInstruction}

unfoldable pub listed : UpToThree → List ℕ
listed up_to.None = []
listed (up_to.One xs) = xs
listed (up_to.Two xs) = xs
listed (up_to.Three xs) = xs

pub record TypeAlike (row : CodeType) (x : TypeRow) : Type 0 where
  pub attributes : type_attributes (type_meaning row) ≡ type_attributes x
  pub parts : type_parts (type_meaning row) ≡ type_parts x

-- row i of the rows, in code; of attributes, whether they are in range
pub record ExpressionAlike (rows : List ℕ) (i : ℕ) (row : CodeRow) (x : ExpressionRow) : Type 0 where
  pub operands : operands (expression_meaning rows i row) ≡ operands x
  pub attributes : attributes_fit (expression_attributes (expression_meaning rows i row)) ≡ attributes_fit (expression_attributes x)
  pub variables : expression_variables (expression_meaning rows i row) ≡ expression_variables x
  pub reads : (variable : Bool) → reads_row variable (expression_meaning rows i row) ≡ reads_row variable x

pub record InstructionAlike (row : CodeInstruction) (x : InstructionRow) : Type 0 where
  pub handled : handled_errors (instruction_meaning row) ≡ handled_errors x
  pub parts : parts (instruction_meaning row) ≡ parts x
  pub evaluated : evaluated (instruction_meaning row) ≡ evaluated x
  pub assigned : instruction_variables (instruction_meaning row) ≡ instruction_variables x
  pub yoke : yoke_set (instruction_meaning row) ≡ yoke_set x
  pub calls : (f : ℕ → ℕ → ℕ → Bool) → on_call (instruction_meaning row) f ≡ on_call x f
