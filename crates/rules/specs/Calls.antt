-- What the first half of rule 10 has shown where scopes and calls are asked. Assumes nothing: these are definitions.
use Rattle.std.specs.Prelude.{◌≡◌, true, List, ℕ, ◌≤◌, ltb}
use Rattle.lingua.specs.Numbers.{most_procedures}
use Rattle.lingua.specs.Rows.{procedure_count}
use Rattle.lingua.specs.References.{on_call, rows_refer}
use Rattle.decoder.specs.Tables.{Sized}
use Rattle.decoder.specs.Decoded.{instruction_meaning}
use Rattle.decoder.specs.declared.decode.InstructionRow.{InstructionRow as CodeInstruction}

-- what rows name by number is there
pub record Scoped (rows : List ℕ) : Type 0 where
  pub sized : Sized rows
  pub refers : rows_refer rows ≡ true

-- a row that calls names a procedure
pub record Calls (rows : List ℕ) (row : CodeInstruction) : Type 0 where
  pub few : procedure_count rows ≤ most_procedures
  pub called : on_call (instruction_meaning row) (λ k b c. ltb k (procedure_count rows)) ≡ true
