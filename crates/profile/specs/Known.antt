-- What acceptance shows of a row's kind and attributes (rules 6 and 9): the decoder knows it. Assumes nothing.
use Rattle.std.specs.Prelude.{List, ℕ, ◌<◌}
use Rattle.lingua.specs.Numbers.{expression_section, instruction_section}
use Rattle.lingua.specs.Rows.{table_count}
use Rattle.safety.specs.Accepted.{AcceptedRows, expression_known, instruction_known}
use Rattle.rules.specs.Accepted.{expression_attributes_lem}
use Rattle.profile.specs.Row.{KnownExpression, KnownInstruction}

pub row_known : (rows : List ℕ) → AcceptedRows rows → (r : ℕ) → r < table_count rows expression_section → KnownExpression rows r
row_known rows accepted r l = record { kind = expression_known rows accepted r l; attributes = expression_attributes_lem rows accepted.constants r l }

pub instruction_row_known : (rows : List ℕ) → AcceptedRows rows → (r : ℕ) → r < table_count rows instruction_section → KnownInstruction rows r
instruction_row_known rows accepted r l = record { kind = instruction_known rows accepted r l }
