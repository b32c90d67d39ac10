-- What a table says of the rows: where its rows begin and how many it has; and where the procedures begin. Assumes nothing: these are
-- definitions.
use Rattle.std.specs.Prelude.{◌≡◌, List, ℕ, ◌+◌, ◌*◌, ◌/◌, ◌≤◌, ◌<◌, length, get_or}
use Rattle.lingua.specs.Numbers.{most_variables, most_types, most_expressions, most_instructions, most_procedures, header_table, declaration_section, type_section, expression_section, instruction_section, limit_section}
use Rattle.lingua.specs.Rows.{table_start, table_count, procedure_count, body_row, value_count, reference_count}
use Rattle.decoder.specs.declared.tables.Tables.{Tables}
use Rattle.decoder.specs.declared.tables.Table.{Table}
use Rattle.decoder.specs.declared.tables.Procedure.{Procedure}

pub record IsTable (rows : List ℕ) (s : ℕ) (t : Table) : Type 0 where
  pub section : t.section ≡ s
  pub start : t.start ≡ table_start rows s
  pub count : t.count ≡ table_count rows s
  pub within : 10 * (t.start + t.count) ≤ length rows

-- how many procedures were begun, and how many rows each table has that one of eight procedures can have
pub record AreCounts (rows : List ℕ) (begun : ℕ) (counts : List ℕ) : Type 0 where
  pub procedures : begun ≡ procedure_count rows
  pub tables : (s : ℕ) → s < 23 → get_or counts s 0 ≡ table_count rows s

-- a procedure begins where its header's table does, and behind the last its end is
pub record AreTables (rows : List ℕ) (t : Tables) : Type 0 where
  pub declarations : IsTable rows declaration_section t.declarations
  pub types : IsTable rows type_section t.types
  pub expressions : IsTable rows expression_section t.expressions
  pub instructions : IsTable rows instruction_section t.instructions
  pub limits : IsTable rows limit_section t.limits
  pub procedures : t.procedures.count ≡ procedure_count rows
  pub heads : (k : ℕ) → k ≤ most_procedures → get_or t.procedures.heads k 0 ≡ table_start rows (header_table k)

-- the counts that rule 7 lets through
pub record Sized (rows : List ℕ) : Type 0 where
  pub declarations : table_count rows declaration_section / 2 ≤ most_variables
  pub types : table_count rows type_section ≤ most_types
  pub expressions : table_count rows expression_section ≤ most_expressions
  pub some_instruction : 1 ≤ table_count rows instruction_section
  pub instructions : table_count rows instruction_section ≤ most_instructions
  pub procedures : procedure_count rows ≤ most_procedures

-- the fields of the row that begins procedure k
pub record IsProcedure (rows : List ℕ) (k : ℕ) (p : Procedure) : Type 0 where
  pub body : p.body ≡ body_row rows k
  pub values : p.values ≡ value_count rows k
  pub references : p.references ≡ reference_count rows k
  pub few_values : p.values < 65536
  pub few_references : p.references < 65536
