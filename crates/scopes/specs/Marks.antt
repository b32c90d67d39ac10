-- What the code's tables of scopes say: how marks change them, what they say on the way, and that each row has its scope in the end.
-- Assumes nothing: these are definitions.
use Rattle.std.specs.Prelude.{◌≡◌, ◌⊎◌, ℕ, suc, ◌≤◌, ◌<◌, length, get_or}
use mathlib.Core.List.{List, Memᴰ as In}
use Rattle.lingua.specs.Numbers.{expression_section, instruction_section, most_expressions, most_instructions}
use Rattle.lingua.specs.Rows.{table_count, procedure_count, body_row}
use Rattle.lingua.specs.Trees.{instruction_scope, expression_scope}
use Rattle.laws.specs.Firsts.{Near}
use Rattle.laws.specs.Refers.{Refers, parts_of, operands_of, roots_of}
use Rattle.laws.specs.Reached.{steps_of, used_from}
use Rattle.decoder.specs.Tables.{Sized}

-- the nearer of two scopes
pub record Nearer (a b r : ℕ) : Type 0 where
  pub left : Near r a
  pub right : Near r b
  pub one : (r ≡ a) ⊎ (r ≡ b)

pub record Within (n : ℕ) (xs : List ℕ) : Type 0 where
  pub each : (x : ℕ) → In x xs → x < n

-- table u is table t with the rows xs marked: none of them is further than s, and no other has changed
pub record Marked (xs : List ℕ) (s : ℕ) (t u : List ℕ) : Type 0 where
  pub long : length u ≡ length t
  pub nearer : (x : ℕ) → Near (get_or u x 0) (get_or t x 0)
  pub marks : (x : ℕ) → In x xs → Near (get_or u x 0) s
  pub one : (x : ℕ) → (get_or u x 0 ≡ get_or t x 0) ⊎ (In x xs × (get_or u x 0 ≡ s))

-- ---- on the way
-- what rules 7 and 10 have shown of the rows by the time that scopes are asked
pub record Ready (rows : List ℕ) : Type 0 where
  pub sized : Sized rows
  pub refers : Refers rows

-- the first n procedures' bodies are marked, and the rows from r on have marked their parts
pub record Owned (rows : List ℕ) (n r : ℕ) (t : List ℕ) : Type 0 where
  pub long : length t ≡ most_instructions
  pub held : (x k : ℕ) → get_or t x 0 ≡ suc k → (k < procedure_count rows) × In x (steps_of rows (body_row rows k))
  pub bodies : (k : ℕ) → k < n → Near (get_or t (body_row rows k) 0) (suc k)
  pub passed : (y x : ℕ) → r ≤ y → y < table_count rows instruction_section → In x (parts_of rows y) → Near (get_or t x 0) (get_or t y 0)

-- the roots of the first n instruction rows are marked, and the rows from r on have marked their operands
pub record Used (rows : List ℕ) (n r : ℕ) (t : List ℕ) : Type 0 where
  pub long : length t ≡ most_expressions
  pub held : (x k : ℕ) → get_or t x 0 ≡ suc k → (k < procedure_count rows) × In x (used_from rows (body_row rows k))
  pub roots : (y e : ℕ) → y < n → In e (roots_of rows y) → Near (get_or t e 0) (instruction_scope rows y)
  pub passed : (y x : ℕ) → r ≤ y → y < table_count rows expression_section → In x (operands_of rows y) → Near (get_or t x 0) (get_or t y 0)

-- ---- in the end
pub record InstructionScopes (rows t : List ℕ) : Type 0 where
  pub each : (r : ℕ) → get_or t r 0 ≡ instruction_scope rows r
  pub few : (r : ℕ) → get_or t r 0 ≤ procedure_count rows

pub record ExpressionScopes (rows t : List ℕ) : Type 0 where
  pub each : (r : ℕ) → get_or t r 0 ≡ expression_scope rows r
  pub few : (r : ℕ) → get_or t r 0 ≤ procedure_count rows
