-- What rule 10 shows of the rows that rows name (`refers`): parts and operands are lower rows, the expressions that instructions name and
-- procedures' bodies are there, and no body is the last row. Assumes nothing.
use Rattle.std.specs.Prelude.{◌≡◌, Bool, true, ◌&&◌, ℕ, suc, ◌<◌, pred}
use mathlib.Core.List.{List, ◌++◌, Memᴰ as In}
use Rattle.std.proofs.Math.Dec.{ltb}
use borrow.Author.Tests.{ltb-true}
use Rattle.lingua.specs.Numbers.{type_section, expression_section, instruction_section}
use Rattle.lingua.specs.Rows.{table_count, procedure_count, body_row, type_row, expression_row, operands, instruction_row, parts, evaluated, yoke_set}
use Rattle.lingua.specs.Format.{every_below}
use Rattle.lingua.specs.References.{all_below, type_parts, declarations_refer, instruction_refers, rows_refer}
use Rattle.laws.specs.Outcomes.{and_left, and_right}
use Rattle.laws.specs.Tests.{every_at}
use Rattle.laws.specs.Among.{all_in}

abbrev pub parts_of : List ℕ → ℕ → List ℕ
parts_of rows r = parts (instruction_row rows r)

abbrev pub operands_of : List ℕ → ℕ → List ℕ
operands_of rows r = operands (expression_row rows r)

-- what an instruction evaluates or sets as a yoke
abbrev pub roots_of : List ℕ → ℕ → List ℕ
roots_of rows r = evaluated (instruction_row rows r) ++ yoke_set (instruction_row rows r)

pub record Refers (rows : List ℕ) : Type 0 where
  pub parts : (r a : ℕ) → r < table_count rows instruction_section → In a (parts (instruction_row rows r)) → a < r
  pub roots : (r a : ℕ) → r < table_count rows instruction_section → In a (roots_of rows r) → a < table_count rows expression_section
  pub operands : (r a : ℕ) → r < table_count rows expression_section → In a (operands (expression_row rows r)) → a < r
  pub bodies : (k : ℕ) → k < procedure_count rows → body_row rows k < pred (table_count rows instruction_section)

all_below_lem : (n : ℕ) (bs : List ℕ) → all_below n bs ≡ true → (a : ℕ) → In a bs → a < n
all_below_lem n bs e a m = ltb-true a n (all_in (λ b. ltb b n) bs e a m)

module _ (rows : List ℕ) where
  abbrev first : Bool
  first = every_below (suc (procedure_count rows)) (λ s. declarations_refer rows s)

  abbrev second : Bool
  second = every_below (table_count rows type_section) (λ r. all_below r (type_parts (type_row rows r)))

  abbrev third : Bool
  third = every_below (table_count rows expression_section) (λ r. all_below r (operands (expression_row rows r)))

  abbrev fourth : Bool
  fourth = every_below (table_count rows instruction_section) (λ r. instruction_refers rows r)

  abbrev last : Bool
  last = every_below (procedure_count rows) (λ k. ltb (body_row rows k) (pred (table_count rows instruction_section)))

  module _ (e : rows_refer rows ≡ true) where
    until_fourth : (first && second && third && fourth) ≡ true
    unfolding rows_refer
    until_fourth = and_left (first && second && third && fourth) last e

    own : (r : ℕ) → r < table_count rows instruction_section → instruction_refers rows r ≡ true
    own r l = every_at (table_count rows instruction_section) (λ q. instruction_refers rows q) r (and_right (first && second && third) fourth until_fourth) l

    pub refers : Refers rows
    unfolding rows_refer instruction_refers
    refers =
        record { parts = λ r a l m. all_below_lem r (parts (instruction_row rows r)) (and_left (all_below r (parts (instruction_row rows r))) (all_below (table_count rows expression_section) (roots_of rows r)) (and_left (all_below r (parts (instruction_row rows r)) && all_below (table_count rows expression_section) (roots_of rows r)) _ (own r l))) a m; roots = λ r a l m. all_below_lem (table_count rows expression_section) (roots_of rows r) (and_right (all_below r (parts (instruction_row rows r))) (all_below (table_count rows expression_section) (roots_of rows r)) (and_left (all_below r (parts (instruction_row rows r)) && all_below (table_count rows expression_section) (roots_of rows r)) _ (own r l))) a m; operands = λ r a l m. all_below_lem r (operands (expression_row rows r)) (every_at (table_count rows expression_section) (λ q. all_below q (operands (expression_row rows q))) r (and_right (first && second) third (and_left (first && second && third) fourth until_fourth)) l) a m; bodies = λ k l. ltb-true (body_row rows k) (pred (table_count rows instruction_section)) (every_at (procedure_count rows) (λ j. ltb (body_row rows j) (pred (table_count rows instruction_section))) k (and_right (first && second && third && fourth) last e) l) }
