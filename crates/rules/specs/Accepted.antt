-- What each rule that does not apply shows of each row by itself: the counts are in their ranges, references name rows and variables that are there,
-- attributes and handled errors are in range, and every type row has a body. Assumes nothing.
use Rattle.std.specs.Prelude.{◌≡◌, refl, Bool, true, false, not, ◌&&◌, ◌||◌, List, ◌++◌, ℕ, suc, ◌≤◌, ◌<◌, pred, ltb, leb}
use Rattle.std.proofs.Common.{sym}
use borrow.Author.Tests.{ltb-true, leb-true, not-false}
use Rattle.lingua.specs.Numbers.{most_variables, most_types, most_expressions, most_instructions, most_procedures, declaration_section, type_section, expression_section, instruction_section}
use Rattle.lingua.specs.Errors.{is_error}
use Rattle.lingua.specs.Outcome.{is_ok}
use Rattle.lingua.specs.Value.{all_of}
use Rattle.lingua.specs.Rows.{table_count, pair_count, procedure_count, body_row, type_row, expression_row, operands, instruction_row, parts, evaluated, yoke_set}
use Rattle.lingua.specs.Trees.{type_body, instruction_scope, expression_scope}
use Rattle.lingua.specs.Format.{profile, every_below}
use Rattle.lingua.specs.Rules.{between, count_wrong, row_constant_fits, attributes_fit, expression_attributes, type_attributes, handled_errors, constant_wrong}
use Rattle.lingua.specs.References.{all_below, type_parts, expression_variables, instruction_variables, on_call, declarations_refer, instruction_refers, rows_refer, variables_seen, variables_fit, variables_wrong, reference_wrong, type_wrong}
use Rattle.laws.specs.Outcomes.{false_is_true, and_left, and_right}
use Rattle.safety.specs.Every.{Every, every_implies, all_true_lem, below_true}

-- a number in a range
pub record Between (low high n : ℕ) : Type 0 where
  pub least : low ≤ n
  pub most : n ≤ high

between_is : (low high n : ℕ) → between low high n ≡ true → Between low high n
between_is low high n e =
    record { least = leb-true low n (and_left (leb low n) (leb n high) e); most = leb-true n high (and_right (leb low n) (leb n high) e) }

-- a disjunction that fails
or_left : (a b : Bool) → (a || b) ≡ false → a ≡ false
or_left true b e = e
or_left false b e = refl

or_right : (a b : Bool) → (a || b) ≡ false → b ≡ false
or_right true b e = false_is_true (sym e)
or_right false b e = e

all_below_lem : (n : ℕ) (rs : List ℕ) → all_below n rs ≡ true → Every (λ r. r < n) rs
all_below_lem n rs e = every_implies (λ r q. ltb-true r n q) (all_true_lem (λ r. ltb r n) rs e)

-- ---- the conditions of rules 7, 9 and 10, each for its table
abbrev some_variables : List ℕ → Bool
some_variables rows = between 1 most_variables (pair_count rows declaration_section)

abbrev some_types : List ℕ → Bool
some_types rows = between 1 most_types (table_count rows type_section)

abbrev few_expressions : List ℕ → Bool
few_expressions rows = between 0 most_expressions (table_count rows expression_section)

abbrev some_instructions : List ℕ → Bool
some_instructions rows = between 1 most_instructions (table_count rows instruction_section)

abbrev types_fit : List ℕ → Bool
types_fit rows = every_below (table_count rows type_section) (λ r. attributes_fit (type_attributes (type_row rows r)))

abbrev expressions_fit : List ℕ → Bool
expressions_fit rows = every_below (table_count rows expression_section) (λ r. row_constant_fits (expression_row rows r) && attributes_fit (expression_attributes (expression_row rows r)))

abbrev errors_fit : List ℕ → Bool
errors_fit rows = every_below (table_count rows instruction_section) (λ r. all_of is_error (handled_errors (instruction_row rows r)))

abbrev few_procedures : List ℕ → Bool
few_procedures rows = between 0 most_procedures (procedure_count rows)

abbrev scopes_refer : List ℕ → Bool
scopes_refer rows = every_below (suc (procedure_count rows)) (λ s. declarations_refer rows s)

abbrev types_refer : List ℕ → Bool
types_refer rows = every_below (table_count rows type_section) (λ r. all_below r (type_parts (type_row rows r)))

abbrev expressions_refer : List ℕ → Bool
expressions_refer rows = every_below (table_count rows expression_section) (λ r. all_below r (operands (expression_row rows r)))

abbrev instructions_refer : List ℕ → Bool
instructions_refer rows = every_below (table_count rows instruction_section) (λ r. instruction_refers rows r)

abbrev bodies_refer : List ℕ → Bool
bodies_refer rows = every_below (procedure_count rows) (λ k. ltb (body_row rows k) (pred (table_count rows instruction_section)))

abbrev expressions_see : List ℕ → Bool
expressions_see rows = every_below (table_count rows expression_section) (λ r. all_below (variables_seen rows (expression_scope rows r)) (expression_variables (expression_row rows r)))

abbrev instructions_see : List ℕ → Bool
instructions_see rows = every_below (table_count rows instruction_section) (λ r. variables_fit rows r)

pub record Counts (rows : List ℕ) : Type 0 where
  pub variables : Between 1 most_variables (pair_count rows declaration_section)
  pub types : Between 1 most_types (table_count rows type_section)
  pub expressions : Between 0 most_expressions (table_count rows expression_section)
  pub instructions : Between 1 most_instructions (table_count rows instruction_section)
  pub procedures : Between 0 most_procedures (procedure_count rows)

-- ---- 7
module _ (rows : List ℕ) (right : count_wrong profile rows ≡ false) where
  pub counts : Counts rows
  unfolding count_wrong
  counts =
      let four = some_variables rows && some_types rows && few_expressions rows && some_instructions rows in
      let o = not-false (four && few_procedures rows) right in
      let p = and_left four (few_procedures rows) o in
      let q = and_left (some_variables rows && some_types rows && few_expressions rows) (some_instructions rows) p in
      let s = and_left (some_variables rows && some_types rows) (few_expressions rows) q in
      record {
        variables = between_is 1 most_variables (pair_count rows declaration_section) (and_left (some_variables rows) (some_types rows) s);
        types = between_is 1 most_types (table_count rows type_section) (and_right (some_variables rows) (some_types rows) s);
        expressions = between_is 0 most_expressions (table_count rows expression_section) (and_right (some_variables rows && some_types rows) (few_expressions rows) q);
        instructions = between_is 1 most_instructions (table_count rows instruction_section) (and_right (some_variables rows && some_types rows && few_expressions rows) (some_instructions rows) p);
        procedures = between_is 0 most_procedures (procedure_count rows) (and_right four (few_procedures rows) o);
      }

-- ---- 9
module _ (rows : List ℕ) (right : constant_wrong profile rows ≡ false) where
  nine : (types_fit rows && expressions_fit rows && errors_fit rows) ≡ true
  unfolding constant_wrong
  nine = not-false _ right

  pub type_attributes_lem : (r : ℕ) → r < table_count rows type_section → attributes_fit (type_attributes (type_row rows r)) ≡ true
  type_attributes_lem r l =
      below_true (table_count rows type_section) (λ j. attributes_fit (type_attributes (type_row rows j)))
      (and_left (types_fit rows) (expressions_fit rows) (and_left (types_fit rows && expressions_fit rows) (errors_fit rows) nine)) r l

  pub expression_attributes_lem : (r : ℕ) → r < table_count rows expression_section → attributes_fit (expression_attributes (expression_row rows r)) ≡ true
  expression_attributes_lem r l =
      and_right (row_constant_fits (expression_row rows r)) (attributes_fit (expression_attributes (expression_row rows r)))
      (below_true (table_count rows expression_section) (λ j. row_constant_fits (expression_row rows j) && attributes_fit (expression_attributes (expression_row rows j)))
      (and_right (types_fit rows) (expressions_fit rows) (and_left (types_fit rows && expressions_fit rows) (errors_fit rows) nine)) r l)

  pub handled_errors_lem : (r : ℕ) → r < table_count rows instruction_section → Every (λ n. is_error n ≡ true) (handled_errors (instruction_row rows r))
  handled_errors_lem r l =
      all_true_lem is_error (handled_errors (instruction_row rows r))
      (below_true (table_count rows instruction_section) (λ j. all_of is_error (handled_errors (instruction_row rows j)))
      (and_right (types_fit rows && expressions_fit rows) (errors_fit rows) nine) r l)

-- ---- 10
-- both halves
pub rows_right : (rows : List ℕ) → reference_wrong rows ≡ false → rows_refer rows ≡ true
unfolding reference_wrong
rows_right rows e = not-false (rows_refer rows) (or_left (not (rows_refer rows)) (variables_wrong rows) e)

pub variables_right : (rows : List ℕ) → reference_wrong rows ≡ false → variables_wrong rows ≡ false
unfolding reference_wrong
variables_right rows e = or_right (not (rows_refer rows)) (variables_wrong rows) e

-- the first half, part by part
pub record RowsRefer (rows : List ℕ) : Type 0 where
  pub scopes : scopes_refer rows ≡ true
  pub types : types_refer rows ≡ true
  pub expressions : expressions_refer rows ≡ true
  pub instructions : instructions_refer rows ≡ true
  pub bodies : bodies_refer rows ≡ true

pub rows_refer_lem : (rows : List ℕ) → rows_refer rows ≡ true → RowsRefer rows
unfolding rows_refer
rows_refer_lem rows e =
    let three = scopes_refer rows && types_refer rows && expressions_refer rows in
    let p = and_left (three && instructions_refer rows) (bodies_refer rows) e in
    let q = and_left three (instructions_refer rows) p in
    let s = and_left (scopes_refer rows && types_refer rows) (expressions_refer rows) q in
    record {
      scopes = and_left (scopes_refer rows) (types_refer rows) s;
      types = and_right (scopes_refer rows) (types_refer rows) s;
      expressions = and_right (scopes_refer rows && types_refer rows) (expressions_refer rows) q;
      instructions = and_right three (instructions_refer rows) p;
      bodies = and_right (three && instructions_refer rows) (bodies_refer rows) e;
    }

-- an instruction's
module _ (rows : List ℕ) (refers : rows_refer rows ≡ true) (r : ℕ) (l : r < table_count rows instruction_section) where
  abbrev own_parts : Bool
  own_parts = all_below r (parts (instruction_row rows r))

  abbrev own_roots : Bool
  own_roots = all_below (table_count rows expression_section) (evaluated (instruction_row rows r) ++ yoke_set (instruction_row rows r))

  abbrev own_call : Bool
  own_call = on_call (instruction_row rows r) (λ k b c. ltb k (procedure_count rows))

  own : (own_parts && own_roots && own_call) ≡ true
  unfolding instruction_refers
  own = below_true (table_count rows instruction_section) (λ j. instruction_refers rows j) (rows_refer_lem rows refers).instructions r l

  pub own_parts_lem : own_parts ≡ true
  own_parts_lem = and_left own_parts own_roots (and_left (own_parts && own_roots) own_call own)

  pub own_roots_lem : own_roots ≡ true
  own_roots_lem = and_right own_parts own_roots (and_left (own_parts && own_roots) own_call own)

  pub own_call_lem : own_call ≡ true
  own_call_lem = and_right (own_parts && own_roots) own_call own

-- the second half
module _ (rows : List ℕ) (right : variables_wrong rows ≡ false) where
  see : (expressions_see rows && instructions_see rows) ≡ true
  unfolding variables_wrong
  see = not-false (expressions_see rows && instructions_see rows) right

  pub sees_expressions : expressions_see rows ≡ true
  sees_expressions = and_left (expressions_see rows) (instructions_see rows) see

  pub sees_instructions : instructions_see rows ≡ true
  sees_instructions = and_right (expressions_see rows) (instructions_see rows) see

module _ (rows : List ℕ) (right : reference_wrong rows ≡ false) where
  pub type_parts_lem : (r : ℕ) → r < table_count rows type_section → Every (λ a. a < r) (type_parts (type_row rows r))
  type_parts_lem r l =
      all_below_lem r (type_parts (type_row rows r))
      (below_true (table_count rows type_section) (λ j. all_below j (type_parts (type_row rows j))) (rows_refer_lem rows (rows_right rows right)).types r l)

  pub expression_operands : (r : ℕ) → r < table_count rows expression_section → Every (λ a. a < r) (operands (expression_row rows r))
  expression_operands r l =
      all_below_lem r (operands (expression_row rows r))
      (below_true (table_count rows expression_section) (λ j. all_below j (operands (expression_row rows j))) (rows_refer_lem rows (rows_right rows right)).expressions r l)

  -- a row's variables are its scope's
  pub expression_variables_lem : (r : ℕ) → r < table_count rows expression_section → Every (λ n. n < variables_seen rows (expression_scope rows r)) (expression_variables (expression_row rows r))
  expression_variables_lem r l =
      all_below_lem (variables_seen rows (expression_scope rows r)) (expression_variables (expression_row rows r))
      (below_true (table_count rows expression_section) (λ j. all_below (variables_seen rows (expression_scope rows j)) (expression_variables (expression_row rows j)))
      (sees_expressions rows (variables_right rows right)) r l)

  pub instruction_parts : (r : ℕ) → r < table_count rows instruction_section → Every (λ a. a < r) (parts (instruction_row rows r))
  instruction_parts r l = all_below_lem r (parts (instruction_row rows r)) (own_parts_lem rows (rows_right rows right) r l)

  pub instruction_variables_lem : (r : ℕ) → r < table_count rows instruction_section → Every (λ n. n < variables_seen rows (instruction_scope rows r)) (instruction_variables (instruction_row rows r))
  unfolding variables_fit
  instruction_variables_lem r l =
      all_below_lem (variables_seen rows (instruction_scope rows r)) (instruction_variables (instruction_row rows r))
      (and_left (all_below (variables_seen rows (instruction_scope rows r)) (instruction_variables (instruction_row rows r))) _
      (below_true (table_count rows instruction_section) (λ j. variables_fit rows j) (sees_instructions rows (variables_right rows right)) r l))

-- ---- 13
module _ (rows : List ℕ) (right : type_wrong rows ≡ false) where
  pub type_ok : (r : ℕ) → r < table_count rows type_section → is_ok (type_body rows r) ≡ true
  unfolding type_wrong
  type_ok r l = below_true (table_count rows type_section) (λ j. is_ok (type_body rows j)) (not-false _ right) r l
