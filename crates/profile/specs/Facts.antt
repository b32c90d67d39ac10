-- What acceptance shows of a row as the code has it: what it names is there, and its tree by those of the rows that it names.
-- Assumes nothing.
use Rattle.std.specs.Prelude.{◌≡◌, Bool, true, false, List, ◌++◌, ℕ, ◌<◌}
use Rattle.std.proofs.Math.Path.{refl, ap, ap₂}
use Rattle.std.proofs.Common.{sym, ◌∙◌, subst}
use Rattle.std.specs.Bool.{beq}
use Rattle.lingua.specs.Numbers.{expression_section, instruction_section, scope_table}
use Rattle.lingua.specs.Errors.{is_error}
use Rattle.lingua.specs.Expression.{Expression, settled_by, constant, variable, current, unary, binary, lazy, choice, all_list, Instruction, skip, assign, set_yoke, sequence, branch, loop, handle, call}
use Rattle.lingua.specs.Operations.{unary_meaning, binary_meaning}
use Rattle.lingua.specs.Rows.{row_in, table_count, pair_count, procedure_count, ExpressionRow, operands, InstructionRow, call_row, instruction_row, parts, evaluated, yoke_root, yoke_set}
use Rattle.lingua.specs.Trees.{lower, no_expression, expression_of, expression_tree, yoke_tree, given_values, given_references, instruction_of, instruction_tree, instruction_scope, expression_scope}
use Rattle.lingua.specs.Rules.{handled_errors}
use Rattle.lingua.specs.References.{expression_variables, instruction_variables, all_different}
use Rattle.safety.specs.Every.{Every, every_more}
use Rattle.safety.specs.Accepted.{AcceptedRows, Parameters, operands_below, expression_variables_lem, parts_below, instruction_roots_lem, instruction_variables_lem, call_procedure, given_variables, references_differ, parameters_of}
use Rattle.decoder.specs.declared.decode.ExpressionRow.TheVariants as code
use Rattle.decoder.specs.declared.decode.ExpressionRow.{ExpressionRow as CodeRow}
use Rattle.decoder.specs.declared.decode.InstructionRow.TheVariants as does
use Rattle.decoder.specs.declared.decode.InstructionRow.{InstructionRow as CodeInstruction}
use Rattle.decoder.specs.declared.decode.Simple.{Simple}
use Rattle.decoder.specs.Decoded.{connective, expression_meaning, instruction_meaning}
use Rattle.profile.specs.Row.{value_of, constant_of, RowSays}
use Rattle.rules.specs.Accepted.{handled_errors_lem}
use Rattle.profile.specs.Constants.{ConstantRow, constant_row_is}
use Rattle.rules.specs.Unrolled.{lower_is, expression_unrolled, instruction_unrolled}

-- ---- expressions
-- the same of an equal row
pub says_as : {rows : List ℕ} {r : ℕ} {c d : CodeRow} → c ≡ d → RowSays rows r c → RowSays rows r d
says_as {rows} {r} e s = subst (λ (k : CodeRow). RowSays rows r k) e s

-- and, or are settled by the value that the code has
settles : (t : Bool) → settled_by (connective t) ≡ t
settles true = refl
settles false = refl

pub settled_by_lem : (s t u : Bool) → beq s t ≡ u → beq s (settled_by (connective t)) ≡ u
settled_by_lem s t u e = ap (λ (r : Bool). beq s r) (settles t) ∙ e

-- operands are lower rows, a variable is declared in the row's scope, and a constant is in range
unfoldable pub RowFacts : List ℕ → ℕ → CodeRow → Type 0
RowFacts rows r (code.Constant k) = ConstantRow rows r
RowFacts rows r (code.Variable n) = n < pair_count rows (scope_table (expression_scope rows r))
RowFacts rows r code.Current = Unit {0}
RowFacts rows r (code.Unary o a) = a < r
RowFacts rows r (code.Binary o a b) = (a < r) × (b < r)
RowFacts rows r (code.Lazy t a b) = (a < r) × (b < r)
RowFacts rows r (code.Choice a b c) = (a < r) × (b < r) × (c < r)
RowFacts rows r (code.AllList a) = a < r

facts_by : (rows : List ℕ) (r : ℕ) (c : CodeRow) → ((k : Simple) → RowSays rows r (code.Constant k) → ConstantRow rows r) → RowSays rows r c → Every (λ a. a < r) (operands (expression_meaning rows (row_in rows expression_section r) c))
    → Every (λ n. n < pair_count rows (scope_table (expression_scope rows r))) (expression_variables (expression_meaning rows (row_in rows expression_section r) c)) → RowFacts rows r c
unfolding RowFacts expression_meaning operands expression_variables
facts_by rows r (code.Constant k) f s o v = f k s
facts_by rows r (code.Variable n) f s o (every_more h v) = h
facts_by rows r code.Current f s o v = tt
facts_by rows r (code.Unary u a) f s (every_more h o) v = h
facts_by rows r (code.Binary u a b) f s (every_more h (every_more k o)) v = (h, k)
facts_by rows r (code.Lazy t a b) f s (every_more h (every_more k o)) v = (h, k)
facts_by rows r (code.Choice a b c) f s (every_more h (every_more k (every_more l o))) v = (h, k, l)
facts_by rows r (code.AllList a) f s (every_more h o) v = h

pub row_facts : (rows : List ℕ) → AcceptedRows rows → (r : ℕ) → r < table_count rows expression_section → (c : CodeRow) → RowSays rows r c → RowFacts rows r c
row_facts rows accepted r l c s =
    facts_by rows r c
    (constant_row_is rows accepted r l) s
    (subst (λ (e : ExpressionRow). Every (λ a. a < r) (operands e)) (sym s.says) (operands_below rows accepted r l))
    (subst (λ (e : ExpressionRow). Every (λ n. n < pair_count rows (scope_table (expression_scope rows r))) (expression_variables e)) (sym s.says) (expression_variables_lem rows accepted r l))

-- the tree by those of the operands
unfoldable pub row_tree : List ℕ → ℕ → CodeRow → Expression
row_tree rows r (code.Constant k) = constant r (constant_of rows r)
row_tree rows r (code.Variable n) = variable r n
row_tree rows r code.Current = current r
row_tree rows r (code.Unary o a) = unary r (unary_meaning o) (expression_tree rows a)
row_tree rows r (code.Binary o a b) = binary r (binary_meaning o) (expression_tree rows a) (expression_tree rows b)
row_tree rows r (code.Lazy t a b) = lazy r (connective t) (expression_tree rows a) (expression_tree rows b)
row_tree rows r (code.Choice a b c) = choice r (expression_tree rows a) (expression_tree rows b) (expression_tree rows c)
row_tree rows r (code.AllList a) = all_list r (expression_tree rows a)

module _ (rows : List ℕ) (r : ℕ) where
  at_row : (a : ℕ) → a < r → lower r (λ k. expression_tree rows k) (no_expression r) a ≡ expression_tree rows a
  at_row a l = lower_is r (λ k. expression_tree rows k) (no_expression r) a l

  tree_by : (c : CodeRow) → RowSays rows r c → RowFacts rows r c → expression_of r (expression_meaning rows (row_in rows expression_section r) c) (lower r (λ a. expression_tree rows a) (no_expression r)) ≡ row_tree rows r c
  unfolding RowFacts expression_meaning row_tree expression_of constant_of value_of
  tree_by (code.Constant k) s f = ap (λ (e : ExpressionRow). constant r (value_of e)) s.says
  tree_by (code.Variable n) s f = refl
  tree_by code.Current s f = refl
  tree_by (code.Unary o a) s f = ap (unary r (unary_meaning o)) (at_row a f)
  tree_by (code.Binary o a b) s f = ap₂ (binary r (binary_meaning o)) (at_row a f.0) (at_row b f.1)
  tree_by (code.Lazy t a b) s f = ap₂ (lazy r (connective t)) (at_row a f.0) (at_row b f.1)
  tree_by (code.Choice a b c) s f = λ i. choice r (at_row a f.0 i) (at_row b f.1 i) (at_row c f.2 i)
  tree_by (code.AllList a) s f = ap (all_list r) (at_row a f)

pub row_tree_lem : (rows : List ℕ) (r : ℕ) (c : CodeRow) → RowSays rows r c → RowFacts rows r c → expression_tree rows r ≡ row_tree rows r c
row_tree_lem rows r c s f =
    expression_unrolled rows r
    ∙ (ap (λ (e : ExpressionRow). expression_of r e (lower r (λ a. expression_tree rows a) (no_expression r))) (sym s.says) ∙ tree_by rows r c s f)

-- ---- instructions
-- a call's procedure is there, with its parameters, and the variables that are given are declared in the row's scope, those by reference all
-- different
pub record CallFacts (rows : List ℕ) (r k b c : ℕ) : Type 0 where
  pub procedure : k < procedure_count rows
  pub parameters : Parameters rows k
  pub given : Every (λ n. n < pair_count rows (scope_table (instruction_scope rows r))) (given_values rows k b ++ given_references rows k c)
  pub differ : all_different (given_references rows k c) ≡ true

-- parts are lower rows, a variable is declared in the row's scope, an expression or yoke is there, a handled error is one, and a call can be made
unfoldable pub InstructionFacts : List ℕ → ℕ → CodeInstruction → Type 0
InstructionFacts rows r does.Skip = Unit {0}
InstructionFacts rows r (does.Assign n e) = (n < pair_count rows (scope_table (instruction_scope rows r))) × (e < table_count rows expression_section)
InstructionFacts rows r (does.SetYoke n y) = (n < pair_count rows (scope_table (instruction_scope rows r))) × Every (λ k. k < table_count rows expression_section) (yoke_root y)
InstructionFacts rows r (does.Sequence i j) = (i < r) × (j < r)
InstructionFacts rows r (does.Branch e i j) = (e < table_count rows expression_section) × (i < r) × (j < r)
InstructionFacts rows r (does.Loop e i) = (e < table_count rows expression_section) × (i < r)
InstructionFacts rows r (does.Handle n i) = (is_error n ≡ true) × (i < r)
InstructionFacts rows r (does.Call k b c) = CallFacts rows r k b c

instruction_by : (rows : List ℕ) (r : ℕ) (c : CodeInstruction) → Every (λ a. a < r) (parts (instruction_meaning c))
    → Every (λ n. n < pair_count rows (scope_table (instruction_scope rows r))) (instruction_variables (instruction_meaning c))
    → Every (λ k. k < table_count rows expression_section) (evaluated (instruction_meaning c) ++ yoke_set (instruction_meaning c))
    → Every (λ n. is_error n ≡ true) (handled_errors (instruction_meaning c))
    → ((k x y : ℕ) → instruction_meaning c ≡ call_row k x y → CallFacts rows r k x y) → InstructionFacts rows r c
unfolding InstructionFacts instruction_meaning parts instruction_variables evaluated yoke_set handled_errors
instruction_by rows r does.Skip p v e h f = tt
instruction_by rows r (does.Assign n x) p (every_more k v) (every_more l e) h f = (k, l)
instruction_by rows r (does.SetYoke n y) p (every_more k v) e h f = (k, e)
instruction_by rows r (does.Sequence i j) (every_more k (every_more l p)) v e h f = (k, l)
instruction_by rows r (does.Branch x i j) (every_more k (every_more l p)) v (every_more m e) h f = (m, k, l)
instruction_by rows r (does.Loop x i) (every_more k p) v (every_more m e) h f = (m, k)
instruction_by rows r (does.Handle n i) (every_more k p) v e (every_more m h) f = (m, k)
instruction_by rows r (does.Call k x y) p v e h f = f k x y refl

pub call_facts : (rows : List ℕ) → AcceptedRows rows → (r : ℕ) → r < table_count rows instruction_section → (k b c : ℕ) → instruction_row rows r ≡ call_row k b c → CallFacts rows r k b c
call_facts rows accepted r l k b c e =
    let there = call_procedure rows accepted r k b c l e in
    record { procedure = there; parameters = parameters_of rows accepted k there; given = given_variables rows accepted r k b c l e; differ = references_differ rows accepted r k b c l e }

pub instruction_facts : (rows : List ℕ) → AcceptedRows rows → (r : ℕ) → r < table_count rows instruction_section → (c : CodeInstruction)
    → instruction_meaning c ≡ instruction_row rows r → InstructionFacts rows r c
instruction_facts rows accepted r l c s =
    instruction_by rows r c
    (subst (λ (e : InstructionRow). Every (λ a. a < r) (parts e)) (sym s) (parts_below rows accepted r l))
    (subst (λ (e : InstructionRow). Every (λ n. n < pair_count rows (scope_table (instruction_scope rows r))) (instruction_variables e)) (sym s) (instruction_variables_lem rows accepted r l))
    (subst (λ (e : InstructionRow). Every (λ k. k < table_count rows expression_section) (evaluated e ++ yoke_set e)) (sym s) (instruction_roots_lem rows accepted r l))
    (subst (λ (e : InstructionRow). Every (λ n. is_error n ≡ true) (handled_errors e)) (sym s) (handled_errors_lem rows accepted.constants r l))
    (λ k x y e. call_facts rows accepted r l k x y (sym s ∙ e))

-- the tree by those of the parts
unfoldable pub instruction_row_tree : List ℕ → ℕ → CodeInstruction → Instruction
instruction_row_tree rows r does.Skip = skip r
instruction_row_tree rows r (does.Assign n e) = assign r n (expression_tree rows e)
instruction_row_tree rows r (does.SetYoke n y) = set_yoke r n (yoke_tree rows y)
instruction_row_tree rows r (does.Sequence i j) = sequence r (instruction_tree rows i) (instruction_tree rows j)
instruction_row_tree rows r (does.Branch e i j) = branch r (expression_tree rows e) (instruction_tree rows i) (instruction_tree rows j)
instruction_row_tree rows r (does.Loop e i) = loop r (expression_tree rows e) (instruction_tree rows i)
instruction_row_tree rows r (does.Handle n i) = handle r n (instruction_tree rows i)
instruction_row_tree rows r (does.Call k b c) = call r k (given_values rows k b) (given_references rows k c)

module _ (rows : List ℕ) (r : ℕ) where
  at_part : (a : ℕ) → a < r → lower r (λ k. instruction_tree rows k) (skip r) a ≡ instruction_tree rows a
  at_part a l = lower_is r (λ k. instruction_tree rows k) (skip r) a l

  instruction_tree_by : (c : CodeInstruction) → InstructionFacts rows r c → instruction_of rows r (instruction_meaning c) (lower r (λ a. instruction_tree rows a) (skip r)) ≡ instruction_row_tree rows r c
  unfolding InstructionFacts instruction_meaning instruction_row_tree instruction_of
  instruction_tree_by does.Skip f = refl
  instruction_tree_by (does.Assign n e) f = refl
  instruction_tree_by (does.SetYoke n y) f = refl
  instruction_tree_by (does.Sequence i j) f = ap₂ (sequence r) (at_part i f.0) (at_part j f.1)
  instruction_tree_by (does.Branch e i j) f = ap₂ (branch r (expression_tree rows e)) (at_part i f.1) (at_part j f.2)
  instruction_tree_by (does.Loop e i) f = ap (loop r (expression_tree rows e)) (at_part i f.1)
  instruction_tree_by (does.Handle n i) f = ap (handle r n) (at_part i f.1)
  instruction_tree_by (does.Call k b c) f = refl

pub instruction_row_tree_lem : (rows : List ℕ) (r : ℕ) (c : CodeInstruction) → instruction_meaning c ≡ instruction_row rows r → InstructionFacts rows r c → instruction_tree rows r ≡ instruction_row_tree rows r c
instruction_row_tree_lem rows r c s f =
    instruction_unrolled rows r
    ∙ (ap (λ (e : InstructionRow). instruction_of rows r e (lower r (λ a. instruction_tree rows a) (skip r))) (sym s) ∙ instruction_tree_by rows r c f)
