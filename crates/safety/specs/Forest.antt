-- The trees of rows: a property of each row's own node holds at every node of a row's tree, a tree's constants are its rows', and where a
-- row names lower rows, its tree is made of theirs (`expression_of_row`, `instruction_of_row`).
-- Assumes nothing.
use Rattle.std.specs.Prelude.{◌≡◌, refl, Bool, true, false, List, ltb}
use Rattle.std.proofs.Common.{ap, ap₂, ◌∙◌, subst, ltb-true, lt-ltb}
use Rattle.std.proofs.Math.Path.{fun_ext}
use Prim.Native.Nat.{ℕ, zero, suc, ◌<◌}
use native.Mathlib.Omega.{arith}
use Rattle.lingua.specs.Value.{Composite}
use Rattle.lingua.specs.Evaluation.{no_current}
use Rattle.lingua.specs.Expression.{Expression, unary, binary, lazy, choice, all_list, Instruction, skip, sequence, branch, loop, handle}
use Rattle.lingua.specs.Rows.{constant_value, ExpressionRow, constant_row, variable_row, current_row, unary_row, binary_row, lazy_row, choice_row, all_list_row, unknown_expression, expression_row, operands, InstructionRow, skip_row, assign_row, set_yoke_row, sequence_row, branch_row, loop_row, handle_row, call_row, unknown_instruction, instruction_row, parts}
use Rattle.lingua.specs.Trees.{below, lower, no_expression, expression_of, expression_in, expression_tree, instruction_of, instruction_in, instruction_tree}
use Rattle.safety.specs.Every.{Every, every_none, every_more, every_implies}
use Rattle.safety.specs.Constants.{ConstantsHave}
use Rattle.safety.specs.Everywhere.{Everywhere, at_skip, at_assign, at_set_yoke, at_sequence, at_branch, at_loop, at_handle, at_call}

-- a property of what lower rows give, and of what stands for other rows
pub lower_has : {A : Type 0} (P : A → Type 0) (r : ℕ) (f : ℕ → A) (other : A) → ((a : ℕ) → a < r → P (f a)) → P other → (a : ℕ) → P (lower r f other a)
lower_has P r f other h k a = go (ltb a r) refl
  where
    go : (t : Bool) → ltb a r ≡ t → P (below t f other a)
    go true e = h a (ltb-true a r e)
    go false e = k

pub lower_same : {A : Type 0} (r : ℕ) (f g : ℕ → A) (other : A) → ((a : ℕ) → a < r → f a ≡ g a) → lower r f other ≡ lower r g other
lower_same r f g other h = fun_ext (λ a. go a (ltb a r) refl)
  where
    go : (a : ℕ) (t : Bool) → ltb a r ≡ t → below t f other a ≡ below t g other a
    go a true e = h a (ltb-true a r e)
    go a false e = refl

-- ---- expressions
-- a constant's row; the tree of an unknown row is a constant too
unfoldable pub ConstantHas : (Composite → Type 0) → ExpressionRow → Type 0
ConstantHas P (constant_row c) = P (constant_value c)
ConstantHas P (variable_row n) = Unit {0}
ConstantHas P current_row = Unit {0}
ConstantHas P (unary_row o a) = Unit {0}
ConstantHas P (binary_row o a b) = Unit {0}
ConstantHas P (lazy_row k a b) = Unit {0}
ConstantHas P (choice_row a b c) = Unit {0}
ConstantHas P (all_list_row a) = Unit {0}
ConstantHas P unknown_expression = P no_current

module _ (P : Composite → Type 0) where
  node_has : (r : ℕ) (row : ExpressionRow) (look : ℕ → Expression) → ConstantHas P row → ((a : ℕ) → ConstantsHave P (look a)) → ConstantsHave P (expression_of r row look)
  unfolding expression_of ConstantHas ConstantsHave
  node_has r (constant_row c) look h k = h
  node_has r (variable_row n) look h k = tt
  node_has r current_row look h k = tt
  node_has r (unary_row o a) look h k = k a
  node_has r (binary_row o a b) look h k = (k a, k b)
  node_has r (lazy_row c a b) look h k = (k a, k b)
  node_has r (choice_row a b c) look h k = (k a, k b, k c)
  node_has r (all_list_row a) look h k = k a
  node_has r unknown_expression look h k = h

  none_has : P no_current → (r : ℕ) → ConstantsHave P (no_expression r)
  unfolding ConstantsHave
  none_has h r = h

module _ (P : Composite → Type 0) (none : P no_current) (rows : List ℕ) (count : ℕ) (each : (r : ℕ) → r < count → ConstantHas P (expression_row rows r)) where
  in_has : (n r : ℕ) → r < count → ConstantsHave P (expression_in n rows r)
  unfolding expression_in
  in_has zero r l = none_has P none r
  in_has (suc n) r l =
      node_has P r (expression_row rows r) _ (each r l)
      (lower_has (ConstantsHave P) r (λ a. expression_in n rows a) (no_expression r) (λ a q. in_has n a (omega arith)) (none_has P none r))

  -- what holds of each row's constant holds of all constants of a row's tree
  pub tree_has : (r : ℕ) → r < count → ConstantsHave P (expression_tree rows r)
  unfolding expression_tree
  tree_has r l = in_has (suc r) r l

-- ---- instructions
-- a bound above the row does not matter
same_in : (rows : List ℕ) (n m r : ℕ) → r < n → r < m → instruction_in n rows r ≡ instruction_in m rows r
unfolding instruction_in
same_in rows zero m r p q = absurd (let k : ⊥ = omega arith in k)
same_in rows (suc n) zero r p q = absurd (let k : ⊥ = omega arith in k)
same_in rows (suc n) (suc m) r p q =
    ap (instruction_of rows r (instruction_row rows r))
    (lower_same r (λ a. instruction_in n rows a) (λ a. instruction_in m rows a) (skip r) (λ a l. same_in rows n m a (omega arith) (omega arith)))

node_everywhere : {Q : Instruction → Type 0} (rows : List ℕ) (r : ℕ) (row : InstructionRow) (look : ℕ → Instruction)
    → Q (instruction_of rows r row look) → ((a : ℕ) → Everywhere Q (look a)) → Everywhere Q (instruction_of rows r row look)
unfolding instruction_of
node_everywhere rows r skip_row look q k = at_skip q
node_everywhere rows r (assign_row n e) look q k = at_assign q
node_everywhere rows r (set_yoke_row n y) look q k = at_set_yoke q
node_everywhere rows r (sequence_row i j) look q k = at_sequence q (k i) (k j)
node_everywhere rows r (branch_row e i j) look q k = at_branch q (k i) (k j)
node_everywhere rows r (loop_row e i) look q k = at_loop q (k i)
node_everywhere rows r (handle_row n i) look q k = at_handle q (k i)
node_everywhere rows r (call_row p b c) look q k = at_call q
node_everywhere rows r unknown_instruction look q k = at_skip q

module _ (Q : Instruction → Type 0) (skips : (r : ℕ) → Q (skip r)) (rows : List ℕ) (count : ℕ) (each : (r : ℕ) → r < count → Q (instruction_tree rows r)) where
  in_everywhere : (n r : ℕ) → r < n → r < count → Everywhere Q (instruction_in n rows r)
  unfolding instruction_in instruction_tree
  in_everywhere zero r p l = absurd (let k : ⊥ = omega arith in k)
  in_everywhere (suc n) r p l =
      node_everywhere rows r (instruction_row rows r) _
      (subst Q (same_in rows (suc r) (suc n) r (omega arith) p) (each r l))
      (lower_has (Everywhere Q) r (λ a. instruction_in n rows a) (skip r) (λ a q. in_everywhere n a (omega arith) (omega arith)) (at_skip (skips r)))

  -- what holds of each row's tree holds at every node of a row's tree
  pub tree_everywhere : (r : ℕ) → r < count → Everywhere Q (instruction_tree rows r)
  unfolding instruction_tree
  tree_everywhere r l = in_everywhere (suc r) r (omega arith) l

-- ---- a row's tree over the trees of the rows that it names
operand_trees : (r : ℕ) (row : ExpressionRow) (look find : ℕ → Expression) → Every (λ a. look a ≡ find a) (operands row) → expression_of r row look ≡ expression_of r row find
unfolding expression_of operands
operand_trees r (constant_row c) look find h = refl
operand_trees r (variable_row n) look find h = refl
operand_trees r current_row look find h = refl
operand_trees r (unary_row o a) look find (every_more p every_none) = ap (λ (e : Expression). unary r o e) p
operand_trees r (binary_row o a b) look find (every_more p (every_more q every_none)) = ap₂ (λ (e f : Expression). binary r o e f) p q
operand_trees r (lazy_row k a b) look find (every_more p (every_more q every_none)) = ap₂ (λ (e f : Expression). lazy r k e f) p q
operand_trees r (choice_row a b c) look find (every_more p (every_more q (every_more s every_none))) = λ i. choice r (p i) (q i) (s i)
operand_trees r (all_list_row a) look find (every_more p every_none) = ap (λ (e : Expression). all_list r e) p
operand_trees r unknown_expression look find h = refl

part_trees : (rows : List ℕ) (r : ℕ) (row : InstructionRow) (look find : ℕ → Instruction) → Every (λ a. look a ≡ find a) (parts row) → instruction_of rows r row look ≡ instruction_of rows r row find
unfolding instruction_of parts
part_trees rows r skip_row look find h = refl
part_trees rows r (assign_row n e) look find h = refl
part_trees rows r (set_yoke_row n y) look find h = refl
part_trees rows r (sequence_row i j) look find (every_more p (every_more q every_none)) = ap₂ (λ (a b : Instruction). sequence r a b) p q
part_trees rows r (branch_row e i j) look find (every_more p (every_more q every_none)) = ap₂ (λ (a b : Instruction). branch r (expression_tree rows e) a b) p q
part_trees rows r (loop_row e i) look find (every_more p every_none) = ap (λ (a : Instruction). loop r (expression_tree rows e) a) p
part_trees rows r (handle_row n i) look find (every_more p every_none) = ap (λ (a : Instruction). handle r n a) p
part_trees rows r (call_row p b c) look find h = refl
part_trees rows r unknown_instruction look find h = refl

pub lower_at : {A : Type 0} (r : ℕ) (f : ℕ → A) (other : A) (a : ℕ) → a < r → lower r f other a ≡ f a
lower_at r f other a l = ap (λ (t : Bool). below t f other a) (lt-ltb a r l)

same_expression : (rows : List ℕ) (n m r : ℕ) → r < n → r < m → expression_in n rows r ≡ expression_in m rows r
unfolding expression_in
same_expression rows zero m r p q = absurd (let k : ⊥ = omega arith in k)
same_expression rows (suc n) zero r p q = absurd (let k : ⊥ = omega arith in k)
same_expression rows (suc n) (suc m) r p q =
    ap (expression_of r (expression_row rows r))
    (lower_same r (λ a. expression_in n rows a) (λ a. expression_in m rows a) (no_expression r) (λ a l. same_expression rows n m a (omega arith) (omega arith)))

pub expression_of_row : (rows : List ℕ) (r : ℕ) → Every (λ a. a < r) (operands (expression_row rows r)) → expression_tree rows r ≡ expression_of r (expression_row rows r) (λ a. expression_tree rows a)
unfolding expression_tree expression_in
expression_of_row rows r h =
    operand_trees r (expression_row rows r) _ (λ a. expression_tree rows a)
    (every_implies (λ a (l : a < r). lower_at r (λ b. expression_in r rows b) (no_expression r) a l ∙ same_expression rows r (suc a) a l (omega arith)) h)

pub instruction_of_row : (rows : List ℕ) (r : ℕ) → Every (λ a. a < r) (parts (instruction_row rows r)) → instruction_tree rows r ≡ instruction_of rows r (instruction_row rows r) (λ a. instruction_tree rows a)
unfolding instruction_tree instruction_in
instruction_of_row rows r h =
    part_trees rows r (instruction_row rows r) _ (λ a. instruction_tree rows a)
    (every_implies (λ a (l : a < r). lower_at r (λ b. instruction_in r rows b) (skip r) a l ∙ same_in rows r (suc a) a l (omega arith)) h)
