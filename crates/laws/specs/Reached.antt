-- The rows that a row's tree has: the row itself, and with each row those that it names. So what holds of the root, and with a row of
-- those that it names, holds of all (`step_closed`, `term_closed`, `used_closed`), and each row but the root is named by one of them.
-- Carried by a tree's root: the tree's rows are the root and those of the trees of the rows that it names. Assumes nothing.
use Rattle.std.specs.Prelude.{◌≡◌, refl, ◌⊎◌, Bool, true, false, ℕ, zero, suc, ◌≤◌, ◌<◌, pred, ltb}
use Rattle.std.proofs.Common.{sym, ◌∙◌, subst, inl, inr, ⊎_elim, arith, ltb-true, lt-ltb}
use Rattle.std.proofs.Math.Path.{ap, fun_ext}
use mathlib.Core.List.Memᴰ.{append_cases as in_append}
use mathlib.Core.List.Memᴰ.{append_left as in_left}
use mathlib.Core.List.Memᴰ.{append_right as in_right}
use mathlib.Core.List.Memᴰ.{head as here}
use mathlib.Core.List.Memᴰ.{tail as there}
use mathlib.Core.List.{List, ◌∷◌, ◌++◌, map, append-nil, Memᴰ as In}
use Rattle.lingua.specs.Numbers.{expression_section, instruction_section}
use Rattle.lingua.specs.Expression.{Expression, Instruction, skip}
use Rattle.lingua.specs.Typing.{joined}
use Rattle.lingua.specs.Rows.{table_count, procedure_count, body_row, ExpressionRow, constant_row, variable_row, current_row, unary_row, binary_row, lazy_row, choice_row, all_list_row, unknown_expression, expression_row, operands, InstructionRow, skip_row, assign_row, set_yoke_row, sequence_row, branch_row, loop_row, handle_row, call_row, unknown_instruction, instruction_row, parts, evaluated, yoke_root, yoke_set}
use Rattle.lingua.specs.Trees.{below, lower, no_expression, expression_of, expression_in, expression_tree, yoke_tree, instruction_of, instruction_in, instruction_tree, expression_rows, yoke_rows, instruction_rows, used_expressions}
use Rattle.laws.specs.Among.{joined_in, in_joined, map_same}
use Rattle.laws.specs.Refers.{Refers, parts_of, operands_of, roots_of}

-- ---- the rows of trees: a tree's root, and the rows of the trees of the rows that the root names
module _ (count : ℕ) (names tree : ℕ → List ℕ) (lower : (r a : ℕ) → r < count → In a (names r) → a < r) (whole : (r : ℕ) → r < count → tree r ≡ r ∷ joined (map tree (names r))) where
  pub root_in : (r : ℕ) → r < count → In r (tree r)
  root_in r l = subst (λ (t : List ℕ). In r t) (sym (whole r l)) (here refl)

  -- a row of the tree of a row that r names
  pub named_in : (r a x : ℕ) → r < count → In a (names r) → In x (tree a) → In x (tree r)
  named_in r a x l m h = subst (λ (t : List ℕ). In x t) (sym (whole r l)) (there (joined_in tree m h))

  by_root : (r x : ℕ) → r < count → In x (tree r) → (x ≡ r) ⊎ ((a : ℕ) × In a (names r) × In x (tree a))
  by_root r x l h = go (subst (λ (t : List ℕ). In x t) (whole r l) h)
    where
      go : In x (r ∷ joined (map tree (names r))) → (x ≡ r) ⊎ ((a : ℕ) × In a (names r) × In x (tree a))
      go (here e) = inl e
      go (there m) = inr (in_joined tree x (names r) m)

  -- what holds of the root, and with each row of those that it names, holds of all
  closed : (C : ℕ → Type 0) → ((y x : ℕ) → y < count → C y → In x (names y) → C x) → (n r x : ℕ) → r < n → r < count → C r → In x (tree r) → C x
  closed C f zero r x m l k h = absurd (let z : ⊥ = omega arith in z)
  closed C f (suc n) r x m l k h =
      ⊎_elim (λ (e : x ≡ r). subst C (sym e) k)
      (λ (s : (a : ℕ) × In a (names r) × In x (tree a)). let b : s.0 < r = lower r s.0 l s.1 in closed C f n s.0 x (omega arith) (omega arith) (f r s.0 l k s.1) s.2)
      (by_root r x l h)

  pub tree_closed : (C : ℕ → Type 0) → ((y x : ℕ) → y < count → C y → In x (names y) → C x) → (r x : ℕ) → r < count → C r → In x (tree r) → C x
  tree_closed C f r x l k h = closed C f (suc r) r x (omega arith) l k h

  pub tree_below : (r x : ℕ) → r < count → In x (tree r) → x ≤ r
  tree_below r x l h = tree_closed (λ y. y ≤ r) (λ y z m k i. let b : z < y = lower y z m i in omega arith) r x l (omega arith) h

  under : (n r y x : ℕ) → r < n → r < count → In y (tree r) → In x (names y) → In x (tree r)
  under zero r y x m l h i = absurd (let z : ⊥ = omega arith in z)
  under (suc n) r y x m l h i =
      ⊎_elim (λ (e : y ≡ r). let j : In x (names r) = subst (λ (q : ℕ). In x (names q)) e i in let b : x < r = lower r x l j in named_in r x x l j (root_in x (omega arith)))
      (λ (s : (a : ℕ) × In a (names r) × In y (tree a)). let b : s.0 < r = lower r s.0 l s.1 in named_in r s.0 x l s.1 (under n s.0 y x (omega arith) (omega arith) s.2 i))
      (by_root r y l h)

  -- with a row, what it names
  pub in_under : (r y x : ℕ) → r < count → In y (tree r) → In x (names y) → In x (tree r)
  in_under r y x l h i = under (suc r) r y x (omega arith) l h i

  -- the root, or what a row of the tree names
  pub in_above : (r x : ℕ) → r < count → In x (tree r) → (x ≡ r) ⊎ ((y : ℕ) × In y (tree r) × In x (names y))
  in_above r x l h =
      (tree_closed (λ z. In z (tree r) × ((z ≡ r) ⊎ ((y : ℕ) × In y (tree r) × In z (names y))))
      (λ y z m k i. (in_under r y z l k.0 i, inr (y, k.0, i))) r x l (root_in r l, inl refl) h).1

  -- what the rows of a tree use besides
  module _ (uses used : ℕ → List ℕ) (all : (r : ℕ) → r < count → used r ≡ uses r ++ joined (map used (names r))) where
    pub used_in : (n r y x : ℕ) → r < n → r < count → In y (tree r) → In x (uses y) → In x (used r)
    used_in zero r y x m l h i = absurd (let z : ⊥ = omega arith in z)
    used_in (suc n) r y x m l h i =
        subst (λ (t : List ℕ). In x t) (sym (all r l))
        (⊎_elim (λ (e : y ≡ r). in_left (joined (map used (names r))) (subst (λ (q : ℕ). In x (uses q)) e i))
        (λ (s : (a : ℕ) × In a (names r) × In y (tree a)). let b : s.0 < r = lower r s.0 l s.1 in in_right (uses r) (joined_in used s.1 (used_in n s.0 y x (omega arith) (omega arith) s.2 i)))
        (by_root r y l h))

    pub in_used : (n r x : ℕ) → r < n → r < count → In x (used r) → (y : ℕ) × In y (tree r) × In x (uses y)
    in_used zero r x m l h = absurd (let z : ⊥ = omega arith in z)
    in_used (suc n) r x m l h =
        ⊎_elim (λ (i : In x (uses r)). (r, root_in r l, i))
        (λ (i : In x (joined (map used (names r)))). let s = in_joined used x (names r) i in let b : s.0 < r = lower r s.0 l s.1 in let t = in_used n s.0 x (omega arith) (omega arith) s.2 in (t.0, named_in r s.0 t.0 l s.1 t.1, t.2))
        (in_append (uses r) (subst (λ (t : List ℕ). In x t) (all r l) h))

-- ---- a tree's rows by its root: the bound on how deep rows refer does not matter
module _ {A : Type 0} (node : ℕ → (ℕ → A) → A) (other : ℕ → A) (f : ℕ → ℕ → A) (step : (n r : ℕ) → f (suc n) r ≡ node r (lower r (λ a. f n a) (other r))) where
  lower_same : (r : ℕ) (g h : ℕ → A) → ((a : ℕ) → a < r → g a ≡ h a) → lower r g (other r) ≡ lower r h (other r)
  lower_same r g h e = fun_ext (λ a. go a (ltb a r) refl)
    where
      go : (a : ℕ) (t : Bool) → ltb a r ≡ t → below t g (other r) a ≡ below t h (other r) a
      go a true q = e a (ltb-true a r q)
      go a false q = refl

  same_in : (n m r : ℕ) → r < n → r < m → f n r ≡ f m r
  same_in zero m r p q = absurd (let k : ⊥ = omega arith in k)
  same_in (suc n) zero r p q = absurd (let k : ⊥ = omega arith in k)
  same_in (suc n) (suc m) r p q =
      step n r ∙ (ap (node r) (lower_same r (λ a. f n a) (λ a. f m a) (λ a l. same_in n m a (omega arith) (omega arith))) ∙ sym (step m r))

  -- what a lower row gives is what it gives by itself
  look_lower : (r a : ℕ) → a < r → lower r (λ b. f r b) (other r) a ≡ f (suc a) a
  look_lower r a l = ap (λ (t : Bool). below t (λ b. f r b) (other r) a) (lt-ltb a r l) ∙ same_in r (suc a) a l (omega arith)

instruction_node : (rows : List ℕ) (r : ℕ) (row : InstructionRow) (look : ℕ → Instruction) → instruction_rows (instruction_of rows r row look) ≡ r ∷ joined (map (λ a. instruction_rows (look a)) (parts row))
unfolding instruction_rows instruction_of parts joined
instruction_node rows r skip_row look = refl
instruction_node rows r (assign_row n e) look = refl
instruction_node rows r (set_yoke_row n y) look = refl
instruction_node rows r (sequence_row i j) look = simp append-nil
instruction_node rows r (branch_row e i j) look = simp append-nil
instruction_node rows r (loop_row e i) look = simp append-nil
instruction_node rows r (handle_row n i) look = simp append-nil
instruction_node rows r (call_row k b c) look = refl
instruction_node rows r unknown_instruction look = refl

expression_node : (r : ℕ) (row : ExpressionRow) (look : ℕ → Expression) → expression_rows (expression_of r row look) ≡ r ∷ joined (map (λ a. expression_rows (look a)) (operands row))
unfolding expression_rows expression_of operands joined
expression_node r (constant_row c) look = refl
expression_node r (variable_row n) look = refl
expression_node r current_row look = refl
expression_node r (unary_row o a) look = simp append-nil
expression_node r (binary_row o a b) look = simp append-nil
expression_node r (lazy_row k a b) look = simp append-nil
expression_node r (choice_row a b c) look = simp append-nil
expression_node r (all_list_row a) look = simp append-nil
expression_node r unknown_expression look = refl

yoke_used : (rows : List ℕ) (y : ℕ) → yoke_rows (yoke_tree rows y) ≡ joined (map (λ e. expression_rows (expression_tree rows e)) (yoke_root y))
unfolding yoke_rows yoke_tree yoke_root joined
yoke_used rows zero = refl
yoke_used rows (suc r) = simp append-nil

used_node : (rows : List ℕ) (r : ℕ) (row : InstructionRow) (look : ℕ → Instruction)
    → used_expressions (instruction_of rows r row look) ≡ joined (map (λ e. expression_rows (expression_tree rows e)) (evaluated row ++ yoke_set row)) ++ joined (map (λ a. used_expressions (look a)) (parts row))
unfolding used_expressions instruction_of parts evaluated yoke_set joined
used_node rows r skip_row look = refl
used_node rows r (assign_row n e) look = simp append-nil
used_node rows r (set_yoke_row n y) look = yoke_used rows y ∙ sym (append-nil (joined (map (λ e. expression_rows (expression_tree rows e)) (yoke_root y))))
used_node rows r (sequence_row i j) look = simp append-nil
used_node rows r (branch_row e i j) look = simp append-nil
used_node rows r (loop_row e i) look = simp append-nil
used_node rows r (handle_row n i) look = simp append-nil
used_node rows r (call_row k b c) look = refl
used_node rows r unknown_instruction look = refl

-- ---- the rows of instructions and of expressions
abbrev pub steps_of : List ℕ → ℕ → List ℕ
steps_of rows r = instruction_rows (instruction_tree rows r)

abbrev pub terms_of : List ℕ → ℕ → List ℕ
terms_of rows r = expression_rows (expression_tree rows r)

abbrev pub used_from : List ℕ → ℕ → List ℕ
used_from rows r = used_expressions (instruction_tree rows r)

module _ (rows : List ℕ) (h : Refers rows) where
  abbrev instructions : ℕ
  instructions = table_count rows instruction_section

  abbrev expressions : ℕ
  expressions = table_count rows expression_section

  abbrev look_at : ℕ → ℕ → Instruction
  look_at r = lower r (λ b. instruction_in r rows b) (skip r)

  part_tree : (r a : ℕ) → r < instructions → In a (parts_of rows r) → look_at r a ≡ instruction_tree rows a
  unfolding instruction_tree instruction_in
  part_tree r a l m =
      look_lower (λ q look. instruction_of rows q (instruction_row rows q) look) (λ q. skip q) (λ n q. instruction_in n rows q) (λ n q. refl) r a (h.parts r a l m)

  steps_whole : (r : ℕ) → r < instructions → steps_of rows r ≡ r ∷ joined (map (steps_of rows) (parts_of rows r))
  unfolding instruction_tree instruction_in
  steps_whole r l =
      instruction_node rows r (instruction_row rows r) (look_at r)
      ∙ ap (λ (t : List (List ℕ)). r ∷ joined t) (map_same (λ a. instruction_rows (look_at r a)) (steps_of rows) (parts_of rows r) (λ a m. ap instruction_rows (part_tree r a l m)))

  abbrev uses_of : ℕ → List ℕ
  uses_of r = joined (map (terms_of rows) (roots_of rows r))

  used_whole : (r : ℕ) → r < instructions → used_from rows r ≡ uses_of r ++ joined (map (used_from rows) (parts_of rows r))
  unfolding instruction_tree instruction_in
  used_whole r l =
      used_node rows r (instruction_row rows r) (look_at r)
      ∙ ap (λ (t : List (List ℕ)). uses_of r ++ joined t) (map_same (λ a. used_expressions (look_at r a)) (used_from rows) (parts_of rows r) (λ a m. ap used_expressions (part_tree r a l m)))

  terms_whole : (r : ℕ) → r < expressions → terms_of rows r ≡ r ∷ joined (map (terms_of rows) (operands_of rows r))
  unfolding expression_tree expression_in
  terms_whole r l =
      expression_node r (expression_row rows r) (lower r (λ b. expression_in r rows b) (no_expression r))
      ∙ ap (λ (t : List (List ℕ)). r ∷ joined t)
      (map_same (λ a. expression_rows (lower r (λ b. expression_in r rows b) (no_expression r) a)) (terms_of rows) (operands_of rows r)
      (λ a m. ap expression_rows (look_lower (λ q look. expression_of q (expression_row rows q) look) (λ q. no_expression q) (λ n q. expression_in n rows q) (λ n q. refl) r a (h.operands r a l m))))

  -- instructions
  pub step_root : (r : ℕ) → r < instructions → In r (steps_of rows r)
  step_root = root_in instructions (parts_of rows) (steps_of rows) h.parts steps_whole

  pub step_part : (r y x : ℕ) → r < instructions → In y (steps_of rows r) → In x (parts_of rows y) → In x (steps_of rows r)
  step_part = in_under instructions (parts_of rows) (steps_of rows) h.parts steps_whole

  pub step_above : (r x : ℕ) → r < instructions → In x (steps_of rows r) → (x ≡ r) ⊎ ((y : ℕ) × In y (steps_of rows r) × In x (parts_of rows y))
  step_above = in_above instructions (parts_of rows) (steps_of rows) h.parts steps_whole

  pub step_below : (r x : ℕ) → r < instructions → In x (steps_of rows r) → x ≤ r
  step_below = tree_below instructions (parts_of rows) (steps_of rows) h.parts steps_whole

  pub step_closed : (C : ℕ → Type 0) → ((y x : ℕ) → y < instructions → C y → In x (parts_of rows y) → C x) → (r x : ℕ) → r < instructions → C r → In x (steps_of rows r) → C x
  step_closed = tree_closed instructions (parts_of rows) (steps_of rows) h.parts steps_whole

  -- expressions
  pub term_root : (r : ℕ) → r < expressions → In r (terms_of rows r)
  term_root = root_in expressions (operands_of rows) (terms_of rows) h.operands terms_whole

  pub term_operand : (r y x : ℕ) → r < expressions → In y (terms_of rows r) → In x (operands_of rows y) → In x (terms_of rows r)
  term_operand = in_under expressions (operands_of rows) (terms_of rows) h.operands terms_whole

  pub term_above : (r x : ℕ) → r < expressions → In x (terms_of rows r) → (x ≡ r) ⊎ ((y : ℕ) × In y (terms_of rows r) × In x (operands_of rows y))
  term_above = in_above expressions (operands_of rows) (terms_of rows) h.operands terms_whole

  pub term_below : (r x : ℕ) → r < expressions → In x (terms_of rows r) → x ≤ r
  term_below = tree_below expressions (operands_of rows) (terms_of rows) h.operands terms_whole

  pub term_closed : (C : ℕ → Type 0) → ((y x : ℕ) → y < expressions → C y → In x (operands_of rows y) → C x) → (r x : ℕ) → r < expressions → C r → In x (terms_of rows r) → C x
  term_closed = tree_closed expressions (operands_of rows) (terms_of rows) h.operands terms_whole

  -- the expressions of an instruction's rows
  pub use_of : (r y e x : ℕ) → r < instructions → In y (steps_of rows r) → In e (roots_of rows y) → In x (terms_of rows e) → In x (used_from rows r)
  use_of r y e x l m i j =
      used_in instructions (parts_of rows) (steps_of rows) h.parts steps_whole uses_of (used_from rows) used_whole (suc r) r y x (omega arith) l m (joined_in (terms_of rows) i j)

  -- whose root, and whose row
  pub record UsedBy (r x : ℕ) : Type 0 where
    pub row : ℕ
    pub within : In row (steps_of rows r)
    pub root : ℕ
    pub names : In root (roots_of rows row)
    pub reaches : In x (terms_of rows root)

  pub used_by_lem : (r x : ℕ) → r < instructions → In x (used_from rows r) → UsedBy r x
  used_by_lem r x l m =
      let s = in_used instructions (parts_of rows) (steps_of rows) h.parts steps_whole uses_of (used_from rows) used_whole (suc r) r x (omega arith) l m in
      let t = in_joined (terms_of rows) x (roots_of rows s.0) s.2 in
      record { row = s.0; within = s.1; root = t.0; names = t.1; reaches = t.2 }

  root_below : (r y e : ℕ) → r < instructions → In y (steps_of rows r) → In e (roots_of rows y) → (y < instructions) × (e < expressions)
  root_below r y e l m i = let b : y ≤ r = step_below r y l m in let c : y < instructions = omega arith in (c, h.roots y e c i)

  -- with an expression, its operands
  pub used_operand : (r y x : ℕ) → r < instructions → In y (used_from rows r) → In x (operands_of rows y) → In x (used_from rows r)
  used_operand r y x l m i =
      let s = used_by_lem r y l m in
      use_of r s.row s.root x l s.within s.names (term_operand s.root y x (root_below r s.row s.root l s.within s.names).1 s.reaches i)

  -- the root of an instruction, or an operand
  pub used_above : (r x : ℕ) → r < instructions → In x (used_from rows r) → ((y : ℕ) × In y (steps_of rows r) × In x (roots_of rows y)) ⊎ ((y : ℕ) × In y (used_from rows r) × In x (operands_of rows y))
  used_above r x l m =
      let s = used_by_lem r x l m in
      ⊎_elim (λ (e : x ≡ s.root). inl (s.row, s.within, subst (λ (q : ℕ). In q (roots_of rows s.row)) (sym e) s.names))
      (λ (t : (y : ℕ) × In y (terms_of rows s.root) × In x (operands_of rows y)). inr (t.0, use_of r s.row s.root t.0 l s.within s.names t.1, t.2))
      (term_above s.root x (root_below r s.row s.root l s.within s.names).1 s.reaches)

  pub used_closed : (C : ℕ → Type 0) (r : ℕ) → ((y e : ℕ) → In y (steps_of rows r) → In e (roots_of rows y) → C e) → ((y x : ℕ) → y < expressions → C y → In x (operands_of rows y) → C x) → (x : ℕ) → r < instructions → In x (used_from rows r) → C x
  used_closed C r f g x l m =
      let s = used_by_lem r x l m in
      term_closed C g s.root x (root_below r s.row s.root l s.within s.names).1 (f s.row s.root s.within s.names) s.reaches

  pub used_below : (r x : ℕ) → r < instructions → In x (used_from rows r) → x < expressions
  used_below r x l m =
      used_closed (λ y. y < expressions) r (λ y e k i. (root_below r y e l k i).1) (λ y z k c i. let b : z < y = h.operands y z k i in omega arith) x l m

  pub body_below : (k : ℕ) → k < procedure_count rows → body_row rows k < instructions
  body_below k l = let b : body_row rows k < pred instructions = h.bodies k l in omega arith
