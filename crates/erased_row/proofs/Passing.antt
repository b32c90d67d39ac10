-- What the type check found at a row, by the row's kind; and the layout table's first number at a row is its result's size, at
-- most 64. Assumes nothing.
use mathlib.Core.Path.{◌≡◌, sym, ap, ◌∙◌, subst}
use mathlib.Core.List.{List}
use mathlib.Core.Option.{some}
use Prim.Native.Nat.{ℕ, suc, ◌+◌, ◌*◌, ◌≤◌, ◌<◌}
use native.Mathlib.Omega.{arith}
use lib.ListN.{length, get_or}
use lib.IntN.{ℤ}
use Rattle.lingua.specs.Numbers.{body_cells, expression_section, instruction_section}
use Rattle.lingua.specs.Outcome.{ok}
use Rattle.lingua.specs.Body.{Body, boolean, size, element_body}
use Rattle.lingua.specs.Value.{Value, Composite}
use Rattle.lingua.specs.Operation.{Unary, Binary, unary_body, binary_body}
use Rattle.lingua.specs.Expression.{Connective, Expression, row_of, constant, variable, current, unary, binary, lazy, choice, all_list, yoke_number}
use Rattle.lingua.specs.Rows.{table_count}
use Rattle.lingua.specs.Run.{Declaration, Profile}
use Rattle.lingua.specs.Store.{Variable}
use Rattle.lingua.specs.Trees.{expression_tree, yoke_tree, instruction_tree, instruction_scope}
use Rattle.lingua.specs.Typing.{Bodies, scope_bodies, unary_second, binary_second}
use Rattle.rules.specs.Accepted.{counts}
use Rattle.safety.specs.Checked.{entry}
use Rattle.safety.specs.Derivation.{Derived, DerivedRow, of_constant, of_variable, of_current, of_unary, of_binary, of_lazy, of_choice, of_all_list}
use Rattle.safety.specs.Layout.{HoldsIn}
use Rattle.safety.specs.Sizes.{Small, derived_size, tree_small}
use Rattle.safety.specs.Named.{number_of}
use Rattle.run.specs.Reached.{Lent}
use Rattle.erased_row.specs.Meaning.{World, Current, Passed, Running}

-- ---- by kinds
pub record PassedUnary (layout : List ℕ) (vars : Bodies) (row : ℕ) (o : Unary) (e : Expression) (cur b : Body) : Type 0 where
  pub operand : Body
  pub passed : Derived (HoldsIn layout) vars e cur operand
  pub half : unary_body o operand ≡ ok b
  pub holds : HoldsIn layout (entry row cur b (unary_second o operand))

pub record PassedBinary (layout : List ℕ) (vars : Bodies) (row : ℕ) (o : Binary) (e f : Expression) (cur b : Body) : Type 0 where
  pub operand : Body
  pub other : Body
  pub passed : Derived (HoldsIn layout) vars e cur operand
  pub passed_other : Derived (HoldsIn layout) vars f cur other
  pub half : binary_body o operand other ≡ ok b
  pub holds : HoldsIn layout (entry row cur b (binary_second o operand other b))

pub record PassedLazy (layout : List ℕ) (vars : Bodies) (e f : Expression) (cur b : Body) : Type 0 where
  pub first : Derived (HoldsIn layout) vars e cur boolean
  pub second : Derived (HoldsIn layout) vars f cur boolean
  pub is : boolean ≡ b

pub record PassedChoice (layout : List ℕ) (vars : Bodies) (p e f : Expression) (cur b : Body) : Type 0 where
  pub test : Derived (HoldsIn layout) vars p cur boolean
  pub yes : Derived (HoldsIn layout) vars e cur b
  pub no : Derived (HoldsIn layout) vars f cur b

pub record PassedAll (layout : List ℕ) (vars : Bodies) (row : ℕ) (e : Expression) (cur b : Body) : Type 0 where
  pub element : Body
  pub list : element_body cur ≡ some element
  pub passed : Derived (HoldsIn layout) vars e element boolean
  pub is : boolean ≡ b
  pub holds : HoldsIn layout (entry row cur b (size element))

module _ {layout : List ℕ} {vars : Bodies} {row : ℕ} {cur b : Body} where
  pub constant_passed : {x : Composite} → Derived (HoldsIn layout) vars (constant row x) cur b → x.body ≡ b
  constant_passed (of_constant q h) = q

  pub variable_passed : {n : ℕ} → Derived (HoldsIn layout) vars (variable row n) cur b → (vars n ≡ b) × (get_or layout (2 * row) 0 ≡ size b)
  variable_passed (of_variable q h) = (q, h.size_at)

  pub current_passed : Derived (HoldsIn layout) vars (current row) cur b → (cur ≡ b) × (get_or layout (2 * row) 0 ≡ size b)
  current_passed (of_current q h) = (q, h.size_at)

  pub unary_passed : {o : Unary} {e : Expression} → Derived (HoldsIn layout) vars (unary row o e) cur b → PassedUnary layout vars row o e cur b
  unary_passed (of_unary {c = c} d q h) = record { operand = c; passed = d; half = q; holds = h }

  pub binary_passed : {o : Binary} {e f : Expression} → Derived (HoldsIn layout) vars (binary row o e f) cur b → PassedBinary layout vars row o e f cur b
  binary_passed (of_binary {c = c} {d} m k q h) = record { operand = c; other = d; passed = m; passed_other = k; half = q; holds = h }

  pub lazy_passed : {k : Connective} {e f : Expression} → Derived (HoldsIn layout) vars (lazy row k e f) cur b → PassedLazy layout vars e f cur b
  lazy_passed (of_lazy m d q h) = record { first = m; second = d; is = q }

  pub choice_passed : {p e f : Expression} → Derived (HoldsIn layout) vars (choice row p e f) cur b → PassedChoice layout vars p e f cur b
  choice_passed (of_choice m d k h) = record { test = m; yes = d; no = k }

  pub all_passed : {e : Expression} → Derived (HoldsIn layout) vars (all_list row e) cur b → PassedAll layout vars row e cur b
  all_passed (of_all_list {c = c} q d p h) = record { element = c; list = q; passed = d; is = p; holds = h }

-- ---- sizes
size_of : {layout : List ℕ} {vars : Bodies} {e : Expression} {cur b : Body} → Derived (HoldsIn layout) vars e cur b → get_or layout (2 * row_of e) 0 ≡ size b
unfolding row_of
size_of (of_constant q h) = h.size_at
size_of (of_variable q h) = h.size_at
size_of (of_current q h) = h.size_at
size_of (of_unary d q h) = h.size_at
size_of (of_binary d g q h) = h.size_at
size_of (of_lazy d g q h) = h.size_at
size_of (of_choice p d g h) = h.size_at
size_of (of_all_list q d p h) = h.size_at

tree_row : (rows : List ℕ) (r : ℕ) → row_of (expression_tree rows r) ≡ r
unfolding yoke_number yoke_tree
tree_row rows r = let e : suc (row_of (expression_tree rows r)) ≡ suc r = number_of rows (suc r) in cc

pub record Sizes (layout : List ℕ) (a : ℕ) (c : Body) : Type 0 where
  pub at : get_or layout (2 * a) 0 ≡ size c
  pub small : size c ≤ body_cells

module _ {rows : List ℕ} {layout : List ℕ} {cells : List ℤ} {states : List ℕ} {ds : List Declaration} {vs : List Variable} (w : World rows layout cells states ds vs) where
  -- each row has its two numbers
  pub layout_room : {a : ℕ} → a < table_count rows expression_section → 2 * a + 1 < length layout
  layout_room l = omega (arith, (counts rows w.accepted.counts).expressions.most, w.long, l)

  pub sizes : {current : List ℤ} {cur c : Body} {x : Value} (a : ℕ) → a < table_count rows expression_section → Current current cur x → Passed layout ds (expression_tree rows a) cur c → Sizes layout a c
  unfolding Small
  sizes a l h d = record {
    at = ap (λ (k : ℕ). get_or layout (2 * k) 0) (sym (tree_row rows a)) ∙ size_of d;
    small = derived_size w.small d (tree_small rows w.accepted a l) h.small;
  }

-- ---- an instruction row of the store's own scope
pub row_passed : {p : Profile} {a : ℕ} {rows : List ℕ} {layout : List ℕ} {limits : List ℤ} {l : Lent} {vs : List Variable} → Running p a rows layout limits l vs → (r : ℕ) → r < table_count rows instruction_section → instruction_scope rows r ≡ a
    → DerivedRow (HoldsIn layout) (λ k. scope_bodies p (suc k)) (scope_bodies p a) (instruction_tree rows r)
row_passed {p} {rows = rows} {layout = layout} w r l q = subst (λ (b : ℕ). DerivedRow (HoldsIn layout) (λ k. scope_bodies p (suc k)) (scope_bodies p b) (instruction_tree rows r)) q (w.passed_rows r l)
