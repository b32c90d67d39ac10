-- In an accepted profile each expression row is reached once from the roots, so the type check records one entry for each: `entries_once`.
-- With it the layout table holds the numbers of every entry (`profile_layout`), and they are known at every row of every tree of the
-- profile (`profile_laid_out`). Carried by a count, from the highest row down: a row is reached as often as rows that are reached use it,
-- and each row is used once. Assumes nothing.
use Rattle.std.proofs.Math.Path.{◌≡◌, refl, ap, subst}
use Rattle.std.proofs.Common.{sym, ap₂, ◌∙◌}
use Rattle.std.specs.Prelude.{◌≢◌, ◌⊎◌, Bool, if◌then◌else◌}
use Rattle.std.proofs.Math.Logic.{inl, inr}
use Rattle.std.proofs.Math.Bool.{true, false}
use mathlib.Core.List.{List, [], ◌∷◌, ◌++◌, map, append-nil, append_assoc}
use Rattle.std.proofs.Math.Option.{Option, none}
use Prim.Native.Nat.{ℕ, zero, suc, ◌+◌, ◌≤◌, ◌<◌}
use native.Mathlib.Omega.{arith}
use Rattle.std.proofs.Math.Dec.{eqb, ltb, leb}
use borrow.Author.Tests.{eqb-true, eqb-false, ltb-true, ltb-false, leb-true, leb-false, le-leb, lt-leb, ne_eqb}
use Rattle.lingua.specs.Numbers.{declaration_section, expression_section, instruction_section, most_expressions, scope_table}
use Rattle.lingua.specs.Outcome.{ok}
use Rattle.lingua.specs.Expression.{Expression, Instruction}
use Rattle.lingua.specs.Store.{Limit}
use Rattle.lingua.specs.Run.{Declaration, Procedure, Scoped, scoped}
use Rattle.lingua.specs.Typing.{Entry, joined, all_declarations, scope_bodies, check_profile, layout_of}
use Rattle.lingua.specs.Rows.{table_count, pair_count, procedure_count, ExpressionRow, constant_row, variable_row, current_row, unary_row, binary_row, lazy_row, choice_row, all_list_row, unknown_expression, expression_row, operands, InstructionRow, skip_row, assign_row, set_yoke_row, sequence_row, branch_row, loop_row, handle_row, call_row, unknown_instruction, instruction_row, evaluated, yoke_root, yoke_set}
use Rattle.lingua.specs.Trees.{tabulate_from, tabulate, lower, no_expression, expression_of, expression_in, expression_tree, yoke_tree, instruction_of, instruction_in, instruction_tree, instruction_scope, declaration_in, name_at, limit_of, declaration_at, procedure_of, profile_of}
use Rattle.lingua.specs.References.{occurrences, yoke_in, declared_roots, yoke_roots, plain_roots, expression_uses}
use Rattle.safety.specs.Every.{Every, every_none, every_more, every_append, every_implies, every_map, every_unmap, every_joined, every_tabulate}
use Rattle.safety.specs.Forest.{lower_at}
use Rattle.safety.specs.Accepted.{AcceptedRows, operands_below, used_once, scope_root, instruction_roots_lem, most_rows}
use Rattle.safety.specs.Layout.{HoldsIn, Once, entry_row, layout_holds}
use Rattle.safety.specs.EntryRows.{tree_rows, yoke_rows, own_rows, checked_rows, entries_rows}
use Rattle.safety.specs.Programs.{TypedProfile}
use Rattle.safety.specs.Derivation.{DerivedRow}
use Rattle.safety.specs.Passed.{profile_derives, rows_derive}

-- ---- counts
pub count_append : (x : ℕ) (cs bs : List ℕ) → occurrences x (cs ++ bs) ≡ occurrences x cs + occurrences x bs
unfolding occurrences
count_append x [] bs = omega arith
count_append x (a ∷ cs) bs = omega (arith, count_append x cs bs)

joined_append : {A : Type 0} (f : A → List ℕ) (cs bs : List A) → joined (map f (cs ++ bs)) ≡ joined (map f cs) ++ joined (map f bs)
unfolding joined
joined_append f [] bs = refl
joined_append f (a ∷ cs) bs = ap (λ (l : List ℕ). f a ++ l) (joined_append f cs bs) ∙ sym (append_assoc (f a) (joined (map f cs)) (joined (map f bs)))

-- ---- sums over a list of rows of a weight of each
sum_from : (ℕ → ℕ) → ℕ → List ℕ → ℕ
sum_from w i [] = 0
sum_from w i (k ∷ ks) = (if leb i k then w k else 0) + sum_from w i ks

sum_at : (ℕ → ℕ) → ℕ → List ℕ → ℕ
sum_at w i [] = 0
sum_at w i (k ∷ ks) = (if eqb i k then w k else 0) + sum_at w i ks

sum_table : (ℕ → ℕ) → ℕ → ℕ → ℕ
sum_table w i zero = 0
sum_table w i (suc n) = w i + sum_table w (suc i) n

module _ (w : ℕ → ℕ) where
  split_first : (i k : ℕ) → ◌≡◌ {A = ℕ} (if leb i k then w k else 0) ((if eqb i k then w k else 0) + (if leb (suc i) k then w k else 0))
  split_first i k = go (leb i k) (eqb i k) (leb (suc i) k) refl refl refl
    where
      go : (a b c : Bool) → leb i k ≡ a → eqb i k ≡ b → leb (suc i) k ≡ c → ◌≡◌ {A = ℕ} (if a then w k else 0) ((if b then w k else 0) + (if c then w k else 0))
      go true true true p q r = absurd (let z : ⊥ = omega (arith, eqb-true i k q, leb-true (suc i) k r) in z)
      go true true false p q r = omega arith
      go true false true p q r = omega arith
      go true false false p q r =
          let apart : i ≢ k = eqb-false i k q in
          absurd (let z : ⊥ = omega (arith, leb-true i k p, leb-false (suc i) k r) in z)
      go false true c p q r = absurd (let z : ⊥ = omega (arith, leb-false i k p, eqb-true i k q) in z)
      go false false true p q r = absurd (let z : ⊥ = omega (arith, leb-false i k p, leb-true (suc i) k r) in z)
      go false false false p q r = refl

  sum_split : (i : ℕ) (ks : List ℕ) → sum_from w i ks ≡ sum_at w i ks + sum_from w (suc i) ks
  unfolding sum_from sum_at
  sum_split i [] = refl
  sum_split i (k ∷ ks) = omega (arith, split_first i k, sum_split i ks)

  at_none : (i : ℕ) (ks : List ℕ) → occurrences i ks ≡ 0 → sum_at w i ks ≡ 0
  unfolding sum_at occurrences
  at_none i [] e = refl
  at_none i (k ∷ ks) e = go (eqb i k) e (λ q. at_none i ks q)
    where
      go : (t : Bool) → (if t then 1 else 0) + occurrences i ks ≡ 0 → (occurrences i ks ≡ 0 → sum_at w i ks ≡ 0) → (if t then w k else 0) + sum_at w i ks ≡ 0
      go true q ih = absurd (let z : ⊥ = omega arith in z)
      go false q ih = let r = ih (omega arith) in omega arith

  at_zero : (i : ℕ) (ks : List ℕ) → w i ≡ 0 → sum_at w i ks ≡ 0
  unfolding sum_at
  at_zero i [] e = refl
  at_zero i (k ∷ ks) e = go (eqb i k) refl (at_zero i ks e)
    where
      go : (t : Bool) → eqb i k ≡ t → sum_at w i ks ≡ 0 → (if t then w k else 0) + sum_at w i ks ≡ 0
      go true q ih = let s : w k ≡ 0 = ap w (sym (eqb-true i k q)) ∙ e in omega arith
      go false q ih = omega arith

  at_once : (i : ℕ) (ks : List ℕ) → occurrences i ks ≤ 1 → sum_at w i ks ≤ w i
  unfolding sum_at occurrences
  at_once i [] l = omega arith
  at_once i (k ∷ ks) l = go (eqb i k) refl l (λ q. at_once i ks q)
    where
      go : (t : Bool) → eqb i k ≡ t → (if t then 1 else 0) + occurrences i ks ≤ 1 → (occurrences i ks ≤ 1 → sum_at w i ks ≤ w i) → (if t then w k else 0) + sum_at w i ks ≤ w i
      go true q m ih =
          let s : w k ≡ w i = ap w (sym (eqb-true i k q)) in
          let z : sum_at w i ks ≡ 0 = at_none i ks (omega arith) in
          omega arith
      go false q m ih = let r = ih (omega arith) in omega arith

  from_none : (i : ℕ) {ks : List ℕ} → Every (λ k. k < i) ks → sum_from w i ks ≡ 0
  unfolding sum_from
  from_none i every_none = refl
  from_none i (every_more {x = k} {xs = ks} l ls) = go (leb i k) (lt-leb i k l) (from_none i ls)
    where
      go : (t : Bool) → t ≡ false → sum_from w i ks ≡ 0 → (if t then w k else 0) + sum_from w i ks ≡ 0
      go true q ih = absurd (let z : ◌≡◌ {A = ℕ} 0 1 = cc in let y : ⊥ = omega arith in y)
      go false q ih = omega arith

  -- rows that stand once, or weigh nothing, weigh no more than the whole table
  sum_bound : (n i : ℕ) (ks : List ℕ) → Every (λ k. k < i + n) ks → ((k : ℕ) → k < i + n → (w k ≡ 0) ⊎ (occurrences k ks ≤ 1)) → sum_from w i ks ≤ sum_table w i n
  unfolding sum_table
  sum_bound zero i ks h f = omega (arith, from_none i (every_implies (λ k (l : k < i + zero). let m : k < i = omega arith in m) h))
  sum_bound (suc n) i ks h f =
      let r = sum_bound n (suc i) ks (every_implies (λ k (l : k < i + suc n). let m : k < suc i + n = omega arith in m) h) (λ k l. f k (omega arith)) in
      let s : sum_at w i ks ≤ w i = by (f i (omega arith)) in
      omega (arith, sum_split i ks)
    where
      by : (w i ≡ 0) ⊎ (occurrences i ks ≤ 1) → sum_at w i ks ≤ w i
      by (inl z) = omega (arith, at_zero i ks z)
      by (inr o) = at_once i ks o

-- ---- what the rows of a list use
abbrev pub used_by : List ℕ → ℕ → List ℕ
used_by rows k = operands (expression_row rows k)

unfoldable pub uses : List ℕ → List ℕ → List ℕ
uses rows ks = joined (map (used_by rows) ks)

module _ (rows : List ℕ) (x : ℕ) where
  count_uses : (cs bs : List ℕ) → occurrences x (uses rows (cs ++ bs)) ≡ occurrences x (uses rows cs) + occurrences x (uses rows bs)
  unfolding uses
  count_uses cs bs = ap (occurrences x) (joined_append (used_by rows) cs bs) ∙ count_append x (uses rows cs) (uses rows bs)

  count_one : (r : ℕ) → occurrences x (uses rows (r ∷ [])) ≡ occurrences x (used_by rows r)
  unfolding uses joined
  count_one r = ap (occurrences x) (append-nil (used_by rows r))

  -- a list of rows that are reached from r: r itself, and what its rows use
  unfoldable Reached : ℕ → List ℕ → Type 0
  Reached r ks = occurrences x ks ≡ occurrences x (r ∷ []) + occurrences x (uses rows ks)

  reached_all : (T : ℕ → List ℕ) (cs : List ℕ) → Every (λ a. Reached a (T a)) cs
      → occurrences x (joined (map T cs)) ≡ occurrences x cs + occurrences x (uses rows (joined (map T cs)))
  unfolding Reached joined occurrences uses
  reached_all T [] h = refl
  reached_all T (a ∷ cs) (every_more h hs) =
      let rest = joined (map T cs) in
      omega (arith, h, reached_all T cs hs, count_append x (T a) rest, count_uses (T a) rest)

  reached_row : (r : ℕ) (ks : List ℕ) → occurrences x ks ≡ occurrences x (used_by rows r) + occurrences x (uses rows ks) → Reached r (ks ++ (r ∷ []))
  unfolding Reached
  reached_row r ks h = omega (arith, h, count_append x ks (r ∷ []), count_uses ks (r ∷ []), count_one r)

  sum_uses : (ks : List ℕ) → sum_from (λ k. occurrences x (used_by rows k)) 0 ks ≡ occurrences x (uses rows ks)
  unfolding sum_from uses joined occurrences
  sum_uses [] = refl
  sum_uses (k ∷ ks) =
      let e : ◌≡◌ {A = ℕ} (if leb 0 k then occurrences x (used_by rows k) else 0) (occurrences x (used_by rows k)) = ap {B = ℕ} (λ (t : Bool). if t then occurrences x (used_by rows k) else 0) (le-leb 0 k (omega arith)) in
      omega (arith, e, sum_uses ks, count_append x (used_by rows k) (joined (map (used_by rows) ks)))

  sum_table_lem : (i n : ℕ) → sum_table (λ k. occurrences x (used_by rows k)) i n ≡ occurrences x (joined (tabulate_from i n (used_by rows)))
  unfolding sum_table joined tabulate_from occurrences
  sum_table_lem i zero = refl
  sum_table_lem i (suc n) = omega (arith, sum_table_lem (suc i) n, count_append x (used_by rows i) (joined (tabulate_from (suc i) n (used_by rows))))

-- ---- the rows of a tree
node_rows : (r : ℕ) (row : ExpressionRow) (look : ℕ → Expression) → tree_rows (expression_of r row look) ≡ joined (map (λ a. tree_rows (look a)) (operands row)) ++ (r ∷ [])
unfolding tree_rows expression_of operands joined
node_rows r (constant_row c) look = refl
node_rows r (variable_row n) look = refl
node_rows r current_row look = refl
node_rows r (unary_row o a) look = ap (λ (l : List ℕ). l ++ (r ∷ [])) (sym (append-nil (tree_rows (look a))))
node_rows r (binary_row o a b) look = ap (λ (l : List ℕ). (tree_rows (look a) ++ l) ++ (r ∷ [])) (sym (append-nil (tree_rows (look b))))
node_rows r (lazy_row k a b) look = ap (λ (l : List ℕ). (tree_rows (look a) ++ l) ++ (r ∷ [])) (sym (append-nil (tree_rows (look b))))
node_rows r (choice_row a b c) look = ap (λ (l : List ℕ). (tree_rows (look a) ++ (tree_rows (look b) ++ l)) ++ (r ∷ [])) (sym (append-nil (tree_rows (look c))))
node_rows r (all_list_row a) look = ap (λ (l : List ℕ). l ++ (r ∷ [])) (sym (append-nil (tree_rows (look a))))
node_rows r unknown_expression look = refl

module _ (rows : List ℕ) (accepted : AcceptedRows rows) where
  -- what is to be shown of a tree's rows, from what is shown of those of its operands
  by_rows : (P : ℕ → List ℕ → Type 0)
      → ((r : ℕ) → r < table_count rows expression_section → (T : ℕ → List ℕ) → Every (λ a. (a < r) × P a (T a)) (used_by rows r) → P r (joined (map T (used_by rows r)) ++ (r ∷ [])))
      → (n r : ℕ) → r < n → r < table_count rows expression_section → P r (tree_rows (expression_in n rows r))
  unfolding expression_in
  by_rows P f zero r m l = absurd (let z : ⊥ = omega arith in z)
  by_rows P f (suc n) r m l =
      let look : ℕ → Expression = lower r (λ a. expression_in n rows a) (no_expression r) in
      subst (P r) (sym (node_rows r (expression_row rows r) look))
      (f r l (λ a. tree_rows (look a)) (every_implies (λ a q. (q, subst (λ (e : Expression). P a (tree_rows e)) (sym (lower_at r (λ b. expression_in n rows b) (no_expression r) a q)) (by_rows P f n a (omega arith) (omega arith)))) (operands_below rows accepted r l)))

  tree_reached : (x r : ℕ) → r < table_count rows expression_section → Reached rows x r (tree_rows (expression_tree rows r))
  unfolding expression_tree
  tree_reached x r l =
      by_rows (Reached rows x) (λ k m T h. reached_row rows x k (joined (map T (used_by rows k))) (reached_all rows x T (used_by rows k) (every_implies (λ a p. p.1) h))) (suc r) r (omega arith) l

  tree_below : (r : ℕ) → r < table_count rows expression_section → Every (λ k. k < suc r) (tree_rows (expression_tree rows r))
  unfolding expression_tree
  tree_below r l =
      by_rows (λ k ks. Every (λ j. j < suc k) ks)
      (λ k m T h. every_append (every_joined (every_map T (λ a p. every_implies (λ j (q : j < suc a). let o : a < k = p.0 in let z : j < suc k = omega arith in z) p.1) h)) (every_more (omega arith) every_none)) (suc r) r (omega arith) l

-- ---- the trees of the profile's roots
abbrev rows_under : List ℕ → ℕ → List ℕ
rows_under rows r = tree_rows (expression_tree rows r)

-- the roots, in the order in which the type check takes them: under the profile's declared yokes, on through the procedures'
all_declared_roots : List ℕ → List ℕ
all_declared_roots rows = joined (tabulate (suc (procedure_count rows)) (λ s. declared_roots rows s))

instruction_roots : List ℕ → List ℕ
instruction_roots rows = joined (tabulate (table_count rows instruction_section) (λ r. evaluated (instruction_row rows r) ++ yoke_set (instruction_row rows r)))

pub roots : List ℕ → List ℕ
roots rows = all_declared_roots rows ++ instruction_roots rows

pub forest : List ℕ → List ℕ
forest rows = joined (map (rows_under rows) (roots rows))

tabulated_rows : {A : Type 0} (rows : List ℕ) (f : ℕ → A) (g : A → List ℕ) (h : ℕ → List ℕ) → ((k : ℕ) → g (f k) ≡ joined (map (rows_under rows) (h k)))
    → (i n : ℕ) → joined (map g (tabulate_from i n f)) ≡ joined (map (rows_under rows) (joined (tabulate_from i n h)))
unfolding joined tabulate_from
tabulated_rows rows f g h e i zero = refl
tabulated_rows rows f g h e i (suc n) =
    ap₂ (λ (a b : List ℕ). a ++ b) (e i) (tabulated_rows rows f g h e (suc i) n) ∙ sym (joined_append (rows_under rows) (h i) (joined (tabulate_from (suc i) n h)))

yoke_forest : (rows : List ℕ) (y : ℕ) → yoke_rows (yoke_tree rows y) ≡ joined (map (rows_under rows) (yoke_root y))
unfolding yoke_rows yoke_tree yoke_root joined
yoke_forest rows zero = refl
yoke_forest rows (suc r) = sym (append-nil (rows_under rows r))

own_forest : (rows : List ℕ) (r : ℕ) (row : InstructionRow) (look : ℕ → Instruction) → own_rows (instruction_of rows r row look) ≡ joined (map (rows_under rows) (evaluated row ++ yoke_set row))
unfolding own_rows instruction_of evaluated yoke_set joined
own_forest rows r skip_row look = refl
own_forest rows r (assign_row n e) look = sym (append-nil (rows_under rows e))
own_forest rows r (set_yoke_row n y) look = yoke_forest rows y
own_forest rows r (sequence_row i j) look = refl
own_forest rows r (branch_row e i j) look = sym (append-nil (rows_under rows e))
own_forest rows r (loop_row e i) look = sym (append-nil (rows_under rows e))
own_forest rows r (handle_row n i) look = refl
own_forest rows r (call_row k b c) look = refl
own_forest rows r unknown_instruction look = refl

instruction_forest : (rows : List ℕ) (r : ℕ) → own_rows (instruction_tree rows r) ≡ joined (map (rows_under rows) (evaluated (instruction_row rows r) ++ yoke_set (instruction_row rows r)))
unfolding instruction_tree instruction_in
instruction_forest rows r = own_forest rows r (instruction_row rows r) _

-- the declared yokes of one scope, and of procedures i and following
declared_rows : Declaration → List ℕ
declared_rows v = yoke_rows v.declared

scope_forest : (rows : List ℕ) (s : ℕ) (l : ℕ → Option Limit)
    → joined (map declared_rows (tabulate (pair_count rows (scope_table s)) (λ d. declaration_in rows (scope_table s) (l d) d))) ≡ joined (map (rows_under rows) (declared_roots rows s))
unfolding declared_rows tabulate declared_roots yoke_in declaration_in
scope_forest rows s l =
    tabulated_rows rows (λ d. declaration_in rows (scope_table s) (l d) d) declared_rows (λ d. yoke_root (yoke_in rows (scope_table s) d)) (λ d. yoke_forest rows (yoke_in rows (scope_table s) d)) 0 (pair_count rows (scope_table s))

procedures_forest : (rows : List ℕ) (i n : ℕ)
    → joined (map declared_rows (joined (map (λ q. q.variables) (tabulate_from i n (λ k. procedure_of rows k))))) ≡ joined (map (rows_under rows) (joined (tabulate_from (suc i) n (λ s. declared_roots rows s))))
unfolding joined tabulate_from procedure_of
procedures_forest rows i zero = refl
procedures_forest rows i (suc n) =
    joined_append declared_rows (procedure_of rows i).variables (joined (map (λ (q : Procedure). q.variables) (tabulate_from (suc i) n (λ k. procedure_of rows k))))
    ∙ ap₂ (λ (a b : List ℕ). a ++ b) (scope_forest rows (suc i) (λ d. none)) (procedures_forest rows (suc i) n)
    ∙ sym (joined_append (rows_under rows) (declared_roots rows (suc i)) (joined (tabulate_from (suc (suc i)) n (λ s. declared_roots rows s))))

declared_forest : (rows lims : List ℕ) → joined (map declared_rows (all_declarations (profile_of rows lims))) ≡ joined (map (rows_under rows) (all_declared_roots rows))
unfolding all_declarations profile_of all_declared_roots tabulate tabulate_from joined declaration_at
declared_forest rows lims =
    let variables : List Declaration = joined (map (λ (q : Procedure). q.variables) (tabulate_from 0 (procedure_count rows) (λ k. procedure_of rows k))) in
    joined_append declared_rows (tabulate_from 0 (pair_count rows declaration_section) (λ d. declaration_at rows lims d)) variables
    ∙ ap₂ (λ (a b : List ℕ). a ++ b) (scope_forest rows 0 (λ d. limit_of lims (name_at rows declaration_section d))) (procedures_forest rows 0 (procedure_count rows))
    ∙ sym (joined_append (rows_under rows) (declared_roots rows 0) (joined (tabulate_from 1 (procedure_count rows) (λ s. declared_roots rows s))))

-- the rows that the type check goes through are those of the roots' trees
pub profile_forest : (rows lims : List ℕ) → checked_rows (profile_of rows lims) ≡ forest rows
unfolding checked_rows profile_of forest roots instruction_roots tabulate declared_rows
profile_forest rows lims =
    ap₂ (λ (l m : List ℕ). l ++ m)
    (declared_forest rows lims)
    (tabulated_rows rows (λ r. scoped (instruction_scope rows r) (instruction_tree rows r)) (λ (i : Scoped). own_rows i.instruction) (λ r. evaluated (instruction_row rows r) ++ yoke_set (instruction_row rows r)) (instruction_forest rows) 0 (table_count rows instruction_section))
    ∙ sym (joined_append (rows_under rows) (all_declared_roots rows) (instruction_roots rows))

entries_forest : (rows lims : List ℕ) (es : List Entry) → check_profile (profile_of rows lims) ≡ ok es → map entry_row es ≡ forest rows
entries_forest rows lims es e = entries_rows (profile_of rows lims) es e ∙ profile_forest rows lims

-- ---- each row once
count_both : (x : ℕ) (f g : ℕ → List ℕ) (i n : ℕ)
    → occurrences x (joined (tabulate_from i n (λ r. f r ++ g r))) ≡ occurrences x (joined (tabulate_from i n f)) + occurrences x (joined (tabulate_from i n g))
unfolding joined tabulate_from occurrences
count_both x f g i zero = refl
count_both x f g i (suc n) =
    omega (arith, count_both x f g (suc i) n, count_append x (f i) (g i), count_append x (f i ++ g i) (joined (tabulate_from (suc i) n (λ r. f r ++ g r))), count_append x (f i) (joined (tabulate_from (suc i) n f)), count_append x (g i) (joined (tabulate_from (suc i) n g)))

-- the roots are the roots that rule 11 counts
pub count_roots : (rows : List ℕ) (x : ℕ)
    → occurrences x (expression_uses rows) ≡ occurrences x (roots rows) + occurrences x (joined (tabulate (table_count rows expression_section) (used_by rows)))
unfolding expression_uses yoke_roots plain_roots roots all_declared_roots instruction_roots tabulate
count_roots rows x =
    let set_roots : List ℕ = joined (tabulate (table_count rows instruction_section) (λ r. yoke_set (instruction_row rows r))) in
    let plain : List ℕ = joined (tabulate (table_count rows instruction_section) (λ r. evaluated (instruction_row rows r))) in
    let used : List ℕ = joined (tabulate (table_count rows expression_section) (used_by rows)) in
    omega (arith, count_append x (yoke_roots rows) (plain_roots rows ++ used), count_append x (plain_roots rows) used, count_append x (all_declared_roots rows) set_roots, count_append x (all_declared_roots rows) (instruction_roots rows), count_both x (λ r. evaluated (instruction_row rows r)) (λ r. yoke_set (instruction_row rows r)) 0 (table_count rows instruction_section))

not_counted : (x : ℕ) {ks : List ℕ} → Every (λ k. k < x) ks → occurrences x ks ≡ 0
unfolding occurrences
not_counted x every_none = refl
not_counted x (every_more {x = k} {xs = ks} l ls) =
    let e : ◌≡◌ {A = ℕ} (if eqb x k then 1 else 0) 0 = ap {B = ℕ} (λ (t : Bool). if t then 1 else 0) (ne_eqb x k (λ q. let z : ⊥ = omega arith in z)) in
    omega (arith, e, not_counted x ls)

module _ (rows : List ℕ) (accepted : AcceptedRows rows) where
  scope_below : (s : ℕ) → s ≤ procedure_count rows → Every (λ k. k < table_count rows expression_section) (declared_roots rows s)
  unfolding declared_roots
  scope_below s l = every_joined (every_tabulate (pair_count rows (scope_table s)) (λ d. yoke_root (yoke_in rows (scope_table s) d)) (λ d q. scope_root rows accepted s l d q))

  roots_below : Every (λ k. k < table_count rows expression_section) (roots rows)
  unfolding roots all_declared_roots instruction_roots
  roots_below =
      every_append
      (every_joined (every_tabulate (suc (procedure_count rows)) (λ s. declared_roots rows s) (λ s l. scope_below s (omega arith))))
      (every_joined (every_tabulate (table_count rows instruction_section) (λ r. evaluated (instruction_row rows r) ++ yoke_set (instruction_row rows r)) (λ r l. instruction_roots_lem rows accepted r l)))

  forest_below : Every (λ k. k < table_count rows expression_section) (forest rows)
  unfolding forest
  forest_below =
      every_joined (every_map (rows_under rows) (λ r (l : r < table_count rows expression_section). every_implies (λ k (q : k < suc r). let z : k < table_count rows expression_section = omega arith in z) (tree_below rows accepted r l)) roots_below)

  pub forest_reached : (x : ℕ) → occurrences x (forest rows) ≡ occurrences x (roots rows) + occurrences x (uses rows (forest rows))
  unfolding forest
  forest_reached x = reached_all rows x (rows_under rows) (roots rows) (every_implies (λ r l. tree_reached rows accepted x r l) roots_below)

  -- a row uses lower rows only
  pub no_use : (x k : ℕ) → k < table_count rows expression_section → k ≤ x → occurrences x (used_by rows k) ≡ 0
  no_use x k l m = not_counted x (every_implies (λ a (q : a < k). let z : a < x = omega arith in z) (operands_below rows accepted k l))

  once_from : (m x : ℕ) → table_count rows expression_section ≤ x + m → occurrences x (forest rows) ≤ 1
  once_from zero x l =
      omega (arith, not_counted x (every_implies (λ k (q : k < table_count rows expression_section). let z : k < x = omega arith in z) forest_below))
  once_from (suc m) x l = go (ltb x (table_count rows expression_section)) refl (λ k q. once_from m k q)
    where
      count : ℕ
      count = table_count rows expression_section

      go : (t : Bool) → ltb x count ≡ t → ((k : ℕ) → count ≤ k + m → occurrences k (forest rows) ≤ 1) → occurrences x (forest rows) ≤ 1
      go true e ih =
          let bound : sum_from (λ k. occurrences x (used_by rows k)) 0 (forest rows) ≤ sum_table (λ k. occurrences x (used_by rows k)) 0 count =
          sum_bound (λ k. occurrences x (used_by rows k)) count 0 (forest rows) (every_implies (λ k (q : k < count). let z : k < 0 + count = omega arith in z) forest_below) (λ k q. either k (omega arith) (ltb x k) refl) in
          let whole : sum_table (λ k. occurrences x (used_by rows k)) 0 count ≡ occurrences x (joined (tabulate count (used_by rows))) = unfold tabulate in sum_table_lem rows x 0 count in
          omega (arith, forest_reached x, sum_uses rows x (forest rows), bound, whole, count_roots rows x, used_once rows accepted x (ltb-true x count e))
        where
          either : (k : ℕ) → k < count → (t : Bool) → ltb x k ≡ t → (occurrences x (used_by rows k) ≡ 0) ⊎ (occurrences k (forest rows) ≤ 1)
          either k q true p = inr (ih k (let r = ltb-true x k p in omega arith))
          either k q false p = inl (no_use x k q (ltb-false x k p))
      go false e ih = omega (arith, not_counted x (every_implies (λ k (q : k < count). let r = ltb-false x count e in let z : k < x = omega arith in z) forest_below))

  pub forest_once : Once (forest rows)
  unfolding Once
  forest_once x = once_from (table_count rows expression_section) x (omega arith)

  -- ---- the type check's entries
  pub entries_once : (lims : List ℕ) (es : List Entry) → check_profile (profile_of rows lims) ≡ ok es → Once (map entry_row es)
  entries_once lims es e = subst Once (sym (entries_forest rows lims es e)) forest_once

  pub entries_below : (lims : List ℕ) (es : List Entry) → check_profile (profile_of rows lims) ≡ ok es → Every (λ x. x.row < table_count rows expression_section) es
  entries_below lims es e = every_unmap entry_row es (subst (Every (λ k. k < table_count rows expression_section)) (sym (entries_forest rows lims es e)) forest_below)

  pub profile_layout : (lims : List ℕ) (es : List Entry) → check_profile (profile_of rows lims) ≡ ok es → Every (HoldsIn (layout_of es)) es
  profile_layout lims es e =
      layout_holds es (every_implies (λ x (l : x.row < table_count rows expression_section). let m : table_count rows expression_section ≤ most_expressions = most_rows rows accepted in let z : x.row < most_expressions = omega arith in z) (entries_below lims es e))
      (entries_once lims es e)

  -- every yoke and every instruction, with the layout table's numbers at each expression row
  pub profile_laid_out : (lims : List ℕ) (es : List Entry) → check_profile (profile_of rows lims) ≡ ok es → TypedProfile (HoldsIn (layout_of es)) (profile_of rows lims)
  profile_laid_out lims es e = profile_derives rows accepted lims es e (profile_layout lims es e)

  pub rows_laid_out : (lims : List ℕ) (es : List Entry) → check_profile (profile_of rows lims) ≡ ok es
      → (r : ℕ) → r < table_count rows instruction_section
      → DerivedRow (HoldsIn (layout_of es)) (λ k. scope_bodies (profile_of rows lims) (suc k)) (scope_bodies (profile_of rows lims) (instruction_scope rows r)) (instruction_tree rows r)
  rows_laid_out lims es e = rows_derive rows lims es e (profile_layout lims es e)
