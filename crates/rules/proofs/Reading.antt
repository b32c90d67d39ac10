-- Which expression rows read: a tree reads where its row does or one of its operands' trees, so a mark for each row is right once
-- those of the lower rows are. Carried by the trees' fuel not mattering. Assumes nothing.
use mathlib.Core.Path.{◌≡◌, refl, sym, ap, ap₂, ◌∙◌}
use mathlib.Core.Bool.{Bool, true, false, not, ◌&&◌, ◌||◌}
use mathlib.Core.List.{List, [], ◌∷◌, ◌++◌}
use mathlib.Core.Logic.{⊎_elim}
use Prim.Native.Nat.{ℕ, zero, suc, ◌+◌, ◌/◌, ◌≤◌, ◌<◌}
use native.Mathlib.Nat.{not-suc-le-zero, zero-add}
use native.Mathlib.Omega.{arith}
use lib.Dec.{ltb}
use lib.ListN.{length, get_or, set}
use lib.Seq.{get_or-set_same, get_or-set_other}
use borrow.Author.Tests.{ltb-true}
use Rattle.lingua.specs.Numbers.{type_section, expression_section, instruction_section, scope_table}
use Rattle.lingua.specs.Value.{all_of}
use Rattle.lingua.specs.Expression.{Expression}
use Rattle.lingua.specs.Rows.{a_at, table_count, pair_count, detail_row, procedure_count, ExpressionRow, constant_row, variable_row, current_row, unary_row, binary_row, lazy_row, choice_row, all_list_row, unknown_expression, expression_row, operands, instruction_row, evaluated, yoke_root, yoke_set}
use Rattle.lingua.specs.Trees.{below, lower, no_expression, expression_of, expression_tree, tabulate_from, tabulate}
use Rattle.lingua.specs.Typing.{joined}
use Rattle.lingua.specs.Format.{every_below}
use Rattle.lingua.specs.References.{all_below, reads_variable, reads_current, yoke_in, declaration_refers, declarations_refer, reference_wrong, declared_roots, yoke_roots, plain_roots, place_wrong}
use Rattle.decoder.specs.Tables.{IsTable}
use Rattle.decoder.specs.Reads.{reads, reads_row, Marked}
use Rattle.decoder.specs.declared.tables.Table.{Table}
use Rattle.decoder.proofs.Counting.{order}
use Rattle.laws.specs.Outcomes.{and_left, and_right}
use Rattle.safety.specs.Every.{below_true}
use Rattle.decoder.proofs.Short.{all_ext, all_append}
use Rattle.rules.specs.Accepted.{rows_right, rows_refer_lem, own_roots_lem}
use Rattle.rules.specs.Unrolled.{expression_unrolled}
use Rattle.rules.proofs.Usage.{joined_snoc}

-- ---- what reads
one_reads : (a : Bool) → a ≡ not (not a && true)
one_reads true = refl
one_reads false = refl

two_read : (a b : Bool) → (a || b) ≡ not (not a && (not b && true))
two_read true b = refl
two_read false b = one_reads b

three_read : (a b c : Bool) → (a || (b || c)) ≡ not (not a && (not b && (not c && true)))
three_read true b c = refl
three_read false b c = two_read b c

reads_of : (v : Bool) (r : ℕ) (row : ExpressionRow) (look : ℕ → Expression) → reads v (expression_of r row look) ≡ (reads_row v row || not (all_of (λ a. not (reads v (look a))) (operands row)))
unfolding reads reads_row expression_of reads_variable reads_current operands all_of
reads_of true r (constant_row c) look = refl
reads_of true r (variable_row n) look = refl
reads_of true r current_row look = refl
reads_of true r (unary_row o a) look = one_reads (reads_variable (look a))
reads_of true r (binary_row o a b) look = two_read (reads_variable (look a)) (reads_variable (look b))
reads_of true r (lazy_row k a b) look = two_read (reads_variable (look a)) (reads_variable (look b))
reads_of true r (choice_row a b c) look = three_read (reads_variable (look a)) (reads_variable (look b)) (reads_variable (look c))
reads_of true r (all_list_row a) look = one_reads (reads_variable (look a))
reads_of true r unknown_expression look = refl
reads_of false r (constant_row c) look = refl
reads_of false r (variable_row n) look = refl
reads_of false r current_row look = refl
reads_of false r (unary_row o a) look = one_reads (reads_current (look a))
reads_of false r (binary_row o a b) look = two_read (reads_current (look a)) (reads_current (look b))
reads_of false r (lazy_row k a b) look = two_read (reads_current (look a)) (reads_current (look b))
reads_of false r (choice_row a b c) look = three_read (reads_current (look a)) (reads_current (look b)) (reads_current (look c))
reads_of false r (all_list_row a) look = refl
reads_of false r unknown_expression look = refl

reads_lower : (v : Bool) (rows : List ℕ) (r a : ℕ) (b : Bool) → reads v (below b (λ a. expression_tree rows a) (no_expression r) a) ≡ (b && reads v (expression_tree rows a))
unfolding reads reads_variable reads_current
reads_lower v rows r a true = refl
reads_lower true rows r a false = refl
reads_lower false rows r a false = refl

reads_tree : (v : Bool) (rows : List ℕ) (r : ℕ) → reads v (expression_tree rows r) ≡ (reads_row v (expression_row rows r) || not (all_of (λ a. not (ltb a r && reads v (expression_tree rows a))) (operands (expression_row rows r))))
reads_tree v rows r =
    ap (reads v) (expression_unrolled rows r)
    ∙ reads_of v r (expression_row rows r) (lower r (λ a. expression_tree rows a) (no_expression r))
    ∙ ap (λ (b : Bool). reads_row v (expression_row rows r) || not b) (all_ext (λ a. not (reads v (lower r (λ a. expression_tree rows a) (no_expression r) a))) (λ a. not (ltb a r && reads v (expression_tree rows a))) (operands (expression_row rows r)) (λ a. ap not (reads_lower v rows r a (ltb a r))))

-- ---- marks
marks_below : (rows : List ℕ) (v : Bool) (r : ℕ) (marks : List Bool) (xs : List ℕ) → Marked rows v r marks → all_of (λ a. not (ltb a r && get_or marks a false)) xs ≡ all_of (λ a. not (ltb a r && reads v (expression_tree rows a))) xs
unfolding Marked
marks_below rows v r marks xs h = all_ext (λ a. not (ltb a r && get_or marks a false)) (λ a. not (ltb a r && reads v (expression_tree rows a))) xs (λ a. ap not (at a (ltb a r) refl))
  where
    at : (a : ℕ) (b : Bool) → ltb a r ≡ b → (b && get_or marks a false) ≡ (b && reads v (expression_tree rows a))
    at a true e = h a (ltb-true a r e)
    at a false e = refl

module _ (rows : List ℕ) (v : Bool) (r : ℕ) (marks : List Bool) where
  pub tree_itself : reads_row v (expression_row rows r) ≡ true → true ≡ reads v (expression_tree rows r)
  tree_itself e = sym (reads_tree v rows r ∙ ap (λ (b : Bool). b || not (all_of (λ a. not (ltb a r && reads v (expression_tree rows a))) (operands (expression_row rows r)))) e)

  pub tree_below : reads_row v (expression_row rows r) ≡ false → (xs : List ℕ) → xs ≡ operands (expression_row rows r) → Marked rows v r marks → not (all_of (λ a. not (ltb a r && get_or marks a false)) xs) ≡ reads v (expression_tree rows r)
  tree_below e xs q h =
      ap not (marks_below rows v r marks xs h ∙ ap (λ (l : List ℕ). all_of (λ a. not (ltb a r && reads v (expression_tree rows a))) l) q)
      ∙ sym (reads_tree v rows r ∙ ap (λ (b : Bool). b || not (all_of (λ a. not (ltb a r && reads v (expression_tree rows a))) (operands (expression_row rows r)))) e)

  pub marked_none : Marked rows v 0 marks
  unfolding Marked
  marked_none k l = absurd (not-suc-le-zero l)

  pub marked_more : (b : Bool) → r < length marks → b ≡ reads v (expression_tree rows r) → Marked rows v r marks → Marked rows v (r + 1) (set marks r b)
  unfolding Marked
  marked_more b l e h k lk =
      ⊎_elim
      (λ m. get_or-set_other marks r k b false (λ q. omega arith) ∙ h k m)
      (λ m. same (⊎_elim (λ q. q) (λ q. absurd (omega arith)) m))
      (order k r)
    where
      same : k ≡ r → get_or (set marks r b) k false ≡ reads v (expression_tree rows k)
      same q = rw q (get_or-set_same marks r b false l ∙ e)

-- what is asked of the marks of rows below n is asked of their trees
pub roots_read : (rows : List ℕ) (v : Bool) (n : ℕ) (marks : List Bool) → Marked rows v n marks → (xs : List ℕ) → all_below n xs ≡ true → all_of (λ a. not (ltb a n && get_or marks a false)) xs ≡ all_of (λ a. not (reads v (expression_tree rows a))) xs
unfolding all_of
roots_read rows v n marks h xs e = marks_below rows v n marks xs h ∙ inner xs e
  where
    inner : (xs : List ℕ) → all_below n xs ≡ true → all_of (λ a. not (ltb a n && reads v (expression_tree rows a))) xs ≡ all_of (λ a. not (reads v (expression_tree rows a))) xs
    inner [] e = refl
    inner (x ∷ xs) e = ap₂ (λ (a b : Bool). a && b) (ap (λ (b : Bool). not (b && reads v (expression_tree rows x))) (and_left (ltb x n) (all_below n xs) e)) (inner xs (and_right (ltb x n) (all_below n xs) e))

-- ---- roots
all_joined : (p : ℕ → Bool) (f : ℕ → List ℕ) (n : ℕ) → all_of p (joined (tabulate n f)) ≡ every_below n (λ k. all_of p (f k))
unfolding every_below tabulate tabulate_from joined all_of
all_joined p f zero = refl
all_joined p f (suc n) = ap (all_of p) (joined_snoc f 0 n ∙ ap (λ (k : ℕ). joined (tabulate_from 0 n f) ++ f k) (zero-add n)) ∙ all_append p (joined (tabulate_from 0 n f)) (f n) ∙ ap (λ (b : Bool). b && all_of p (f n)) (all_joined p f n)

pub places_are : (rows : List ℕ) → place_wrong rows ≡ not (every_below (suc (procedure_count rows)) (λ s. all_of (λ r. not (reads true (expression_tree rows r))) (declared_roots rows s)) && every_below (table_count rows instruction_section) (λ i. all_of (λ r. not (reads true (expression_tree rows r))) (yoke_set (instruction_row rows i))) && every_below (table_count rows instruction_section) (λ i. all_of (λ r. not (reads false (expression_tree rows r))) (evaluated (instruction_row rows i))))
unfolding place_wrong yoke_roots plain_roots reads
places_are rows = rw (all_append, all_joined, all_joined, all_joined)

-- a scope's roots, one declaration after another
pub scope_roots : (rows : List ℕ) (p : ℕ → Bool) (s : ℕ) (t : Table) → IsTable rows (scope_table s) t → all_of p (declared_roots rows s) ≡ every_below (t.count / 2) (λ d. all_of p (yoke_root (yoke_in rows (scope_table s) d)))
unfolding declared_roots pair_count
scope_roots rows p s t h = all_joined p (λ d. yoke_root (yoke_in rows (scope_table s) d)) (table_count rows (scope_table s) / 2) ∙ rw h.count

-- rule 10 keeps roots below the number of expression rows
module _ (rows : List ℕ) (h : reference_wrong rows ≡ false) where
  pub declared_below : (s : ℕ) (t : Table) (d : ℕ) → IsTable rows (scope_table s) t → s ≤ procedure_count rows → d < t.count / 2 → all_below (table_count rows expression_section) (yoke_root (yoke_in rows (scope_table s) d)) ≡ true
  unfolding declarations_refer declaration_refers pair_count
  declared_below s t d i ls ld =
      and_right (ltb (a_at rows (detail_row rows (scope_table s) d)) (table_count rows type_section)) (all_below (table_count rows expression_section) (yoke_root (yoke_in rows (scope_table s) d)))
      (below_true (table_count rows (scope_table s) / 2) (λ d. declaration_refers rows (scope_table s) d)
      (below_true (suc (procedure_count rows)) (λ s. declarations_refer rows s) (rows_refer_lem rows (rows_right rows h)).scopes s (omega arith))
      d (omega (arith, i.count)))

  both_below : (i : ℕ) → i < table_count rows instruction_section → (all_below (table_count rows expression_section) (evaluated (instruction_row rows i)) && all_below (table_count rows expression_section) (yoke_set (instruction_row rows i))) ≡ true
  both_below i l = sym (all_append (λ r. ltb r (table_count rows expression_section)) (evaluated (instruction_row rows i)) (yoke_set (instruction_row rows i))) ∙ own_roots_lem rows (rows_right rows h) i l

  pub evaluated_below : (i : ℕ) → i < table_count rows instruction_section → all_below (table_count rows expression_section) (evaluated (instruction_row rows i)) ≡ true
  evaluated_below i l = and_left (all_below (table_count rows expression_section) (evaluated (instruction_row rows i))) (all_below (table_count rows expression_section) (yoke_set (instruction_row rows i))) (both_below i l)

  pub set_below : (i : ℕ) → i < table_count rows instruction_section → all_below (table_count rows expression_section) (yoke_set (instruction_row rows i)) ≡ true
  set_below i l = and_right (all_below (table_count rows expression_section) (evaluated (instruction_row rows i))) (all_below (table_count rows expression_section) (yoke_set (instruction_row rows i))) (both_below i l)

-- the same of the number that the code has of them
pub roots_same : (rows : List ℕ) (v : Bool) (marks : List Bool) {n m : ℕ} (xs : List ℕ) → n ≡ m → Marked rows v m marks → all_below m xs ≡ true → all_of (λ a. not (ltb a n && get_or marks a false)) xs ≡ all_of (λ a. not (reads v (expression_tree rows a))) xs
roots_same rows v marks {n} {m} xs e h k = rw e (roots_read rows v m marks h xs k)

-- what is asked of a short list is asked of the definition's
pub lists_same : (p : ℕ → Bool) {xs ys : List ℕ} {b : Bool} → ys ≡ xs → b ≡ all_of p ys → b ≡ all_of p xs
lists_same p e h = rw e at h

pub roots_of : (p : ℕ → Bool) {n y : ℕ} {ys : List ℕ} {b : Bool} → n ≡ y → ys ≡ yoke_root n → b ≡ all_of p ys → b ≡ all_of p (yoke_root y)
roots_of p e q h = rw (q, e) at h

-- two tests that answer the same below n
pub every_same : (n : ℕ) {p q : ℕ → Bool} → ((k : ℕ) → k < n → p k ≡ q k) → every_below n p ≡ every_below n q
unfolding every_below
every_same zero h = refl
every_same (suc n) h = ap₂ (λ (a b : Bool). a && b) (every_same n (λ k l. h k (omega arith))) (h n (omega arith))
