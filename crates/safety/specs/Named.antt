-- Every yoke that a run of a profile has is the tree of the row that its number names, so that a variable's state word tells which yoke is
-- its current one: `run_named`, and `open_named` for the calls that are open. Assumes nothing.
use Rattle.std.specs.Prelude.{◌≡◌, List, map}
use Rattle.std.proofs.Math.Path.{refl, subst}
use Rattle.std.proofs.Common.{sym, ap, arith}
use Prim.Native.Nat.{ℕ, zero, suc}
use Rattle.lingua.specs.Numbers.{most_calls}
use Rattle.lingua.specs.Errors.{overflow, not_filled}
use Rattle.lingua.specs.Outcome.{ok}
use Rattle.lingua.specs.Value.{Composite, in_range_of}
use Rattle.lingua.specs.Expression.{Expression, row_of, Yoke, yoke_number, Instruction, skip, assign, set_yoke, sequence, branch, loop, handle, call}
use Rattle.lingua.specs.Evaluation.{eval, no_current}
use Rattle.lingua.specs.Store.{Variable, variable_at, contents, admitted, assigned, copied, yoke_holds, yoke_changed, with_content, with_yoke, Reading, reading_taken, counts_hundredths, reading_value}
use Rattle.lingua.specs.Run.{State, Declaration, unfilled, begun, exec, called, scope_declarations, scope_program, started, take_readings, run, last_state, open_calls}
use Rattle.lingua.specs.Rows.{ExpressionRow, constant_row, variable_row, current_row, unary_row, binary_row, lazy_row, choice_row, all_list_row, unknown_expression, expression_row, InstructionRow, skip_row, assign_row, set_yoke_row, sequence_row, branch_row, loop_row, handle_row, call_row, unknown_instruction, instruction_row}
use Rattle.lingua.specs.Trees.{expression_of, expression_in, expression_tree, yoke_tree, instruction_of, instruction_in, instruction_tree, declaration_in, profile_of}
use Rattle.safety.specs.Answers.{same_answer, bound, some_answer, demanded, after}
use Rattle.safety.specs.Every.{Every, every_none, every_more, every_all, every_implies}
use Rattle.safety.specs.Everywhere.{Everywhere, at_skip, everywhere_implies}
use Rattle.safety.specs.ProfileScopes.{scope_every, scope_runs}
use Rattle.safety.specs.Runs.{Stable, Family, Passes, Keeps, KeepsReading, Frame, Done, pairwise_all, exec_keeps, called_keeps, readings_keep}
use Rattle.safety.specs.Stored.{replaced}
use Rattle.safety.specs.Forest.{tree_everywhere}

-- ---- a yoke's number gives the yoke that has it
row_of_lem : (r : ℕ) (row : ExpressionRow) (look : ℕ → Expression) → row_of (expression_of r row look) ≡ r
unfolding row_of expression_of
row_of_lem r (constant_row c) look = refl
row_of_lem r (variable_row n) look = refl
row_of_lem r current_row look = refl
row_of_lem r (unary_row o a) look = refl
row_of_lem r (binary_row o a b) look = refl
row_of_lem r (lazy_row k a b) look = refl
row_of_lem r (choice_row a b c) look = refl
row_of_lem r (all_list_row a) look = refl
row_of_lem r unknown_expression look = refl

pub number_of : (rows : List ℕ) (y : ℕ) → yoke_number (yoke_tree rows y) ≡ y
unfolding yoke_number yoke_tree expression_tree expression_in
number_of rows zero = refl
number_of rows (suc r) = ap suc (row_of_lem r (expression_row rows r) _)

-- the yoke is the tree of the row that its number names
pub record Named (rows : List ℕ) (y : Yoke) : Type 0 where
  pub is : y ≡ yoke_tree rows (yoke_number y)

tree_named : (rows : List ℕ) (k : ℕ) → Named rows (yoke_tree rows k)
tree_named rows k = record { is = ap (yoke_tree rows) (sym (number_of rows k)) }

module _ (rows : List ℕ) where
  -- ---- stores
  abbrev pub AllNamed : List Variable → Type 0
  AllNamed vs = (n : ℕ) → Named rows (variable_at vs n).yoke

  assigned_named : (vs : List Variable) → AllNamed vs → (n : ℕ) (x : Composite) (ws : List Variable) → assigned vs n x ≡ ok ws → AllNamed ws
  unfolding assigned
  assigned_named vs h n x ws e =
      let p = after (admitted vs (variable_at vs n) x) _ ws e in
      subst AllNamed (same_answer p.1) (replaced (λ m v. Named rows v.yoke) vs n (with_content (variable_at vs n) x) (h n) h)

  changed_named : (vs : List Variable) → AllNamed vs → (n : ℕ) (y : Yoke) → Named rows y → (ws : List Variable) → yoke_changed vs n y ≡ ok ws → AllNamed ws
  unfolding yoke_changed
  changed_named vs h n y k ws e =
      let p = after (yoke_holds vs y (variable_at vs n).content) _ ws e in
      subst AllNamed (same_answer p.1) (replaced (λ m v. Named rows v.yoke) vs n (with_yoke (variable_at vs n) y) k h)

  -- ---- states
  unfoldable StateNamed : State → Type 0
  StateNamed s = AllNamed s.store

  named_stable : Stable StateNamed
  unfolding StateNamed
  named_stable = record { marked = λ s n p h. h; stepped = λ s n e h. h }

  -- a copy is an assignment
  named_copy : (a n b m : ℕ) → Passes (λ c. StateNamed) a n b m
  unfolding Passes StateNamed copied
  named_copy a n b m s t h k ws q =
      let x = some_answer (contents s.store n) not_filled (λ y. assigned t.store m y) ws q in
      assigned_named t.store k m x.0 ws x.2

  -- an instruction's own row sets a named yoke
  unfoldable SetsNamed : Instruction → Type 0
  SetsNamed (skip r) = Unit {0}
  SetsNamed (assign r n e) = Unit {0}
  SetsNamed (set_yoke r n y) = Named rows y
  SetsNamed (sequence r i j) = Unit {0}
  SetsNamed (branch r e i j) = Unit {0}
  SetsNamed (loop r e i) = Unit {0}
  SetsNamed (handle r n i) = Unit {0}
  SetsNamed (call r k vs rs) = Unit {0}

  named_keeps : (a : ℕ) (i : Instruction) → SetsNamed i → Keeps (λ c. StateNamed) a i
  unfolding SetsNamed Keeps StateNamed
  named_keeps a (skip r) h = tt
  named_keeps a (assign r n e) h = λ s k ws q.
      let p = bound (eval e (contents s.store) no_current) _ ws q in
      assigned_named s.store k n p.0 ws p.2
  named_keeps a (set_yoke r n y) h = λ s k ws q. changed_named s.store k n y h ws q
  named_keeps a (sequence r i j) h = tt
  named_keeps a (branch r e i j) h = tt
  named_keeps a (loop r e i) h = tt
  named_keeps a (handle r n i) h = tt
  named_keeps a (call r k vs rs) h =
      record { in_all = pairwise_all (λ n m. named_copy a n (suc k) m) _ 0; out_all = pairwise_all (λ n m. named_copy (suc k) m a n) rs _ }

  named_reading : (r : Reading) → KeepsReading StateNamed r
  unfolding KeepsReading StateNamed reading_taken
  named_reading r s h ws e =
      let p = demanded (in_range_of (counts_hundredths s.store r) r.number) overflow _ ws e in
      assigned_named s.store h r.variable (reading_value (counts_hundredths s.store r) r.number) ws p.1

  -- ---- the profile's yokes: those that its rows set, and those that it declares
  node_named : (r : ℕ) (row : InstructionRow) (look : ℕ → Instruction) → SetsNamed (instruction_of rows r row look)
  unfolding instruction_of SetsNamed
  node_named r skip_row look = tt
  node_named r (assign_row n e) look = tt
  node_named r (set_yoke_row n y) look = tree_named rows y
  node_named r (sequence_row i j) look = tt
  node_named r (branch_row e i j) look = tt
  node_named r (loop_row e i) look = tt
  node_named r (handle_row n i) look = tt
  node_named r (call_row k b c) look = tt
  node_named r unknown_instruction look = tt

  row_named : (r : ℕ) → SetsNamed (instruction_tree rows r)
  unfolding instruction_tree instruction_in
  row_named r = node_named r (instruction_row rows r) _

  program_named : (r : ℕ) → Everywhere SetsNamed (instruction_tree rows r)
  program_named r = tree_everywhere SetsNamed (λ k. unfold SetsNamed in tt) rows (suc r) (λ k l. row_named k) r (omega arith)

  start_named : {ds : List Declaration} → Every (λ d. Named rows d.declared) ds → AllNamed (map unfilled ds)
  unfolding yoke_tree yoke_number
  start_named every_none n = record { is = refl }
  start_named (every_more h hs) zero = h
  start_named (every_more h hs) (suc n) = start_named hs n

  -- of every scope
  scope_named : (lims : List ℕ) (a : ℕ) → Every (λ d. Named rows d.declared) (scope_declarations (profile_of rows lims) a)
  unfolding declaration_in
  scope_named lims a = scope_every rows lims (λ d. Named rows d.declared) a (λ h d l. tree_named rows _)

  scope_sets : (lims : List ℕ) (a : ℕ) → Everywhere SetsNamed (scope_program (profile_of rows lims) a)
  scope_sets lims a =
      let nothing : SetsNamed (skip 0) = unfold SetsNamed in tt in
      scope_runs rows lims (Everywhere SetsNamed) a (λ h. program_named _) (at_skip nothing)

  -- ---- whole runs
  named_family : (lims : List ℕ) → Family (profile_of rows lims).procedures (λ a. StateNamed)
  unfolding StateNamed begun
  named_family lims = record { stable = λ a. named_stable; begins = λ a k s h. start_named (scope_named lims (suc k)); back = λ a k s t h g. h }

  run_keeps_named : (lims : List ℕ) (readings : List Reading) (budget : ℕ) → Done (λ a. StateNamed) 0 (run (profile_of rows lims) readings budget)
  unfolding run
  run_keeps_named lims readings budget =
      let p = profile_of rows lims in
      exec_keeps (λ a. StateNamed) p.procedures (named_family lims) 0 (called assigned exec p.procedures most_calls)
      (called_keeps (λ a. StateNamed) p.procedures (named_family lims) (λ k. everywhere_implies (named_keeps (suc k)) (scope_sets lims (suc k))) most_calls 0)
      p.program (everywhere_implies (named_keeps 0) (scope_sets lims 0))
      (take_readings 0 readings (started p budget))
      (readings_keep StateNamed named_stable 0 readings (every_all named_reading readings) (started p budget) (unfold StateNamed started begun in start_named (scope_named lims 0)))

  pub run_named : (lims : List ℕ) (readings : List Reading) (budget n : ℕ) → Named rows (variable_at (last_state (run (profile_of rows lims) readings budget)).store n).yoke
  unfolding StateNamed
  run_named lims readings budget n = (run_keeps_named lims readings budget).last n

  -- and of the calls that are open
  pub open_named : (lims : List ℕ) (readings : List Reading) (budget : ℕ) → Every AllNamed (open_calls (run (profile_of rows lims) readings budget))
  open_named lims readings budget = every_implies (λ vs (f : Frame (λ a. StateNamed) vs). subst AllNamed f.is (unfold StateNamed in f.has)) (run_keeps_named lims readings budget).opens
