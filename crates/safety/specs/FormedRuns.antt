-- Every filled variable has a well-formed body at the end of every run of an accepted pair of files, at every budget: `filled_formed`; and
-- so have those of the calls that are open: `open_formed`. Assumes nothing.
use Rattle.std.specs.Prelude.{◌≡◌, List, Bool, true, false}
use Rattle.std.proofs.Common.{sym, ◌∙◌, subst}
use Prim.Native.Nat.{ℕ, zero, suc, ◌≤◌, ◌<◌}
use Rattle.lingua.specs.Numbers.{most_calls, instruction_section}
use Rattle.lingua.specs.Errors.{overflow, not_filled}
use Rattle.lingua.specs.WellFormed.{WellFormed, formed_boolean, formed_number, formed_hundredths}
use Rattle.lingua.specs.Value.{in_range_of, quantity_body}
use Rattle.lingua.specs.Expression.{Instruction, skip, assign, set_yoke, sequence, branch, loop, handle, call}
use Rattle.lingua.specs.Evaluation.{eval, no_current}
use Rattle.lingua.specs.Store.{Variable, contents, assigned, copied, Reading, reading_taken, counts_hundredths, reading_value}
use Rattle.lingua.specs.Run.{State, procedure_at, begun, exec, called, scope_program, started, take_readings, run, last_state, open_calls}
use Rattle.lingua.specs.Rows.{table_count, procedure_count}
use Rattle.lingua.specs.Trees.{instruction_tree, profile_of}
use Rattle.lingua.specs.Format.{rows_of}
use Rattle.lingua.specs.Refusal.{lowest, pair_rules}
use Rattle.laws.specs.Outcomes.{none_is_some}
use Rattle.safety.specs.Answers.{bound, some_answer, demanded}
use Rattle.safety.specs.Every.{Every, every_all, every_implies}
use Rattle.safety.specs.Stored.{assigned_each, changed_each}
use Rattle.safety.specs.Everywhere.{Everywhere, at_skip, everywhere_implies}
use Rattle.safety.specs.ProfileScopes.{scope_row, scope_runs}
use Rattle.safety.specs.Runs.{Stable, Family, Passes, Keeps, KeepsReading, Frame, Done, pairwise_all, exec_keeps, called_keeps, readings_keep}
use Rattle.safety.specs.Invariant.{start_empty}
use Rattle.safety.specs.Forest.{tree_everywhere}
use Rattle.safety.specs.Accepted.{AcceptedRows, accepted_pair, program_row, body_row_lem}
use Rattle.safety.specs.Formed.{ContentsFormed, eval_formed}
use Rattle.safety.specs.FormedEntries.{RowNames, row_names}

-- a state whose filled variables have well-formed bodies
unfoldable StateFormed : State → Type 0
StateFormed s = ContentsFormed (contents s.store)

formed_stable : Stable StateFormed
unfolding StateFormed
formed_stable = record { marked = λ s n p h. h; stepped = λ s n e h. h }

-- a copy keeps its body
formed_copy : (a n b m : ℕ) → Passes (λ c. StateFormed) a n b m
unfolding Passes StateFormed ContentsFormed copied
formed_copy a n b m s t h k ws q =
    let x = some_answer (contents s.store n) not_filled (λ y. assigned t.store m y) ws q in
    assigned_each (λ j z. WellFormed z.body) t.store k m x.0 (h n x.0 x.1) ws x.2

names_keep : (a : ℕ) (i : Instruction) → RowNames i → Keeps (λ c. StateFormed) a i
unfolding Keeps RowNames StateFormed ContentsFormed
names_keep a (skip r) h = tt
names_keep a (assign r n e) h = λ s k ws q.
    let p = bound (eval e (contents s.store) no_current) _ ws q in
    assigned_each (λ m z. WellFormed z.body) s.store k n p.0 (eval_formed e h (contents s.store) k no_current formed_boolean p.0 p.1) ws p.2
names_keep a (set_yoke r n y) h = λ s k ws q. changed_each (λ m z. WellFormed z.body) s.store k n y ws q
names_keep a (sequence r i j) h = tt
names_keep a (branch r e i j) h = tt
names_keep a (loop r e i) h = tt
names_keep a (handle r n i) h = tt
names_keep a (call r k vs rs) h =
    record { in_all = pairwise_all (λ n m. formed_copy a n (suc k) m) _ 0; out_all = pairwise_all (λ n m. formed_copy (suc k) m a n) rs _ }

quantity_formed : (h : Bool) → WellFormed (quantity_body h)
quantity_formed true = formed_hundredths
quantity_formed false = formed_number

reading_formed : (r : Reading) → KeepsReading StateFormed r
unfolding KeepsReading StateFormed ContentsFormed reading_taken
reading_formed r s k ws e =
    let p = demanded (in_range_of (counts_hundredths s.store r) r.number) overflow _ ws e in
    assigned_each (λ m z. WellFormed z.body) s.store k r.variable (reading_value (counts_hundredths s.store r) r.number) (quantity_formed (counts_hundredths s.store r)) ws p.1

module _ (rows : List ℕ) (accepted : AcceptedRows rows) (lims : List ℕ) (readings : List Reading) (budget : ℕ) where
  start_formed : StateFormed (started (profile_of rows lims) budget)
  unfolding StateFormed ContentsFormed started begun
  start_formed n x e = none_is_some (sym (start_empty (profile_of rows lims).declarations n) ∙ e)

  formed_family : Family (profile_of rows lims).procedures (λ a. StateFormed)
  unfolding StateFormed ContentsFormed begun
  formed_family =
      record { stable = λ a. formed_stable; begins = λ a k s h n x e. none_is_some (sym (start_empty (procedure_at (profile_of rows lims).procedures k).variables n) ∙ e); back = λ a k s t h g. h }

  tree_names : (r : ℕ) → r < table_count rows instruction_section → Everywhere RowNames (instruction_tree rows r)
  tree_names r l = tree_everywhere RowNames (λ q. unfold RowNames in tt) rows (table_count rows instruction_section) (row_names rows accepted) r l

  scope_names : (a : ℕ) → Everywhere RowNames (scope_program (profile_of rows lims) a)
  scope_names a =
      let nothing : RowNames (skip 0) = unfold RowNames in tt in
      scope_runs rows lims (Everywhere RowNames) a (row_there a) (at_skip nothing)
    where
      row_there : (a : ℕ) → a ≤ procedure_count rows → Everywhere RowNames (instruction_tree rows (scope_row rows a))
      row_there zero l = tree_names (scope_row rows 0) (program_row rows accepted)
      row_there (suc k) l = tree_names (scope_row rows (suc k)) (body_row_lem rows accepted k l)

  run_keeps_formed : Done (λ a. StateFormed) 0 (run (profile_of rows lims) readings budget)
  unfolding run
  run_keeps_formed =
      let p = profile_of rows lims in
      exec_keeps (λ a. StateFormed) p.procedures formed_family 0 (called assigned exec p.procedures most_calls)
      (called_keeps (λ a. StateFormed) p.procedures formed_family (λ k. everywhere_implies (names_keep (suc k)) (scope_names (suc k))) most_calls 0)
      p.program (everywhere_implies (names_keep 0) (scope_names 0))
      (take_readings 0 readings (started p budget))
      (readings_keep StateFormed formed_stable 0 readings (every_all reading_formed readings) (started p budget) start_formed)

  pub run_formed : ContentsFormed (contents (last_state (run (profile_of rows lims) readings budget)).store)
  run_formed = unfold StateFormed in run_keeps_formed.last

  pub open_formed : Every (λ vs. ContentsFormed (contents vs)) (open_calls (run (profile_of rows lims) readings budget))
  open_formed = every_implies (λ vs (f : Frame (λ a. StateFormed) vs). subst (λ (us : List Variable). ContentsFormed (contents us)) f.is (unfold StateFormed in f.has)) run_keeps_formed.opens

pub filled_formed : (prof lims : List ℕ) → lowest (pair_rules prof lims) ≡ 0 → (readings : List Reading) (budget : ℕ)
    → ContentsFormed (contents (last_state (run (profile_of (rows_of prof) (rows_of lims)) readings budget)).store)
filled_formed prof lims e readings budget = run_formed (rows_of prof) (accepted_pair prof lims e) (rows_of lims) readings budget
