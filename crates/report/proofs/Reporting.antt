-- The whole report: the first line and the variables' lines of the call's answer and memory are the report's text, and it finds room.
-- Assumes nothing.
use mathlib.Core.Path.{◌≡◌, refl, sym, ap, ◌∙◌, subst}
use mathlib.Core.List.{List, [], ◌++◌, append-nil}
use Prim.Native.Nat.{ℕ, zero, suc, ◌≤◌}
use native.Mathlib.Omega.{arith}
use lib.ListN.{take, replicate}
use lib.Seq.{take_all}
use lib.IntN.{pos}
use Rattle.lingua.specs.Numbers.{cells_length, states_length, open_cells_length, open_states_length, variable_bodies_length, present_bodies_length, report_budget, declaration_section}
use Rattle.lingua.specs.Value.{all_of}
use Rattle.lingua.specs.Rows.{pair_count}
use Rattle.lingua.specs.Format.{rows_of}
use Rattle.lingua.specs.Store.{Variable, cells_in, states_in}
use Rattle.lingua.specs.Run.{run, last_state}
use Rattle.lingua.specs.Trees.{profile_of}
use Rattle.lingua.specs.Inputs.{inputs, Buffers, buffers}
use Rattle.lingua.specs.Refusal.{lowest, pair_rules, reading_wrong, run_fits, checked_refusal}
use Rattle.lingua.specs.Answers.{RunAnswer, run_meaning}
use Rattle.lingua.specs.Calls.{CheckedCall, readings_of, ending_of, registers_of, ran, run_of, checked_unless, checked_call, checked_result}
use Rattle.lingua.specs.Report.{end_line, refused_text, run_text, report_unless, report_text}
use Rattle.safety.specs.RunRules.{files_alone}
use Rattle.safety.specs.Memory.{accepted_bodies}
use Rattle.text.specs.Appended.{Sheet, Appended}
use Rattle.text.proofs.Texts.{append_both}
use Rattle.report.specs.Call.{report_call, answer_text}
use Rattle.report.specs.Memory.{Left, memory_lines, lines_unless, variables_text}
use Rattle.report.specs.Written.{most_text}
use Rattle.report.proofs.Bounds.{report_fits}
use Rattle.report.proofs.Stores.{store_left, store_lines}

abbrev lent_buffers : Buffers
lent_buffers = buffers (replicate cells_length (pos 0)) (replicate states_length 0) (replicate open_cells_length (pos 0)) (replicate open_states_length 0)

abbrev lent_bodies : List ℕ
lent_bodies = replicate present_bodies_length 0

module _ (prof lims : List ℕ) where
  -- without readings and with buffers of the listed lengths, the files alone decide
  refusal_is : checked_refusal (inputs prof lims [] []) lent_buffers lent_bodies ≡ lowest (pair_rules prof lims)
  unfolding checked_refusal run_fits reading_wrong all_of
  refusal_is = files_alone (inputs prof lims [] []) refl

  abbrev pub last : List Variable
  last = (last_state (run (profile_of (rows_of prof) (rows_of lims)) [] report_budget)).store

  module _ (answer : RunAnswer) (after : Buffers) (bodies : List ℕ) where
    by_rules : checked_result answer after bodies ≡ report_call prof lims → checked_result answer after bodies ≡ checked_unless (lowest (pair_rules prof lims)) (inputs prof lims [] []) report_budget lent_buffers lent_bodies
    unfolding report_call checked_call
    by_rules e = e ∙ ap (λ (n : ℕ). checked_unless n (inputs prof lims [] []) report_budget lent_buffers lent_bodies) refusal_is

    -- the memory of a run that is not refused
    pub run_left : checked_result answer after bodies ≡ report_call prof lims → lowest (pair_rules prof lims) ≡ 0 → Left (rows_of prof) (take variable_bodies_length bodies) after.cells after.states last
    unfolding checked_result checked_unless ran registers_of run_of readings_of
    run_left e z =
        subst (λ (c : CheckedCall). Left (rows_of prof) (take variable_bodies_length c.bodies) c.registers.cells c.registers.states last)
        (sym (by_rules e ∙ ap (λ (n : ℕ). checked_unless n (inputs prof lims [] []) report_budget lent_buffers lent_bodies) z)) (subst (λ (b : List ℕ). Left (rows_of prof) b (cells_in last) (states_in last) last) (sym (accepted_bodies prof lims z [] report_budget)) (store_left prof lims z report_budget))

    text_by : (n : ℕ) → lowest (pair_rules prof lims) ≡ n
        → checked_result answer after bodies ≡ checked_unless n (inputs prof lims [] []) report_budget lent_buffers lent_bodies
        → answer_text (run_meaning answer) ++ lines_unless n (rows_of prof) after.cells after.states last ≡ report_unless n prof lims
    unfolding checked_result checked_unless ran registers_of run_of readings_of answer_text lines_unless report_unless run_text
    text_by zero z e =
        ap (λ (r : CheckedCall). answer_text r.answer ++ memory_lines (rows_of prof) r.registers.cells r.registers.states last 0 (pair_count (rows_of prof) declaration_section)) e
        ∙ ap (λ (l : List ℕ). end_line (ending_of report_budget (run_of (inputs prof lims [] []) report_budget)) ++ l) (sym (store_lines prof lims z report_budget))
    text_by (suc n) z e = ap (λ (r : CheckedCall). answer_text r.answer ++ []) e ∙ append-nil (refused_text (suc n))

    report_is : checked_result answer after bodies ≡ report_call prof lims → answer_text (run_meaning answer) ++ variables_text prof lims after.cells after.states last ≡ report_text prof lims
    unfolding variables_text report_text
    report_is e = text_by (lowest (pair_rules prof lims)) refl (by_rules e) ∙ ap (λ (n : ℕ). report_unless n prof lims) (sym refusal_is)

    pub report_written :
        {page mid end : Sheet} →
        most_text ≤ page.left →
        checked_result answer after bodies ≡ report_call prof lims →
        Appended page (answer_text (run_meaning answer)) mid →
        Appended mid (variables_text prof lims after.cells after.states last) end →
        end.text ≡ page.text ++ report_text prof lims
    report_written {page} room e p q =
        let whole = append_both p q in
        whole.bytes
        ∙ ap (λ (l : List ℕ). page.text ++ l)
        (take_all page.left (answer_text (run_meaning answer) ++ variables_text prof lims after.cells after.states last) (omega (arith, report_fits prof lims (run_left e) (run_meaning answer)))
        ∙ report_is e)
