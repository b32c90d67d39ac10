-- The call that the report makes, and the text of its answer. Assumes nothing: these are definitions.
use Rattle.std.specs.Prelude.{List, [], ℕ, replicate, pos}
use Rattle.lingua.specs.Numbers.{cells_length, states_length, open_cells_length, open_states_length, present_bodies_length, report_budget}
use Rattle.lingua.specs.Answers.{Answer, refused, answered, Ending}
use Rattle.lingua.specs.Inputs.{inputs, buffers}
use Rattle.lingua.specs.Calls.{CheckedCall, checked_call}
use Rattle.lingua.specs.Report.{end_line, refused_text}

-- the checked run with no readings, on zeros
unfoldable pub report_call : List ℕ → List ℕ → CheckedCall
report_call prof lims =
    checked_call (inputs prof lims [] []) report_budget (buffers (replicate cells_length (pos 0)) (replicate states_length 0) (replicate open_cells_length (pos 0)) (replicate open_states_length 0)) (replicate present_bodies_length 0)

-- all that a refused pair prints, or a run's first line
unfoldable pub answer_text : Answer Ending → List ℕ
answer_text (refused n) = refused_text n
answer_text (answered e) = end_line e
