-- Each public call as one function from all inputs and the lent memory to the answer and the final lent memory, refused calls
-- included: under a refusal the lent memory stays as it was. Assumes nothing: these are definitions.
use Rattle.std.specs.Prelude.{List, [], ◌∷◌, ℕ, zero, suc, replicate, ℤ}
use Rattle.lingua.specs.Numbers.{rows_length, layout_length}
use Rattle.lingua.specs.Outcome.{Outcome, ok, fail}
use Rattle.lingua.specs.Value.{pad}
use Rattle.lingua.specs.Store.{Reading, cells_in, states_in, open_cells_in, open_states_in, present_in}
use Rattle.lingua.specs.Run.{Progress, run, last_state, open_calls, end_of, steps_of}
use Rattle.lingua.specs.Typing.{TypeError, Entry, check_profile, layout_of}
use Rattle.lingua.specs.Rows.{row_count}
use Rattle.lingua.specs.Trees.{profile_of}
use Rattle.lingua.specs.Lookup.{Lookup, look_up}
use Rattle.lingua.specs.Format.{File, model_of, rows_of, file_of}
use Rattle.lingua.specs.Inputs.{Inputs, Buffers, buffers}
use Rattle.lingua.specs.Refusal.{read_refusal, find_refusal, write_refusal, type_check_refusal, checked_refusal, erased_refusal}
use Rattle.lingua.specs.Answers.{RunAnswer, CheckAnswer, ReadAnswer, WriteAnswer, Answer, refused, answered, Ending, ending, end_number, Verdict, passed, faulted, RowsRead, run_meaning, type_check_meaning, read_meaning, write_meaning}

-- ---- the reader: the rows, then zeros
pub record ReadCall : Type 0 where
  pub answer : Answer RowsRead
  pub buffer : List ℕ

unfoldable pub read_unless : ℕ → List ℕ → List ℕ → ReadCall
read_unless zero file buffer =
    record { answer = answered (record { model = model_of file; count = row_count (rows_of file) }); buffer = pad rows_length 0 (rows_of file) }
read_unless (suc n) file buffer = record { answer = refused (suc n); buffer = buffer }

unfoldable pub read_call : File → List ℕ → List ℕ → ReadCall
read_call f file buffer = read_unless (read_refusal f file buffer) file buffer

-- ---- the search for a variable by its name among a profile's declarations; nothing is lent
unfoldable pub find_unless : ℕ → List ℕ → List ℕ → Answer Lookup
find_unless zero file name = answered (look_up (rows_of file) name)
find_unless (suc n) file name = refused (suc n)

unfoldable pub find_call : List ℕ → List ℕ → Answer Lookup
find_call file name = find_unless (find_refusal file) file name

-- ---- the writer: the file's bytes
pub record WriteCall : Type 0 where
  pub answer : Answer (Unit {0})
  pub buffer : List ℕ

unfoldable pub write_unless : ℕ → File → ℕ → List ℕ → List ℕ → WriteCall
write_unless zero f model rows buffer = record { answer = answered tt; buffer = file_of f model rows }
write_unless (suc n) f model rows buffer = record { answer = refused (suc n); buffer = buffer }

unfoldable pub write_call : File → ℕ → List ℕ → List ℕ → WriteCall
write_call f model rows buffer = write_unless (write_refusal f rows buffer) f model rows buffer

-- ---- the type check: a pass fills the layout table, a type error zeroes it
pub record TypeCheckCall : Type 0 where
  pub answer : Answer Verdict
  pub layout : List ℕ

unfoldable pub type_check_verdict : Outcome TypeError (List Entry) → TypeCheckCall
type_check_verdict (ok es) = record { answer = answered passed; layout = layout_of es }
type_check_verdict (fail e) = record { answer = answered (faulted e.error e.place); layout = replicate layout_length 0 }

unfoldable pub type_check_unless : ℕ → List ℕ → List ℕ → List ℕ → TypeCheckCall
type_check_unless zero prof lims layout = type_check_verdict (check_profile (profile_of (rows_of prof) (rows_of lims)))
type_check_unless (suc n) prof lims layout = record { answer = refused (suc n); layout = layout }

unfoldable pub type_check_call : List ℕ → List ℕ → List ℕ → TypeCheckCall
type_check_call prof lims layout = type_check_unless (type_check_refusal prof lims layout) prof lims layout

-- ---- what both runs give
pub record RunCall : Type 0 where
  pub answer : Answer Ending
  pub registers : Buffers

-- the two slices of equal length, place by place
unfoldable pub readings_of : List ℕ → List ℤ → List Reading
readings_of [] zs = []
readings_of (v ∷ vs) [] = []
readings_of (v ∷ vs) (z ∷ zs) = record { variable = v; number = z } ∷ readings_of vs zs

unfoldable pub ending_of : ℕ → Progress → Ending
ending_of budget p = ending (end_number (end_of p)) (last_state p).error (last_state p).place (steps_of budget p)

-- the caller's buffers as a run leaves them
unfoldable pub registers_of : Progress → Buffers
registers_of p =
    buffers (cells_in (last_state p).store) (states_in (last_state p).store) (open_cells_in (open_calls p)) (open_states_in (open_calls p))

unfoldable pub ran : ℕ → Progress → RunCall
ran budget p = record { answer = answered (ending_of budget p); registers = registers_of p }

-- the run of both files' profile
unfoldable pub run_of : Inputs → ℕ → Progress
run_of i budget = run (profile_of (rows_of i.profile) (rows_of i.limits)) (readings_of i.variables i.numbers) budget

-- ---- the checked run (document 01: desk run): it hands the present bodies out
pub record CheckedCall : Type 0 where
  pub answer : Answer Ending
  pub registers : Buffers
  pub bodies : List ℕ

abbrev pub with_bodies : RunCall → List ℕ → CheckedCall
with_bodies c bodies = record { answer = c.answer; registers = c.registers; bodies = bodies }

unfoldable pub checked_unless : ℕ → Inputs → ℕ → Buffers → List ℕ → CheckedCall
checked_unless zero i budget b bodies = with_bodies (ran budget (run_of i budget)) (present_in (last_state (run_of i budget)).store (open_calls (run_of i budget)))
checked_unless (suc n) i budget b bodies = record { answer = refused (suc n); registers = b; bodies = bodies }

unfoldable pub checked_call : Inputs → ℕ → Buffers → List ℕ → CheckedCall
checked_call i budget b bodies = checked_unless (checked_refusal i b bodies) i budget b bodies

-- ---- the erased run (document 01: chair run): the checked run's meaning, with rule 17, and the layout table that it fills
pub record ErasedCall : Type 0 where
  pub answer : Answer Ending
  pub registers : Buffers
  pub layout : List ℕ

abbrev pub with_layout : RunCall → List ℕ → ErasedCall
with_layout c layout = record { answer = c.answer; registers = c.registers; layout = layout }

unfoldable pub erased_unless : ℕ → Inputs → ℕ → Buffers → List ℕ → ErasedCall
erased_unless zero i budget b layout =
    with_layout (ran budget (run_of i budget)) (type_check_call i.profile i.limits layout).layout
erased_unless (suc n) i budget b layout = record { answer = refused (suc n); registers = b; layout = layout }

unfoldable pub erased_call : Inputs → ℕ → Buffers → List ℕ → ErasedCall
erased_call i budget b layout = erased_unless (erased_refusal i b layout) i budget b layout

-- ---- what a call of the code gave: its answer's meaning, and the lent memory as it left it
unfoldable pub read_result : ReadAnswer → List ℕ → ReadCall
read_result r buffer = record { answer = read_meaning r; buffer = buffer }

unfoldable pub write_result : WriteAnswer → List ℕ → WriteCall
write_result r buffer = record { answer = write_meaning r; buffer = buffer }

unfoldable pub type_check_result : CheckAnswer → List ℕ → TypeCheckCall
type_check_result r layout = record { answer = type_check_meaning r; layout = layout }

unfoldable pub run_result : RunAnswer → Buffers → RunCall
run_result r b = record { answer = run_meaning r; registers = b }

unfoldable pub checked_result : RunAnswer → Buffers → List ℕ → CheckedCall
checked_result r b bodies = record { answer = run_meaning r; registers = b; bodies = bodies }

unfoldable pub erased_result : RunAnswer → Buffers → List ℕ → ErasedCall
erased_result r b layout = record { answer = run_meaning r; registers = b; layout = layout }
