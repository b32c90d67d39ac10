-- Worked examples of procedures (document 02, 3): copies in and out, limits, too many open calls, what a run out of budget leaves, and the
-- type check of a call; then the same of files, whose variables a row names, and the refusals. Each is computed and compared. Assumes nothing.
use Rattle.std.specs.Prelude.{◌≡◌, refl, true, false, List, [], ◌∷◌, ◌++◌, ℕ, take, drop, length, set, replicate, ℤ, pos}
use Rattle.std.proofs.Common.{ap, ◌∙◌}
use Rattle.std.proofs.Math.Option.{Option, none}
use Rattle.lingua.specs.Numbers.{rows_length, present_bodies_length}
use Rattle.lingua.specs.Errors.{division_by_zero, yoke_not_satisfied, not_filled, too_deep, no_coherence, yoke_expected, bad_form, bad_count, bad_reference, bad_use, models_differ, bad_parameters, repeated_reference}
use Rattle.lingua.specs.Outcome.{ok, fail}
use Rattle.lingua.specs.Body.{boolean, number}
use Rattle.lingua.specs.Operation.{add, less}
use Rattle.lingua.specs.Expression.{variable, current, binary, Yoke, always, yoke, Instruction, skip, assign, sequence, handle, call}
use Rattle.lingua.specs.Store.{Limit, cells_in, call_states, open_cells_in}
use Rattle.lingua.specs.Run.{Declaration, scoped, Profile, run, last_state, open_calls}
use Rattle.lingua.specs.Typing.{type_error, check_profile}
use Rattle.lingua.specs.Meets.{run_met}
use Rattle.lingua.specs.Trees.{instruction_scope, expression_scope}
use Rattle.lingua.specs.Format.{profile, limits, file_of, length_wrong}
use Rattle.lingua.specs.Refusal.{read_refusal, type_check_refusal}
use Rattle.lingua.specs.Answers.{answered, Ending, ending, passed}
use Rattle.lingua.specs.Inputs.{inputs, buffers}
use Rattle.lingua.specs.Calls.{CheckedCall, ending_of, run_of, type_check_call, checked_call}
use Rattle.lingua.specs.Edges.{literal, one_by_zero, up_to_600, below_five}
use Rattle.lingua.specs.Examples.{row, example_limits, example_limits_file, limits_made, fives}
use Rattle.lingua.specs.Computing.{computing}
use Rattle.lingua.specs.Quick.{quickly, made, file_made, read_by, read_by_lem, refused_by, refused_by_lem, type_check_by, checked_by_lem}

-- ---- a profile with SPEED, up to 600, and GAIN; procedure 0 has a gain by value and a speed by reference
abbrev pub plain : Yoke → Option Limit → Declaration
plain y l = record { name = 65 ∷ replicate 7 0; body = number; declared = y; limit = l }

abbrev pub ramping : List Declaration → Instruction → Instruction → Profile
ramping ds body main =
    record { declarations = plain always up_to_600 ∷ plain always none ∷ []; procedures = record { variables = ds; body = body } ∷ []; instructions = []; program = main }

abbrev pub gain_and_speed : List Declaration
gain_and_speed = plain always none ∷ plain always none ∷ []

-- the speed becomes the speed and the gain
abbrev pub faster : Instruction
faster = assign 0 1 (binary 2 add (variable 1 1) (variable 0 0))

-- SPEED := 100; GAIN := n; the call
abbrev pub calling : ℕ → Instruction
calling n = sequence 8 (assign 5 0 (literal (pos 100))) (sequence 7 (assign 4 1 (literal (pos n))) (call 6 0 (1 ∷ []) (0 ∷ [])))

abbrev pub speed_at : Profile → ℕ → List ℤ
speed_at p budget = take 1 (cells_in (last_state (run p [] budget)).store)

abbrev pub ends_at : Profile → ℕ → Ending
ends_at p budget = ending_of budget (run p [] budget)

-- ---- copies
-- a call takes a step, and so does its body; the reference comes back
pub ramped : speed_at (ramping gain_and_speed faster (calling 20)) 9 ≡ pos 120 ∷ []
unfolding computing
ramped = refl

pub ramp_steps : ends_at (ramping gain_and_speed faster (calling 20)) 9 ≡ ending 0 0 0 4
unfolding computing
ramp_steps = refl

-- the procedure's variable takes 650; the profile's, which has a limit, does not, and the place is the call's
pub too_fast : ends_at (ramping gain_and_speed faster (calling 550)) 9 ≡ ending 1 yoke_not_satisfied 6 4
unfolding computing
too_fast = refl

pub too_fast_keeps : speed_at (ramping gain_and_speed faster (calling 550)) 9 ≡ pos 100 ∷ []
unfolding computing
too_fast_keeps = refl

-- a variable that is not filled fails at the call, before the parameter's yoke, which would be no yoke at all
pub empty_given : ends_at (ramping (plain (yoke (literal (pos 1))) none ∷ []) faster (call 6 0 (1 ∷ []) [])) 9 ≡ ending 1 not_filled 6 1
unfolding computing
empty_given = refl

-- a parameter's yoke is asked of the copy, values first: 20 is not below five
pub parameter_yoke : ends_at (ramping (plain below_five none ∷ plain (yoke one_by_zero) none ∷ []) faster (calling 20)) 9 ≡ ending 1 yoke_not_satisfied 6 3
unfolding computing
parameter_yoke = refl

-- a copy that fails opens no call: nothing of the body runs, not even a handler
pub no_call_opened : ends_at (ramping (plain below_five none ∷ []) (handle 0 yoke_not_satisfied (skip 1)) (calling 20)) 9 ≡ ending 1 yoke_not_satisfied 6 3
unfolding computing
no_call_opened = refl

-- a body sees no variable of its caller, though SPEED is filled
pub own_variables : ends_at (ramping gain_and_speed (assign 0 0 (variable 0 2)) (calling 20)) 9 ≡ ending 1 not_filled 0 4
unfolding computing
own_variables = refl

-- a body that fails brings nothing back, and the place is its own
pub failed_body : ends_at (ramping gain_and_speed (sequence 2 faster (assign 1 0 one_by_zero)) (calling 20)) 9 ≡ ending 1 division_by_zero 1 5
unfolding computing
failed_body = refl

pub failed_body_keeps : speed_at (ramping gain_and_speed (sequence 2 faster (assign 1 0 one_by_zero)) (calling 20)) 9 ≡ pos 100 ∷ []
unfolding computing
failed_body_keeps = refl

-- references come back in order until one fails: SPEED and GAIN to 700; what came back before stays, what is behind is not asked
abbrev pub both_700 : Instruction
both_700 = sequence 2 (assign 0 0 (literal (pos 700))) (assign 1 1 (literal (pos 700)))

abbrev pub giving : List ℕ → Instruction
giving rs = sequence 8 (assign 5 0 (literal (pos 100))) (sequence 7 (assign 4 1 (literal (pos 20))) (call 6 0 [] rs))

pub gain_came_back : cells_in (last_state (run (ramping gain_and_speed both_700 (giving (1 ∷ 0 ∷ []))) [] 9)).store
    ≡ pos 100 ∷ (replicate 63 (pos 0) ++ (pos 700 ∷ replicate 959 (pos 0)))
unfolding computing
gain_came_back = refl

pub gain_not_asked : cells_in (last_state (run (ramping gain_and_speed both_700 (giving (0 ∷ 1 ∷ []))) [] 9)).store
    ≡ pos 100 ∷ (replicate 63 (pos 0) ++ (pos 20 ∷ replicate 959 (pos 0)))
unfolding computing
gain_not_asked = refl

-- ---- open calls
-- out of budget in the body: the call's variables stay as they stand, and SPEED too
pub left_open : open_cells_in (open_calls (run (ramping gain_and_speed (sequence 2 faster (skip 1)) (calling 20)) [] 4))
    ≡ pos 20 ∷ (replicate 63 (pos 0) ++ (pos 120 ∷ replicate 16319 (pos 0)))
unfolding computing
left_open = refl

pub left_open_states : call_states (open_calls (run (ramping gain_and_speed (sequence 2 faster (skip 1)) (calling 20)) [] 4)) ≡ 1 ∷ 0 ∷ 1 ∷ replicate 29 0
unfolding computing
left_open_states = refl

-- a call that ends is closed
pub closed_call : open_calls (run (ramping gain_and_speed faster (sequence 9 (calling 20) (skip 3))) [] 4) ≡ []
unfolding computing
closed_call = refl

-- a procedure that calls itself: each call takes a step, and the seventeenth fails before any copy, at its own row
abbrev pub endless : Profile
endless = ramping (plain always none ∷ []) (call 0 0 (0 ∷ []) []) (sequence 8 (assign 5 0 (literal (pos 1))) (call 6 0 (0 ∷ []) []))

pub seventeenth : ends_at endless 99 ≡ ending 1 too_deep 0 18
unfolding computing
seventeenth = refl

pub five_open : length (open_calls (run endless [] 6)) ≡ 5
unfolding computing
five_open = refl

-- with a copy that would fail, the seventeenth is still too deep: each call gives one more than its own value, which has to be below 17
abbrev pub one_more : Instruction
one_more = sequence 2 (assign 0 1 (binary 2 add (variable 1 0) (literal (pos 1)))) (call 1 0 (1 ∷ []) [])

abbrev pub counting : Profile
counting =
    ramping (plain (yoke (binary 2 less (current 1) (literal (pos 17)))) none ∷ plain always none ∷ []) one_more
    (sequence 8 (assign 5 0 (literal (pos 1))) (call 6 0 (0 ∷ []) []))

pub depth_before_copies : ends_at counting 99 ≡ ending 1 too_deep 1 34
unfolding computing
depth_before_copies = refl

pub handled_depth : ends_at (ramping [] (call 0 0 [] []) (sequence 9 (call 6 0 [] []) (handle 8 too_deep (skip 7)))) 99 ≡ ending 0 0 0 19
unfolding computing
handled_depth = refl

-- ---- what a call meets, and what the type check asks of it
pub copies_met : run_met (ramping gain_and_speed faster (calling 550)) [] 9 ≡ yoke_not_satisfied ∷ []
unfolding computing
copies_met = refl

pub depth_met : run_met (ramping [] (call 0 0 [] []) (call 6 0 [] [])) [] 99 ≡ too_deep ∷ []
unfolding computing
depth_met = refl

-- a parameter of another body is 15 at the call; the call's row is by the variables of its own scope
abbrev pub truth_first : List Declaration
truth_first = record { name = 65 ∷ replicate 7 0; body = boolean; declared = always; limit = none } ∷ []

abbrev pub checking : ℕ → Profile
checking s =
    record { declarations = plain always none ∷ []; procedures = record { variables = truth_first; body = skip 0 } ∷ []; instructions = scoped s (call 3 0 (0 ∷ []) []) ∷ []; program = skip 1 }

pub other_body : check_profile (checking 0) ≡ fail (type_error no_coherence 515)
unfolding computing
other_body = refl

pub own_body : check_profile (checking 1) ≡ ok []
unfolding computing
own_body = refl

-- a procedure's declared yokes come behind the profile's, and their places go on
pub second_declaration : check_profile (record { declarations = plain always none ∷ []; procedures = record { variables = plain always none ∷ plain (yoke (current 4)) none ∷ []; body = skip 0 } ∷ []; instructions = []; program = skip 1 }) ≡ fail (type_error yoke_expected 770)
unfolding computing
second_declaration = refl

-- ---- files
-- SPEED and GAIN, numbers; SPEED := 100, GAIN := 20, and a call of procedure 0 with GAIN by value and SPEED by reference. The procedure has
-- STEP and a SPEED of its own, which becomes SPEED + STEP
unfoldable pub ramp_rows : List ℕ
ramp_rows =
    row 1 0 (83 ∷ 80 ∷ 69 ∷ 69 ∷ 68 ∷ [])
    ++ (row 1 1 []
    ++ (row 1 0 (71 ∷ 65 ∷ 73 ∷ 78 ∷ [])
    ++ (row 1 1 []
    ++ (row 2 2 []
    -- 100, 20, the procedure's SPEED and STEP, their sum
    ++ (row 3 2 (100 ∷ [])
    ++ (row 3 2 (20 ∷ [])
    ++ (row 3 4 (1 ∷ [])
    ++ (row 3 4 []
    ++ (row 3 5 (2 ∷ 0 ∷ 3 ∷ [])
    -- the body; both assignments, the call, and their sequences
    ++ (row 4 2 (1 ∷ 0 ∷ 4 ∷ [])
    ++ (row 4 2 []
    ++ (row 4 2 (1 ∷ 0 ∷ 1 ∷ [])
    ++ (row 4 8 (0 ∷ 0 ∷ 1 ∷ [])
    ++ (row 4 4 (1 ∷ 0 ∷ 2 ∷ [])
    ++ (row 4 4 (4 ∷ 0 ∷ 3 ∷ [])
    -- the procedure: body row 0, one parameter of each sort
    ++ (row 6 2 (0 ∷ 0 ∷ 1 ∷ 0 ∷ 1 ∷ [])
    ++ (row 6 0 (83 ∷ 84 ∷ 69 ∷ 80 ∷ [])
    ++ (row 6 1 []
    ++ (row 6 0 (83 ∷ 80 ∷ 69 ∷ 69 ∷ 68 ∷ [])
    ++ row 6 1 [])))))))))))))))))))

-- the bytes that the examples below change: GAIN's constant, what the call gives, and the numbers of parameters
abbrev pub with_gain : ℕ → ℕ → List ℕ
with_gain low high = set (set ramp_rows 62 low) 63 high

abbrev pub with_call : ℕ → ℕ → List ℕ → List ℕ
with_call b c rows = set (set rows 134 b) 136 c

abbrev pub with_parameters : ℕ → ℕ → List ℕ → List ℕ
with_parameters n m rows = set (set rows 164 n) 166 m

abbrev pub file : List ℕ → List ℕ
file rows = file_of profile 7 rows

abbrev pub ramp_run : List ℕ → ℕ → Ending
ramp_run rows budget = ending_of budget (run_of (inputs (file rows) example_limits_file [] []) budget)

abbrev pub two_cells : ℕ → ℕ → List ℤ
two_cells m n = pos m ∷ (replicate 63 (pos 0) ++ (pos n ∷ replicate 959 (pos 0)))

-- SPEED is 120, no call is open, and both have their declared body
pub ramp_gives : checked_call (inputs (file ramp_rows) example_limits_file [] []) 9 fives (replicate present_bodies_length 7)
    ≡ record { answer = answered (ending 0 0 0 4); registers = buffers (two_cells 120 20) (1 ∷ 0 ∷ 1 ∷ replicate 29 0) (replicate 16384 (pos 0)) (replicate 512 0); bodies = (2 ∷ replicate 95 0) ++ (2 ∷ replicate 26015 0) }
unfolding computing quickly ramp_rows example_limits
ramp_gives = checked_by_lem (file_made profile 7 ramp_rows) limits_made 9 fives (replicate present_bodies_length 7) ∙ refl

-- out in the body: the call is open, its variables filled by the copies
pub ramp_out : (checked_call (inputs (file ramp_rows) example_limits_file [] []) 3 fives (replicate present_bodies_length 7)).registers
    ≡ buffers (two_cells 100 20) (1 ∷ 0 ∷ 1 ∷ replicate 29 0) (two_cells 20 100 ++ replicate 15360 (pos 0)) (1 ∷ 0 ∷ 1 ∷ replicate 509 0)
unfolding computing quickly ramp_rows example_limits
ramp_out = ap (λ (c : CheckedCall). c.registers) (checked_by_lem (file_made profile 7 ramp_rows) limits_made 3 fives (replicate present_bodies_length 7)) ∙ refl

-- 650 is too much for the profile's SPEED, which has the limit, and not for the procedure's, though it has the name: the place is the call's
pub ramp_limit : ramp_run (with_gain 38 2) 9 ≡ ending 1 yoke_not_satisfied 3 4
unfolding computing ramp_rows example_limits_file example_limits
ramp_limit = refl

pub ramp_passes : type_check_call (file ramp_rows) example_limits_file (replicate 1024 5)
    ≡ record { answer = answered passed; layout = 1 ∷ 0 ∷ 1 ∷ 0 ∷ 1 ∷ 0 ∷ 1 ∷ 0 ∷ 1 ∷ replicate 1015 0 }
unfolding computing quickly ramp_rows example_limits
ramp_passes = type_check_by (file_made profile 7 ramp_rows) limits_made (replicate 1024 5) ∙ refl

-- 22 blocks, and not 23
pub blocks_22 : length_wrong profile (replicate 11264 0) ≡ false
unfolding computing
blocks_22 = refl

pub blocks_23 : length_wrong profile (replicate 11776 0) ≡ true
unfolding computing
blocks_23 = refl

-- ---- whose variables
abbrev pub reads : List ℕ → ℕ
reads rows = read_refusal profile (file rows) (replicate rows_length 5)

pub reads_by : (rows : List ℕ) → reads rows ≡ read_by profile (made profile 7 rows) (replicate rows_length 5)
reads_by rows = read_by_lem profile (file_made profile 7 rows) (replicate rows_length 5)

abbrev pub same_body_lem : List ℕ
same_body_lem = row 6 2 []

-- the body and its expression are procedure 0's, and stay so where a second procedure, without variables, has the same body: rule 11
pub body_scope : instruction_scope (ramp_rows ++ same_body_lem) 0 ≡ 1
unfolding computing ramp_rows
body_scope = refl

pub sum_scope : expression_scope (ramp_rows ++ same_body_lem) 3 ≡ 1
unfolding computing ramp_rows
sum_scope = refl

pub shared_body : reads (ramp_rows ++ same_body_lem) ≡ bad_use
unfolding computing quickly ramp_rows
shared_body = reads_by (ramp_rows ++ same_body_lem) ∙ refl

-- with that procedure first, the body names variables that it does not have
pub shared_first : reads (take 160 ramp_rows ++ (same_body_lem ++ drop 160 ramp_rows)) ≡ bad_reference
unfolding computing quickly ramp_rows
shared_first = reads_by (take 160 ramp_rows ++ (same_body_lem ++ drop 160 ramp_rows)) ∙ refl

-- so too where the program reaches the body; the program's own row is under none
pub program_reaches : instruction_scope (set ramp_rows 152 0) 0 ≡ 1
unfolding computing ramp_rows
program_reaches = refl

pub program_scope : instruction_scope ramp_rows 5 ≡ 0
unfolding computing ramp_rows
program_scope = refl

-- ---- refusals
-- section 6 without its first row; nine procedures; a body that is the last row
pub no_header : reads (take 160 ramp_rows ++ drop 170 ramp_rows) ≡ bad_form
unfolding computing quickly ramp_rows
no_header = reads_by (take 160 ramp_rows ++ drop 170 ramp_rows) ∙ refl

pub nine_procedures : reads (ramp_rows ++ (same_body_lem ++ (same_body_lem ++ (same_body_lem ++ (same_body_lem ++ (same_body_lem ++ (same_body_lem ++ (same_body_lem ++ same_body_lem)))))))) ≡ bad_count
unfolding computing quickly ramp_rows
nine_procedures = reads_by (ramp_rows ++ (same_body_lem ++ (same_body_lem ++ (same_body_lem ++ (same_body_lem ++ (same_body_lem ++ (same_body_lem ++ (same_body_lem ++ same_body_lem)))))))) ∙ refl

pub last_body : reads (set ramp_rows 162 5) ≡ bad_reference
unfolding computing quickly ramp_rows
last_body = reads_by (set ramp_rows 162 5) ∙ refl

-- a call of no procedure, and a variable that the profile does not have
pub no_such_procedure : reads (set ramp_rows 132 1) ≡ bad_reference
unfolding computing quickly ramp_rows
no_such_procedure = reads_by (set ramp_rows 132 1) ∙ refl

pub no_such_variable : reads (with_call 2 0 ramp_rows) ≡ bad_reference
unfolding computing quickly ramp_rows
no_such_variable = reads_by (with_call 2 0 ramp_rows) ∙ refl

-- more parameters than variables, and bits above the parameter's; a variable that is not there comes first
pub few_variables : reads (with_parameters 2 1 ramp_rows) ≡ bad_parameters
unfolding computing quickly ramp_rows
few_variables = reads_by (with_parameters 2 1 ramp_rows) ∙ refl

pub bits_above_lem : reads (with_call 17 0 ramp_rows) ≡ bad_parameters
unfolding computing quickly ramp_rows
bits_above_lem = reads_by (with_call 17 0 ramp_rows) ∙ refl

pub reference_before_count : reads (with_parameters 2 1 (with_call 33 0 ramp_rows)) ≡ bad_reference
unfolding computing quickly ramp_rows
reference_before_count = reads_by (with_parameters 2 1 (with_call 33 0 ramp_rows)) ∙ refl

-- two parameters of one sort: one variable twice is refused by reference alone
pub twice_by_reference : reads (with_parameters 0 2 (with_call 0 0 ramp_rows)) ≡ repeated_reference
unfolding computing quickly ramp_rows
twice_by_reference = reads_by (with_parameters 0 2 (with_call 0 0 ramp_rows)) ∙ refl

pub once_each : reads (with_parameters 0 2 (with_call 0 1 ramp_rows)) ≡ 0
unfolding computing quickly ramp_rows
once_each = reads_by (with_parameters 0 2 (with_call 0 1 ramp_rows)) ∙ refl

pub twice_by_value : reads (with_parameters 2 0 (with_call 0 0 ramp_rows)) ≡ 0
unfolding computing quickly ramp_rows
twice_by_value = reads_by (with_parameters 2 0 (with_call 0 0 ramp_rows)) ∙ refl

-- 18, then 19, then 14: the limits' model is another
unfoldable pub other_model : List ℕ
other_model = file_of limits 8 example_limits

abbrev pub paired_with_other : List ℕ → ℕ
paired_with_other rows = type_check_refusal (file rows) other_model (replicate 1024 5)

pub paired_by : (rows : List ℕ) → paired_with_other rows ≡ refused_by (made profile 7 rows) (made limits 8 example_limits) (replicate 1024 5)
unfolding other_model
paired_by rows = refused_by_lem (file_made profile 7 rows) (file_made limits 8 example_limits) (replicate 1024 5)

pub parameters_first : paired_with_other (with_parameters 0 2 (with_call 16 0 ramp_rows)) ≡ bad_parameters
unfolding computing quickly ramp_rows example_limits
parameters_first = paired_by (with_parameters 0 2 (with_call 16 0 ramp_rows)) ∙ refl

pub repeated_next : paired_with_other (with_parameters 0 2 (with_call 0 0 ramp_rows)) ≡ repeated_reference
unfolding computing quickly ramp_rows example_limits
repeated_next = paired_by (with_parameters 0 2 (with_call 0 0 ramp_rows)) ∙ refl

pub models_last : paired_with_other ramp_rows ≡ models_differ
unfolding computing quickly ramp_rows example_limits
models_last = paired_by ramp_rows ∙ refl
