-- Worked examples beside the edges, where a definition is easiest to get wrong. Each is computed and compared. Assumes nothing.
use Rattle.std.specs.Prelude.{◌≡◌, refl, true, false, List, [], ◌∷◌, ◌++◌, ℕ, take, drop, set, replicate, ℤ, pos}
use Rattle.std.proofs.Common.{ap, ◌∙◌, arith}
use Rattle.std.proofs.Math.Option.{some, none}
use Rattle.lingua.specs.Errors.{overflow, division_by_zero, yoke_not_satisfied, number_expected, boolean_expected, list_expected, attribute_present, no_coherence, yoke_expected, body_too_large, record_expected, no_such_attribute, last_attribute, bad_marker, bad_check, type_error_found}
use Rattle.lingua.specs.Outcome.{ok, fail, Result, ◌>>=◌}
use Rattle.lingua.specs.Body.{Body, boolean, number, word, list_of, record_of, Attributes, end, attribute, coherent}
use Rattle.lingua.specs.WellFormed.{InBounds, WellFormed, formed_number, formed_record, formed_end, formed_attribute}
use Rattle.lingua.specs.Value.{whole, text, items, item, no_items, fields, field, no_fields, cells_of, pad, Composite, composite}
use Rattle.lingua.specs.Operation.{negation, make_record, select, pop, remove, add, divide, less, equal, expand, unary_body, binary_body}
use Rattle.lingua.specs.Expression.{conjunction, Expression, constant, variable, current, unary, binary, lazy, choice, all_list, Yoke, always, yoke, Instruction, skip, assign, set_yoke, sequence, loop, handle}
use Rattle.lingua.specs.Evaluation.{boolean_of, apply_unary, apply_binary, no_current}
use Rattle.lingua.specs.Store.{Reading, cells_in, states_in, bodies_in}
use Rattle.lingua.specs.Run.{Declaration, scoped, Profile, run, last_state}
use Rattle.lingua.specs.Typing.{type_error, Typed, Finding, fault, Bodies, check, check_yoke, check_test, check_profile, layout_of}
use Rattle.lingua.specs.Meets.{met, run_met}
use Rattle.lingua.specs.Lookup.{lookup, look_up}
use Rattle.lingua.specs.Format.{profile, limits, block_check, file_of, rows_of}
use Rattle.lingua.specs.Answers.{refused, answered, Ending, ending, faulted}
use Rattle.lingua.specs.Inputs.{inputs, Buffers, buffers}
use Rattle.lingua.specs.Calls.{ending_of, find_call, type_check_call, erased_call}
use Rattle.lingua.specs.Refusal.{type_check_refusal}
use Rattle.lingua.specs.Report.{report_text}
use Rattle.lingua.specs.Edges.{literal, truth_literal, one_by_zero, speed, program, up_to_600, below_five}
use Rattle.lingua.specs.Computing.{computing}
use Rattle.lingua.specs.Quick.{quickly, one_pass_lem, made, file_made, find_by_lem, refused_by_lem, type_check_by, erased_by_lem, report_by_lem}

-- ---- cells
-- a word's cell: "AB" is 65 * 256^7 + 66 * 256^6
pub word_cell : cells_of word (text (65 ∷ 66 ∷ [])) ≡ pos 4702320960928219136 ∷ []
unfolding computing
word_cell = refl

abbrev pub one_and_five : Composite
one_and_five =
    composite (record_of (attribute 1 number (attribute 5 number end))) (fields (field 1 (whole (pos 10)) (field 5 (whole (pos 50)) no_fields)))

abbrev pub cells_of_result : Result Composite → List ℤ
cells_of_result (ok x) = cells_of x.body x.value
cells_of_result (fail n) = []

-- an attribute inserted in the middle
pub middle_attribute : cells_of_result (apply_binary (expand 3) one_and_five (composite number (whole (pos 30)))) ≡ pos 10 ∷ pos 30 ∷ pos 50 ∷ []
unfolding computing
middle_attribute = refl

abbrev pub seven_and_eight : Composite
seven_and_eight = composite (list_of number) (items (item (whole (pos 7)) (item (whole (pos 8)) no_items)))

-- a freed place is zero
pub freed_place : cells_of_result (apply_unary pop seven_and_eight) ≡ pos 1 ∷ pos 7 ∷ replicate 7 (pos 0)
unfolding computing
freed_place = refl

-- ---- bounds
abbrev pub eight_attributes : Body
eight_attributes =
    record_of (attribute 0 number (attribute 1 number (attribute 2 number (attribute 3 number (attribute 4 number (attribute 5 number (attribute 6 number (attribute 7 number end))))))))

-- a ninth attribute is too many; one that is there already is named first
pub ninth_attribute : binary_body (expand 9) eight_attributes number ≡ fail body_too_large
unfolding computing
ninth_attribute = refl

pub present_attribute : binary_body (expand 7) eight_attributes number ≡ fail attribute_present
unfolding computing
present_attribute = refl

-- a record in a record in a record in a record has depth 5
pub fifth_level : (unary_body (make_record 0) number >>= λ b. unary_body (make_record 0) b >>= λ c. unary_body (make_record 0) c >>= λ d. unary_body (make_record 0) d) ≡ fail body_too_large
unfolding computing
fifth_level = refl

-- ---- well-formed bodies
-- attributes 1 and 5 ascend; 5 and 1 do not
pub ascending_attributes : WellFormed one_and_five.body
unfolding computing
ascending_attributes =
    let within : InBounds one_and_five.body = record { few_cells = omega arith; few_nodes = omega arith; shallow = omega arith } in
    formed_record within (omega arith) (omega arith)
    (formed_attribute {n = 0} {m = 1} (omega arith) (omega arith) formed_number (formed_attribute {n = 2} {m = 5} (omega arith) (omega arith) formed_number formed_end))

pub descending_attributes : WellFormed (record_of (attribute 5 number (attribute 1 number end))) → ⊥
descending_attributes (formed_record b l m (formed_attribute p q f (formed_attribute r s g h))) = omega arith

-- a record without attributes is none
pub no_attributes : WellFormed (record_of end) → ⊥
unfolding computing
no_attributes (formed_record b l m h) = omega arith

-- ---- runs
abbrev pub reading : ℤ → List Reading
reading z = record { variable = 0; number = z } ∷ []

abbrev pub ends_with : Profile → List Reading → ℕ → Ending
ends_with p rs budget = ending_of budget (run p rs budget)

abbrev pub limited : Instruction → Profile
limited i = program (speed always up_to_600) i

-- a reading out of range is an error before the limits are asked; one outside the limits fails at its own place
pub wide_reading : ends_with (limited (skip 0)) (reading (pos 1000001)) 5 ≡ ending 1 overflow 256 0
unfolding computing
wide_reading = refl

pub fast_reading : ends_with (limited (skip 0)) (reading (pos 601)) 5 ≡ ending 1 yoke_not_satisfied 256 0
unfolding computing
fast_reading = refl

-- a handler clears a reading's error, with its place, and takes a step
pub handled_reading : ends_with (limited (handle 1 yoke_not_satisfied (skip 0))) (reading (pos 601)) 5 ≡ ending 0 0 0 2
unfolding computing
handled_reading = refl

-- a budget stops a loop between a test and its body, and at a test
pub stopped_loop : ends_with (limited (loop 1 (truth_literal true) (skip 0))) [] 5 ≡ ending 2 0 0 5
unfolding computing
stopped_loop = refl

-- each test takes a step, the last included: x := 0; while x < 2 do x := x + 1 takes 1 + 3 + 2
abbrev pub counting : Instruction
counting =
    sequence 3 (assign 0 0 (literal (pos 0)))
    (loop 2 (binary 9 less (variable 7 0) (literal (pos 2)))
    (assign 1 0 (binary 5 add (variable 4 0) (literal (pos 1)))))

pub counted_loop : ends_with (limited counting) [] 50 ≡ ending 0 0 0 6
unfolding computing
counted_loop = refl

-- a yoke that the value does not satisfy takes no effect
pub kept_yoke : states_in (last_state (run (limited (sequence 2 (assign 0 0 (literal (pos 9))) (set_yoke 1 0 below_five))) [] 9)).store ≡ 1 ∷ replicate 31 0
unfolding computing
kept_yoke = refl

-- ---- errors that are met
-- true + 1/0 meets both errors, though it gives 2: the divisor's own check and the division's, then the sum's first operand's
pub both_met : met (binary 3 add (truth_literal true) one_by_zero) (λ n. none) no_current ≡ division_by_zero ∷ division_by_zero ∷ number_expected ∷ []
unfolding computing
both_met = refl

abbrev pub zero_and_one : Composite
zero_and_one = composite (list_of number) (items (item (whole (pos 0)) (item (whole (pos 1)) no_items)))

-- an all_list of (1,000,000 + value)/value < 5 on 0 and 1 gives 2, and meets the second element's overflow too
pub later_element_met : met (all_list 7 (binary 6 less (binary 4 divide (binary 2 add (literal (pos 1000000)) (current 1)) (current 3)) (literal (pos 5)))) (λ n. none) zero_and_one
    ≡ division_by_zero ∷ division_by_zero ∷ overflow ∷ []
unfolding computing
later_element_met = refl

-- one of 10/value on 0 and 1 gives 2, and meets that the second element's result is no Boolean
pub other_element_met : met (all_list 3 (binary 2 divide (literal (pos 10)) (current 1))) (λ n. none) zero_and_one ≡ division_by_zero ∷ division_by_zero ∷ yoke_expected ∷ []
unfolding computing
other_element_met = refl

abbrev pub meets_in : Profile → List Reading → List ℕ
meets_in p rs = run_met p rs 9

-- a number variable assigned true: its yoke, not value, gives false, and its body is another
pub yoke_and_body_met : meets_in (program (speed (yoke (unary 1 negation (current 0))) none) (assign 0 0 (truth_literal true))) [] ≡ yoke_not_satisfied ∷ no_coherence ∷ []
unfolding computing
yoke_and_body_met = refl

-- limits of 5 to 600 say nothing of true
pub limits_of_numbers : meets_in (program (speed always (some (record { low = pos 5; high = pos 600 }))) (assign 0 0 (truth_literal true))) [] ≡ no_coherence ∷ []
unfolding computing
limits_of_numbers = refl

-- what a handler clears was met
pub cleared_met : meets_in (limited (sequence 3 (assign 0 0 (literal (pos 601))) (handle 2 yoke_not_satisfied (skip 1)))) [] ≡ yoke_not_satisfied ∷ []
unfolding computing
cleared_met = refl

-- a reading out of range is not asked for its limits; one outside them meets 3
pub wide_reading_met : meets_in (limited (skip 0)) (reading (pos 1000001)) ≡ overflow ∷ []
unfolding computing
wide_reading_met = refl

pub fast_reading_met : meets_in (limited (skip 0)) (reading (pos 601)) ≡ yoke_not_satisfied ∷ []
unfolding computing
fast_reading_met = refl

-- ---- the type check
abbrev pub layout_in : Finding Typed → List ℕ
layout_in (ok t) = layout_of t.entries
layout_in (fail e) = []

-- row 0 gives three cells; row 1 selects attribute 5, two cells behind the start
pub selected_layout : take 4 (layout_in (check (unary 1 (select 5) (constant 0 (composite (record_of (attribute 1 number (attribute 3 word (attribute 5 number end)))) (fields no_fields)))) (λ n. boolean) (some boolean))) ≡ 3 ∷ 0 ∷ 1 ∷ 2 ∷ []
unfolding computing
selected_layout = refl

-- ---- the lowest row named first
-- a number and a truth in a row
abbrev pub one_in : ℕ → Expression
one_in r = constant r (composite number (whole (pos 1)))

abbrev pub truth_in : ℕ → Expression
truth_in r = constant r (boolean_of true)

abbrev pub truths : Bodies
truths n = boolean

-- (not 1) = (true + 1): row 5 is evaluated before row 3
abbrev pub two_faults : Expression
two_faults = binary 6 equal (unary 5 negation (one_in 4)) (binary 3 add (truth_in 1) (one_in 2))

-- row 6 is no fault, since its operands have no bodies
pub all_faults : check two_faults truths (some boolean) ≡ fail (type_error boolean_expected 5 ∷ type_error number_expected 3 ∷ [])
unfolding computing
all_faults = refl

-- the lowest row is named, not the first to be evaluated, nor the instruction
pub lowest_row : check_test two_faults truths 512 ≡ fail (type_error number_expected 3)
unfolding computing
lowest_row = refl

pub own_fault : check_test (one_in 0) truths 512 ≡ fail (type_error boolean_expected 512)
unfolding computing
own_fault = refl

-- 1 and (not 1): the first operand is no Boolean, but the second has no body
pub no_body_no_fault : check (lazy 3 conjunction (one_in 2) (unary 1 negation (one_in 0))) truths (some boolean) ≡ fail (fault boolean_expected 1)
unfolding computing
no_body_no_fault = refl

-- if 1 then (not 1) else 1: the test is no Boolean, but a branch has no body
pub branch_without_body : check (choice 4 (one_in 3) (unary 2 negation (one_in 1)) (one_in 0)) truths (some boolean) ≡ fail (fault boolean_expected 2)
unfolding computing
branch_without_body = refl

-- if 1 then true else 1: one error, the lowest that applies
pub test_before_branches : check (choice 3 (one_in 2) (truth_in 1) (one_in 0)) truths (some boolean) ≡ fail (fault boolean_expected 3)
unfolding computing
test_before_branches = refl

-- all_list: value < 1, on a number: the yoke's rows hang on a current value that has no body
pub no_list : check (all_list 3 (binary 2 less (current 1) (one_in 0))) truths (some number) ≡ fail (fault list_expected 3)
unfolding computing
no_list = refl

-- not 1 in such a yoke does not, through nested all-lists too, and being lower it is named
pub both_counted : check (all_list 2 (unary 1 negation (one_in 0))) truths (some number) ≡ fail (type_error boolean_expected 1 ∷ type_error list_expected 2 ∷ [])
unfolding computing
both_counted = refl

pub nested_counted : check (all_list 3 (all_list 2 (unary 1 negation (one_in 0)))) truths (some number) ≡ fail (type_error boolean_expected 1 ∷ type_error list_expected 3 ∷ [])
unfolding computing
nested_counted = refl

pub lower_in_no_list : check_yoke (yoke (all_list 2 (unary 1 negation (one_in 0)))) truths number 768 ≡ fail (type_error boolean_expected 1)
unfolding computing
lower_in_no_list = refl

-- an all_list in such a yoke is no fault: neither for its own current value nor for an inner yoke that is no Boolean
pub nested_no_list : check (all_list 2 (all_list 1 (current 0))) truths (some number) ≡ fail (fault list_expected 2)
unfolding computing
nested_no_list = refl

pub nested_no_truth : check (all_list 2 (all_list 1 (one_in 0))) truths (some number) ≡ fail (fault list_expected 2)
unfolding computing
nested_no_truth = refl

-- on a list, an all_list is no fault where its inner yoke has no body, and is one where that is no Boolean
pub list_no_body : check (all_list 2 (unary 1 negation (current 0))) truths (some (list_of number)) ≡ fail (fault boolean_expected 1)
unfolding computing
list_no_body = refl

pub list_no_truth : check (all_list 1 (current 0)) truths (some (list_of number)) ≡ fail (fault yoke_expected 1)
unfolding computing
list_no_truth = refl

-- a loop on not 1, in a row
abbrev pub loop_on_number : ℕ → ℕ → Instruction
loop_on_number i r = loop i (unary r negation (one_in 0)) (skip 9)

-- the earliest instruction, though a later one has a lower row at fault; and a declared yoke before them
pub earliest_instruction : check_profile (record { declarations = []; procedures = []; instructions = scoped 0 (loop_on_number 0 5) ∷ scoped 0 (loop_on_number 1 2) ∷ []; program = skip 9 }) ≡ fail (type_error boolean_expected 5)
unfolding computing
earliest_instruction = refl

pub declarations_first : check_profile (record { declarations = speed (yoke (unary 7 negation (current 6))) none ∷ []; procedures = []; instructions = scoped 0 (loop_on_number 0 5) ∷ []; program = skip 9 }) ≡ fail (type_error boolean_expected 7)
unfolding computing
declarations_first = refl

-- ---- seats that gain a part
-- a seat has attribute 1, its width; a footplate is attribute 2, a headrest attribute 3
abbrev pub seat : Attributes → Body
seat fs = record_of (attribute 1 number fs)

abbrev pub with_footplate : Body
with_footplate = seat (attribute 2 number end)

abbrev pub with_headrest : Body
with_headrest = seat (attribute 3 number end)

abbrev pub with_both : Body
with_both = seat (attribute 2 number (attribute 3 number end))

-- one attribute more or less; neither two, nor one taken away and another added, nor another body of a shared one; a list of records is no record
pub gained : coherent (seat end) with_footplate ≡ true
unfolding computing
gained = refl

pub lost : coherent with_both with_headrest ≡ true
unfolding computing
lost = refl

pub two_at_once : coherent (seat end) with_both ≡ false
unfolding computing
two_at_once = refl

pub exchanged : coherent with_footplate with_headrest ≡ false
unfolding computing
exchanged = refl

pub other_shared : coherent (record_of (attribute 1 word end)) with_footplate ≡ false
unfolding computing
other_shared = refl

pub inside_a_list : coherent (list_of (seat end)) (list_of with_footplate) ≡ false
unfolding computing
inside_a_list = refl

-- an attribute that is not there is named before that the only one would go
pub removed_body : unary_body (remove 1) with_footplate ≡ ok (record_of (attribute 2 number end))
unfolding computing
removed_body = refl

pub removed_absent : unary_body (remove 2) (seat end) ≡ fail no_such_attribute
unfolding computing
removed_absent = refl

pub removed_only : unary_body (remove 1) (seat end) ≡ fail last_attribute
unfolding computing
removed_only = refl

pub removed_of_none : unary_body (remove 1) number ≡ fail record_expected
unfolding computing
removed_of_none = refl

pub removed_cells : cells_of_result (apply_unary (remove 1) one_and_five) ≡ pos 50 ∷ []
unfolding computing
removed_cells = refl

-- the offset is the removed attribute's in the operand: attribute 3 stands one cell behind the start; in the result nothing stands there
pub removed_layout : take 4 (layout_in (check (unary 1 (remove 3) (constant 0 (composite (record_of (attribute 1 number (attribute 3 word (attribute 5 number end)))) (fields no_fields)))) (λ n. boolean) (some boolean))) ≡ 3 ∷ 0 ∷ 2 ∷ 1 ∷ []
unfolding computing
removed_layout = refl

-- ---- runs of SEAT, declared with its width alone
abbrev pub seat_declared : Yoke → Declaration
seat_declared y = record { name = 83 ∷ 69 ∷ 65 ∷ 84 ∷ 0 ∷ 0 ∷ 0 ∷ 0 ∷ []; body = seat end; declared = y; limit = none }

abbrev pub wide : ℤ → Expression
wide z = unary 0 (make_record 1) (literal z)

abbrev pub expanded : ℕ → Expression → ℤ → Expression
expanded n e z = binary 0 (expand n) e (literal z)

abbrev pub own : Expression
own = variable 0 0

-- SEAT := its width, then with a footplate, then with a headrest too: two attributes may come one after the other
abbrev pub growing : Instruction
growing =
    sequence 0 (assign 1 0 (wide (pos 40)))
    (sequence 0 (assign 2 0 (expanded 2 own (pos 20))) (assign 3 0 (expanded 3 own (pos 30))))

abbrev pub seat_run : Instruction → Profile
seat_run i = program (seat_declared always) i

pub grown : ends_with (seat_run growing) [] 9 ≡ ending 0 0 0 3
unfolding computing
grown = refl

-- the present body, which is handed out: a record of three numbers, then zeros
pub grown_body : bodies_in (last_state (run (seat_run growing) [] 9)).store ≡ 5 ∷ 3 ∷ 1 ∷ 2 ∷ 2 ∷ 2 ∷ 3 ∷ 2 ∷ replicate 1528 0
unfolding computing
grown_body = refl

-- an unfilled variable's is the declared one
pub declared_first : bodies_in (last_state (run (seat_run growing) [] 0)).store ≡ 5 ∷ 1 ∷ 1 ∷ 2 ∷ replicate 1532 0
unfolding computing
declared_first = refl

-- both parts at once are 15, and so is the first width once SEAT has both
pub both_at_once : ends_with (seat_run (assign 1 0 (expanded 3 (expanded 2 (wide (pos 40)) (pos 20)) (pos 30)))) [] 9 ≡ ending 1 no_coherence 1 1
unfolding computing
both_at_once = refl

pub declared_again : ends_with (seat_run (sequence 0 growing (assign 4 0 (wide (pos 50))))) [] 9 ≡ ending 1 no_coherence 4 4
unfolding computing
declared_again = refl

-- with its first part gone SEAT's other cells are zero again
pub narrowed : take 4 (cells_in (last_state (run (seat_run (sequence 0 growing (assign 4 0 (unary 0 (remove 1) own)))) [] 9)).store) ≡ pos 20 ∷ pos 30 ∷ pos 0 ∷ pos 0 ∷ []
unfolding computing
narrowed = refl

-- a yoke may want a part that only the wider body has: value.2 < 5; its own error comes before coherence
abbrev pub low_footplate : Yoke
low_footplate = yoke (binary 3 less (unary 1 (select 2) (current 0)) (literal (pos 5)))

pub yoke_wants_more : ends_with (program (seat_declared low_footplate) (sequence 0 (assign 1 0 (expanded 2 (wide (pos 40)) (pos 4))) (assign 2 0 (wide (pos 40))))) [] 9 ≡ ending 1 no_such_attribute 2 2
unfolding computing
yoke_wants_more = refl

-- a handler may name 19
pub handled_last : ends_with (seat_run (sequence 0 (assign 1 0 (unary 0 (remove 1) (wide (pos 40)))) (handle 3 last_attribute (skip 2)))) [] 9 ≡ ending 0 0 0 3
unfolding computing
handled_last = refl

-- ---- files
-- a row: its section, its kind, then what its eight bytes begin with
abbrev pub row : ℕ → ℕ → List ℕ → List ℕ
row s k bytes = s ∷ k ∷ pad 8 0 bytes

-- document 01's profile: SPEED and TURN, numbers, no own yokes; SPEED := 120
unfoldable pub example_rows : List ℕ
example_rows =
    row 1 0 (83 ∷ 80 ∷ 69 ∷ 69 ∷ 68 ∷ [])
    ++ (row 1 1 []
    ++ (row 1 0 (84 ∷ 85 ∷ 82 ∷ 78 ∷ [])
    ++ (row 1 1 []
    ++ (row 2 2 []
    ++ (row 3 2 (120 ∷ [])
    ++ row 4 2 [])))))

-- SPEED 0 to 600
unfoldable pub example_limits : List ℕ
example_limits = row 5 0 (83 ∷ 80 ∷ 69 ∷ 69 ∷ 68 ∷ []) ++ row 5 1 (0 ∷ 0 ∷ 0 ∷ 0 ∷ 88 ∷ 2 ∷ [])

unfoldable pub example_profile_file : List ℕ
example_profile_file = file_of profile 7 example_rows

unfoldable pub example_limits_file : List ℕ
example_limits_file = file_of limits 7 example_limits

-- both, with their checks in one pass, by which the examples below compute
pub profile_made : example_profile_file ≡ made profile 7 example_rows
unfolding example_profile_file
profile_made = file_made profile 7 example_rows

pub limits_made : example_limits_file ≡ made limits 7 example_limits
unfolding example_limits_file
limits_made = file_made limits 7 example_limits

-- the check of a limits file's block with no limits, and of the example's, as another implementation has them
pub empty_check : block_check (76 ∷ 73 ∷ 77 ∷ 83 ∷ 0 ∷ 1 ∷ 7 ∷ 0 ∷ replicate 500 0) ≡ 2728029194
unfolding computing quickly
empty_check = one_pass_lem (76 ∷ 73 ∷ 77 ∷ 83 ∷ 0 ∷ 1 ∷ 7 ∷ 0 ∷ replicate 500 0) ∙ refl

pub example_check : drop 508 example_profile_file ≡ 161 ∷ 131 ∷ 103 ∷ 59 ∷ []
unfolding computing quickly example_rows
example_check = ap (drop 508) profile_made ∙ refl

pub example_reads_back : rows_of example_profile_file ≡ example_rows
unfolding computing example_profile_file example_rows
example_reads_back = refl

-- the lowest number over both files: the profile's check is wrong, and the limits file's marker
pub lowest_of_both : type_check_refusal (set example_profile_file 508 0) (set example_limits_file 0 0) (replicate 1024 0) ≡ bad_marker
unfolding computing quickly example_rows example_limits
lowest_of_both = refused_by_lem (ap (λ (p : List ℕ). set p 508 0) profile_made) (ap (λ (l : List ℕ). set l 0 0) limits_made) (replicate 1024 0) ∙ refl

pub check_alone : type_check_refusal (set example_profile_file 508 0) example_limits_file (replicate 1024 0) ≡ bad_check
unfolding computing quickly example_rows example_limits
check_alone = refused_by_lem (ap (λ (p : List ℕ). set p 508 0) profile_made) limits_made (replicate 1024 0) ∙ refl

-- the report's example: "end 0 error 0 place 0 steps 1", "SPEED 120", "TURN -"
pub example_report : report_text example_profile_file example_limits_file
    ≡ 101 ∷ 110 ∷ 100 ∷ 32 ∷ 48 ∷ 32 ∷ 101 ∷ 114 ∷ 114 ∷ 111 ∷ 114 ∷ 32 ∷ 48 ∷ 32 ∷ 112 ∷ 108 ∷ 97 ∷ 99 ∷ 101 ∷ 32 ∷ 48 ∷ 32 ∷ 115 ∷ 116 ∷ 101 ∷ 112 ∷ 115 ∷ 32 ∷ 49 ∷ 10 ∷ 83 ∷ 80 ∷ 69 ∷ 69 ∷ 68 ∷ 32 ∷ 49 ∷ 50 ∷ 48 ∷ 10 ∷ 84 ∷ 85 ∷ 82 ∷ 78 ∷ 32 ∷ 45 ∷ 10 ∷ []
unfolding computing quickly example_rows example_limits
example_report = report_by_lem profile_made limits_made ∙ refl

-- the example with SPEED := true
unfoldable pub wrong_rows : List ℕ
wrong_rows = set (set example_rows 51 1) 52 1

unfoldable pub wrong_file : List ℕ
wrong_file = file_of profile 7 wrong_rows

pub wrong_made : wrong_file ≡ made profile 7 wrong_rows
unfolding wrong_file
wrong_made = file_made profile 7 wrong_rows

-- the type check zeroes the layout table; an erased run is refused with 17 and leaves it
pub type_error_zeroes : type_check_call wrong_file example_limits_file (replicate 1024 5) ≡ record { answer = answered (faulted 15 512); layout = replicate 1024 0 }
unfolding computing quickly example_rows example_limits wrong_rows
type_error_zeroes = type_check_by wrong_made limits_made (replicate 1024 5) ∙ refl

-- the caller's buffers, full of fives
abbrev pub fives : Buffers
fives = buffers (replicate 1024 (pos 5)) (replicate 32 5) (replicate 16384 (pos 5)) (replicate 512 5)

pub refused_leaves : erased_call (inputs wrong_file example_limits_file [] []) 9 fives (replicate 1024 5)
    ≡ record { answer = refused type_error_found; registers = fives; layout = replicate 1024 5 }
unfolding computing quickly example_rows example_limits wrong_rows
refused_leaves = erased_by_lem wrong_made limits_made 9 fives (replicate 1024 5) ∙ refl

-- ---- a variable by its name
abbrev pub speed_name : List ℕ
speed_name = 83 ∷ 80 ∷ 69 ∷ 69 ∷ 68 ∷ 0 ∷ 0 ∷ 0 ∷ []

abbrev pub turn_name : List ℕ
turn_name = 84 ∷ 85 ∷ 82 ∷ 78 ∷ 0 ∷ 0 ∷ 0 ∷ 0 ∷ []

-- the one found and all before it are looked at
pub speed_found : look_up example_rows speed_name ≡ lookup (some 0) 1
unfolding computing example_rows
speed_found = refl

pub turn_found : look_up example_rows turn_name ≡ lookup (some 1) 2
unfolding computing example_rows
turn_found = refl

-- else all; a name that is none is looked for like any other: SPE, a zero, ED
pub no_name_missing : look_up example_rows (83 ∷ 80 ∷ 69 ∷ 0 ∷ 69 ∷ 68 ∷ 0 ∷ 0 ∷ []) ≡ lookup none 2
unfolding computing example_rows
no_name_missing = refl

-- of two that have the name the first: TURN called SPEED too, which rule 8 would refuse
pub first_found : look_up (take 20 example_rows ++ (take 20 example_rows ++ drop 40 example_rows)) speed_name ≡ lookup (some 0) 1
unfolding computing example_rows
first_found = refl

-- as a call: of the profile's file, or refused by the reader's rules
pub turn_answered : find_call example_profile_file turn_name ≡ answered (lookup (some 1) 2)
unfolding computing quickly example_rows
turn_answered = find_by_lem profile_made turn_name ∙ refl

pub find_refused : find_call (set example_profile_file 508 0) turn_name ≡ refused bad_check
unfolding computing quickly example_rows
find_refused = find_by_lem (ap (λ (p : List ℕ). set p 508 0) profile_made) turn_name ∙ refl
