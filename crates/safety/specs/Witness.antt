-- A pair of files that passes and that both runs carry out, computed: no clause of the claim about two runs (TwoRuns) is empty. A variable is
-- filled under a yoke of its own and under a limit, an error is met, and a handler clears it. A second pair, whose runs are out with a call open,
-- in which a variable is filled under a yoke. And a pair that does not pass, whose checked run leaves a variable with another body than the
-- declared one. Assumes nothing.
use Rattle.std.specs.Prelude.{Ok, None, ◌≡◌, refl, List, [], ◌∷◌, ◌++◌, ℕ, zero, suc, ◌-◌, ◌*◌, ◌<◌, length, get_or, take, drop, replicate, ℤ, pos}
use Rattle.std.proofs.Math.Path.{sym}
use Rattle.std.proofs.Common.{ap, arith}
use Rattle.std.proofs.Math.Option.{some}
use Rattle.std.proofs.lemmas.List.{length-replicate}
use Rattle.lingua.specs.Numbers.{cells_length, states_length, open_cells_length, open_states_length, variable_bodies_length, present_bodies_length, layout_length, declaration_section}
use Rattle.lingua.specs.Errors.{yoke_not_satisfied, no_coherence}
use Rattle.lingua.specs.Outcome.{Outcome, ok, fail}
use Rattle.lingua.specs.Body.{number}
use Rattle.lingua.specs.Value.{whole, composite}
use Rattle.lingua.specs.Operation.{less}
use Rattle.lingua.specs.Expression.{constant, current, binary, yoke}
use Rattle.lingua.specs.Store.{flag_at}
use Rattle.lingua.specs.Run.{scope_declarations}
use Rattle.lingua.specs.Typing.{TypeError, Entry, check_profile}
use Rattle.lingua.specs.Meets.{run_met}
use Rattle.lingua.specs.Trees.{yoke_tree, limit_of, name_at, profile_of}
use Rattle.lingua.specs.Format.{profile, limits, rows_of, file_of}
use Rattle.lingua.specs.Refusal.{checked_refusal}
use Rattle.lingua.specs.Answers.{answered, ending, faulted, run_meaning}
use Rattle.lingua.specs.Inputs.{Inputs, inputs, Buffers, buffers}
use Rattle.lingua.specs.Calls.{CheckedCall, readings_of, type_check_call, checked_call, erased_call, checked_result, erased_result}
use Rattle.lingua.specs.Examples.{row, example_limits, example_limits_file}
use Rattle.lingua.specs.Computing.{computing}
use Rattle.lingua.specs.declared.RunEnd.TheVariants as run_end
use Rattle.safety.specs.Memory.{HoldsValue, HoldsPresent, ValuesHold, call_cells_at, call_states_at, call_bodies_at}
use Rattle.safety.specs.TwoRuns.{Passes, ListedLengths, TwoRuns, both_refused, both_ran, two_runs, checked_holds}

-- ---- the files
-- SPEED, a number with the own yoke value < 300, and TURN; SPEED := 120; SPEED := 700; on error 3 do skip
unfoldable pub witness_rows : List ℕ
witness_rows =
    row 1 0 (83 ∷ 80 ∷ 69 ∷ 69 ∷ 68 ∷ [])
    ++ (row 1 1 (0 ∷ 0 ∷ 3 ∷ [])
    ++ (row 1 0 (84 ∷ 85 ∷ 82 ∷ 78 ∷ [])
    ++ (row 1 1 []
    ++ (row 2 2 []
    -- value, 300, value < 300, 120, 700
    ++ (row 3 24 []
    ++ (row 3 2 (44 ∷ 1 ∷ [])
    ++ (row 3 9 (0 ∷ 0 ∷ 1 ∷ [])
    ++ (row 3 2 (120 ∷ [])
    ++ (row 3 2 (188 ∷ 2 ∷ [])
    -- both assignments, skip, the handler, and their sequence
    ++ (row 4 2 (0 ∷ 0 ∷ 3 ∷ [])
    ++ (row 4 2 (0 ∷ 0 ∷ 4 ∷ [])
    ++ (row 4 1 []
    ++ (row 4 7 (3 ∷ 0 ∷ 2 ∷ [])
    ++ (row 4 4 (0 ∷ 0 ∷ 1 ∷ [])
    ++ row 4 4 (4 ∷ 0 ∷ 3 ∷ [])))))))))))))))

unfoldable pub witness_file : List ℕ
witness_file = file_of profile 7 witness_rows

-- ---- the pair passes
abbrev entries_in : Outcome TypeError (List Entry) → List Entry
entries_in (ok es) = es
entries_in (fail e) = []

pub witness_passes : Passes witness_file example_limits_file
unfolding computing witness_file witness_rows example_limits_file example_limits
witness_passes =
    record { accepted = refl; entries = entries_in (check_profile (profile_of (rows_of witness_file) (rows_of example_limits_file))); checked = refl }

-- ---- both calls, with one reading, SPEED 100, are carried out, whatever their memory of the listed lengths held
-- SPEED is filled under the yoke of row 2 and holds 120; TURN is not filled
abbrev pub speed_cells : List ℤ
speed_cells = pos 120 ∷ replicate 1023 (pos 0)

abbrev pub speed_states : List ℕ
speed_states = 1 ∷ 3 ∷ replicate 30 0

-- both have their declared body, a number, in 96 bytes each
abbrev pub speed_bodies : List ℕ
speed_bodies = (2 ∷ replicate 95 0) ++ (2 ∷ replicate 26015 0)

-- no call is open
abbrev pub none_open : List ℤ → List ℕ → Buffers
none_open cells states = buffers cells states (replicate open_cells_length (pos 0)) (replicate open_states_length 0)

-- each row's result takes one cell
abbrev pub witness_layout : List ℕ
witness_layout = 1 ∷ 0 ∷ 1 ∷ 0 ∷ 1 ∷ 0 ∷ 1 ∷ 0 ∷ 1 ∷ 0 ∷ replicate 1014 0

-- both files, and the reading
abbrev pub witness_inputs : Inputs
witness_inputs = inputs witness_file example_limits_file (0 ∷ []) (pos 100 ∷ [])

abbrev pub fives : Buffers
fives = buffers (replicate cells_length (pos 5)) (replicate states_length 5) (replicate open_cells_length (pos 5)) (replicate open_states_length 5)

abbrev pub sixes : Buffers
sixes = buffers (replicate cells_length (pos 6)) (replicate states_length 6) (replicate open_cells_length (pos 6)) (replicate open_states_length 6)

abbrev pub sevens : List ℕ
sevens = replicate present_bodies_length 7

pub checked_gives : checked_call witness_inputs 9 fives sevens
    ≡ record { answer = answered (ending 0 0 0 4); registers = none_open speed_cells speed_states; bodies = speed_bodies }
unfolding computing witness_file witness_rows example_limits_file example_limits
checked_gives = refl

pub erased_gives : erased_call witness_inputs 9 sixes (replicate layout_length 8)
    ≡ record { answer = answered (ending 0 0 0 4); registers = none_open speed_cells speed_states; layout = witness_layout }
unfolding computing witness_file witness_rows example_limits_file example_limits
erased_gives = refl

-- 700 is too much for the yoke and for the limits, and the handler clears the error
pub witness_meets : run_met (profile_of (rows_of witness_file) (rows_of example_limits_file)) (readings_of (0 ∷ []) (pos 100 ∷ [])) 9 ≡ yoke_not_satisfied ∷ yoke_not_satisfied ∷ []
unfolding computing witness_file witness_rows example_limits_file example_limits
witness_meets = refl

-- the yoke that SPEED's state word names, and its limit
pub speed_yoke : yoke_tree (rows_of witness_file) 3 ≡ yoke (binary 2 less (current 0) (constant 1 (composite number (whole (pos 300)))))
unfolding computing witness_file witness_rows
speed_yoke = refl

pub speed_limit : limit_of (rows_of example_limits_file) (name_at (rows_of witness_file) declaration_section 0) ≡ some (record { low = pos 0; high = pos 600 })
unfolding computing witness_file witness_rows example_limits_file example_limits
speed_limit = refl

-- ---- so the claim holds of calls of the code that give this, and says of SPEED what it says of a filled variable
listed : ListedLengths fives sevens sixes (replicate layout_length 8)
listed =
    record { cells_are = length-replicate cells_length (pos 5); states_are = length-replicate {A = ℕ} states_length 5; open_cells_are = length-replicate open_cells_length (pos 5); open_states_are = length-replicate {A = ℕ} open_states_length 5; bodies_are = length-replicate {A = ℕ} present_bodies_length 7; cells'_are = length-replicate cells_length (pos 6); states'_are = length-replicate {A = ℕ} states_length 6; open_cells'_are = length-replicate open_cells_length (pos 6); open_states'_are = length-replicate {A = ℕ} open_states_length 6; layout_is = length-replicate {A = ℕ} layout_length 8 }

unfoldable pub WitnessRuns : Type 0
WitnessRuns =
    TwoRuns witness_inputs 9 fives sevens (checked_result (Ok (run_end.Finished 4)) (none_open speed_cells speed_states) speed_bodies)
    sixes (replicate layout_length 8) (erased_result (Ok (run_end.Finished 4)) (none_open speed_cells speed_states) witness_layout)

pub witness_two_runs : WitnessRuns
unfolding WitnessRuns
witness_two_runs =
    two_runs witness_inputs 9 fives sevens sixes (replicate layout_length 8)
    (checked_result (Ok (run_end.Finished 4)) (none_open speed_cells speed_states) speed_bodies) (erased_result (Ok (run_end.Finished 4)) (none_open speed_cells speed_states) witness_layout)
    (unfold checked_result run_meaning in sym checked_gives) (unfold erased_result run_meaning in sym erased_gives) witness_passes
    listed

two_variables : length (profile_of (rows_of witness_file) (rows_of example_limits_file)).declarations ≡ 2
unfolding computing witness_file witness_rows example_limits_file example_limits
two_variables = refl

pub speed_holds : HoldsValue (rows_of witness_file) (profile_of (rows_of witness_file) (rows_of example_limits_file)).declarations speed_cells speed_states 0
unfolding WitnessRuns checked_result run_meaning flag_at
speed_holds = by witness_two_runs
  where
    by : WitnessRuns → HoldsValue (rows_of witness_file) (profile_of (rows_of witness_file) (rows_of example_limits_file)).declarations speed_cells speed_states 0
    by (both_refused b) = let same = ap (λ (c : CheckedCall). c.answer) b.checked in absurd (let z : ◌≡◌ {A = ℕ} 0 1 = cc in let y : ⊥ = omega arith in y)
    by (both_ran b) = b.checked_filled.own.values 0 (omega (arith, two_variables)) refl

-- ---- a call that is open
-- SPEED; procedure 0 has PACE by reference, a number with the own yoke value < 300, and skips. SPEED := 120; the call with SPEED
unfoldable pub call_rows : List ℕ
call_rows =
    row 1 0 (83 ∷ 80 ∷ 69 ∷ 69 ∷ 68 ∷ [])
    ++ (row 1 1 []
    ++ (row 2 2 []
    -- value, 300, value < 300, 120
    ++ (row 3 24 []
    ++ (row 3 2 (44 ∷ 1 ∷ [])
    ++ (row 3 9 (0 ∷ 0 ∷ 1 ∷ [])
    ++ (row 3 2 (120 ∷ [])
    -- the body, the assignment, the call, and their sequence
    ++ (row 4 1 []
    ++ (row 4 2 (0 ∷ 0 ∷ 3 ∷ [])
    ++ (row 4 8 []
    ++ (row 4 4 (1 ∷ 0 ∷ 2 ∷ [])
    -- the procedure
    ++ (row 6 2 (0 ∷ 0 ∷ 0 ∷ 0 ∷ 1 ∷ [])
    ++ (row 6 0 (80 ∷ 65 ∷ 67 ∷ 69 ∷ [])
    ++ row 6 1 (0 ∷ 0 ∷ 3 ∷ [])))))))))))))

unfoldable pub call_file : List ℕ
call_file = file_of profile 7 call_rows

pub call_passes : Passes call_file example_limits_file
unfolding computing call_file call_rows example_limits_file example_limits
call_passes =
    record { accepted = refl; entries = entries_in (check_profile (profile_of (rows_of call_file) (rows_of example_limits_file))); checked = refl }

abbrev pub call_inputs : Inputs
call_inputs = inputs call_file example_limits_file [] []

-- with two steps the body finds none: SPEED and PACE are both filled, PACE under the yoke of row 2
abbrev pub pace_cells : List ℤ
pace_cells = pos 120 ∷ replicate 16383 (pos 0)

abbrev pub pace_states : List ℕ
pace_states = 1 ∷ 3 ∷ replicate 510 0

abbrev pub one_open : Buffers
one_open = buffers speed_cells (1 ∷ 0 ∷ replicate 30 0) pace_cells pace_states

abbrev pub pace_bodies : List ℕ
pace_bodies = (2 ∷ replicate 1535 0) ++ (2 ∷ replicate 24575 0)

abbrev pub call_layout : List ℕ
call_layout = 1 ∷ 0 ∷ 1 ∷ 0 ∷ 1 ∷ 0 ∷ 1 ∷ replicate 1017 0

pub call_checked : checked_call call_inputs 2 fives sevens ≡ record { answer = answered (ending 2 0 0 2); registers = one_open; bodies = pace_bodies }
unfolding computing call_file call_rows example_limits_file example_limits
call_checked = refl

pub call_erased : erased_call call_inputs 2 sixes (replicate layout_length 8) ≡ record { answer = answered (ending 2 0 0 2); registers = one_open; layout = call_layout }
unfolding computing call_file call_rows example_limits_file example_limits
call_erased = refl

pub pace_yoke : yoke_tree (rows_of call_file) 3 ≡ yoke (binary 2 less (current 0) (constant 1 (composite number (whole (pos 300)))))
unfolding computing call_file call_rows
pace_yoke = refl

-- so the claim speaks of the open call, and says of PACE what it says of a filled variable
unfoldable pub CallRuns : Type 0
CallRuns =
    TwoRuns call_inputs 2 fives sevens (checked_result (Ok (run_end.Out None 2)) one_open pace_bodies)
    sixes (replicate layout_length 8) (erased_result (Ok (run_end.Out None 2)) one_open call_layout)

pub call_two_runs : CallRuns
unfolding CallRuns
call_two_runs =
    two_runs call_inputs 2 fives sevens sixes (replicate layout_length 8)
    (checked_result (Ok (run_end.Out None 2)) one_open pace_bodies) (erased_result (Ok (run_end.Out None 2)) one_open call_layout)
    (unfold checked_result run_meaning in sym call_checked) (unfold erased_result run_meaning in sym call_erased) call_passes
    listed

-- no procedure but the first has variables
other_procedures : (k : ℕ) → length (scope_declarations (profile_of (rows_of call_file) (rows_of example_limits_file)) (suc (suc k))) ≡ 0
unfolding computing call_file call_rows example_limits_file example_limits
other_procedures k = refl

abbrev PaceHolds : Type 0
PaceHolds = HoldsValue (rows_of call_file) (scope_declarations (profile_of (rows_of call_file) (rows_of example_limits_file)) 1) (call_cells_at pace_cells 0) (call_states_at pace_states 0) 0

pub pace_holds : PaceHolds
unfolding CallRuns checked_result run_meaning flag_at
pace_holds = by call_two_runs
  where
    of_open : (ks : List ℕ) → drop (states_length * length ks) pace_states ≡ replicate (open_states_length - states_length * length ks) 0
        → (0 < length ks → ValuesHold (rows_of call_file) (scope_declarations (profile_of (rows_of call_file) (rows_of example_limits_file)) (suc (get_or ks 0 0))) (call_cells_at pace_cells 0) (call_states_at pace_states 0) (call_bodies_at pace_bodies 0))
        → (0 < length ks → 0 < length (scope_declarations (profile_of (rows_of call_file) (rows_of example_limits_file)) (suc (get_or ks 0 0))))
        → PaceHolds
    of_open [] zeros holds only = absurd (let z : ◌≡◌ {A = ℕ} 1 0 = ap (λ (l : List ℕ). get_or l 0 0) zeros in let y : ⊥ = omega arith in y)
    of_open (zero ∷ ks) zeros holds only = (holds (omega arith)).values 0 (only (omega arith)) refl
    of_open (suc k ∷ ks) zeros holds only = absurd (let l = only (omega arith) in let y : ⊥ = omega (arith, l, other_procedures k) in y)

    by : CallRuns → PaceHolds
    by (both_refused b) = let same = ap (λ (c : CheckedCall). c.answer) b.checked in absurd (let z : ◌≡◌ {A = ℕ} 0 1 = cc in let y : ⊥ = omega arith in y)
    by (both_ran b) =
        let o = b.checked_filled.opens in
        of_open o.procedures o.zero_states (λ l. o.each 0 l) (λ l. o.only 0 l 0 refl)

-- ---- a seat that gains a part
-- SEAT, a record with attribute 1; SEAT := 40 at 1; SEAT := SEAT expanded at 2 by 20
unfoldable pub seat_rows : List ℕ
seat_rows =
    row 1 0 (83 ∷ 69 ∷ 65 ∷ 84 ∷ [])
    ++ (row 1 1 (1 ∷ [])
    ++ (row 2 2 []
    ++ (row 2 5 (1 ∷ [])
    -- 40, the record, SEAT, 20, SEAT expanded
    ++ (row 3 2 (40 ∷ [])
    ++ (row 3 16 (1 ∷ [])
    ++ (row 3 4 []
    ++ (row 3 2 (20 ∷ [])
    ++ (row 3 17 (2 ∷ 0 ∷ 2 ∷ 0 ∷ 3 ∷ [])
    ++ (row 4 2 (0 ∷ 0 ∷ 1 ∷ [])
    ++ (row 4 2 (0 ∷ 0 ∷ 4 ∷ [])
    ++ row 4 4 (0 ∷ 0 ∷ 1 ∷ [])))))))))))

unfoldable pub seat_file : List ℕ
seat_file = file_of profile 7 seat_rows

unfoldable pub no_limits_file : List ℕ
no_limits_file = file_of limits 7 []

-- the type check wants the declared body
pub seat_faulted : type_check_call seat_file no_limits_file (replicate layout_length 8) ≡ record { answer = answered (faulted no_coherence 513); layout = replicate layout_length 0 }
unfolding computing seat_file seat_rows no_limits_file
seat_faulted = refl

abbrev pub seat_inputs : Inputs
seat_inputs = inputs seat_file no_limits_file [] []

abbrev pub seat_cells : List ℤ
seat_cells = pos 40 ∷ pos 20 ∷ replicate 1022 (pos 0)

abbrev pub seat_states : List ℕ
seat_states = 1 ∷ 0 ∷ replicate 30 0

-- a record of two numbers, at 1 and 2
abbrev pub seat_bodies : List ℕ
seat_bodies = 5 ∷ 2 ∷ 1 ∷ 2 ∷ 2 ∷ 2 ∷ replicate 26106 0

abbrev pub seat_call : CheckedCall
seat_call = record { answer = answered (ending 0 0 0 2); registers = none_open seat_cells seat_states; bodies = seat_bodies }

pub seat_gives : checked_call seat_inputs 9 fives sevens ≡ seat_call
unfolding computing seat_file seat_rows no_limits_file
seat_gives = refl

seat_accepted : checked_refusal seat_inputs fives sevens ≡ 0
unfolding computing seat_file seat_rows no_limits_file
seat_accepted = refl

one_variable : length (profile_of (rows_of seat_file) (rows_of no_limits_file)).declarations ≡ 1
unfolding computing seat_file seat_rows no_limits_file
one_variable = refl

-- what the invariant says of such a call speaks of SEAT
pub seat_holds : HoldsPresent (rows_of seat_file) (profile_of (rows_of seat_file) (rows_of no_limits_file)).declarations seat_cells seat_states (take variable_bodies_length seat_bodies) 0
unfolding flag_at
seat_holds = ((checked_holds seat_inputs 9 fives sevens seat_call (sym seat_gives)).holds seat_accepted).filled 0 (omega (arith, one_variable)) refl
