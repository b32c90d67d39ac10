-- Document 01's edges E1 to E12, as one table and one theorem: each entry is computed by the definitions and compared with
-- what the paper states. Assumes nothing.
use Rattle.std.specs.Prelude.{◌≡◌, refl, Bool, true, false, List, [], ◌∷◌, map, ℕ, take, ℤ, pos, negsuc}
use Rattle.std.proofs.Math.Option.{Option, some, none}
use Rattle.lingua.specs.Errors.{overflow, division_by_zero, yoke_not_satisfied, number_expected, no_coherence, body_too_large}
use Rattle.lingua.specs.Outcome.{ok, fail, Result, ◌>>=◌}
use Rattle.lingua.specs.Body.{Body, number, list_of, size}
use Rattle.lingua.specs.Value.{whole, items, no_items, item, Composite, composite}
use Rattle.lingua.specs.Operation.{make_list, add, divide, less, equal, unary_body}
use Rattle.lingua.specs.Expression.{conjunction, Expression, constant, current, binary, lazy, all_list, Yoke, always, yoke, Instruction, skip, assign, sequence}
use Rattle.lingua.specs.Evaluation.{boolean_of, eval, no_current}
use Rattle.lingua.specs.Store.{Limit, cells_in}
use Rattle.lingua.specs.Run.{Declaration, Profile, run, last_state}
use Rattle.lingua.specs.Answers.{Ending, ending}
use Rattle.lingua.specs.Calls.{ending_of}
use Rattle.lingua.specs.Computing.{computing}

-- what an edge looks at
pub data Seen : Type 0 where
  -- what an expression gives
  gives : Result Composite → Seen
  -- how a run ends, and its first cell
  ends : Ending → List ℤ → Seen
  -- the cells of a body that an operation makes
  takes : Result ℕ → Seen

pub record Edge : Type 0 where
  pub computed : Seen
  pub stated : Seen

abbrev pub edge : Seen → Seen → Edge
edge c s = record { computed = c; stated = s }

-- ---- expressions
abbrev pub literal : ℤ → Expression
literal z = constant 0 (composite number (whole z))

abbrev pub truth_literal : Bool → Expression
truth_literal t = constant 0 (boolean_of t)

-- 1/0, and 1/0 = 1
abbrev pub one_by_zero : Expression
one_by_zero = binary 2 divide (literal (pos 1)) (literal (pos 0))

abbrev pub broken_test : Expression
broken_test = binary 4 equal one_by_zero (literal (pos 1))

abbrev pub evaluates : Expression → Composite → Seen
evaluates e cur = gives (eval e (λ n. none) cur)

abbrev pub number_of : ℤ → Seen
number_of z = gives (ok (composite number (whole z)))

-- 10/value < 5
abbrev pub tenth_small : Expression
tenth_small = binary 4 less (binary 2 divide (literal (pos 10)) (current 1)) (literal (pos 5))

abbrev pub one_and_zero : Composite
one_and_zero = composite (list_of number) (items (item (whole (pos 1)) (item (whole (pos 0)) no_items)))

-- ---- runs of one number variable, SPEED
abbrev pub speed : Yoke → Option Limit → Declaration
speed y l = record { name = 83 ∷ 80 ∷ 69 ∷ 69 ∷ 68 ∷ 0 ∷ 0 ∷ 0 ∷ []; body = number; declared = y; limit = l }

abbrev pub program : Declaration → Instruction → Profile
program d i = record { declarations = d ∷ []; procedures = []; instructions = []; program = i }

abbrev pub up_to_600 : Option Limit
up_to_600 = some (record { low = pos 0; high = pos 600 })

-- value < 5
abbrev pub below_five : Yoke
below_five = yoke (binary 2 less (current 0) (literal (pos 5)))

-- how the run ends, and SPEED's cell
unfoldable pub runs : Profile → ℕ → Seen
runs p budget = ends (ending_of budget (run p [] budget)) (take 1 (cells_in (last_state (run p [] budget)).store))

-- the cells of what the list operation makes
unfoldable pub list_cells : Body → Seen
list_cells b = takes (unary_body make_list b >>= λ c. ok (size c))

-- ---- the table
unfoldable pub edges : List Edge
edges =
    -- E1
    edge (evaluates (binary 2 divide (literal (negsuc 6)) (literal (pos 2))) no_current) (number_of (negsuc 2))
    ∷ edge (evaluates (binary 2 divide (literal (pos 7)) (literal (negsuc 1))) no_current) (number_of (negsuc 2))
    -- E2
    ∷ edge (evaluates (binary 2 add (literal (pos 1000000)) (literal (pos 1))) no_current) (gives (fail overflow))
    -- E3
    ∷ edge (evaluates (lazy 5 conjunction (truth_literal false) broken_test) no_current) (gives (ok (boolean_of false)))
    -- E4
    ∷ edge (evaluates (lazy 5 conjunction broken_test (truth_literal false)) no_current) (gives (fail division_by_zero))
    -- E5
    ∷ edge (evaluates (binary 3 add (truth_literal true) one_by_zero) no_current) (gives (fail division_by_zero))
    -- E6
    ∷ edge (evaluates (all_list 5 tenth_small) one_and_zero) (gives (fail division_by_zero))
    -- E7: 600 is stored; 601 gives 3 and leaves SPEED
    ∷ edge (runs (program (speed always up_to_600) (assign 0 0 (literal (pos 600)))) 10) (ends (ending 0 0 0 1) (pos 600 ∷ []))
    ∷ edge (runs (program (speed always up_to_600) (sequence 2 (assign 0 0 (literal (pos 600))) (assign 1 0 (literal (pos 601))))) 10)
    (ends (ending 1 yoke_not_satisfied 1 2) (pos 600 ∷ []))
    -- E8
    ∷ edge (runs (program (speed below_five none) (assign 0 0 (truth_literal true))) 10) (ends (ending 1 number_expected 0 1) (pos 0 ∷ []))
    -- E9
    ∷ edge (runs (program (speed always none) (assign 0 0 (truth_literal true))) 10) (ends (ending 1 no_coherence 0 1) (pos 0 ∷ []))
    -- E10
    ∷ edge (runs (program (speed always none) (skip 0)) 0) (ends (ending 2 0 0 0) (pos 0 ∷ []))
    ∷ edge (runs (program (speed always none) (skip 0)) 1) (ends (ending 0 0 0 1) (pos 0 ∷ []))
    -- E11: 73 cells are too many
    ∷ edge (takes (ok (size (list_of (list_of number))))) (takes (ok 73))
    ∷ edge (list_cells (list_of number)) (takes (fail body_too_large))
    -- E12
    ∷ edge (list_cells number) (takes (ok 9))
    ∷ []

pub edges_hold : map (λ e. e.computed) edges ≡ map (λ e. e.stated) edges
unfolding edges runs list_cells computing
edges_hold = refl
