-- The report's text, in bytes (document 01, Report). Assumes nothing: these are definitions.
use Rattle.std.specs.Prelude.{List, [], ◌∷◌, ◌++◌, ℕ, zero, suc, ◌+◌, ◌/◌, ◌%◌, ltb, replicate, ℤ, pos, negsuc, if◌then◌else◌}
use Rattle.std.proofs.Math.Option.{Option, some, none}
use Rattle.lingua.specs.Numbers.{cells_length, states_length, open_cells_length, open_states_length, present_bodies_length, report_budget}
use Rattle.lingua.specs.Value.{Composite, cells_of}
use Rattle.lingua.specs.Store.{Variable}
use Rattle.lingua.specs.Run.{Progress, last_state, Declaration}
use Rattle.lingua.specs.Rows.{until_zero}
use Rattle.lingua.specs.Trees.{profile_of}
use Rattle.lingua.specs.Format.{rows_of}
use Rattle.lingua.specs.Inputs.{inputs, buffers}
use Rattle.lingua.specs.Refusal.{checked_refusal}
use Rattle.lingua.specs.Answers.{Ending}
use Rattle.lingua.specs.Calls.{run_of, ending_of}

abbrev pub space : ℕ
space = 32

abbrev pub newline : ℕ
newline = 10

-- ---- decimal numbers
-- the digits of n in front of others; the first argument bounds their number
unfoldable pub digits_in : ℕ → ℕ → List ℕ → List ℕ
digits_in zero n ds = ds
digits_in (suc k) n ds = if ltb n 10 then (48 + n) ∷ ds else digits_in k (n / 10) ((48 + n % 10) ∷ ds)

-- a 64-bit number has at most 20 digits
unfoldable pub decimal : ℕ → List ℕ
decimal n = digits_in 20 n []

unfoldable pub signed_decimal : ℤ → List ℕ
signed_decimal (pos n) = decimal n
-- a minus sign
signed_decimal (negsuc n) = 45 ∷ decimal (suc n)

-- ---- lines
-- "end ", " error ", " place ", " steps "
unfoldable pub end_line : Ending → List ℕ
end_line e =
    (101 ∷ 110 ∷ 100 ∷ space ∷ decimal e.end)
    ++ ((space ∷ 101 ∷ 114 ∷ 114 ∷ 111 ∷ 114 ∷ space ∷ decimal e.error)
    ++ ((space ∷ 112 ∷ 108 ∷ 97 ∷ 99 ∷ 101 ∷ space ∷ decimal e.place)
    ++ ((space ∷ 115 ∷ 116 ∷ 101 ∷ 112 ∷ 115 ∷ space ∷ decimal e.steps) ++ (newline ∷ []))))

-- each cell behind a space
unfoldable pub cell_texts : List ℤ → List ℕ
cell_texts [] = []
cell_texts (z ∷ zs) = space ∷ (signed_decimal z ++ cell_texts zs)

-- the cells of the present body, or - where the variable is not filled
unfoldable pub content_text : Option Composite → List ℕ
content_text none = space ∷ 45 ∷ []
content_text (some x) = cell_texts (cells_of x.body x.value)

unfoldable pub variable_lines : List Declaration → List Variable → List ℕ
variable_lines [] vs = []
variable_lines (d ∷ ds) [] = []
variable_lines (d ∷ ds) (v ∷ vs) = until_zero d.name ++ (content_text v.content ++ (newline ∷ variable_lines ds vs))

unfoldable pub run_text : List Declaration → Progress → List ℕ
run_text ds p = end_line (ending_of report_budget p) ++ variable_lines ds (last_state p).store

-- "refused " and the number
unfoldable pub refused_text : ℕ → List ℕ
refused_text n = (114 ∷ 101 ∷ 102 ∷ 117 ∷ 115 ∷ 101 ∷ 100 ∷ space ∷ decimal n) ++ (newline ∷ [])

unfoldable pub report_unless : ℕ → List ℕ → List ℕ → List ℕ
report_unless zero prof lims =
    run_text (profile_of (rows_of prof) (rows_of lims)).declarations (run_of (inputs prof lims [] []) report_budget)
report_unless (suc n) prof lims = refused_text (suc n)

-- the checked run with no readings and a budget of 1,000, on buffers of the listed lengths
unfoldable pub report_text : List ℕ → List ℕ → List ℕ
report_text prof lims =
    report_unless
    (checked_refusal (inputs prof lims [] []) (buffers (replicate cells_length (pos 0)) (replicate states_length 0) (replicate open_cells_length (pos 0)) (replicate open_states_length 0))
    (replicate present_bodies_length 0))
    prof lims
