-- Variables, assignment, yoke change and readings (document 01, Evaluation and Runs), and the store as the caller's memory.
-- Assumes nothing: these are definitions.
use Rattle.std.specs.Prelude.{Bool, true, not, ◌&&◌, List, [], ◌∷◌, ◌++◌, ℕ, suc, ◌+◌, ◌*◌, eqb, get_or, set, ℤ, pos}
use Rattle.std.proofs.Math.Option.{Option, some, none}
use Rattle.std.specs.Int.Signed.{le_z}
use Rattle.lingua.specs.Numbers.{body_cells, cells_length, state_words, states_length, variable_bodies_length, open_cells_length, open_states_length, open_bodies_length}
use Rattle.lingua.specs.Errors.{overflow, yoke_not_satisfied, not_filled, no_coherence, yoke_expected}
use Rattle.lingua.specs.Outcome.{ok, Result, require, or_fail, ◌>>=◌, ◌>>◌}
use Rattle.lingua.specs.Body.{Body, boolean, is_hundredths, coherent}
use Rattle.lingua.specs.Value.{in_range_of, as_whole, pad, cells_of, Composite, composite, quantity, quantity_body}
use Rattle.lingua.specs.Encode.{encoded}
use Rattle.lingua.specs.Expression.{Yoke, always, yoke_number}
use Rattle.lingua.specs.Evaluation.{Variables, truth_or, eval_yoke}

-- the motor maker's limit of one variable
pub record Limit : Type 0 where
  pub low : ℤ
  pub high : ℤ

-- a variable: its declared body and its limit stay; its content, with a body of its own, and its yoke change
pub record Variable : Type 0 where
  pub body : Body
  pub limit : Option Limit
  pub yoke : Yoke
  pub content : Option Composite

abbrev pub no_variable : Variable
no_variable = record { body = boolean; limit = none; yoke = always; content = none }

abbrev pub variable_at : List Variable → ℕ → Variable
variable_at vs n = get_or vs n no_variable

-- what evaluation sees of a store
abbrev pub contents : List Variable → Variables
contents vs n = (variable_at vs n).content

-- the present body: the content's, or the declared one as long as there is none
abbrev pub present_of : Body → Option Composite → Body
present_of b none = b
present_of b (some x) = x.body

abbrev pub present_body : Variable → Body
present_body v = present_of v.body v.content

abbrev pub with_content : Variable → Composite → Variable
with_content v x = record { body = v.body; limit = v.limit; yoke = v.yoke; content = some x }

abbrev pub with_yoke : Variable → Yoke → Variable
with_yoke v y = record { body = v.body; limit = v.limit; yoke = y; content = v.content }

unfoldable pub within : Option Limit → ℤ → Bool
within none z = true
within (some l) z = le_z l.low z && le_z z l.high

-- ---- assignment
-- a new value's checks, in order: the own yoke's error, the body, the yoke's body, the yoke and the limits
unfoldable pub admitted : List Variable → Variable → Composite → Result (Unit {0})
admitted vs v x = do
  y ← eval_yoke v.yoke (contents vs) x
  require (coherent (present_body v) x.body) no_coherence
  t ← truth_or yoke_expected y
  require (t && within v.limit (as_whole x.value)) yoke_not_satisfied

-- variable n with the new value, stored only once it is admitted
unfoldable pub assigned : List Variable → ℕ → Composite → Result (List Variable)
assigned vs n x = do
  admitted vs (variable_at vs n) x
  ok (set vs n (with_content (variable_at vs n) x))

-- ---- copies, between a call's variables and its caller's
-- how a value is assigned: with every check, or without those on bodies
abbrev pub Assigning : Type 0
Assigning = List Variable → ℕ → Composite → Result (List Variable)

-- variable n of one store assigned to variable m of another
unfoldable pub copied : Assigning → List Variable → ℕ → List Variable → ℕ → Result (List Variable)
copied storing from n to m = do
  x ← or_fail (contents from n) not_filled
  storing to m x

-- variables ns assigned to variables m and following, until one fails
unfoldable pub copied_in : Assigning → List Variable → List ℕ → ℕ → List Variable → Result (List Variable)
copied_in storing from [] m to = ok to
copied_in storing from (n ∷ ns) m to = copied storing from n to m >>= λ next. copied_in storing from ns (suc m) next

-- ---- yoke change
-- a filled variable's value has to satisfy the new yoke; one that is not filled takes any
unfoldable pub yoke_holds : List Variable → Yoke → Option Composite → Result (Unit {0})
yoke_holds vs y none = ok tt
yoke_holds vs y (some x) = do
  r ← eval_yoke y (contents vs) x
  t ← truth_or yoke_expected r
  require t yoke_not_satisfied

unfoldable pub yoke_changed : List Variable → ℕ → Yoke → Result (List Variable)
yoke_changed vs n y = do
  yoke_holds vs y (variable_at vs n).content
  ok (set vs n (with_yoke (variable_at vs n) y))

-- ---- readings
pub record Reading : Type 0 where
  pub variable : ℕ
  pub number : ℤ

-- a hundredths variable's reading is a count. Such a variable's present body is the declared one: no other is coherent with it
abbrev pub counts_hundredths : List Variable → Reading → Bool
counts_hundredths vs r = is_hundredths (present_body (variable_at vs r.variable))

abbrev pub reading_value : Bool → ℤ → Composite
reading_value h z = composite (quantity_body h) (quantity h z)

unfoldable pub reading_taken : List Variable → Reading → Result (List Variable)
reading_taken vs r = do
  require (in_range_of (counts_hundredths vs r) r.number) overflow
  assigned vs r.variable (reading_value (counts_hundredths vs r) r.number)

-- ---- the store as lent memory: variable v's cells from 64 v on, its state words from 2 v on, and its present body's bytes from 96 v on
unfoldable pub content_cells : Option Composite → List ℤ
content_cells none = []
content_cells (some x) = cells_of x.body x.value

abbrev pub filled_flag : Option Composite → ℕ
filled_flag none = 0
filled_flag (some x) = 1

unfoldable pub store_cells : List Variable → List ℤ
store_cells [] = []
store_cells (v ∷ vs) = pad body_cells (pos 0) (content_cells v.content) ++ store_cells vs

-- a variable's state words: whether it is filled, and its current yoke
abbrev pub words_of_state : Variable → List ℕ
words_of_state v = filled_flag v.content ∷ yoke_number v.yoke ∷ []

unfoldable pub store_states : List Variable → List ℕ
store_states [] = []
store_states (v ∷ vs) = words_of_state v ++ store_states vs

unfoldable pub store_bodies : List Variable → List ℕ
store_bodies [] = []
store_bodies (v ∷ vs) = encoded (present_body v) ++ store_bodies vs

-- document 01: the 1,024 cells and the 32 marks; and the 16 present bodies, zeros for the rest
unfoldable pub cells_in : List Variable → List ℤ
cells_in vs = pad cells_length (pos 0) (store_cells vs)

unfoldable pub states_in : List Variable → List ℕ
states_in vs = pad states_length 0 (store_states vs)

unfoldable pub bodies_in : List Variable → List ℕ
bodies_in vs = pad variable_bodies_length 0 (store_bodies vs)

-- the open calls' variables, each as the profile's are held, the oldest first; zeros where none is open
unfoldable pub call_cells : List (List Variable) → List ℤ
call_cells [] = []
call_cells (vs ∷ os) = cells_in vs ++ call_cells os

unfoldable pub call_states : List (List Variable) → List ℕ
call_states [] = []
call_states (vs ∷ os) = states_in vs ++ call_states os

unfoldable pub call_bodies : List (List Variable) → List ℕ
call_bodies [] = []
call_bodies (vs ∷ os) = bodies_in vs ++ call_bodies os

unfoldable pub open_cells_in : List (List Variable) → List ℤ
open_cells_in os = pad open_cells_length (pos 0) (call_cells os)

unfoldable pub open_states_in : List (List Variable) → List ℕ
open_states_in os = pad open_states_length 0 (call_states os)

-- the profile's present bodies, then those of the open calls
unfoldable pub present_in : List Variable → List (List Variable) → List ℕ
present_in vs os = bodies_in vs ++ pad open_bodies_length 0 (call_bodies os)

-- where variable n's state words stand among all, by name: nothing else says it
abbrev pub flag_place : ℕ → ℕ
flag_place n = state_words * n

abbrev pub yoke_place : ℕ → ℕ
yoke_place n = state_words * n + 1

unfoldable pub flag_at : List ℕ → ℕ → ℕ
flag_at states n = get_or states (flag_place n) 0

unfoldable pub yoke_at : List ℕ → ℕ → ℕ
yoke_at states n = get_or states (yoke_place n) 0

unfoldable pub filled_at : List ℕ → ℕ → Bool
filled_at states n = not (eqb (flag_at states n) 0)

-- variable n filled, and with another yoke
unfoldable pub fill_at : List ℕ → ℕ → List ℕ
fill_at states n = set states (flag_place n) 1

unfoldable pub set_yoke_at : List ℕ → ℕ → ℕ → List ℕ
set_yoke_at states n y = set states (yoke_place n) y
