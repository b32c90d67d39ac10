-- The type check (document 01: inspection): the checks of a run on bodies alone, and the layout table (document 01: sheet).
-- Assumes nothing: these are definitions.
use Rattle.std.specs.Prelude.{Bool, true, ◌&&◌, List, [], ◌∷◌, ◌++◌, map, ℕ, suc, ◌+◌, ◌*◌, ltb, get_or, set, replicate, if◌then◌else◌}
use Rattle.std.proofs.Math.Option.{Option, some, none}
use Rattle.lingua.specs.Numbers.{layout_length, instruction_place, declaration_place}
use Rattle.lingua.specs.Errors.{boolean_expected, list_expected, no_coherence, yoke_expected}
use Rattle.lingua.specs.Outcome.{Outcome, ok, fail, Result, require, or_fail, or_else, answer_of, both, all_answers, ◌>>=◌, ◌>>◌}
use Rattle.lingua.specs.Body.{Body, boolean, Attributes, size, same_body, is_boolean, is_hundredths, element_body, attributes_of, attribute_offset}
use Rattle.lingua.specs.Operation.{Unary, negation, make_record, select, make_list, top, pop, remove, to_hundredths, to_number, Binary, add, subtract, multiply, divide, less, equal, glue, expand, change, push, unary_body, binary_body}
use Rattle.lingua.specs.Expression.{Expression, constant, variable, current, unary, binary, lazy, choice, all_list, Yoke, always, yoke, Instruction, skip, assign, set_yoke, sequence, branch, loop, handle, call}
use Rattle.lingua.specs.Evaluation.{no_current}
use Rattle.lingua.specs.Run.{Declaration, Scoped, Profile, scope_declarations}

-- what the type check finds wrong at a place (document 01: fault)
pub record TypeError : Type 0 where
  pub error : ℕ
  pub place : ℕ

abbrev pub type_error : ℕ → ℕ → TypeError
type_error n p = record { error = n; place = p }

-- what is known of an expression row: the current value's body, the result's, and the layout table's second number
pub record Entry : Type 0 where
  pub row : ℕ
  pub current : Body
  pub result : Body
  pub second : ℕ

-- an expression's body, and the entries of its rows
pub record Typed : Type 0 where
  pub body : Body
  pub entries : List Entry

-- what is found of an expression: its body, or that it has none, with the faults of all its rows
abbrev pub Finding : Type 0 → Type 0
Finding A = Outcome (List TypeError) A

-- a row that breaks a rule itself
abbrev pub fault : ℕ → ℕ → List TypeError
fault n r = type_error n r ∷ []

-- a row's own rule: its answer, or the row's fault
abbrev pub own_rule : {A : Type 0} → ℕ → Result A → Finding A
own_rule r (ok a) = ok a
own_rule r (fail n) = fail (fault n r)

abbrev pub no_current_body : Body
no_current_body = no_current.body

-- where the current value has no body, an entry has that of an expression outside yokes; such an entry reaches no layout table
abbrev pub current_or : Option Body → Body
current_or (some b) = b
current_or none = no_current_body

abbrev pub typed : ℕ → Option Body → Body → ℕ → List Entry → Finding Typed
typed r cur b second es =
    ok (record { body = b; entries = es ++ (record { row = r; current = current_or cur; result = b; second = second } ∷ []) })

abbrev pub offset_among : ℕ → Option Attributes → ℕ
offset_among n none = 0
offset_among n (some fs) = attribute_offset n fs

-- attribute n's cell offset in a record's body
unfoldable pub offset_in : ℕ → Body → ℕ
offset_in n b = offset_among n (attributes_of b)

-- the layout table's second number: the selected or the removed attribute's offset in the operand
unfoldable pub unary_second : Unary → Body → ℕ
unary_second negation b = 0
unary_second (make_record n) b = 0
unary_second (select n) b = offset_in n b
unary_second make_list b = 0
unary_second top b = 0
unary_second pop b = 0
unary_second (remove n) b = offset_in n b
unary_second to_hundredths b = 0
unary_second to_number b = 0

-- 1 for hundredths
unfoldable pub hundredths_flag : Body → ℕ
hundredths_flag b = if is_hundredths b then 1 else 0

-- from the operands' bodies b and c and the result's d: whether hundredths are reckoned with; the offset in the result, of a new attribute in
-- the widened record, of a changed one where it was
unfoldable pub binary_second : Binary → Body → Body → Body → ℕ
binary_second add b c d = hundredths_flag d
binary_second subtract b c d = hundredths_flag d
binary_second multiply b c d = hundredths_flag d
binary_second divide b c d = hundredths_flag d
binary_second less b c d = 0
binary_second equal b c d = 0
binary_second glue b c d = 0
binary_second (expand n) b c d = offset_in n d
binary_second (change n) b c d = offset_in n d
binary_second push b c d = 0

-- the variables' declared bodies
abbrev pub Bodies : Type 0
Bodies = ℕ → Body

-- a current value's body, if it has one; where it has none no row is at fault for it
unfoldable pub current_body : Option Body → Finding Body
current_body (some b) = ok b
current_body none = fail []

-- the body of a list's elements; a current value of another body is the row's fault
unfoldable pub elements_at : ℕ → Option Body → Finding Body
elements_at r cur = do
  b ← current_body cur
  own_rule r (or_fail (element_body b) list_expected)

-- a row is at fault if its operands have bodies and it breaks a rule itself; then it has no body, as where an operand has none. The
-- operands of and, or and if, too, are all gone through before the row. An all_list asks for a list and for its inner yoke; where there is
-- no list, the current value of the inner yoke has no body
unfoldable pub check : Expression → Bodies → Option Body → Finding Typed
check (constant r c) vars cur = typed r cur c.body 0 []
check (variable r n) vars cur = typed r cur (vars n) 0 []
check (current r) vars cur = do
  b ← current_body cur
  typed r cur b 0 []
check (unary r o e) vars cur = do
  x ← check e vars cur
  b ← own_rule r (unary_body o x.body)
  typed r cur b (unary_second o x.body) x.entries
check (binary r o e f) vars cur = do
  xy ← both (check e vars cur) (check f vars cur)
  b ← own_rule r (binary_body o xy.0.body xy.1.body)
  typed r cur b (binary_second o xy.0.body xy.1.body b) (xy.0.entries ++ xy.1.entries)
check (lazy r k e f) vars cur = do
  xy ← both (check e vars cur) (check f vars cur)
  require (is_boolean xy.0.body) (fault boolean_expected r)
  require (is_boolean xy.1.body) (fault boolean_expected r)
  typed r cur boolean 0 (xy.0.entries ++ xy.1.entries)
check (choice r p e f) vars cur = do
  xyz ← both (check p vars cur) (both (check e vars cur) (check f vars cur))
  require (is_boolean xyz.0.body) (fault boolean_expected r)
  require (same_body xyz.1.0.body xyz.1.1.body) (fault no_coherence r)
  typed r cur xyz.1.0.body 0 (xyz.0.entries ++ (xyz.1.0.entries ++ xyz.1.1.entries))
check (all_list r e) vars cur = do
  xb ← both (check e vars (answer_of (elements_at r cur))) (elements_at r cur)
  require (is_boolean xb.0.body) (fault yoke_expected r)
  typed r cur boolean (size xb.1) xb.0.entries

-- ---- which fault is named
-- of two the one at the lower place
abbrev pub lower : Option TypeError → Option TypeError → Option TypeError
lower none f = f
lower (some e) none = some e
lower (some e) (some f) = if ltb f.place e.place then some f else some e

unfoldable pub lowest_fault : List TypeError → Option TypeError
lowest_fault [] = none
lowest_fault (e ∷ es) = lower (some e) (lowest_fault es)

-- of a declaration or an instruction: the fault of its expression's lowest row at fault; else, where the expression's body does not suit
-- it, its own. It names its own also where there is neither a body nor a fault, which never is (`some_fault` in crate safety)
unfoldable pub judged : Finding Typed → (Body → Bool) → TypeError → Outcome TypeError (List Entry)
judged (ok x) suits own = do
  require (suits x.body) own
  ok x.entries
judged (fail es) suits own = fail (or_else (lowest_fault es) own)

-- a yoke on a variable's declared body; p is the place where it is declared or set
unfoldable pub check_yoke : Yoke → Bodies → Body → ℕ → Outcome TypeError (List Entry)
check_yoke always vars b p = ok []
check_yoke (yoke e) vars b p = judged (check e vars (some b)) is_boolean (type_error yoke_expected p)

unfoldable pub check_test : Expression → Bodies → ℕ → Outcome TypeError (List Entry)
check_test e vars p = judged (check e vars (some no_current_body)) is_boolean (type_error boolean_expected p)

-- the variables that a call gives have the bodies of the parameters, from m on
unfoldable pub given_fit : Bodies → List ℕ → Bodies → ℕ → Bool
given_fit vars [] params m = true
given_fit vars (n ∷ ns) params m = same_body (vars n) (params m) && given_fit vars ns params (suc m)

-- an instruction's own row; its parts are rows of their own. What each procedure's variables have as bodies is given
unfoldable pub check_instruction : (ℕ → Bodies) → Bodies → Instruction → Outcome TypeError (List Entry)
check_instruction procs vars (skip r) = ok []
check_instruction procs vars (assign r n e) =
    judged (check e vars (some no_current_body)) (same_body (vars n)) (type_error no_coherence (instruction_place + r))
check_instruction procs vars (set_yoke r n y) = check_yoke y vars (vars n) (instruction_place + r)
check_instruction procs vars (sequence r i j) = ok []
check_instruction procs vars (branch r e i j) = check_test e vars (instruction_place + r)
check_instruction procs vars (loop r e i) = check_test e vars (instruction_place + r)
check_instruction procs vars (handle r n i) = ok []
check_instruction procs vars (call r k vs rs) = do
  require (given_fit vars (vs ++ rs) (procs k) 0) (type_error no_coherence (instruction_place + r))
  ok []

-- the declared yokes from declaration d on
unfoldable pub check_declarations : Bodies → ℕ → List Declaration → List (Outcome TypeError (List Entry))
check_declarations vars d [] = []
check_declarations vars d (v ∷ vs) = check_yoke v.declared vars v.body (declaration_place + d) ∷ check_declarations vars (suc d) vs

abbrev pub bodies_of : List Declaration → Bodies
bodies_of ds n = get_or (map (λ d. d.body) ds) n boolean

unfoldable pub joined : {A : Type 0} → List (List A) → List A
joined [] = []
joined (xs ∷ xss) = xs ++ joined xss

-- the profile's declarations, and on through the procedures'
unfoldable pub all_declarations : Profile → List Declaration
all_declarations p = p.declarations ++ joined (map (λ q. q.variables) p.procedures)

-- the declared bodies of a scope's variables
abbrev pub scope_bodies : Profile → ℕ → Bodies
scope_bodies p a = bodies_of (scope_declarations p a)

unfoldable pub check_scoped : Profile → Scoped → Outcome TypeError (List Entry)
check_scoped p i = check_instruction (λ k. scope_bodies p (suc k)) (scope_bodies p i.scope) i.instruction

-- declared yokes first, then instructions by row; of the earliest that has a fault, the one that is named is the answer
unfoldable pub check_profile : Profile → Outcome TypeError (List Entry)
check_profile p = do
  ds ← all_answers (check_declarations (bodies_of p.declarations) 0 (all_declarations p))
  rs ← all_answers (map (λ i. check_scoped p i) p.instructions)
  ok (joined ds ++ joined rs)

-- the layout table: row r's result cells at 2 r, its second number at 2 r + 1
unfoldable pub placed : List Entry → List ℕ → List ℕ
placed [] table = table
placed (e ∷ es) table = placed es (set (set table (2 * e.row) (size e.result)) (2 * e.row + 1) e.second)

unfoldable pub layout_of : List Entry → List ℕ
layout_of es = placed es (replicate layout_length 0)
