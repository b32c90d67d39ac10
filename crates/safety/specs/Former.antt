-- The former check: it goes in order of evaluation and stops at the first fault that it meets. The type check (`Typing`) passes the same
-- profiles with the same entries, so with the same layout table (`same_passes`, `same_layout` in `SamePasses`); where there are faults it
-- may name another one. Calls of procedures came later than this check: they and the procedures' declarations are taken into it as they stand
-- in the type check.
-- Assumes nothing: these are definitions.
use Rattle.std.specs.Prelude.{List, [], ◌∷◌, ◌++◌, map, ℕ, zero, suc, ◌+◌}
use Rattle.lingua.specs.Numbers.{instruction_place, declaration_place}
use Rattle.lingua.specs.Errors.{boolean_expected, list_expected, no_coherence, yoke_expected}
use Rattle.lingua.specs.Outcome.{Outcome, ok, fail, Result, require, or_fail, all_answers, ◌>>=◌, ◌>>◌}
use Rattle.lingua.specs.Body.{Body, boolean, size, same_body, is_boolean, element_body}
use Rattle.lingua.specs.Operation.{unary_body, binary_body}
use Rattle.lingua.specs.Expression.{Expression, constant, variable, current, unary, binary, lazy, choice, all_list, Yoke, always, yoke, Instruction, skip, assign, set_yoke, sequence, branch, loop, handle, call}
use Rattle.lingua.specs.Run.{Declaration, Scoped, Profile}
use Rattle.lingua.specs.Typing.{TypeError, type_error, Entry, Typed, unary_second, binary_second, Bodies, no_current_body, given_fit, bodies_of, joined, all_declarations, scope_bodies}
use Rattle.lingua.specs.Trees.{profile_of}
use Rattle.lingua.specs.Format.{rows_of}
use Rattle.lingua.specs.Refusal.{type_check_refusal}
use Rattle.lingua.specs.Answers.{refused}
use Rattle.lingua.specs.Calls.{TypeCheckCall, type_check_verdict}

-- the same outcome with a place for its error
abbrev pub located : {A : Type 0} → ℕ → Result A → Outcome TypeError A
located p (ok a) = ok a
located p (fail n) = fail (type_error n p)

abbrev pub typed_at : ℕ → Body → Body → ℕ → List Entry → Outcome TypeError Typed
typed_at r cur b second es =
    ok (record { body = b; entries = es ++ (record { row = r; current = cur; result = b; second = second } ∷ []) })

-- both sides of and/or, and both branches; operands first, but for and, or and if each operand's own check behind it
unfoldable pub former_check : Expression → Bodies → Body → Outcome TypeError Typed
former_check (constant r c) vars cur = typed_at r cur c.body 0 []
former_check (variable r n) vars cur = typed_at r cur (vars n) 0 []
former_check (current r) vars cur = typed_at r cur cur 0 []
former_check (unary r o e) vars cur = do
  x ← former_check e vars cur
  b ← located r (unary_body o x.body)
  typed_at r cur b (unary_second o x.body) x.entries
former_check (binary r o e f) vars cur = do
  x ← former_check e vars cur
  y ← former_check f vars cur
  b ← located r (binary_body o x.body y.body)
  typed_at r cur b (binary_second o x.body y.body b) (x.entries ++ y.entries)
former_check (lazy r k e f) vars cur = do
  x ← former_check e vars cur
  require (is_boolean x.body) (type_error boolean_expected r)
  y ← former_check f vars cur
  require (is_boolean y.body) (type_error boolean_expected r)
  typed_at r cur boolean 0 (x.entries ++ y.entries)
former_check (choice r p e f) vars cur = do
  x ← former_check p vars cur
  require (is_boolean x.body) (type_error boolean_expected r)
  y ← former_check e vars cur
  z ← former_check f vars cur
  require (same_body y.body z.body) (type_error no_coherence r)
  typed_at r cur y.body 0 (x.entries ++ (y.entries ++ z.entries))
former_check (all_list r e) vars cur = do
  b ← located r (or_fail (element_body cur) list_expected)
  x ← former_check e vars b
  require (is_boolean x.body) (type_error yoke_expected r)
  typed_at r cur boolean (size b) x.entries

-- a yoke on a variable's declared body; p is the place where it is declared or set
unfoldable pub former_yoke : Yoke → Bodies → Body → ℕ → Outcome TypeError (List Entry)
former_yoke always vars b p = ok []
former_yoke (yoke e) vars b p = do
  x ← former_check e vars b
  require (is_boolean x.body) (type_error yoke_expected p)
  ok x.entries

unfoldable pub former_test : Expression → Bodies → ℕ → Outcome TypeError (List Entry)
former_test e vars p = do
  x ← former_check e vars no_current_body
  require (is_boolean x.body) (type_error boolean_expected p)
  ok x.entries

-- an instruction's own row; its parts are rows of their own
unfoldable pub former_instruction : (ℕ → Bodies) → Bodies → Instruction → Outcome TypeError (List Entry)
former_instruction procs vars (skip r) = ok []
former_instruction procs vars (assign r n e) = do
  x ← former_check e vars no_current_body
  require (same_body (vars n) x.body) (type_error no_coherence (instruction_place + r))
  ok x.entries
former_instruction procs vars (set_yoke r n y) = former_yoke y vars (vars n) (instruction_place + r)
former_instruction procs vars (sequence r i j) = ok []
former_instruction procs vars (branch r e i j) = former_test e vars (instruction_place + r)
former_instruction procs vars (loop r e i) = former_test e vars (instruction_place + r)
former_instruction procs vars (handle r n i) = ok []
former_instruction procs vars (call r k vs rs) = do
  require (given_fit vars (vs ++ rs) (procs k) 0) (type_error no_coherence (instruction_place + r))
  ok []

-- the declared yokes from declaration d on
unfoldable pub former_declarations : Bodies → ℕ → List Declaration → List (Outcome TypeError (List Entry))
former_declarations vars d [] = []
former_declarations vars d (v ∷ vs) = former_yoke v.declared vars v.body (declaration_place + d) ∷ former_declarations vars (suc d) vs

unfoldable pub former_scoped : Profile → Scoped → Outcome TypeError (List Entry)
former_scoped p i = former_instruction (λ k. scope_bodies p (suc k)) (scope_bodies p i.scope) i.instruction

-- declared yokes first, then instructions by row; the first type error is the answer
unfoldable pub former_profile : Profile → Outcome TypeError (List Entry)
former_profile p = do
  ds ← all_answers (former_declarations (bodies_of p.declarations) 0 (all_declarations p))
  rs ← all_answers (map (λ i. former_scoped p i) p.instructions)
  ok (joined ds ++ joined rs)

-- the call, with this check in place of the type check
unfoldable pub former_unless : ℕ → List ℕ → List ℕ → List ℕ → TypeCheckCall
former_unless zero prof lims layout = type_check_verdict (former_profile (profile_of (rows_of prof) (rows_of lims)))
former_unless (suc n) prof lims layout = record { answer = refused (suc n); layout = layout }

unfoldable pub former_call : List ℕ → List ℕ → List ℕ → TypeCheckCall
former_call prof lims layout = former_unless (type_check_refusal prof lims layout) prof lims layout
