-- The run of a program at a budget: its end, error, place and steps (document 01, Runs). Assumes nothing: these are definitions.
use Rattle.std.specs.Prelude.{Bool, true, false, List, [], ◌∷◌, ◌++◌, map, ℕ, zero, suc, ◌+◌, ◌-◌, eqb, length, get_or, if◌then◌else◌}
use Rattle.std.proofs.Math.Option.{Option, none}
use Rattle.lingua.specs.Numbers.{reading_place, most_calls}
use Rattle.lingua.specs.Errors.{no_error, too_deep}
use Rattle.lingua.specs.Outcome.{ok, fail, Result, ◌>>=◌}
use Rattle.lingua.specs.Body.{Body}
use Rattle.lingua.specs.Expression.{Yoke, Instruction, skip, assign, set_yoke, sequence, branch, loop, handle, call}
use Rattle.lingua.specs.Evaluation.{eval, eval_test, no_current}
use Rattle.lingua.specs.Store.{Limit, Variable, contents, assigned, Assigning, copied, copied_in, yoke_changed, Reading, reading_taken}

-- the variables, the recorded error (0 for none) with its place, and the steps that are left
pub record State : Type 0 where
  pub store : List Variable
  pub error : ℕ
  pub place : ℕ
  pub left : ℕ

-- a run goes on, or is out of budget as it stands, with the variables of each call that is open in it, the oldest first
pub data Progress : Type 0 where
  going : State → Progress
  out : State → List (List Variable) → Progress

abbrev pub with_store : State → List Variable → State
with_store s vs = record { store = vs; error = s.error; place = s.place; left = s.left }

abbrev pub with_error : State → ℕ → ℕ → State
with_error s n p = record { store = s.store; error = n; place = p; left = s.left }

abbrev pub with_left : State → ℕ → State
with_left s n = record { store = s.store; error = s.error; place = s.place; left = n }

-- the new store, or the error recorded with its place
abbrev pub settled : State → ℕ → Result (List Variable) → State
settled s p (ok vs) = with_store s vs
settled s p (fail n) = with_error s n p

-- ---- what comes next is given as a function, so that it is looked at only where the run gets there
abbrev pub proceed : Progress → (State → Progress) → Progress
proceed (going s) f = f s
proceed (out s os) f = out s os

-- one step, then f; out where none is left
abbrev pub step_with : ℕ → State → (State → Progress) → Progress
step_with zero s f = out s []
step_with (suc n) s f = f (with_left s n)

unfoldable pub step : State → (State → Progress) → Progress
step s f = step_with s.left s f

abbrev pub unless_error : Bool → State → (State → Progress) → Progress
unless_error true s f = f s
unless_error false s f = going s

-- with an error recorded an instruction passes, without step or change
unfoldable pub act : State → (State → Progress) → Progress
act s f = unless_error (eqb s.error no_error) s (λ t. step t f)

-- a test's two ways, or its error
abbrev pub decided : Result Bool → ℕ → State → (State → Progress) → (State → Progress) → Progress
decided (ok true) p s f g = f s
decided (ok false) p s f g = g s
decided (fail n) p s f g = going (with_error s n p)

-- a handler's error is cleared, and f runs; another stays
abbrev pub handled : Bool → State → (State → Progress) → Progress
handled true s f = f (with_error s no_error 0)
handled false s f = going s

-- A loop from a test on, with a bound on the turns that are left. Each turn takes a step for its test, and exec starts with one
-- turn more than the steps that are left, so a turn without steps ends the run before the bound is used up: it never stops a loop.
unfoldable pub repeat : ℕ → (State → Result Bool) → ℕ → (State → Progress) → State → Progress
repeat zero test p body s = out s []
repeat (suc k) test p body s =
    act s (λ t. decided (test t) p t (λ u. proceed (body u) (λ w. repeat k test p body w)) (λ u. going u))

-- what a call does: its row, the procedure, the variables that are given by value and by reference
abbrev pub Calling : Type 0
Calling = ℕ → ℕ → List ℕ → List ℕ → State → Progress

-- instructions, open in what a call does once it has its step
unfoldable pub exec : Calling → Instruction → State → Progress
exec calls (skip r) s = act s (λ t. going t)
exec calls (assign r n e) s =
    act s (λ t. going (settled t r (eval e (contents t.store) no_current >>= λ x. assigned t.store n x)))
exec calls (set_yoke r n y) s = act s (λ t. going (settled t r (yoke_changed t.store n y)))
exec calls (sequence r i j) s = proceed (exec calls i s) (λ t. exec calls j t)
exec calls (branch r e i j) s = act s (λ t. decided (eval_test e (contents t.store)) r t (λ u. exec calls i u) (λ u. exec calls j u))
exec calls (loop r e i) s = repeat (suc s.left) (λ t. eval_test e (contents t.store)) r (λ t. exec calls i t) s
exec calls (handle r n i) s = step s (λ t. handled (eqb t.error n) t (λ u. exec calls i u))
exec calls (call r k vs rs) s = act s (λ t. calls r k vs rs t)

-- ---- declarations and procedures
pub record Declaration : Type 0 where
  pub name : List ℕ
  pub body : Body
  pub declared : Yoke
  pub limit : Option Limit

-- a procedure's variables, of which the first are its parameters, by value and then by reference; they have no limits
pub record Procedure : Type 0 where
  pub variables : List Declaration
  pub body : Instruction

abbrev pub no_procedure : Procedure
no_procedure = record { variables = []; body = skip 0 }

abbrev pub procedure_at : List Procedure → ℕ → Procedure
procedure_at ps k = get_or ps k no_procedure

abbrev pub unfilled : Declaration → Variable
unfilled d = record { body = d.body; limit = d.limit; yoke = d.declared; content = none }

unfoldable pub begun : List Declaration → List Variable
begun ds = map unfilled ds

-- ---- calls (document 02, 3; document 000, section 5)
abbrev pub clean_only : Bool → State → (State → State) → State
clean_only true s f = f s
clean_only false s f = s

-- variables m and following of the body come back, in order and none after an error; what came back before stays
unfoldable pub copied_out : Assigning → ℕ → List Variable → ℕ → List ℕ → State → State
copied_out storing r from m [] s = s
copied_out storing r from m (n ∷ ns) s =
    clean_only (eqb s.error no_error) s (λ t. copied_out storing r from (suc m) ns (settled t r (copied storing from m t.store n)))

-- the caller's variables, with what the body recorded and the steps that it left
abbrev pub carried : State → State → State
carried s t = record { store = s.store; error = t.error; place = t.place; left = t.left }

-- a body's end: the references come back, unless an error is recorded; out of budget, its variables stay open
abbrev pub returned : Assigning → ℕ → ℕ → List ℕ → State → Progress → Progress
returned storing r m rs s (going t) = going (copied_out storing r t.store m rs (carried s t))
returned storing r m rs s (out t os) = out (carried s t) (t.store ∷ os)

-- a copy in that fails opens no call
abbrev pub opened : Result (List Variable) → ℕ → State → (List Variable → Progress) → Progress
opened (ok vs) r s f = f vs
opened (fail n) r s f = going (with_error s n r)

-- The calls of procedures as long as n more may be open: where none may, too-deep comes before any copy. The body runs on variables of its
-- own, the parameters filled by the copies in, values first.
unfoldable pub called : Assigning → (Calling → Instruction → State → Progress) → List Procedure → ℕ → Calling
called storing walk ps zero r k vs rs s = going (with_error s too_deep r)
called storing walk ps (suc n) r k vs rs s =
    opened (copied_in storing s.store (vs ++ rs) 0 (begun (procedure_at ps k).variables)) r s
    (λ ws. returned storing r (length vs) rs s (walk (λ r k vs rs t. called storing walk ps n r k vs rs t) (procedure_at ps k).body (with_store s ws)))

-- ---- whole runs
-- an instruction row's tree, and whose variables it names: 0 for the profile's, else 1 + the procedure
pub record Scoped : Type 0 where
  pub scope : ℕ
  pub instruction : Instruction

abbrev pub scoped : ℕ → Instruction → Scoped
scoped n i = record { scope = n; instruction = i }

-- an accepted pair of files: its variables, its procedures, the tree of each instruction row, and the last row's, which is the program
pub record Profile : Type 0 where
  pub declarations : List Declaration
  pub procedures : List Procedure
  pub instructions : List Scoped
  pub program : Instruction

-- the variables of a scope, and what is run on them: the profile's own and the program, or a procedure's and its body
abbrev pub scope_declarations : Profile → ℕ → List Declaration
scope_declarations p zero = p.declarations
scope_declarations p (suc k) = (procedure_at p.procedures k).variables

abbrev pub scope_program : Profile → ℕ → Instruction
scope_program p zero = p.program
scope_program p (suc k) = (procedure_at p.procedures k).body

unfoldable pub started : Profile → ℕ → State
started p budget = record { store = begun p.declarations; error = no_error; place = 0; left = budget }

abbrev pub taken_unless : Bool → State → ℕ → Reading → State
taken_unless true s i r = settled s (reading_place + i) (reading_taken s.store r)
taken_unless false s i r = s

-- readings from index i on: in order, without steps, and none after an error
unfoldable pub take_readings : ℕ → List Reading → State → State
take_readings i [] s = s
take_readings i (r ∷ rs) s = take_readings (suc i) rs (taken_unless (eqb s.error no_error) s i r)

unfoldable pub run : Profile → List Reading → ℕ → Progress
run p readings budget = exec (called assigned exec p.procedures most_calls) p.program (take_readings 0 readings (started p budget))

-- ---- how it ended
pub data End : Type 0 where
  finished failed out_of_budget : End

abbrev pub last_state : Progress → State
last_state (going s) = s
last_state (out s os) = s

-- the variables of the calls that are open at the end
abbrev pub open_calls : Progress → List (List Variable)
open_calls (going s) = []
open_calls (out s os) = os

abbrev pub end_of : Progress → End
end_of (going s) = if eqb s.error no_error then finished else failed
end_of (out s os) = out_of_budget

abbrev pub steps_of : ℕ → Progress → ℕ
steps_of budget p = budget - (last_state p).left
