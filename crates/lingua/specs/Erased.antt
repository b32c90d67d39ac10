-- The run without bodies (document 01: chair run), on values: the values' half of evaluation, yokes, tests, stores and instructions, with no
-- check on bodies. Where the type check passed, it is the run (`accepted_erased` in crate safety). Assumes nothing: these are definitions.
use Rattle.std.specs.Prelude.{Bool, true, false, ◌&&◌, List, [], ◌∷◌, map, ℕ, suc, ◌+◌, eqb, set}
use Rattle.std.specs.Bool.{beq}
use Rattle.std.proofs.Math.Option.{Option, some, none}
use Rattle.lingua.specs.Numbers.{reading_place, most_calls}
use Rattle.lingua.specs.Errors.{no_error, overflow, yoke_not_satisfied, not_filled}
use Rattle.lingua.specs.Outcome.{ok, Result, ◌>>=◌, ◌>>◌, require, or_fail, if◌then◌else◌, all_answers}
use Rattle.lingua.specs.Value.{Value, truth, in_range_of, quantity, as_truth, as_whole, as_items, value_list, all_of, Composite, composite}
use Rattle.lingua.specs.Compute.{unary_value, binary_value}
use Rattle.lingua.specs.Expression.{settled_by, Expression, constant, variable, current, unary, binary, lazy, choice, all_list, Yoke, always, yoke, Instruction, skip, assign, set_yoke, sequence, branch, loop, handle, call}
use Rattle.lingua.specs.Evaluation.{Variables}
use Rattle.lingua.specs.Store.{Limit, Variable, variable_at, contents, with_content, with_yoke, within, Reading, counts_hundredths}
use Rattle.lingua.specs.Run.{State, Progress, going, settled, proceed, step, act, decided, handled, repeat, Calling, called, Profile, started}

-- ---- evaluation
-- each variable's value, none where it is not filled
abbrev pub VariableValues : Type 0
VariableValues = ℕ → Option Value

abbrev pub value_in : Option Composite → Option Value
value_in none = none
value_in (some x) = some x.value

abbrev pub values_of : Variables → VariableValues
values_of vars n = value_in (vars n)

-- the values' half of evaluation
unfoldable pub eval_erased : Expression → VariableValues → Value → Result Value
eval_erased (constant r c) vars cur = ok c.value
eval_erased (variable r n) vars cur = or_fail (vars n) not_filled
eval_erased (current r) vars cur = ok cur
eval_erased (unary r o e) vars cur = do
  x ← eval_erased e vars cur
  unary_value o x
eval_erased (binary r o e f) vars cur = do
  x ← eval_erased e vars cur
  y ← eval_erased f vars cur
  binary_value o x y
eval_erased (lazy r k e f) vars cur = do
  x ← eval_erased e vars cur
  if beq (as_truth x) (settled_by k)
      then ok (truth (as_truth x))
      else (eval_erased f vars cur >>= λ y. ok (truth (as_truth y)))
eval_erased (choice r p e f) vars cur = do
  x ← eval_erased p vars cur
  if as_truth x then eval_erased e vars cur else eval_erased f vars cur
eval_erased (all_list r e) vars cur = do
  xs ← all_answers (map (λ x. eval_erased e vars x) (value_list (as_items cur)))
  ok (truth (all_of as_truth xs))

-- ---- yokes, tests, and what a new value or a new yoke must satisfy
unfoldable pub yoke_erased : Yoke → VariableValues → Value → Result Value
yoke_erased always vars v = ok (truth true)
yoke_erased (yoke e) vars v = eval_erased e vars v

unfoldable pub test_erased : Expression → VariableValues → Result Bool
test_erased e vars = do
  v ← eval_erased e vars (truth false)
  ok (as_truth v)

-- a new value's yoke and limit
unfoldable pub admitted_erased : Yoke → Option Limit → VariableValues → Value → Result (Unit {0})
admitted_erased y l vars v = do
  t ← yoke_erased y vars v
  require (as_truth t && within l (as_whole v)) yoke_not_satisfied

-- a filled variable's value under a new yoke
unfoldable pub yoke_holds_erased : Yoke → VariableValues → Option Value → Result (Unit {0})
yoke_holds_erased y vars none = ok tt
yoke_holds_erased y vars (some v) = do
  t ← yoke_erased y vars v
  require (as_truth t) yoke_not_satisfied

-- ---- the run
-- variable n with the new value, of the variable's own body
unfoldable pub assigned_erased : List Variable → ℕ → Value → Result (List Variable)
assigned_erased vs n v = do
  admitted_erased (variable_at vs n).yoke (variable_at vs n).limit (values_of (contents vs)) v
  ok (set vs n (with_content (variable_at vs n) (composite (variable_at vs n).body v)))

unfoldable pub changed_erased : List Variable → ℕ → Yoke → Result (List Variable)
changed_erased vs n y = do
  yoke_holds_erased y (values_of (contents vs)) (values_of (contents vs) n)
  ok (set vs n (with_yoke (variable_at vs n) y))

-- a copy keeps the value alone
unfoldable pub copy_erased : List Variable → ℕ → Composite → Result (List Variable)
copy_erased vs n x = assigned_erased vs n x.value

unfoldable pub exec_erased : Calling → Instruction → State → Progress
exec_erased calls (skip r) s = act s (λ t. going t)
exec_erased calls (assign r n e) s =
    act s (λ t. going (settled t r (eval_erased e (values_of (contents t.store)) (truth false) >>= λ v. assigned_erased t.store n v)))
exec_erased calls (set_yoke r n y) s = act s (λ t. going (settled t r (changed_erased t.store n y)))
exec_erased calls (sequence r i j) s = proceed (exec_erased calls i s) (λ t. exec_erased calls j t)
exec_erased calls (branch r e i j) s = act s (λ t. decided (test_erased e (values_of (contents t.store))) r t (λ u. exec_erased calls i u) (λ u. exec_erased calls j u))
exec_erased calls (loop r e i) s = repeat (suc s.left) (λ t. test_erased e (values_of (contents t.store))) r (λ t. exec_erased calls i t) s
exec_erased calls (handle r n i) s = step s (λ t. handled (eqb t.error n) t (λ u. exec_erased calls i u))
exec_erased calls (call r k vs rs) s = act s (λ t. calls r k vs rs t)

-- the code tells hundredths by the kind of the variable's type row, and needs no body for it
unfoldable pub reading_erased : List Variable → Reading → Result (List Variable)
reading_erased vs r = do
  require (in_range_of (counts_hundredths vs r) r.number) overflow
  assigned_erased vs r.variable (quantity (counts_hundredths vs r) r.number)

abbrev pub taken_erased : Bool → State → ℕ → Reading → State
taken_erased true s i r = settled s (reading_place + i) (reading_erased s.store r)
taken_erased false s i r = s

unfoldable pub readings_erased : ℕ → List Reading → State → State
readings_erased i [] s = s
readings_erased i (r ∷ rs) s = readings_erased (suc i) rs (taken_erased (eqb s.error no_error) s i r)

unfoldable pub run_erased : Profile → List Reading → ℕ → Progress
run_erased p readings budget =
    exec_erased (called copy_erased exec_erased p.procedures most_calls) p.program (readings_erased 0 readings (started p budget))
