-- What an expression gives in a store and for a current value (document 01, Evaluation). Assumes nothing: these are definitions.
use Rattle.std.specs.Prelude.{Bool, true, false, List, map, ℕ, if◌then◌else◌}
use Rattle.std.specs.Bool.{beq}
use Rattle.std.proofs.Math.Option.{Option}
use Rattle.lingua.specs.Errors.{boolean_expected, list_expected, yoke_expected, not_filled}
use Rattle.lingua.specs.Outcome.{ok, Result, ◌>>=◌, require, or_fail, all_answers, ◌>>◌}
use Rattle.lingua.specs.Body.{boolean, is_boolean, element_body}
use Rattle.lingua.specs.Value.{truth, as_truth, as_items, value_list, all_of, Composite, composite}
use Rattle.lingua.specs.Operation.{Unary, Binary, unary_body, binary_body}
use Rattle.lingua.specs.Compute.{unary_value, binary_value}
use Rattle.lingua.specs.Expression.{settled_by, Expression, constant, variable, current, unary, binary, lazy, choice, all_list, Yoke, always, yoke}

-- the bodies' half, then the values' half
unfoldable pub apply_unary : Unary → Composite → Result Composite
apply_unary o x = do
  b ← unary_body o x.body
  v ← unary_value o x.value
  ok (composite b v)

unfoldable pub apply_binary : Binary → Composite → Composite → Result Composite
apply_binary o x y = do
  b ← binary_body o x.body y.body
  v ← binary_value o x.value y.value
  ok (composite b v)

-- a Boolean's value, or error n
unfoldable pub truth_or : ℕ → Composite → Result Bool
truth_or n x = do
  require (is_boolean x.body) n
  ok (as_truth x.value)

abbrev pub boolean_of : Bool → Composite
boolean_of t = composite boolean (truth t)

-- an all_list yoke, from what its inner yoke gives on each element: the first error, then 16, then whether all are true
unfoldable pub all_true : List (Result Composite) → Result Composite
all_true rs = do
  xs ← all_answers rs
  require (all_of (λ x. is_boolean x.body) xs) yoke_expected
  ok (boolean_of (all_of (λ x. as_truth x.value) xs))

-- the current value's elements, each a composite
unfoldable pub elements_of : Composite → Result (List Composite)
elements_of x = do
  b ← or_fail (element_body x.body) list_expected
  ok (map (λ v. composite b v) (value_list (as_items x.value)))

-- each variable's composite, none where it is not filled
abbrev pub Variables : Type 0
Variables = ℕ → Option Composite

unfoldable pub eval : Expression → Variables → Composite → Result Composite
eval (constant r c) vars cur = ok c
eval (variable r n) vars cur = or_fail (vars n) not_filled
eval (current r) vars cur = ok cur
eval (unary r o e) vars cur = do
  x ← eval e vars cur
  apply_unary o x
eval (binary r o e f) vars cur = do
  x ← eval e vars cur
  y ← eval f vars cur
  apply_binary o x y
eval (lazy r k e f) vars cur = do
  x ← eval e vars cur
  t ← truth_or boolean_expected x
  if beq t (settled_by k)
      then ok (boolean_of t)
      else (eval f vars cur >>= λ y. truth_or boolean_expected y >>= λ u. ok (boolean_of u))
eval (choice r p e f) vars cur = do
  x ← eval p vars cur
  t ← truth_or boolean_expected x
  if t then eval e vars cur else eval f vars cur
eval (all_list r e) vars cur = do
  xs ← elements_of cur
  all_true (map (λ x. eval e vars x) xs)

-- outside yokes there is no current value, and rule 12 keeps kinds 24 and 25 away
abbrev pub no_current : Composite
no_current = boolean_of false

-- what a yoke gives on a value
unfoldable pub eval_yoke : Yoke → Variables → Composite → Result Composite
eval_yoke always vars x = ok (boolean_of true)
eval_yoke (yoke e) vars x = eval e vars x

-- a test's value: the expression's error, or 9 where it is not Boolean
unfoldable pub eval_test : Expression → Variables → Result Bool
eval_test e vars = do
  x ← eval e vars no_current
  truth_or boolean_expected x
