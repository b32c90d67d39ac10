-- Evaluation without bodies (document 01: chair run): where the type check passed, evaluation gives the value that the values' half alone
-- gives, with the body that the check found (`eval_erased_lem`). The same of yokes, tests, assignments and yoke changes. Assumes nothing.
use Rattle.std.specs.Prelude.{◌≡◌, Bool, true, false, ◌&&◌, List, [], ◌∷◌, map, ℕ}
use Rattle.std.proofs.Math.Path.{refl, ap}
use Rattle.std.proofs.Common.{◌∙◌}
use Rattle.std.proofs.Math.Bool.{beq}
use Rattle.std.proofs.Math.Option.{Option, some, none}
use Rattle.lingua.specs.Errors.{boolean_expected, list_expected, yoke_expected, not_filled}
use Rattle.lingua.specs.Outcome.{ok, fail, Result, ◌>>=◌, ◌>>◌, require, or_fail, if◌then◌else◌, all_answers}
use Rattle.lingua.specs.Body.{Body, boolean, is_boolean}
use Rattle.lingua.specs.Value.{Value, truth, as_truth, as_items, value_list, all_of, Composite, composite}
use Rattle.lingua.specs.Operation.{unary_body, binary_body}
use Rattle.lingua.specs.Compute.{unary_value, binary_value}
use Rattle.lingua.specs.Expression.{settled_by, Expression, constant, variable, current, unary, binary, lazy, choice, all_list}
use Rattle.lingua.specs.Evaluation.{Variables, apply_unary, apply_binary, truth_or, boolean_of, all_true, elements_of, eval}
use Rattle.lingua.specs.Erased.{value_in, values_of, eval_erased}
use Rattle.lingua.specs.Typing.{Entry, Bodies}
use Rattle.safety.specs.Derivation.{Derived, of_constant, of_variable, of_current, of_unary, of_binary, of_lazy, of_choice, of_all_list}
use Rattle.safety.specs.TypeSound.{VariablesFit}

-- a value with its body
abbrev pub with_body : Body → Result Value → Result Composite
with_body b r = r >>= λ v. ok (composite b v)

-- ---- operations
unary_half : (p : Result Body) (b : Body) (q : Result Value) → p ≡ ok b → (p >>= λ c. q >>= λ v. ok (composite c v)) ≡ with_body b q
unary_half p b q e = ap (λ (o : Result Body). o >>= λ c. q >>= λ v. ok (composite c v)) e

-- ---- lists
all_with_body : (b : Body) (rs : List (Result Value)) → all_answers (map (with_body b) rs) ≡ (all_answers rs >>= λ vs. ok (map (λ v. composite b v) vs))
unfolding all_answers
all_with_body b [] = refl
all_with_body b (fail n ∷ rs) = refl
all_with_body b (ok v ∷ rs) = go (all_answers rs) (all_with_body b rs)
  where
    go : (o : Result (List Value)) → all_answers (map (with_body b) rs) ≡ (o >>= λ vs. ok (map (λ w. composite b w) vs))
        → (all_answers (map (with_body b) rs) >>= λ xs. ok (composite b v ∷ xs)) ≡ ((o >>= λ vs. ok (v ∷ vs)) >>= λ vs. ok (map (λ w. composite b w) vs))
    go (ok vs) e = ap (λ (p : Result (List Composite)). p >>= λ xs. ok (composite b v ∷ xs)) e
    go (fail n) e = ap (λ (p : Result (List Composite)). p >>= λ xs. ok (composite b v ∷ xs)) e

booleans_all : (vs : List Value) → all_of (λ x. is_boolean x.body) (map (λ v. composite boolean v) vs) ≡ true
unfolding all_of is_boolean
booleans_all [] = refl
booleans_all (v ∷ vs) = booleans_all vs

truths_all : (vs : List Value) → all_of (λ x. as_truth x.value) (map (λ v. composite boolean v) vs) ≡ all_of as_truth vs
unfolding all_of
truths_all [] = refl
truths_all (v ∷ vs) = ap (λ (t : Bool). as_truth v && t) (truths_all vs)

all_true_erased : (rs : List (Result Value)) → all_true (map (with_body boolean) rs) ≡ with_body boolean (all_answers rs >>= λ vs. ok (truth (all_of as_truth vs)))
unfolding all_true
all_true_erased rs =
    ap (λ (o : Result (List Composite)). o >>= λ xs. require (all_of (λ x. is_boolean x.body) xs) yoke_expected >> ok (boolean_of (all_of (λ x. as_truth x.value) xs))) (all_with_body boolean rs)
    ∙ go (all_answers rs)
  where
    go : (o : Result (List Value))
        → ((o >>= λ vs. ok (map (λ v. composite boolean v) vs)) >>= λ xs. require (all_of (λ x. is_boolean x.body) xs) yoke_expected >> ok (boolean_of (all_of (λ x. as_truth x.value) xs)))
        ≡ with_body boolean (o >>= λ vs. ok (truth (all_of as_truth vs)))
    go (ok vs) =
        ap (λ (t : Bool). require t yoke_expected >> ok (boolean_of (all_of (λ x. as_truth x.value) (map (λ v. composite boolean v) vs)))) (booleans_all vs)
        ∙ ap (λ (t : Bool). ok (boolean_of t)) (truths_all vs)
    go (fail n) = refl

-- each element's outcome
map_erased : (f : Composite → Result Composite) (g : Value → Result Value) (c : Body) → ((v : Value) → f (composite c v) ≡ with_body boolean (g v)) → (vs : List Value)
    → map f (map (λ v. composite c v) vs) ≡ map (with_body boolean) (map g vs)
map_erased f g c h [] = refl
map_erased f g c h (v ∷ vs) = λ i. h v i ∷ map_erased f g c h vs i

-- ---- the theorem
module _ (vars : Bodies) (st : Variables) (fit : VariablesFit vars st) where
  variable_erased : (n : ℕ) (b : Body) → vars n ≡ b → or_fail (st n) not_filled ≡ with_body b (or_fail (values_of st n) not_filled)
  unfolding VariablesFit
  variable_erased n b q = go (st n) refl
    where
      go : (m : Option Composite) → st n ≡ m → or_fail m not_filled ≡ with_body b (or_fail (value_in m) not_filled)
      go none e = refl
      go (some x) e = ap (λ (c : Body). ok (composite c x.value)) ((fit n x e).0 ∙ q)

  pub eval_erased_lem : {H : Entry → Type 0} (e : Expression) (cur : Composite) {b : Body} → Derived H vars e cur.body b → eval e st cur ≡ with_body b (eval_erased e (values_of st) cur.value)
  unfolding eval eval_erased truth_or is_boolean elements_of
  eval_erased_lem (constant r c) cur (of_constant q h) = ap (λ (d : Body). ok (composite d c.value)) q
  eval_erased_lem (variable r n) cur {b} (of_variable q h) = variable_erased n b q
  eval_erased_lem (current r) cur (of_current q h) = ap (λ (d : Body). ok (composite d cur.value)) q
  eval_erased_lem (unary r o e) cur {b} (of_unary {c = c} d q h) =
      ap (λ (p : Result Composite). p >>= λ x. apply_unary o x) (eval_erased_lem e cur d) ∙ go (eval_erased e (values_of st) cur.value)
    where
      go : (p : Result Value) → (with_body c p >>= λ x. apply_unary o x) ≡ with_body b (p >>= λ x. unary_value o x)
      go (ok x) = unfold apply_unary in unary_half (unary_body o c) b (unary_value o x) q
      go (fail n) = refl
  eval_erased_lem (binary r o e f) cur {b} (of_binary {c = c} {d} m k q h) =
      (λ i. eval_erased_lem e cur m i >>= λ x. eval_erased_lem f cur k i >>= λ y. apply_binary o x y) ∙ go (eval_erased e (values_of st) cur.value) (eval_erased f (values_of st) cur.value)
    where
      go : (p s : Result Value) → (with_body c p >>= λ x. with_body d s >>= λ y. apply_binary o x y) ≡ with_body b (p >>= λ x. s >>= λ y. binary_value o x y)
      go (ok x) (ok y) = unfold apply_binary in unary_half (binary_body o c d) b (binary_value o x y) q
      go (ok x) (fail n) = refl
      go (fail n) s = refl
  eval_erased_lem (lazy r k e f) cur (of_lazy m d q h) =
      (λ i. eval_erased_lem e cur m i >>= λ x. truth_or boolean_expected x >>= λ t. if beq t (settled_by k) then ok (boolean_of t) else (eval_erased_lem f cur d i >>= λ y. truth_or boolean_expected y >>= λ u. ok (boolean_of u)))
      ∙ go (eval_erased e (values_of st) cur.value) (eval_erased f (values_of st) cur.value)
      ∙ ap (λ (c : Body). with_body c (eval_erased (lazy r k e f) (values_of st) cur.value)) q
    where
      second : (p : Result Value) → (with_body boolean p >>= λ y. truth_or boolean_expected y >>= λ u. ok (boolean_of u)) ≡ with_body boolean (p >>= λ y. ok (truth (as_truth y)))
      second (ok y) = refl
      second (fail n) = refl

      settle : (s t : Bool) (p : Result Value) → (if s then ok (boolean_of t) else (with_body boolean p >>= λ y. truth_or boolean_expected y >>= λ u. ok (boolean_of u))) ≡ with_body boolean (if s then ok (truth t) else (p >>= λ y. ok (truth (as_truth y))))
      settle true t p = refl
      settle false t p = second p

      go : (p s : Result Value) → (with_body boolean p >>= λ x. truth_or boolean_expected x >>= λ t. if beq t (settled_by k) then ok (boolean_of t) else (with_body boolean s >>= λ y. truth_or boolean_expected y >>= λ u. ok (boolean_of u)))
          ≡ with_body boolean (p >>= λ x. if beq (as_truth x) (settled_by k) then ok (truth (as_truth x)) else (s >>= λ y. ok (truth (as_truth y))))
      go (ok x) s = settle (beq (as_truth x) (settled_by k)) (as_truth x) s
      go (fail n) s = refl
  eval_erased_lem (choice r c e f) cur {b} (of_choice m d k h) =
      (λ i. eval_erased_lem c cur m i >>= λ x. truth_or boolean_expected x >>= λ t. if t then eval_erased_lem e cur d i else eval_erased_lem f cur k i)
      ∙ go (eval_erased c (values_of st) cur.value)
    where
      chosen : (t : Bool) (p s : Result Value) → (if t then with_body b p else with_body b s) ≡ with_body b (if t then p else s)
      chosen true p s = refl
      chosen false p s = refl

      go : (p : Result Value) → (with_body boolean p >>= λ x. truth_or boolean_expected x >>= λ t. if t then with_body b (eval_erased e (values_of st) cur.value) else with_body b (eval_erased f (values_of st) cur.value))
          ≡ with_body b (p >>= λ x. if as_truth x then eval_erased e (values_of st) cur.value else eval_erased f (values_of st) cur.value)
      go (ok x) = chosen (as_truth x) (eval_erased e (values_of st) cur.value) (eval_erased f (values_of st) cur.value)
      go (fail n) = refl
  eval_erased_lem (all_list r e) cur (of_all_list {c = c} is d q h) =
      ap (λ (m : Option Body). (or_fail m list_expected >>= λ b. ok (map (λ v. composite b v) (value_list (as_items cur.value)))) >>= λ xs. all_true (map (λ x. eval e st x) xs)) is
      ∙ ap all_true (map_erased (λ x. eval e st x) (λ x. eval_erased e (values_of st) x) c (λ v. eval_erased_lem e (composite c v) d) (value_list (as_items cur.value)))
      ∙ all_true_erased (map (λ x. eval_erased e (values_of st) x) (value_list (as_items cur.value)))
      ∙ ap (λ (b : Body). with_body b (eval_erased (all_list r e) (values_of st) cur.value)) q
