-- Evaluation gives values that fit their bodies, with no assumption on types: `eval_fits`. Assumes nothing.
use Rattle.std.specs.Prelude.{◌≡◌, Bool, true, false, List, map, ℕ}
use Rattle.std.proofs.Common.{ap, ◌∙◌, subst}
use Rattle.std.specs.Bool.{beq}
use Rattle.std.proofs.Math.Option.{some}
use Rattle.lingua.specs.Errors.{boolean_expected, yoke_expected, not_filled}
use Rattle.lingua.specs.Outcome.{ok, Result, ◌>>=◌, if◌then◌else◌, all_answers}
use Rattle.lingua.specs.Body.{Body, boolean, is_boolean}
use Rattle.lingua.specs.Value.{Value, Fits, fit_truth, as_truth, all_of, Composite, composite}
use Rattle.lingua.specs.Operation.{Unary, Binary, unary_body, binary_body}
use Rattle.lingua.specs.Compute.{unary_value, binary_value}
use Rattle.lingua.specs.Expression.{settled_by, Expression, constant, variable, current, unary, binary, lazy, choice, all_list, Yoke, always, yoke}
use Rattle.lingua.specs.Evaluation.{Variables, apply_unary, apply_binary, truth_or, boolean_of, all_true, elements_of, eval, eval_yoke}
use Rattle.laws.specs.Outcomes.{or_fail_ok, is_boolean_lem}
use Rattle.laws.specs.Sound.{unary_sound, binary_sound}
use Rattle.safety.specs.Answers.{same_answer, bound, demanded}
use Rattle.safety.specs.Constants.{Fitting, ConstantsHave, ConstantsFit, ClosedYoke}

-- every filled variable fits
unfoldable pub FilledFit : Variables → Type 0
FilledFit vars = (n : ℕ) (x : Composite) → vars n ≡ some x → Fitting x

as_answer : {x y : Composite} → ◌≡◌ {A = Result Composite} (ok x) (ok y) → Fitting x → Fitting y
as_answer e h = subst Fitting (same_answer e) h

pub unary_fits : (o : Unary) (x y : Composite) → Fitting x → apply_unary o x ≡ ok y → Fitting y
unfolding apply_unary
unary_fits o x y h e =
    let p = bound (unary_body o x.body) _ y e in
    let q = bound (unary_value o x.value) _ y p.2 in
    as_answer q.2 (unary_sound o h p.1 q.1)

pub binary_fits : (o : Binary) (x y z : Composite) → Fitting x → Fitting y → apply_binary o x y ≡ ok z → Fitting z
unfolding apply_binary
binary_fits o x y z h k e =
    let p = bound (binary_body o x.body y.body) _ z e in
    let q = bound (binary_value o x.value y.value) _ z p.2 in
    as_answer q.2 (binary_sound o h k p.1 q.1)

lazy_fits : (s t : Bool) (r : Result Composite) (x : Composite)
    → (if s then ok (boolean_of t) else (r >>= λ y. truth_or boolean_expected y >>= λ u. ok (boolean_of u))) ≡ ok x → Fitting x
lazy_fits true t r x e = as_answer e fit_truth
lazy_fits false t r x e =
    let p = bound r _ x e in
    let q = bound (truth_or boolean_expected p.0) _ x p.2 in
    as_answer q.2 fit_truth

pub all_fits : (rs : List (Result Composite)) (x : Composite) → all_true rs ≡ ok x → Fitting x
unfolding all_true
all_fits rs x e =
    let p = bound (all_answers rs) _ x e in
    let q = demanded (all_of (λ y. is_boolean y.body) p.0) yoke_expected _ x p.2 in
    as_answer q.1 fit_truth

pub eval_fits : (e : Expression) → ConstantsFit e → (vars : Variables) → FilledFit vars → (cur : Composite) → Fitting cur → (x : Composite) → eval e vars cur ≡ ok x → Fitting x
unfolding eval ConstantsHave FilledFit
eval_fits (constant r c) h vars fit cur k x q = as_answer q h
eval_fits (variable r n) h vars fit cur k x q = fit n x (or_fail_ok (vars n) not_filled x q)
eval_fits (current r) h vars fit cur k x q = as_answer q k
eval_fits (unary r o e) h vars fit cur k x q =
    let p = bound (eval e vars cur) _ x q in
    unary_fits o p.0 x (eval_fits e h vars fit cur k p.0 p.1) p.2
eval_fits (binary r o e f) h vars fit cur k x q =
    let p = bound (eval e vars cur) _ x q in
    let s = bound (eval f vars cur) _ x p.2 in
    binary_fits o p.0 s.0 x (eval_fits e h.0 vars fit cur k p.0 p.1) (eval_fits f h.1 vars fit cur k s.0 s.1) s.2
eval_fits (lazy r c e f) h vars fit cur k x q =
    let p = bound (eval e vars cur) _ x q in
    let s = bound (truth_or boolean_expected p.0) _ x p.2 in
    lazy_fits (beq s.0 (settled_by c)) s.0 (eval f vars cur) x s.2
eval_fits (choice r c e f) h vars fit cur k x q =
    let p = bound (eval c vars cur) _ x q in
    let s = bound (truth_or boolean_expected p.0) _ x p.2 in
    chosen s.0 s.2 (λ z. eval_fits e h.1 vars fit cur k x z) (λ z. eval_fits f h.2 vars fit cur k x z)
  where
    chosen : (t : Bool) → (if t then eval e vars cur else eval f vars cur) ≡ ok x → (eval e vars cur ≡ ok x → Fitting x) → (eval f vars cur ≡ ok x → Fitting x) → Fitting x
    chosen true z a b = a z
    chosen false z a b = b z
eval_fits (all_list r e) h vars fit cur k x q =
    let p = bound (elements_of cur) _ x q in
    all_fits (map (λ y. eval e vars y) p.0) x p.2

pub yoke_fits : (y : Yoke) → ClosedYoke y → (vars : Variables) → FilledFit vars → (cur : Composite) → Fitting cur → (x : Composite) → eval_yoke y vars cur ≡ ok x → Fitting x
unfolding eval_yoke ClosedYoke
yoke_fits always h vars fit cur k x q = as_answer q fit_truth
yoke_fits (yoke e) h vars fit cur k x q = eval_fits e h.constants vars fit cur k x q

-- a Boolean that was asked for, and what it was
pub true_is : (n : ℕ) (x : Composite) (t : Bool) → Fitting x → truth_or n x ≡ ok t → x ≡ boolean_of t
unfolding truth_or as_truth
true_is n x t h e =
    let p = demanded (is_boolean x.body) n (ok (as_truth x.value)) t e in
    of_boolean x.body x.value (is_boolean_lem x.body p.0) h (same_answer p.1)
  where
    of_truth : {v : Value} → Fits v boolean → as_truth v ≡ t → composite boolean v ≡ boolean_of t
    of_truth fit_truth q = ap boolean_of q

    of_boolean : (b : Body) (v : Value) → b ≡ boolean → Fits v b → as_truth v ≡ t → composite b v ≡ boolean_of t
    of_boolean b v q f a = ap (λ (c : Body). composite c v) q ∙ of_truth (subst (λ (c : Body). Fits v c) q f) a
