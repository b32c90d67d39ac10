-- Expressions whose constants fit their bodies, and expressions that read no variable: those give the same in every store.
-- Assumes nothing.
use Rattle.std.specs.Prelude.{◌≡◌, refl, false, ◌||◌, map, if◌then◌else◌}
use Rattle.std.specs.Bool.{beq}
use Rattle.lingua.specs.Errors.{boolean_expected}
use Rattle.lingua.specs.Outcome.{ok, ◌>>=◌}
use Rattle.lingua.specs.Value.{Fits, Composite}
use Rattle.lingua.specs.Expression.{settled_by, Expression, constant, variable, current, unary, binary, lazy, choice, all_list, Yoke, always, yoke}
use Rattle.lingua.specs.Evaluation.{Variables, apply_unary, apply_binary, truth_or, boolean_of, all_true, elements_of, eval, eval_yoke}
use Rattle.lingua.specs.References.{reads_variable}
use Rattle.laws.specs.Outcomes.{or_left, or_right}
use Rattle.safety.specs.Answers.{true_is_false}

-- a composite whose value fits its body
abbrev pub Fitting : Composite → Type 0
Fitting x = Fits x.value x.body

-- every constant of an expression has the property
unfoldable pub ConstantsHave : (Composite → Type 0) → Expression → Type 0
ConstantsHave P (constant r c) = P c
ConstantsHave P (variable r n) = Unit {0}
ConstantsHave P (current r) = Unit {0}
ConstantsHave P (unary r o e) = ConstantsHave P e
ConstantsHave P (binary r o e f) = ConstantsHave P e × ConstantsHave P f
ConstantsHave P (lazy r k e f) = ConstantsHave P e × ConstantsHave P f
ConstantsHave P (choice r p e f) = ConstantsHave P p × ConstantsHave P e × ConstantsHave P f
ConstantsHave P (all_list r e) = ConstantsHave P e

pub constants_imply : {P Q : Composite → Type 0} → ((c : Composite) → P c → Q c) → (e : Expression) → ConstantsHave P e → ConstantsHave Q e
unfolding ConstantsHave
constants_imply f (constant r c) h = f c h
constants_imply f (variable r n) h = tt
constants_imply f (current r) h = tt
constants_imply f (unary r o e) h = constants_imply f e h
constants_imply f (binary r o e g) h = (constants_imply f e h.0, constants_imply f g h.1)
constants_imply f (lazy r k e g) h = (constants_imply f e h.0, constants_imply f g h.1)
constants_imply f (choice r p e g) h = (constants_imply f p h.0, constants_imply f e h.1, constants_imply f g h.2)
constants_imply f (all_list r e) h = constants_imply f e h

abbrev pub ConstantsFit : Expression → Type 0
ConstantsFit e = ConstantsHave Fitting e

-- what an accepted profile's yokes are: their constants fit, and they read no variable
pub record Closed (e : Expression) : Type 0 where
  pub constants : ConstantsFit e
  pub reads_none : reads_variable e ≡ false

unfoldable pub ClosedYoke : Yoke → Type 0
ClosedYoke always = Unit {0}
ClosedYoke (yoke e) = Closed e

-- without variables the store does not matter
pub eval_any_store : (e : Expression) → reads_variable e ≡ false → (vars others : Variables) (cur : Composite) → eval e vars cur ≡ eval e others cur
unfolding eval reads_variable
eval_any_store (constant r c) h vars others cur = refl
eval_any_store (variable r n) h vars others cur = true_is_false h
eval_any_store (current r) h vars others cur = refl
eval_any_store (unary r o e) h vars others cur =
    let p = eval_any_store e h vars others cur in
    λ i. p i >>= λ x. apply_unary o x
eval_any_store (binary r o e f) h vars others cur =
    let p = eval_any_store e (or_left (reads_variable e) (reads_variable f) h) vars others cur in
    let q = eval_any_store f (or_right (reads_variable e) (reads_variable f) h) vars others cur in
    λ i. p i >>= λ x. q i >>= λ y. apply_binary o x y
eval_any_store (lazy r k e f) h vars others cur =
    let p = eval_any_store e (or_left (reads_variable e) (reads_variable f) h) vars others cur in
    let q = eval_any_store f (or_right (reads_variable e) (reads_variable f) h) vars others cur in
    λ i. p i >>= λ x. truth_or boolean_expected x >>= λ t.
    if beq t (settled_by k) then ok (boolean_of t) else (q i >>= λ y. truth_or boolean_expected y >>= λ u. ok (boolean_of u))
eval_any_store (choice r c e f) h vars others cur =
    let g = or_right (reads_variable c) (reads_variable e || reads_variable f) h in
    let p = eval_any_store c (or_left (reads_variable c) (reads_variable e || reads_variable f) h) vars others cur in
    let q = eval_any_store e (or_left (reads_variable e) (reads_variable f) g) vars others cur in
    let s = eval_any_store f (or_right (reads_variable e) (reads_variable f) g) vars others cur in
    λ i. p i >>= λ x. truth_or boolean_expected x >>= λ t. if t then q i else s i
eval_any_store (all_list r e) h vars others cur =
    λ i. elements_of cur >>= λ xs. all_true (map (λ x. eval_any_store e h vars others x i) xs)

pub yoke_any_store : (y : Yoke) → ClosedYoke y → (vars others : Variables) (x : Composite) → eval_yoke y vars x ≡ eval_yoke y others x
unfolding eval_yoke ClosedYoke
yoke_any_store always h vars others x = refl
yoke_any_store (yoke e) h vars others x = eval_any_store e h.reads_none vars others x
