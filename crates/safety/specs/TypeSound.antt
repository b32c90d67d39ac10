-- The type check is sound for expressions: what it passes gives a value that fits the body it found, or a run error, and meets no type
-- error, on any store whose filled variables fit their declared bodies and any current value that fits: `derived_sound`, `check_sound`.
-- Assumes nothing.
use Rattle.std.specs.Prelude.{◌≡◌, Bool, true, false, not, ℕ}
use Rattle.std.proofs.Math.Path.{refl, ap}
use Rattle.std.proofs.Common.{sym, ◌∙◌, subst}
use Rattle.std.specs.Bool.{beq}
use mathlib.Core.List.{List, ◌∷◌, ◌++◌, map}
use Rattle.std.proofs.Math.Option.{Option, some, none}
use Rattle.lingua.specs.Errors.{is_run_error, boolean_expected, list_expected, yoke_expected, not_filled}
use Rattle.lingua.specs.Outcome.{ok, fail, Result, ◌>>=◌, ◌>>◌, require, or_fail, if◌then◌else◌, all_answers}
use Rattle.lingua.specs.Body.{Body, boolean, is_boolean, element_body}
use Rattle.lingua.specs.Value.{Values, Fits, fit_truth, AllFit, fit_none, fit_item, as_truth, as_items, value_list, all_of, Composite, composite}
use Rattle.lingua.specs.Operation.{unary_body, binary_body}
use Rattle.lingua.specs.Expression.{settled_by, Expression, constant, variable, current, unary, binary, lazy, choice, all_list}
use Rattle.lingua.specs.Evaluation.{Variables, apply_unary, truth_or, boolean_of, all_true, elements_of, eval}
use Rattle.lingua.specs.Typing.{Entry, Typed, Bodies, check, joined}
use Rattle.lingua.specs.Meets.{error_in, on_answer, on_true, not_boolean, met}
use Rattle.laws.specs.Outcomes.{and_both, is_list}
use Rattle.laws.specs.Sound.{fit_list}
use Rattle.laws.specs.Classes.{unfilled_runs}
use Rattle.safety.specs.Every.{Every, every_none, every_more, every_append, every_map, every_implies, every_joined}
use Rattle.safety.specs.Constants.{Fitting, ConstantsHave, ConstantsFit}
use Rattle.safety.specs.Derivation.{anything, Derived, of_constant, of_variable, of_current, of_unary, of_binary, of_lazy, of_choice, of_all_list, check_derives}
use Rattle.safety.specs.RunErrors.{RunErrors, Good, gives, stops, good_as, good_then, answer_met, error_met, truth_then, truth_met, truth_answer_met, unary_good, binary_good, binary_met_lem}

-- every filled variable fits its declared body
unfoldable pub VariablesFit : Bodies → Variables → Type 0
VariablesFit vars st = (n : ℕ) (x : Composite) → st n ≡ some x → (x.body ≡ vars n) × Fitting x

-- what an expression of the body gives and meets
pub record Safe (b : Body) (r : Result Composite) (ns : List ℕ) : Type 0 where
  pub good : Good b r
  pub meets : RunErrors ns

safe_as : {b c : Body} {r : Result Composite} {ns : List ℕ} → b ≡ c → Safe b r ns → Safe c r ns
safe_as e s = record { good = good_as e s.good; meets = s.meets }

-- ---- lists
elements_fit : {vs : Values} {b : Body} → AllFit vs b → Every (λ v. Fits v b) (value_list vs)
unfolding value_list
elements_fit fit_none = every_none
elements_fit (fit_item h hs) = every_more h (elements_fit hs)

-- a list's elements, each of the element's body
elements_are : (cur : Composite) (b : Body) → element_body cur.body ≡ some b → elements_of cur ≡ ok (map (λ v. composite b v) (value_list (as_items cur.value)))
unfolding elements_of
elements_are cur b e = ap (λ (m : Option Body). or_fail m list_expected >>= λ c. ok (map (λ v. composite c v) (value_list (as_items cur.value)))) e

elements_fitting : (cur : Composite) (b : Body) → element_body cur.body ≡ some b → Fitting cur
    → Every (λ x. (x.body ≡ b) × Fitting x) (map (λ v. composite b v) (value_list (as_items cur.value)))
elements_fitting cur b e h =
    every_map (λ v. composite b v) (λ v k. (refl, k)) (elements_fit (fit_list (subst (λ (c : Body). Fits cur.value c) (is_list cur.body b e) h)))

-- the answers of outcomes that are Boolean, all of them, or a run error
data Booleans : Result (List Composite) → Type 0 where
  all_given : {xs : List Composite} → all_of (λ x. is_boolean x.body) xs ≡ true → Booleans (ok xs)
  one_stops : {n : ℕ} → is_run_error n ≡ true → Booleans (fail n)

is_boolean_body : (x : Composite) → x.body ≡ boolean → is_boolean x.body ≡ true
unfolding is_boolean
is_boolean_body x e = ap is_boolean e

booleans : {rs : List (Result Composite)} → Every (Good boolean) rs → Booleans (all_answers rs)
unfolding all_answers all_of
booleans every_none = all_given refl
booleans (every_more (stops l) gs) = one_stops l
booleans (every_more {xs = rs} (gives {x} e h) gs) = go (all_answers rs) (booleans gs)
  where
    go : (o : Result (List Composite)) → Booleans o → Booleans (o >>= λ ys. ok (x ∷ ys))
    go (ok ys) (all_given q) = all_given (and_both (is_boolean x.body) (all_of (λ y. is_boolean y.body) ys) (is_boolean_body x e) q)
    go (fail n) (one_stops l) = one_stops l

all_good : (rs : List (Result Composite)) → Every (Good boolean) rs → Good boolean (all_true rs)
unfolding all_true
all_good rs gs = go (all_answers rs) (booleans gs)
  where
    go : (o : Result (List Composite)) → Booleans o
        → Good boolean (o >>= λ xs. require (all_of (λ x. is_boolean x.body) xs) yoke_expected >> ok (boolean_of (all_of (λ x. as_truth x.value) xs)))
    go (ok xs) (all_given q) =
        subst (λ (t : Bool). Good boolean (require t yoke_expected >> ok (boolean_of (all_of (λ x. as_truth x.value) xs)))) (sym q) (gives refl fit_truth)
    go (fail n) (one_stops l) = stops l

not_boolean_met : {rs : List (Result Composite)} → Every (Good boolean) rs → RunErrors (not_boolean rs)
unfolding not_boolean
not_boolean_met every_none = every_none
not_boolean_met (every_more g gs) = every_append (answer_met g (λ x e h. truth_met yoke_expected x e)) (not_boolean_met gs)

module _ (vars : Bodies) (st : Variables) (fit : VariablesFit vars st) where
  variable_good : (n : ℕ) → Good (vars n) (or_fail (st n) not_filled)
  unfolding VariablesFit
  variable_good n = go (st n) refl
    where
      go : (m : Option Composite) → st n ≡ m → Good (vars n) (or_fail m not_filled)
      go (some x) e = let p = fit n x e in gives p.0 p.1
      go none e = stops unfilled_runs

  -- and, or: the second operand only where the first does not settle it
  lazy_good : (s t : Bool) (r : Result Composite) → Good boolean r
      → Good boolean (if s then ok (boolean_of t) else (r >>= λ y. truth_or boolean_expected y >>= λ u. ok (boolean_of u)))
  lazy_good true t r g = gives refl fit_truth
  lazy_good false t r g =
      good_then g (λ y e h. truth_then (Good boolean) boolean_expected y (λ u. ok (boolean_of u)) e (λ u. gives refl fit_truth))

  on_true_lem : (s : Bool) (ns : List ℕ) → RunErrors ns → RunErrors (on_true s ns)
  on_true_lem true ns h = h
  on_true_lem false ns h = every_none

  chosen_good : (t : Bool) (b : Body) (p q : Result Composite) → Good b p → Good b q → Good b (if t then p else q)
  chosen_good true b p q g h = g
  chosen_good false b p q g h = h

  pub derived_sound : {H : Entry → Type 0} (e : Expression) → ConstantsFit e → (cur : Composite) → Fitting cur → {b : Body} → Derived H vars e cur.body b → Safe b (eval e st cur) (met e st cur)
  unfolding ConstantsHave eval met
  derived_sound (constant r c) h cur k (of_constant q x) = record { good = gives q h; meets = every_none }
  derived_sound (variable r n) h cur k (of_variable q x) = let g = good_as q (variable_good n) in record { good = g; meets = error_met g }
  derived_sound (current r) h cur k (of_current q x) = record { good = gives q k; meets = every_none }
  derived_sound (unary r o e) h cur k {b} (of_unary {c = c} d q x) =
      let s = derived_sound e h cur k d in
      let g : (y : Composite) → y.body ≡ c → Fitting y → Good b (apply_unary o y) = λ y u f. unary_good o y b f (ap (λ (a : Body). unary_body o a) u ∙ q) in
      record { good = good_then s.good g; meets = every_append s.meets (answer_met s.good (λ y u f. error_met (g y u f))) }
  derived_sound (binary r o e f) h cur k {b} (of_binary {c = c} d g q x) =
      let s = derived_sound e h.0 cur k d in
      let t = derived_sound f h.1 cur k g in
      record { good = good_then s.good (λ u p m. good_then t.good (λ w v n. binary_good o u w b m n (ap (λ (a : Body). binary_body o a w.body) p ∙ ap (λ (a : Body). binary_body o c a) v ∙ q))); meets = every_append (every_append s.meets t.meets) (binary_met_lem o b s.good t.good q) }
  derived_sound (lazy r c e f) h cur k (of_lazy d g q x) =
      let s = derived_sound e h.0 cur k d in
      let t = derived_sound f h.1 cur k g in
      safe_as q (record { good = good_then s.good (λ z u i. truth_then (Good boolean) boolean_expected z _ u (λ v. lazy_good (beq v (settled_by c)) v (eval f st cur) t.good)); meets = every_append s.meets (answer_met s.good (λ z u i. every_append (truth_met boolean_expected z u) (truth_answer_met boolean_expected z _ u (λ v. on_true_lem (not (beq v (settled_by c))) _ (every_append t.meets (answer_met t.good (λ w p j. truth_met boolean_expected w p))))))) })
  derived_sound (choice r c e f) h cur k {b} (of_choice p d g x) =
      let a = derived_sound c h.0 cur k p in
      let s = derived_sound e h.1 cur k d in
      let t = derived_sound f h.2 cur k g in
      record { good = good_then a.good (λ z u i. truth_then (Good b) boolean_expected z _ u (λ v. chosen_good v b (eval e st cur) (eval f st cur) s.good t.good)); meets = every_append a.meets (answer_met a.good (λ z u i. every_append (truth_met boolean_expected z u) (truth_answer_met boolean_expected z _ u (λ v. every_append (on_true_lem v _ s.meets) (on_true_lem (not v) _ t.meets))))) }
  derived_sound {H} (all_list r e) h cur k (of_all_list {c = c} is d q x) =
      let elements : List Composite = map (λ v. composite c v) (value_list (as_items cur.value)) in
      let each : Every (λ w. Safe boolean (eval e st w) (met e st w)) elements =
      every_implies (λ w p. derived_sound e h w p.1 (subst (λ (a : Body). Derived H vars e a boolean) (sym p.0) d)) (elements_fitting cur c is k) in
      let goods = every_map (λ w. eval e st w) (λ w s. s.good) each in
      safe_as q
      (subst (λ (o : Result (List Composite)). Safe boolean (o >>= λ ws. all_true (map (λ w. eval e st w) ws)) (error_in o ++ on_answer o (λ ws. joined (map (λ w. met e st w) ws) ++ not_boolean (map (λ w. eval e st w) ws))))
      (sym (elements_are cur c is))
      (record { good = all_good (map (λ w. eval e st w) elements) goods; meets = every_append (every_joined (every_map (λ w. met e st w) (λ w s. s.meets) each)) (not_boolean_met goods) }))

  pub check_sound : (e : Expression) → ConstantsFit e → (cur : Composite) → Fitting cur → (t : Typed) → check e vars (some cur.body) ≡ ok t
      → Safe t.body (eval e st cur) (met e st cur)
  check_sound e h cur k t q =
      derived_sound e h cur k (check_derives vars e cur.body t q (anything t.entries))
