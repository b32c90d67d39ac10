-- Yokes, tests, assignments and yoke changes without bodies: in a store whose variables are kept, under yokes that the type check passed,
-- they are what the values' half alone gives. Assumes nothing.
use Rattle.std.specs.Prelude.{◌≡◌, Bool, false, ◌&&◌, List, map, ℕ, set}
use Rattle.std.proofs.Math.Path.{refl, sym, ap}
use Rattle.std.proofs.Common.{◌∙◌, subst}
use Rattle.std.proofs.Math.Bool.{true}
use Rattle.std.proofs.Math.Option.{Option, some, none}
use Rattle.lingua.specs.Errors.{yoke_not_satisfied, boolean_expected, no_coherence, yoke_expected}
use Rattle.lingua.specs.Outcome.{ok, fail, Result, ◌>>=◌, ◌>>◌, require}
use Rattle.lingua.specs.Body.{Body, boolean, coherent, is_boolean}
use Rattle.lingua.specs.Value.{Value, truth, as_truth, as_whole, Composite}
use Rattle.lingua.specs.Expression.{Expression, Yoke, always, yoke}
use Rattle.lingua.specs.Evaluation.{eval_yoke, eval_test, truth_or, no_current}
use Rattle.lingua.specs.Store.{Variable, variable_at, present_body, contents, with_content, with_yoke, within, admitted, assigned, yoke_holds, yoke_changed}
use Rattle.lingua.specs.Run.{Declaration, unfilled}
use Rattle.lingua.specs.Erased.{value_in, values_of, eval_erased, yoke_erased, test_erased, admitted_erased, yoke_holds_erased}
use Rattle.lingua.specs.Typing.{Entry, no_current_body, bodies_of}
use Rattle.laws.specs.Coherent.{coherent_same}
use Rattle.safety.specs.Stored.{StoreKept}
use Rattle.safety.specs.Derivation.{Derived, DerivedYoke}
use Rattle.safety.specs.TypeSound.{VariablesFit}
use Rattle.safety.specs.Programs.{YokesDerived, present_declared}
use Rattle.safety.specs.Erasure.{with_body, eval_erased_lem}

-- ---- the theorems
module _ (H : Entry → Type 0) (ds : List Declaration) (vs : List Variable) (kept : StoreKept (map unfilled ds) vs) (fit : VariablesFit (bodies_of ds) (contents vs)) where
  pub yoke_erased_lem : (y : Yoke) (x : Composite) → DerivedYoke H (bodies_of ds) y x.body → eval_yoke y (contents vs) x ≡ with_body boolean (yoke_erased y (values_of (contents vs)) x.value)
  unfolding eval_yoke yoke_erased DerivedYoke
  yoke_erased_lem always x d = refl
  yoke_erased_lem (yoke e) x d = eval_erased_lem (bodies_of ds) (contents vs) fit e x d

  pub test_erased_lem : (e : Expression) → Derived H (bodies_of ds) e no_current_body boolean → eval_test e (contents vs) ≡ test_erased e (values_of (contents vs))
  unfolding eval_test test_erased truth_or is_boolean
  test_erased_lem e d =
      ap (λ (o : Result Composite). o >>= λ x. truth_or boolean_expected x) (eval_erased_lem (bodies_of ds) (contents vs) fit e no_current d)
      ∙ go (eval_erased e (values_of (contents vs)) (truth false))
    where
      go : (p : Result Value) → (with_body boolean p >>= λ x. truth_or boolean_expected x) ≡ (p >>= λ v. ok (as_truth v))
      go (ok v) = refl
      go (fail n) = refl

  admitted_erased_lem : (v : Variable) (x : Composite) → present_body v ≡ x.body → DerivedYoke H (bodies_of ds) v.yoke x.body
      → admitted vs v x ≡ admitted_erased v.yoke v.limit (values_of (contents vs)) x.value
  unfolding admitted admitted_erased truth_or is_boolean
  admitted_erased_lem v x e d =
      ap (λ (o : Result Composite). o >>= λ y. require (coherent (present_body v) x.body) no_coherence >> (truth_or yoke_expected y >>= λ t. require (t && within v.limit (as_whole x.value)) yoke_not_satisfied)) (yoke_erased_lem v.yoke x d)
      ∙ ap (λ (s : Bool). with_body boolean (yoke_erased v.yoke (values_of (contents vs)) x.value) >>= λ y. require s no_coherence >> (truth_or yoke_expected y >>= λ t. require (t && within v.limit (as_whole x.value)) yoke_not_satisfied))
      (coherent_same (present_body v) x.body e)
      ∙ go (yoke_erased v.yoke (values_of (contents vs)) x.value)
    where
      go : (p : Result Value) → (with_body boolean p >>= λ y. require true no_coherence >> (truth_or yoke_expected y >>= λ t. require (t && within v.limit (as_whole x.value)) yoke_not_satisfied))
          ≡ (p >>= λ t. require (as_truth t && within v.limit (as_whole x.value)) yoke_not_satisfied)
      go (ok t) = refl
      go (fail n) = refl

  -- a value of the declared body
  pub assigned_erased_lem : YokesDerived H (bodies_of ds) vs → (n : ℕ) (x : Composite) → x.body ≡ bodies_of ds n
      → assigned vs n x ≡ (admitted_erased (variable_at vs n).yoke (variable_at vs n).limit (values_of (contents vs)) x.value >> ok (set vs n (with_content (variable_at vs n) x)))
  unfolding assigned YokesDerived
  assigned_erased_lem ys n x e =
      ap (λ (o : Result (Unit {0})). o >> ok (set vs n (with_content (variable_at vs n) x)))
      (admitted_erased_lem (variable_at vs n) x (present_declared ds vs kept fit n ∙ sym e) (subst (λ (b : Body). DerivedYoke H (bodies_of ds) (variable_at vs n).yoke b) (sym e) (ys n)))

  pub changed_erased_lem : (n : ℕ) (y : Yoke) → DerivedYoke H (bodies_of ds) y (bodies_of ds n)
      → yoke_changed vs n y ≡ (yoke_holds_erased y (values_of (contents vs)) (values_of (contents vs) n) >> ok (set vs n (with_yoke (variable_at vs n) y)))
  unfolding yoke_changed
  changed_erased_lem n y d = ap (λ (o : Result (Unit {0})). o >> ok (set vs n (with_yoke (variable_at vs n) y))) (holds (contents vs n) refl)
    where
      holds : (c : Option Composite) → contents vs n ≡ c → yoke_holds vs y c ≡ yoke_holds_erased y (values_of (contents vs)) (value_in c)
      holds none e = unfold yoke_holds yoke_holds_erased in refl
      holds (some x) e =
          unfold yoke_holds yoke_holds_erased in
          (ap (λ (o : Result Composite). o >>= λ r. truth_or yoke_expected r >>= λ t. require t yoke_not_satisfied)
          (yoke_erased_lem y x (subst (λ (b : Body). DerivedYoke H (bodies_of ds) y b) (sym (variable_body x e)) d))
          ∙ decided (yoke_erased y (values_of (contents vs)) x.value))
        where
          variable_body : (z : Composite) → contents vs n ≡ some z → z.body ≡ bodies_of ds n
          variable_body z q = unfold VariablesFit in (fit n z q).0

          decided : (p : Result Value) → (with_body boolean p >>= λ r. truth_or yoke_expected r >>= λ t. require t yoke_not_satisfied) ≡ (p >>= λ t. require (as_truth t) yoke_not_satisfied)
          decided (ok t) = unfold truth_or is_boolean in refl
          decided (fail m) = refl
