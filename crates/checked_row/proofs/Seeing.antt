-- What is seen of an all-list yoke's results, one more at a time, and what it gives in the end. Assumes nothing.
use mathlib.Core.Path.{◌≡◌, refl, sym, ap, ap₂, ◌∙◌, subst}
use mathlib.Core.Bool.{Bool, true, false, ◌&&◌, not, and-true, and-false}
use mathlib.Core.List.{List, [], ◌∷◌, ◌++◌}
use Prim.Native.Nat.{ℕ}
use lib.Dec.{eqb}
use lib.ListN.{get_or}
use lib.IntN.{ℤ, pos}
use mir.Syntax.{w64}
use mir.Val.{of_z}
use Rattle.std.specs.Prelude.{Ok, Err}
use Rattle.lingua.specs.declared.errors.Error.{Error}
use Rattle.lingua.specs.Faults.{error_number}
use Rattle.lingua.specs.Errors.{yoke_expected}
use Rattle.lingua.specs.Outcome.{ok, fail, Result as Outcome, require, all_answers, ◌>>=◌, ◌>>◌}
use Rattle.lingua.specs.Body.{Body, is_boolean}
use Rattle.lingua.specs.Value.{as_truth, all_of, Composite}
use Rattle.lingua.specs.Evaluation.{all_true, boolean_of}
use Rattle.laws.specs.Outcomes.{false_is_true}
use Rattle.body.specs.Encode.{Holds}
use Rattle.cells.proofs.Walking.{more, answers_snoc, all_snoc}
use Rattle.checked_row.specs.declared.answer.Evaluated.{Evaluated}
use Rattle.checked_row.specs.declared.tally.Tally.{Tally}
use Rattle.checked_row.specs.Meaning.{Answers, AllSeen, Sees}
use Rattle.checked_row.proofs.Giving.{truth_read}

-- ---- a tally, or an error
pub sees_tally : {s : Tally} {rs : List (Outcome Composite)} → AllSeen s rs → Sees (Ok s) rs
sees_tally {s} {rs} a = record {
  answers = λ t z. let k : s ≡ t = cc in subst (λ (u : Tally). AllSeen u rs) k a;
  error = λ e z. absurd (let k : ⊥ = cc in k);
}

pub sees_error : {rs : List (Outcome Composite)} (e : Error) → all_answers rs ≡ fail (error_number e) → Sees (Err e) rs
sees_error e q = record {
  answers = λ t z. absurd (let k : ⊥ = cc in k);
  error = λ f z. let k : e ≡ f = cc in q ∙ ap {B = Outcome (List Composite)} (λ i. fail (error_number i)) k;
}

-- ---- nothing seen yet
pub sees_none : Sees (Ok (record { booleans = true; all = true })) []
unfolding all_answers all_of
sees_none = sees_tally (record { values = []; are = refl; booleans = refl; all = λ k. refl })

-- ---- one result more
-- an error before it
pub more_failed : (rs : List (Outcome Composite)) (o : Outcome Composite) (n : ℕ) → all_answers rs ≡ fail n → all_answers (rs ++ (o ∷ [])) ≡ fail n
more_failed rs o n e = answers_snoc rs o ∙ ap (λ (m : Outcome (List Composite)). more m o) e

module _ {s : Tally} {rs : List (Outcome Composite)} {o : Outcome Composite} (a : AllSeen s rs) where
  -- its own
  pub more_error : (n : ℕ) → o ≡ fail n → all_answers (rs ++ (o ∷ [])) ≡ fail n
  more_error n e =
      answers_snoc rs o
      ∙ ap (λ (m : Outcome (List Composite)). more m o) a.are
      ∙ ap (λ (p : Outcome Composite). p >>= λ y. ok (a.values ++ (y ∷ []))) e

  -- the values with this one
  module _ {x : Evaluated} {stack : List ℤ} (b : Answers x stack o) where
    one_more : all_answers (rs ++ (o ∷ [])) ≡ ok (a.values ++ (b.value ∷ []))
    one_more =
        answers_snoc rs o
        ∙ ap (λ (m : Outcome (List Composite)). more m o) a.are
        ∙ ap (λ (p : Outcome Composite). p >>= λ y. ok (a.values ++ (y ∷ []))) b.is

    module _ (t : Bool) (k : (c : Body) → Holds x.body c → t ≡ is_boolean c) where
      pub sees_other : t ≡ false → AllSeen (record { booleans = false; all = false }) (rs ++ (o ∷ []))
      sees_other q =
          let n : is_boolean b.value.body ≡ false = sym (k b.value.body b.holds) ∙ q in
          record {
            values = a.values ++ (b.value ∷ []);
            are = one_more;
            booleans = sym (all_snoc (λ y. is_boolean y.body) a.values b.value ∙ ap (λ (v : Bool). all_of (λ y. is_boolean y.body) a.values && v) n ∙ and-false (all_of (λ y. is_boolean y.body) a.values));
            all = λ v. false_is_true v;
          }

      -- where all were true, or not
      pub sees_truth : (all first : Bool) → s.all ≡ first → t ≡ true → all ≡ (first && not (eqb (of_z w64 (get_or stack 0 (pos 0))) 0)) → AllSeen (record { booleans = s.booleans; all = all }) (rs ++ (o ∷ []))
      sees_truth all first j q i =
          let n : is_boolean b.value.body ≡ true = sym (k b.value.body b.holds) ∙ q in
          record {
            values = a.values ++ (b.value ∷ []);
            are = one_more;
            booleans = a.booleans ∙ sym (all_snoc (λ y. is_boolean y.body) a.values b.value ∙ ap (λ (v : Bool). all_of (λ y. is_boolean y.body) a.values && v) n ∙ and-true (all_of (λ y. is_boolean y.body) a.values));
            all = λ l. i ∙ ap (λ (c : Bool). c && not (eqb (of_z w64 (get_or stack 0 (pos 0))) 0)) (sym j) ∙ ap₂ (λ (c d : Bool). c && d) (a.all l) (sym (truth_read n b.lies)) ∙ sym (all_snoc (λ y. as_truth y.value) a.values b.value);
          }

-- ---- in the end
pub seen_error : (rs : List (Outcome Composite)) (n : ℕ) → all_answers rs ≡ fail n → all_true rs ≡ fail n
unfolding all_true
seen_error rs n e = ap (λ (m : Outcome (List Composite)). m >>= λ xs. require (all_of (λ x. is_boolean x.body) xs) yoke_expected >> ok (boolean_of (all_of (λ x. as_truth x.value) xs))) e

module _ {s : Tally} {rs : List (Outcome Composite)} (a : AllSeen s rs) where
  seen_values : all_true rs ≡ (require s.booleans yoke_expected >> ok (boolean_of (all_of (λ x. as_truth x.value) a.values)))
  unfolding all_true
  seen_values =
      ap (λ (m : Outcome (List Composite)). m >>= λ xs. require (all_of (λ x. is_boolean x.body) xs) yoke_expected >> ok (boolean_of (all_of (λ x. as_truth x.value) xs))) a.are
      ∙ ap (λ (t : Bool). require t yoke_expected >> ok (boolean_of (all_of (λ x. as_truth x.value) a.values))) (sym a.booleans)

  pub seen_other : s.booleans ≡ false → all_true rs ≡ fail yoke_expected
  seen_other f = seen_values ∙ ap (λ (t : Bool). require t yoke_expected >> ok (boolean_of (all_of (λ x. as_truth x.value) a.values))) f

  pub seen_all : s.booleans ≡ true → ok (boolean_of s.all) ≡ all_true rs
  seen_all f =
      ap {B = Outcome Composite} (λ (t : Bool). ok (boolean_of t)) (a.all f)
      ∙ sym (seen_values ∙ ap (λ (t : Bool). require t yoke_expected >> ok (boolean_of (all_of (λ x. as_truth x.value) a.values))) f)
