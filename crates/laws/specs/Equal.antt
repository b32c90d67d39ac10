-- `same_value` tells whether two values of one simple body are equal. Assumes nothing.
use Rattle.std.specs.Prelude.{◌≡◌, refl, Bool, true, false, List, [], ◌∷◌, ℕ, eqb, ℤ, pos, negsuc}
use Rattle.std.proofs.Common.{ap, ap₂, eqb-true, eq-eqb}
use Rattle.std.specs.Bool.{beq}
use Rattle.lingua.specs.Body.{Body, is_simple, is_boolean, is_number, is_word, is_hundredths}
use Rattle.lingua.specs.Value.{Value, truth, whole, count, text, Fits, fit_truth, fit_whole, fit_hundredths, fit_text, fit_items, fit_fields, as_truth, as_whole, as_text}
use Rattle.lingua.specs.Compute.{same_number, same_text, same_value}
use Rattle.laws.specs.Outcomes.{false_is_true, and_left, and_right, and_both}

pub same_number_lem : (x y : ℤ) → same_number x y ≡ true → x ≡ y
unfolding same_number
same_number_lem (pos m) (pos n) e = ap (λ (k : ℕ). pos k) (eqb-true m n e)
same_number_lem (pos m) (negsuc n) e = false_is_true e
same_number_lem (negsuc m) (pos n) e = false_is_true e
same_number_lem (negsuc m) (negsuc n) e = ap (λ (k : ℕ). negsuc k) (eqb-true m n e)

pub number_same : (x : ℤ) → same_number x x ≡ true
unfolding same_number
number_same (pos m) = eq-eqb m m refl
number_same (negsuc m) = eq-eqb m m refl

pub same_text_lem : (cs ds : List ℕ) → same_text cs ds ≡ true → cs ≡ ds
unfolding same_text
same_text_lem [] [] e = refl
same_text_lem [] (d ∷ ds) e = false_is_true e
same_text_lem (c ∷ cs) [] e = false_is_true e
same_text_lem (c ∷ cs) (d ∷ ds) e =
    ap₂ (λ (x : ℕ) (xs : List ℕ). x ∷ xs) (eqb-true c d (and_left (eqb c d) (same_text cs ds) e)) (same_text_lem cs ds (and_right (eqb c d) (same_text cs ds) e))

pub text_same : (cs : List ℕ) → same_text cs cs ≡ true
unfolding same_text
text_same [] = refl
text_same (c ∷ cs) = and_both (eqb c c) (same_text cs cs) (eq-eqb c c refl) (text_same cs)

same_truth : (t u : Bool) → beq t u ≡ true → t ≡ u
same_truth true true e = refl
same_truth true false e = false_is_true e
same_truth false true e = false_is_true e
same_truth false false e = refl

truth_same : (t : Bool) → beq t t ≡ true
truth_same true = refl
truth_same false = refl

pub same_value_lem : {x y : Value} {b : Body} → is_simple b ≡ true → Fits x b → Fits y b → same_value x y ≡ true → x ≡ y
unfolding is_simple is_boolean is_number is_word is_hundredths same_value as_truth as_whole as_text
same_value_lem s (fit_truth {t}) (fit_truth {t = u}) e = ap (λ (v : Bool). truth v) (same_truth t u e)
same_value_lem s (fit_whole {z} h) (fit_whole {z = w} k) e = ap (λ (v : ℤ). whole v) (same_number_lem z w e)
same_value_lem s (fit_hundredths {z} h) (fit_hundredths {z = w} k) e = ap (λ (v : ℤ). count v) (same_number_lem z w e)
same_value_lem s (fit_text {cs} h) (fit_text {cs = ds} k) e = ap (λ (v : List ℕ). text v) (same_text_lem cs ds e)
same_value_lem s (fit_items le hs) y e = false_is_true s
same_value_lem s (fit_fields hs) y e = false_is_true s

pub value_same : {x : Value} {b : Body} → is_simple b ≡ true → Fits x b → same_value x x ≡ true
unfolding is_simple is_boolean is_number is_word is_hundredths same_value as_truth as_whole as_text
value_same s (fit_truth {t}) = truth_same t
value_same s (fit_whole {z} h) = number_same z
value_same s (fit_hundredths {z} h) = number_same z
value_same s (fit_text {cs} h) = text_same cs
value_same s (fit_items le hs) = false_is_true s
value_same s (fit_fields hs) = false_is_true s
