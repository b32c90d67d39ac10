-- The two classes of error numbers: no number is in both, and those of either are the numbers from 1 on below an end. Assumes nothing.
use Rattle.std.specs.Prelude.{◌≡◌, refl, Bool, true, false, not, ◌&&◌, ◌||◌, List, [], ◌∷◌, ℕ, zero, suc, ◌<◌, eqb, leb, ltb}
use Rattle.std.proofs.Math.Path.{sym}
use Rattle.std.proofs.Common.{ap, ◌∙◌, subst, ⊎_elim, arith, eqb-true, ltb-true, ne_eqb, le-leb, lt-ltb, le-ltb}
use Rattle.std.proofs.Math.Bool.{and-true, and-false}
use Rattle.std.proofs.lemmas.Bool.{not-true}
use Rattle.lingua.specs.Errors.{overflow, division_by_zero, yoke_not_satisfied, list_empty, list_full, word_too_long, not_filled, too_deep, run_errors, type_errors, is_among, is_run_error, is_type_error, is_error, error_numbers}
use Rattle.lingua.specs.Value.{all_of}
use Rattle.lingua.specs.Format.{every_below}
use Rattle.laws.specs.Outcomes.{false_is_true, and_left, and_right}
use Rattle.laws.specs.Tests.{not_true_false, below_or, every_at}

-- what is so of all numbers of a list is so of each among them
among : (p : ℕ → Bool) (ms : List ℕ) (n : ℕ) → all_of p ms ≡ true → is_among ms n ≡ true → p n ≡ true
unfolding is_among all_of
among p [] n a e = false_is_true e
among p (m ∷ ms) n a e = by (eqb n m) (eqb-true n m) e (among p ms n (and_right (p m) (all_of p ms) a))
  where
    by : (t : Bool) → (t ≡ true → n ≡ m) → (t || is_among ms n) ≡ true → (is_among ms n ≡ true → p n ≡ true) → p n ≡ true
    by true q e later = subst (λ (k : ℕ). p k ≡ true) (sym (q refl)) (and_left (p m) (all_of p ms) a)
    by false q e later = later e

-- ---- the run errors by name
pub overflow_runs : is_run_error overflow ≡ true
unfolding is_run_error is_among
overflow_runs = refl

pub division_runs : is_run_error division_by_zero ≡ true
unfolding is_run_error is_among
division_runs = refl

pub yoke_runs : is_run_error yoke_not_satisfied ≡ true
unfolding is_run_error is_among
yoke_runs = refl

pub empty_runs : is_run_error list_empty ≡ true
unfolding is_run_error is_among
empty_runs = refl

pub full_runs : is_run_error list_full ≡ true
unfolding is_run_error is_among
full_runs = refl

pub long_runs : is_run_error word_too_long ≡ true
unfolding is_run_error is_among
long_runs = refl

pub unfilled_runs : is_run_error not_filled ≡ true
unfolding is_run_error is_among
unfilled_runs = refl

pub deep_runs : is_run_error too_deep ≡ true
unfolding is_run_error is_among
deep_runs = refl

-- ---- no number is in both
pub run_no_type_error : (n : ℕ) → is_run_error n ≡ true → is_type_error n ≡ false
unfolding is_run_error is_type_error is_among all_of
run_no_type_error n e = not-true (is_type_error n) (among (λ m. not (is_type_error m)) run_errors n refl e)

-- ---- the numbers from 1 on
error_below : (n : ℕ) → is_error n ≡ true → n < error_numbers
unfolding is_error is_run_error is_type_error is_among all_of
error_below n e = ltb-true n error_numbers (by (is_run_error n) refl e)
  where
    by : (t : Bool) → is_run_error n ≡ t → (t || is_type_error n) ≡ true → ltb n error_numbers ≡ true
    by true q e = among (λ m. ltb m error_numbers) run_errors n refl q
    by false q e = among (λ m. ltb m error_numbers) type_errors n refl e

error_from : (n : ℕ) → n < error_numbers → is_error n ≡ leb 1 n
unfolding is_error is_run_error is_type_error is_among
error_from zero l = refl
error_from (suc n) l =
    sym (ap (λ (t : Bool). t || is_error (suc n)) (ne_eqb (suc n) 0 (λ e. omega arith)))
    ∙ every_at error_numbers (λ k. eqb k 0 || is_error k) (suc n) (unfold every_below in refl) l
    ∙ sym (le-leb 1 (suc n) (omega arith))

pub error_is : (n : ℕ) → is_error n ≡ (leb 1 n && ltb n error_numbers)
error_is n =
    ⊎_elim
    (λ l. error_from n l ∙ sym (ap (λ (t : Bool). leb 1 n && t) (lt-ltb n error_numbers l) ∙ and-true (leb 1 n)))
    (λ h. not_true_false (is_error n) (λ e. let l = error_below n e in omega arith) ∙ sym (ap (λ (t : Bool). leb 1 n && t) (le-ltb n error_numbers h) ∙ and-false (leb 1 n)))
    (below_or n error_numbers)
