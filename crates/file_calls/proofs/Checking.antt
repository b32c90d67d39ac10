-- The ways in which the public call ends: refused, or by what the whole check concludes. Assumes nothing.
use mathlib.Core.Path.{◌≡◌, refl, sym, ap, ◌∙◌, subst}
use mathlib.Core.Bool.{true, not}
use mathlib.Core.List.{List}
use Prim.Native.Nat.{ℕ}
use native.Mathlib.Nat.{suc-pred-eq_of_ne-zero}
use lib.Dec.{eqb}
use lib.ListN.{length, take}
use borrow.Author.Tests.{eq-eqb, ne_eqb}
use Rattle.lingua.specs.Numbers.{layout_length}
use Rattle.lingua.specs.Errors.{bad_buffer}
use Rattle.lingua.specs.Value.{all_of}
use Rattle.lingua.specs.Format.{rows_of}
use Rattle.std.specs.Prelude.{Result, Ok, Err}
use Rattle.lingua.specs.declared.errors.Refusal.{Refusal}
use Rattle.lingua.specs.declared.errors.Refusal.TheVariants.{BadBuffer}
use Rattle.lingua.specs.declared.errors.ErrorAt.{ErrorAt}
use Rattle.lingua.specs.Faults.{refusal_number}
use Rattle.lingua.specs.Refusal.{lowest, place_in, rank, file_rules, row_rules, whole_file_rules, pair_rules, type_check_refusal}
use Rattle.lingua.specs.Trees.{profile_of}
use Rattle.lingua.specs.Typing.{check_profile}
use Rattle.lingua.specs.Answers.{type_check_meaning}
use Rattle.lingua.specs.Calls.{type_check_unless, type_check_call, type_check_result}
use Rattle.laws.specs.Refusals.{lowest_skip, lowest_first, all_above}
use Rattle.pair.specs.Pair.{PairIs}
use Rattle.pair.specs.declared.Pair.{Pair}
use Rattle.pair.proofs.Returns.{some_refusal}
use Rattle.pair.proofs.Given.{rows_accepted, bodies_held}
use Rattle.typing.specs.Check.{Ready}
use Rattle.typecheck.specs.Verdicts.{Concludes, ConcludesPassed, ConcludesFailed}
use Rattle.typecheck.proofs.Answering.{verdict_passed, verdict_failed}

above_one : (prof lims : List ℕ) → all_above 1 (pair_rules prof lims) ≡ true
unfolding pair_rules whole_file_rules file_rules row_rules all_of rank place_in
above_one prof lims = refl

call_refused : (prof lims layout : List ℕ) (e : Refusal) → type_check_refusal prof lims layout ≡ refusal_number e → type_check_result (Err e) layout ≡ type_check_call prof lims layout
unfolding type_check_result type_check_call type_check_unless type_check_meaning
call_refused prof lims layout e q = rw (q, sym (suc-pred-eq_of_ne-zero (some_refusal e)))

pub check_short : (prof lims layout : List ℕ) → (length layout ≡ layout_length → ⊥) → type_check_result (Err BadBuffer) layout ≡ type_check_call prof lims layout
unfolding type_check_refusal
check_short prof lims layout h =
    call_refused prof lims layout BadBuffer
    (lowest_first bad_buffer (not (eqb (length layout) layout_length)) (pair_rules prof lims) (ap not (ne_eqb (length layout) layout_length h)) (above_one prof lims))

-- the files' own rules, where the layout table is as long as it is to be
after_the_table : (prof lims layout : List ℕ) → length layout ≡ layout_length → type_check_refusal prof lims layout ≡ lowest (pair_rules prof lims)
unfolding type_check_refusal
after_the_table prof lims layout room =
    lowest_skip bad_buffer (not (eqb (length layout) layout_length)) (pair_rules prof lims) (ap not (eq-eqb (length layout) layout_length room))

pub check_refused : {e : Refusal} (prof lims layout areas others bodies : List ℕ) → length layout ≡ layout_length → PairIs (Err e) prof lims areas others bodies
    → type_check_result (Err e) layout ≡ type_check_call prof lims layout
check_refused {e} prof lims layout areas others bodies room h = call_refused prof lims layout e (after_the_table prof lims layout room ∙ sym h.refusal)

module _ (prof lims layout areas others bodies rows : List ℕ) (p : Pair) (room : length layout ≡ layout_length) (h : PairIs (Ok p) prof lims areas others bodies) (is : rows ≡ take p.profile.length areas) where
  refusal_is : type_check_refusal prof lims layout ≡ 0
  refusal_is = after_the_table prof lims layout room ∙ sym h.refusal

  pub ready : Ready rows bodies
  ready =
      let t = h.taken p refl in
      subst (λ (x : List ℕ). Ready x bodies) (sym is) (record { accepted = rows_accepted t (sym h.refusal); types = bodies_held t })

  rows_are : rows ≡ rows_of prof
  rows_are = is ∙ (h.taken p refl).rows

  module _ (exit : List ℕ) where
    passed : ((limits : List ℕ) → ConcludesPassed exit (check_profile (profile_of rows limits))) → type_check_result (Ok (Ok tt)) exit ≡ type_check_call prof lims layout
    unfolding type_check_result type_check_call type_check_unless type_check_meaning
    passed c =
        let concludes = subst (λ (x : List ℕ). ConcludesPassed exit (check_profile (profile_of x (rows_of lims)))) rows_are (c (rows_of lims)) in
        rw refusal_is (sym (verdict_passed exit (check_profile (profile_of (rows_of prof) (rows_of lims))) concludes))

    failed : (e : ErrorAt) → ((limits : List ℕ) → ConcludesFailed e exit (check_profile (profile_of rows limits))) → type_check_result (Ok (Err e)) exit ≡ type_check_call prof lims layout
    unfolding type_check_result type_check_call type_check_unless type_check_meaning
    failed e c =
        let concludes = subst (λ (x : List ℕ). ConcludesFailed e exit (check_profile (profile_of x (rows_of lims)))) rows_are (c (rows_of lims)) in
        rw refusal_is (sym (verdict_failed e exit (check_profile (profile_of (rows_of prof) (rows_of lims))) concludes))

    pub check_done : (r : Result (Unit {0}) ErrorAt) → ((limits : List ℕ) → Concludes r exit (check_profile (profile_of rows limits))) → type_check_result (Ok r) exit ≡ type_check_call prof lims layout
    check_done (Ok u) c = passed c
    check_done (Err e) c = failed e c
