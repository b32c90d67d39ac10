-- The refusals of both runs: buffers, then both files, then rule 16, and of the erased run rule 17. Assumes nothing.
use mathlib.Core.Path.{◌≡◌, sym, ap, ◌∙◌}
use mathlib.Core.Bool.{Bool, true, false, not, ◌&&◌}
use mathlib.Core.List.{List, [], ◌∷◌, ◌++◌}
use Prim.Native.Nat.{ℕ}
use native.Mathlib.Omega.{arith}
use lib.ListN.{length}
use borrow.Author.Tests.{eq-eqb, ne_eqb}
use Rattle.lingua.specs.Numbers.{layout_length, present_bodies_length}
use Rattle.lingua.specs.Errors.{bad_buffer, bad_reading, type_error_found}
use Rattle.lingua.specs.Outcome.{Outcome, is_ok}
use Rattle.lingua.specs.Typing.{TypeError, Entry, check_profile}
use Rattle.lingua.specs.Trees.{profile_of}
use Rattle.lingua.specs.Format.{rows_of}
use Rattle.lingua.specs.Inputs.{Inputs, Buffers}
use Rattle.lingua.specs.Refusal.{rule, lowest, pair_rules, reading_wrong, run_fits, run_rules, run_refusal, checked_refusal, erased_refusal}
use Rattle.safety.specs.RunRules.{unfit_refused, files_refuse, readings_refuse, files_alone, fails_refuse, passed_refuse}
use Rattle.safety.specs.RunRules as rules_17

module _ (i : Inputs) (b : Buffers) where
  pub unfit : run_fits i b ≡ false → run_refusal i b ≡ bad_buffer
  unfolding run_refusal
  unfit e = ap (λ (t : Bool). lowest (run_rules t i)) e ∙ unfit_refused i

  -- ---- with the buffers as they should be
  module _ (f : run_fits i b ≡ true) where
    fit : run_refusal i b ≡ lowest (run_rules true i)
    unfolding run_refusal
    fit = ap (λ (t : Bool). lowest (run_rules t i)) f

    pub files_refused : (n : ℕ) → n ≡ lowest (pair_rules i.profile i.limits) → (n ≡ 0 → ⊥) → run_refusal i b ≡ n
    files_refused n q h = fit ∙ files_refuse i (λ z. h (q ∙ z)) ∙ sym q

    pub inputs_refused : lowest (pair_rules i.profile i.limits) ≡ 0 → reading_wrong (rows_of i.profile) i.variables ≡ true → run_refusal i b ≡ bad_reading
    inputs_refused z w = fit ∙ readings_refuse i z w

    pub none_refused : lowest (pair_rules i.profile i.limits) ≡ 0 → reading_wrong (rows_of i.profile) i.variables ≡ false → run_refusal i b ≡ 0
    none_refused z w = fit ∙ files_alone i w ∙ z

-- ---- the checked run: rule 1, by the length of the present bodies, stands before all others
module _ (i : Inputs) (b : Buffers) (present : List ℕ) where
  pub short_present : (length present ≡ present_bodies_length → ⊥) → checked_refusal i b present ≡ bad_buffer
  unfolding checked_refusal
  short_present h = ap (λ (t : Bool). lowest (run_rules (t && run_fits i b) i)) (ne_eqb (length present) present_bodies_length h) ∙ unfit_refused i

-- ---- the erased run
module _ (i : Inputs) (b : Buffers) (layout : List ℕ) where
  abbrev faulted : Bool
  faulted = not (is_ok (check_profile (profile_of (rows_of i.profile) (rows_of i.limits))))

  -- rule 1, by the layout table's length, stands before all others
  pub short_layout : (length layout ≡ layout_length → ⊥) → erased_refusal i b layout ≡ bad_buffer
  unfolding erased_refusal
  short_layout h =
      ap (λ (t : Bool). lowest (run_rules (t && run_fits i b) i ++ (rule type_error_found faulted ∷ []))) (ne_eqb (length layout) layout_length h)
      ∙ rules_17.run_refuses i false faulted (λ z. omega (arith, sym (unfit_refused i) ∙ z))
      ∙ unfit_refused i

  module _ (l : length layout ≡ layout_length) where
    past_layout : erased_refusal i b layout ≡ lowest (run_rules (run_fits i b) i ++ (rule type_error_found faulted ∷ []))
    unfolding erased_refusal
    past_layout = ap (λ (t : Bool). lowest (run_rules (t && run_fits i b) i ++ (rule type_error_found faulted ∷ []))) (eq-eqb (length layout) layout_length l)

    -- rules 1 to 16 stand before 17
    pub run_refuses : (run_refusal i b ≡ 0 → ⊥) → erased_refusal i b layout ≡ run_refusal i b
    unfolding run_refusal
    run_refuses h = past_layout ∙ rules_17.run_refuses i (run_fits i b) faulted h

    module _ (z : run_refusal i b ≡ 0) (o : Outcome TypeError (List Entry)) (e : check_profile (profile_of (rows_of i.profile) (rows_of i.limits)) ≡ o) where
      pub type_error_refuses : is_ok o ≡ false → erased_refusal i b layout ≡ type_error_found
      unfolding run_refusal
      type_error_refuses q =
          past_layout ∙ fails_refuse i (run_fits i b) faulted z (ap (λ (v : Outcome TypeError (List Entry)). not (is_ok v)) e ∙ ap not q)

      pub none_refuses : is_ok o ≡ true → erased_refusal i b layout ≡ 0
      unfolding run_refusal
      none_refuses q =
          past_layout ∙ passed_refuse i (run_fits i b) faulted (ap (λ (v : Outcome TypeError (List Entry)). not (is_ok v)) e ∙ ap not q) ∙ z
