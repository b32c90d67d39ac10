-- The rules of a run in their order: its buffers (1), both files (2 to 15), its readings (16), and of an erased run the type check (17). Which
-- of them decides. Assumes nothing.
use Rattle.std.specs.Prelude.{◌≡◌, Bool}
use Rattle.std.proofs.Math.Path.{refl}
use Rattle.std.proofs.Common.{◌∙◌}
use Rattle.std.proofs.Math.Bool.{true, false}
use mathlib.Core.List.{List, [], ◌∷◌, ◌++◌}
use Rattle.lingua.specs.Errors.{bad_buffer, bad_reading, type_error_found}
use Rattle.lingua.specs.Value.{all_of}
use Rattle.lingua.specs.Format.{rows_of}
use Rattle.lingua.specs.Inputs.{Inputs}
use Rattle.lingua.specs.Refusal.{Rule, rule, place_in, rank, lowest, file_rules, row_rules, whole_file_rules, pair_rules, reading_wrong, run_rules}
use Rattle.laws.specs.Refusals.{lowest_skip, lowest_skip_last, lowest_first, Decides, decides, first_decides, second_decides, neither}
use Rattle.safety.specs.Accepted.{none_applies}

module _ (i : Inputs) where
  abbrev files : List Rule
  files = pair_rules i.profile i.limits

  abbrev wrong : Bool
  wrong = reading_wrong (rows_of i.profile) i.variables

  abbrev readings : List Rule
  readings = rule bad_reading wrong ∷ []

  files_first : Decides 15 files readings
  unfolding pair_rules whole_file_rules file_rules row_rules all_of rank place_in
  files_first = decides 15 files readings refl refl

  -- ---- rule 1
  pub unfit_refused : lowest (run_rules false i) ≡ bad_buffer
  unfolding run_rules pair_rules whole_file_rules file_rules row_rules all_of rank place_in
  unfit_refused = lowest_first bad_buffer true (files ++ readings) refl refl

  -- ---- with buffers that fit, the files decide, and then the readings
  fitting : lowest (run_rules true i) ≡ lowest (files ++ readings)
  unfolding run_rules
  fitting = lowest_skip bad_buffer false (files ++ readings) refl

  pub files_refuse : (lowest files ≡ 0 → ⊥) → lowest (run_rules true i) ≡ lowest files
  files_refuse h = fitting ∙ first_decides files_first h

  pub readings_refuse : lowest files ≡ 0 → wrong ≡ true → lowest (run_rules true i) ≡ bad_reading
  unfolding all_of rank place_in
  readings_refuse z w = fitting ∙ second_decides files_first z ∙ lowest_first bad_reading wrong [] w refl

  -- the files alone, where the readings are right
  pub files_alone : wrong ≡ false → lowest (run_rules true i) ≡ lowest files
  files_alone w = fitting ∙ lowest_skip_last files bad_reading wrong w

  -- no rule: the files are accepted, and the readings right
  pub none_refuses : (fits : Bool) → lowest (run_rules fits i) ≡ 0 → (lowest files ≡ 0) × (wrong ≡ false)
  unfolding run_rules
  none_refuses fits e =
      let both = neither files_first (none_applies _ _ _ refl e).1 in
      (both.0, (none_applies _ _ _ refl both.1).0)

  -- ---- rule 17, behind all others
  module _ (fits fails : Bool) where
    run_first : Decides 16 (run_rules fits i) (rule type_error_found fails ∷ [])
    unfolding run_rules pair_rules whole_file_rules file_rules row_rules all_of rank place_in
    run_first = decides 16 (run_rules fits i) (rule type_error_found fails ∷ []) refl refl

    pub run_refuses : (lowest (run_rules fits i) ≡ 0 → ⊥) → lowest (run_rules fits i ++ (rule type_error_found fails ∷ [])) ≡ lowest (run_rules fits i)
    run_refuses h = first_decides run_first h

    pub fails_refuse : lowest (run_rules fits i) ≡ 0 → fails ≡ true → lowest (run_rules fits i ++ (rule type_error_found fails ∷ [])) ≡ type_error_found
    unfolding all_of rank place_in
    fails_refuse z e = second_decides run_first z ∙ lowest_first type_error_found fails [] e refl

    pub passed_refuse : fails ≡ false → lowest (run_rules fits i ++ (rule type_error_found fails ∷ [])) ≡ lowest (run_rules fits i)
    passed_refuse e = lowest_skip_last (run_rules fits i) type_error_found fails e

    pub erased_none : lowest (run_rules fits i ++ (rule type_error_found fails ∷ [])) ≡ 0 → (lowest (run_rules fits i) ≡ 0) × (fails ≡ false)
    erased_none e =
        let both = neither run_first e in
        (both.0, (none_applies _ _ _ refl both.1).0)
