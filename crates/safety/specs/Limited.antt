-- A variable that has a limit is a number or a hundredths variable: rule 15 wants such a variable of the limit's name, and by rule 8 no other variable of
-- the profile has that name (`limited_quantity`, `accepted_limited`). Procedures' variables have no limits (`scope_limited`). Assumes nothing.
use Rattle.std.specs.Prelude.{◌≡◌, refl, Bool, false, ◌&&◌, ℕ, zero, suc, ◌+◌, ◌≤◌, ◌<◌, ltb}
use Rattle.std.proofs.Common.{sym, ◌∙◌, arith}
use Rattle.std.proofs.Math.Path.{ap, subst}
use Rattle.std.proofs.Math.Bool.{true, not}
use mathlib.Core.List.{List, ◌∷◌}
use Rattle.std.proofs.Math.Option.{some}
use Rattle.std.specs.Int.Signed.{le_z}
use borrow.Author.Tests.{ltb-true, ltb-false, not-true, not-false}
use Rattle.lingua.specs.Numbers.{declaration_section, limit_section, scope_table}
use Rattle.lingua.specs.Body.{Body, is_hundredths, is_quantity}
use Rattle.lingua.specs.Value.{in_range_of}
use Rattle.lingua.specs.Compute.{same_text}
use Rattle.lingua.specs.Store.{Limit}
use Rattle.lingua.specs.Rows.{pair_count, procedure_count}
use Rattle.lingua.specs.Trees.{limit_if, limit_from, limit_of, limit_row, name_at, declaration_in, declaration_at, profile_of}
use Rattle.lingua.specs.Typing.{bodies_of, scope_bodies}
use Rattle.lingua.specs.Format.{profile, rows_of, every_below}
use Rattle.lingua.specs.Rules.{is_name, is_new, names_fit, name_wrong}
use Rattle.lingua.specs.Refusal.{Rule, rule, lowest, file_rules, row_rules, whole_file_rules, pair_rules, is_variable_of, ends_fit, names_one, limit_fits, limit_wrong}
use Rattle.laws.specs.Outcomes.{and_left, and_right, none_is_some}
use Rattle.laws.specs.Equal.{same_text_lem, text_same}
use Rattle.safety.specs.Answers.{true_is_false}
use Rattle.safety.specs.Every.{below_true}
use Rattle.safety.specs.Passed.{variable_has}
use Rattle.safety.specs.ProfileScopes.{scope_limit}
use Rattle.safety.specs.Accepted.{none_applies}

-- some number below n at which a test fails
record Fails (n : ℕ) (p : ℕ → Bool) : Type 0 where
  pub at : ℕ
  pub below : at < n
  pub fails : p at ≡ false

some_fails : (n : ℕ) (p : ℕ → Bool) → every_below n p ≡ false → Fails n p
unfolding every_below
some_fails zero p e = true_is_false e
some_fails (suc n) p e = by (every_below n p) (p n) refl refl (λ q. some_fails n p q)
  where
    by : (a b : Bool) → every_below n p ≡ a → p n ≡ b → (every_below n p ≡ false → Fails n p) → Fails (suc n) p
    by false b q r h = let f = h q in record { at = f.at; below = omega (arith, f.below); fails = f.fails }
    by true false q r h = record { at = n; below = omega arith; fails = r }
    by true true q r h = true_is_false (sym (ap (λ (a : Bool). a && p n) q ∙ r) ∙ e)

-- ---- the limit of a name stands at a row of that name
record NamedAt (limits name : List ℕ) (n : ℕ) : Type 0 where
  pub at : ℕ
  pub below : at < n
  pub named : same_text (name_at limits limit_section at) name ≡ true

limit_named : (i n : ℕ) (limits name : List ℕ) (l : Limit) → limit_from i n limits name ≡ some l → NamedAt limits name (i + n)
unfolding limit_from
limit_named i zero limits name l e = none_is_some e
limit_named i (suc n) limits name l e = by (same_text (name_at limits limit_section i) name) refl (λ q. limit_named (suc i) n limits name l q)
  where
    by : (b : Bool) → same_text (name_at limits limit_section i) name ≡ b → (limit_from (suc i) n limits name ≡ some l → NamedAt limits name (suc i + n)) → NamedAt limits name (i + suc n)
    by true q h = record { at = i; below = omega arith; named = q }
    by false q h =
        let f = h (sym (ap (λ (c : Bool). limit_if c (limit_row limits i) (limit_from (suc i) n limits name)) q) ∙ e) in
        record { at = f.at; below = omega (arith, f.below); named = f.named }

-- ---- one variable for each name
module _ (rows : List ℕ) (right : name_wrong profile rows ≡ false) where
  -- in each scope
  module _ (a : ℕ) (scope : a ≤ procedure_count rows) where
    new_at : (d : ℕ) → d < pair_count rows (scope_table a) → is_new rows (scope_table a) d ≡ true
    unfolding name_wrong names_fit
    new_at d l =
        and_right (is_name (name_at rows (scope_table a) d)) (is_new rows (scope_table a) d)
        (below_true (pair_count rows (scope_table a)) (λ k. is_name (name_at rows (scope_table a) k) && is_new rows (scope_table a) k)
        (below_true (suc (procedure_count rows)) (λ s. names_fit rows (scope_table s)) (not-false _ right) a (omega arith)) d l)

    no_lower : (c d : ℕ) → d < pair_count rows (scope_table a) → name_at rows (scope_table a) c ≡ name_at rows (scope_table a) d → c < d → ⊥
    unfolding is_new
    no_lower c d l e k =
        let differs : not (same_text (name_at rows (scope_table a) c) (name_at rows (scope_table a) d)) ≡ true = below_true d (λ j. not (same_text (name_at rows (scope_table a) j) (name_at rows (scope_table a) d))) (new_at d l) c k in
        let same : same_text (name_at rows (scope_table a) c) (name_at rows (scope_table a) d) ≡ true = ap (λ (name : List ℕ). same_text name (name_at rows (scope_table a) d)) e ∙ text_same (name_at rows (scope_table a) d) in
        true_is_false (sym same ∙ not-true _ differs)

    pub one_in_scope : (c d : ℕ) → c < pair_count rows (scope_table a) → d < pair_count rows (scope_table a) → name_at rows (scope_table a) c ≡ name_at rows (scope_table a) d → c ≡ d
    one_in_scope c d k l e = by (ltb c d) (ltb d c) refl refl
      where
        by : (t u : Bool) → ltb c d ≡ t → ltb d c ≡ u → c ≡ d
        by true u p q = absurd (no_lower c d l e (ltb-true c d p))
        by false true p q = absurd (no_lower d c k (sym e) (ltb-true d c q))
        by false false p q = omega (arith, ltb-false c d p, ltb-false d c q)

  -- the profile's own
  pub one_variable : (c d : ℕ) → c < pair_count rows declaration_section → d < pair_count rows declaration_section → name_at rows declaration_section c ≡ name_at rows declaration_section d → c ≡ d
  one_variable c d k l e = one_in_scope 0 (omega arith) c d k l e

  pub variable_named : (p : Body → Bool) (n : ℕ) → n < pair_count rows declaration_section → (name : List ℕ) → same_text name (name_at rows declaration_section n) ≡ true → names_one p rows name ≡ true → is_variable_of p rows n ≡ true
  unfolding names_one
  variable_named p n inside name e h =
      let f = some_fails (pair_count rows declaration_section) (λ d. not (same_text (name_at rows declaration_section d) name && is_variable_of p rows d)) (not-true _ h) in
      let both : (same_text (name_at rows declaration_section f.at) name && is_variable_of p rows f.at) ≡ true = not-false _ f.fails in
      let same : name_at rows declaration_section f.at ≡ name_at rows declaration_section n =
      same_text_lem _ _ (and_left (same_text (name_at rows declaration_section f.at) name) (is_variable_of p rows f.at) both) ∙ same_text_lem _ _ e in
      subst (λ (d : ℕ). is_variable_of p rows d ≡ true) (one_variable f.at n f.below inside same)
      (and_right (same_text (name_at rows declaration_section f.at) name) (is_variable_of p rows f.at) both)

  -- ---- the theorem
  module _ (limits : List ℕ) (fits : limit_wrong rows limits ≡ false) (n : ℕ) (inside : n < pair_count rows declaration_section) where
    names_one_lem : (l : ℕ) → l < pair_count limits limit_section → names_one (ends_fit (limit_row limits l)) rows (name_at limits limit_section l) ≡ true
    unfolding limit_wrong limit_fits
    names_one_lem l k =
        and_right (le_z (limit_row limits l).low (limit_row limits l).high) (names_one (ends_fit (limit_row limits l)) rows (name_at limits limit_section l)) (below_true (pair_count limits limit_section) (λ j. limit_fits rows limits j) (not-false _ fits) l k)

    pub limited_quantity : (l : Limit) → limit_of limits (name_at rows declaration_section n) ≡ some l → is_quantity (bodies_of (profile_of rows limits).declarations n) ≡ true
    unfolding limit_of ends_fit
    limited_quantity l e =
        let f = limit_named 0 (pair_count limits limit_section) limits (name_at rows declaration_section n) l e in
        let within : f.at < pair_count limits limit_section = omega (arith, f.below) in
        let ends = limit_row limits f.at in
        let own : Body = bodies_of (profile_of rows limits).declarations n in
        and_left (is_quantity own) (in_range_of (is_hundredths own) ends.low)
        (and_left (is_quantity own && in_range_of (is_hundredths own) ends.low) (in_range_of (is_hundredths own) ends.high)
        (variable_has (ends_fit ends) rows limits n (variable_named (ends_fit ends) n inside (name_at limits limit_section f.at) f.named (names_one_lem f.at within))))

-- a pair of files that no rule refuses
pub accepted_limited : (prof lims : List ℕ) → lowest (pair_rules prof lims) ≡ 0 → (n : ℕ) → n < pair_count (rows_of prof) declaration_section → (l : Limit)
    → (declaration_at (rows_of prof) (rows_of lims) n).limit ≡ some l → is_quantity (bodies_of (profile_of (rows_of prof) (rows_of lims)).declarations n) ≡ true
unfolding pair_rules whole_file_rules file_rules row_rules declaration_at declaration_in
accepted_limited prof lims e n inside l q =
    let profile-file = past _ _ _ refl (past _ _ _ refl (past _ _ _ refl (past _ _ _ refl e))) in
    let names = none_applies _ _ _ refl (past _ _ _ refl (past _ _ _ refl profile-file)) in
    let to-types = past _ _ _ refl (past _ _ _ refl (past _ _ _ refl (past _ _ _ refl (past _ _ _ refl names.1)))) in
    let profile_rows = past _ _ _ refl (past _ _ _ refl to-types) in
    let limits-file = past _ _ _ refl (past _ _ _ refl (past _ _ _ refl (past _ _ _ refl profile_rows))) in
    let limits_rows = past _ _ _ refl (past _ _ _ refl (past _ _ _ refl (past _ _ _ refl limits-file))) in
    let limit = none_applies _ _ _ refl (past _ _ _ refl limits_rows) in
    limited_quantity (rows_of prof) names.0 (rows_of lims) limit.0 n inside l q
  where
    -- the rules behind one that does not apply
    past : (k : ℕ) (b : Bool) (rs : List Rule) → ltb 0 k ≡ true → lowest (rule k b ∷ rs) ≡ 0 → lowest rs ≡ 0
    past k b rs z h = (none_applies k b rs z h).1

-- of each scope
pub scope_limited : (prof lims : List ℕ) → lowest (pair_rules prof lims) ≡ 0 → (a n : ℕ) → n < pair_count (rows_of prof) (scope_table a) → (l : Limit)
    → scope_limit (rows_of prof) (rows_of lims) a n ≡ some l → is_quantity (scope_bodies (profile_of (rows_of prof) (rows_of lims)) a n) ≡ true
scope_limited prof lims e zero n inside l q = accepted_limited prof lims e n inside l (unfold declaration_at declaration_in in q)
scope_limited prof lims e (suc k) n inside l q = none_is_some q
