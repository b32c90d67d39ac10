-- The first rule that applies: rules stand in their order, so the first that applies is the answer. Assumes nothing.
use mathlib.Core.Path.{◌≡◌, refl, sym, ◌∙◌, ap}
use mathlib.Core.Bool.{Bool, true, false}
use mathlib.Core.List.{List, [], ◌∷◌}
use Prim.Native.Nat.{ℕ, ◌≤◌}
use Rattle.std.specs.Prelude.{Err}
use native.Mathlib.Omega.{arith}
use Rattle.lingua.specs.declared.FileKind.{FileKind}
use Rattle.lingua.specs.declared.FileKind.TheVariants.{Profile, Limits}
use Rattle.lingua.specs.Answers.{file_meaning}
use Rattle.lingua.specs.Value.{all_of}
use Rattle.lingua.specs.declared.errors.Refusal.{Refusal}
use Rattle.lingua.specs.Faults.{refusal_number}
use Rattle.laws.specs.Faults.{refusal_number_counted}
use Rattle.lingua.specs.Errors.{no_error, bad_form, bad_count, bad_name, bad_constant}
use Rattle.lingua.specs.Rows.{pair_count}
use Rattle.lingua.specs.Format.{File, profile, limits}
use Rattle.lingua.specs.Rules.{form_wrong, count_wrong, name_wrong, constant_wrong}
use Rattle.lingua.specs.Refusal.{Rule, rule, rank, place_in, lowest, row_rules}
use Rattle.decoder.specs.Tables.{Sized}
use Rattle.rules.specs.Accepted.{counts}
use Rattle.rules.specs.Refusals.{link_rules, Linked, Judged}
use Rattle.row_rules.specs.Form.{FewProcedures}
use Rattle.laws.specs.Refusals.{all_above, lowest_skip, lowest_first}

pub applies : (n : ℕ) (b : Bool) (rs : List Rule) → all_above n rs ≡ true → b ≡ true → n ≡ lowest (rule n b ∷ rs)
applies n b rs h e = sym (lowest_first n b rs e h)

pub passes : (n : ℕ) (b : Bool) (rs : List Rule) → b ≡ false → lowest rs ≡ lowest (rule n b ∷ rs)
passes n b rs e = sym (lowest_skip n b rs e)

-- ---- a file's rules: 6 to 9, and those that only a profile has
unfoldable pub later : File → List ℕ → List Rule
later profile rows = link_rules rows
later limits rows = []

pub rules_are : (f : File) (rows : List ℕ) → row_rules f rows ≡ rule bad_form (form_wrong f rows) ∷ rule bad_count (count_wrong f rows) ∷ rule bad_name (name_wrong f rows) ∷ rule bad_constant (constant_wrong f rows) ∷ later f rows
unfolding row_rules later link_rules
rules_are profile rows = refl
rules_are limits rows = refl

-- they come behind rules 6 to 9
pub record Behind (rs : List Rule) : Type 0 where
  pub form : all_above 6 rs ≡ true
  pub count : all_above 7 rs ≡ true
  pub name : all_above 8 rs ≡ true
  pub constant : all_above 9 rs ≡ true

pub later_behind : (f : File) (rows : List ℕ) → Behind (later f rows)
unfolding later link_rules all_of rank place_in
later_behind profile rows = record { form = refl; count = refl; name = refl; constant = refl }
later_behind limits rows = record { form = refl; count = refl; name = refl; constant = refl }

-- ---- what rule 7 lets through
pub sized : (rows : List ℕ) → count_wrong profile rows ≡ false → Sized rows
unfolding pair_count
sized rows e =
    let c = counts rows e in
    record {
      declarations = c.variables.most;
      types = c.types.most;
      expressions = c.expressions.most;
      some_instruction = c.instructions.least;
      instructions = c.instructions.most;
      procedures = c.procedures.most;
    }

-- of a file that rule 7 lets through, if it is a profile
pub few_procedures_lem : (f : File) (rows : List ℕ) → count_wrong f rows ≡ false → FewProcedures f rows
unfolding FewProcedures
few_procedures_lem profile rows e = (sized rows e).procedures
few_procedures_lem limits rows e = tt

-- ---- rules 6 to 9, and what follows them
module _ (a b c d : Bool) (rs : List Rule) where
  abbrev forms : List Rule
  forms = rule 6 a ∷ rule 7 b ∷ rule 8 c ∷ rule 9 d ∷ rs

  pub form_applies : all_above 6 rs ≡ true → a ≡ true → 6 ≡ lowest forms
  unfolding all_of rank place_in
  form_applies h p = applies 6 a (rule 7 b ∷ rule 8 c ∷ rule 9 d ∷ rs) h p

  pub count_applies : all_above 7 rs ≡ true → a ≡ false → b ≡ true → 7 ≡ lowest forms
  unfolding all_of rank place_in
  count_applies h p q = applies 7 b (rule 8 c ∷ rule 9 d ∷ rs) h q ∙ passes 6 a _ p

  pub name_applies : all_above 8 rs ≡ true → a ≡ false → b ≡ false → c ≡ true → 8 ≡ lowest forms
  unfolding all_of rank place_in
  name_applies h p q r = applies 8 c (rule 9 d ∷ rs) h r ∙ passes 7 b _ q ∙ passes 6 a _ p

  pub constant_applies : all_above 9 rs ≡ true → a ≡ false → b ≡ false → c ≡ false → d ≡ true → 9 ≡ lowest forms
  constant_applies h p q r s = applies 9 d rs h s ∙ passes 8 c _ r ∙ passes 7 b _ q ∙ passes 6 a _ p

  pub forms_pass : a ≡ false → b ≡ false → c ≡ false → d ≡ false → lowest rs ≡ lowest forms
  forms_pass p q r s = passes 9 d _ s ∙ passes 8 c _ r ∙ passes 7 b _ q ∙ passes 6 a _ p

-- ---- rules 10 to 13, 18 and 19
module _ (a b c d e f : Bool) where
  abbrev links : List Rule
  links = rule 10 a ∷ rule 11 b ∷ rule 12 c ∷ rule 13 d ∷ rule 18 e ∷ rule 19 f ∷ []

  pub reference_applies : a ≡ true → 10 ≡ lowest links
  unfolding all_of rank place_in
  reference_applies p = applies 10 a (rule 11 b ∷ rule 12 c ∷ rule 13 d ∷ rule 18 e ∷ rule 19 f ∷ []) refl p

  pub use_applies : a ≡ false → b ≡ true → 11 ≡ lowest links
  unfolding all_of rank place_in
  use_applies p q = applies 11 b (rule 12 c ∷ rule 13 d ∷ rule 18 e ∷ rule 19 f ∷ []) refl q ∙ passes 10 a _ p

  pub place_applies : a ≡ false → b ≡ false → c ≡ true → 12 ≡ lowest links
  unfolding all_of rank place_in
  place_applies p q r = applies 12 c (rule 13 d ∷ rule 18 e ∷ rule 19 f ∷ []) refl r ∙ passes 11 b _ q ∙ passes 10 a _ p

  pub type_applies : a ≡ false → b ≡ false → c ≡ false → d ≡ true → 13 ≡ lowest links
  unfolding all_of rank place_in
  type_applies p q r s = applies 13 d (rule 18 e ∷ rule 19 f ∷ []) refl s ∙ passes 12 c _ r ∙ passes 11 b _ q ∙ passes 10 a _ p

  pub parameters_apply : a ≡ false → b ≡ false → c ≡ false → d ≡ false → e ≡ true → 18 ≡ lowest links
  unfolding all_of rank place_in
  parameters_apply p q r s t = applies 18 e (rule 19 f ∷ []) refl t ∙ passes 13 d _ s ∙ passes 12 c _ r ∙ passes 11 b _ q ∙ passes 10 a _ p

  pub repeats_apply : a ≡ false → b ≡ false → c ≡ false → d ≡ false → e ≡ false → f ≡ true → 19 ≡ lowest links
  unfolding all_of
  repeats_apply p q r s t u = applies 19 f [] refl u ∙ passes 18 e _ t ∙ passes 13 d _ s ∙ passes 12 c _ r ∙ passes 11 b _ q ∙ passes 10 a _ p

  pub links_pass : a ≡ false → b ≡ false → c ≡ false → d ≡ false → e ≡ false → f ≡ false → 0 ≡ lowest links
  unfolding lowest
  links_pass p q r s t u = rw (p, q, r, s, t, u)

-- ---- the kind of file that the caller names
pub is_profile : (k : FileKind) → k ≡ Profile → file_meaning k ≡ profile
unfolding file_meaning
is_profile k e = rw e

pub is_limits : (k : FileKind) → k ≡ Limits → file_meaning k ≡ limits
unfolding file_meaning
is_limits k e = rw e

pub later_profile : (f : File) (rows : List ℕ) → f ≡ profile → lowest (link_rules rows) ≡ lowest (later f rows)
unfolding later
later_profile f rows e = rw e

pub later_limits : (f : File) (rows : List ℕ) → f ≡ limits → 0 ≡ lowest (later f rows)
unfolding later lowest
later_limits f rows e = rw e

-- ---- the answer, by what each test said
module _ (f : File) (rows : List ℕ) where
  pub refused_6 : {a : Bool} → a ≡ form_wrong f rows → a ≡ true → 6 ≡ lowest (row_rules f rows)
  refused_6 ea p =
      form_applies (form_wrong f rows) (count_wrong f rows) (name_wrong f rows) (constant_wrong f rows) (later f rows) (later_behind f rows).form (sym ea ∙ p)
      ∙ ap lowest (sym (rules_are f rows))

  pub refused_7 : {a b : Bool} → a ≡ form_wrong f rows → b ≡ count_wrong f rows → a ≡ false → b ≡ true → 7 ≡ lowest (row_rules f rows)
  refused_7 ea eb p q =
      count_applies (form_wrong f rows) (count_wrong f rows) (name_wrong f rows) (constant_wrong f rows) (later f rows) (later_behind f rows).count (sym ea ∙ p) (sym eb ∙ q)
      ∙ ap lowest (sym (rules_are f rows))

  pub refused_8 : {a b c : Bool} → a ≡ form_wrong f rows → b ≡ count_wrong f rows → c ≡ name_wrong f rows → a ≡ false → b ≡ false → c ≡ true → 8 ≡ lowest (row_rules f rows)
  refused_8 ea eb ec p q r =
      name_applies (form_wrong f rows) (count_wrong f rows) (name_wrong f rows) (constant_wrong f rows) (later f rows) (later_behind f rows).name (sym ea ∙ p) (sym eb ∙ q) (sym ec ∙ r)
      ∙ ap lowest (sym (rules_are f rows))

  pub refused_9 : {a b c d : Bool} → a ≡ form_wrong f rows → b ≡ count_wrong f rows → c ≡ name_wrong f rows → d ≡ constant_wrong f rows → a ≡ false → b ≡ false → c ≡ false → d ≡ true → 9 ≡ lowest (row_rules f rows)
  refused_9 ea eb ec ed p q r s =
      constant_applies (form_wrong f rows) (count_wrong f rows) (name_wrong f rows) (constant_wrong f rows) (later f rows) (later_behind f rows).constant (sym ea ∙ p) (sym eb ∙ q) (sym ec ∙ r) (sym ed ∙ s)
      ∙ ap lowest (sym (rules_are f rows))

  pub refused_later : {a b c d : Bool} → a ≡ form_wrong f rows → b ≡ count_wrong f rows → c ≡ name_wrong f rows → d ≡ constant_wrong f rows → a ≡ false → b ≡ false → c ≡ false → d ≡ false → lowest (later f rows) ≡ lowest (row_rules f rows)
  refused_later ea eb ec ed p q r s =
      forms_pass (form_wrong f rows) (count_wrong f rows) (name_wrong f rows) (constant_wrong f rows) (later f rows) (sym ea ∙ p) (sym eb ∙ q) (sym ec ∙ r) (sym ed ∙ s)
      ∙ ap lowest (sym (rules_are f rows))

-- a rule that applies leaves nothing to say of the bodies
some_refusal : (e : Refusal) → refusal_number e ≡ no_error → ⊥
some_refusal e z = let l : 1 ≤ refusal_number e = (refusal_number_counted e).0 in omega arith

pub refused_judged : {A : Type 0} (f : File) (rows : List ℕ) {e : Refusal} {bodies : List ℕ} → refusal_number e ≡ lowest (row_rules f rows) → Judged {A = A} (Err e) f rows bodies
refused_judged f rows {e} h = record { refusal = h; held = λ p z. absurd (some_refusal e z) }

pub refused_linked : {A : Type 0} (rows : List ℕ) {e : Refusal} {bodies : List ℕ} → refusal_number e ≡ lowest (link_rules rows) → Linked {A = A} (Err e) rows bodies
refused_linked rows {e} h = record { refusal = h; held = λ z. absurd (some_refusal e z) }

pub only_profile : {A : Type 0} (k : FileKind) → k ≡ Limits → file_meaning k ≡ profile → A
unfolding file_meaning
only_profile k e p = let z : ◌≡◌ {A = ℕ} 0 1 = cc in absurd (let b : ⊥ = omega arith in b)
