-- What acceptance shows of a profile: no rule applies to its rows, so in every scope its constants fit, its yokes read no variable, its
-- declared bodies are those of its type rows, and its program and bodies are the trees of instruction rows. So the invariant of runs holds
-- of every accepted pair of files: `accepted_invariant`. A scope is 0 for the profile, and 1 + k for procedure k. Assumes nothing.
use Rattle.std.specs.Prelude.{◌≡◌, Bool, false, ◌&&◌, List, [], ◌∷◌, ◌++◌, length, if◌then◌else◌}
use Rattle.std.proofs.Math.Path.{refl}
use Rattle.std.proofs.Common.{sym, ap, ◌∙◌, subst, ⊎_elim, arith}
use Rattle.std.proofs.Math.Bool.{true, not}
use Rattle.std.proofs.Math.Option.{Option, some, none}
use Prim.Native.Nat.{ℕ, zero, suc, ◌+◌, ◌/◌, ◌≤◌, ◌<◌, pred, min}
use Rattle.std.proofs.Math.Dec.{eqb, ltb, leb}
use borrow.Author.Tests.{eqb-true, ne_eqb, ltb-true, leb-true, le-leb, not-false, not-true}
use Rattle.lingua.specs.Numbers.{word_length, most_variables, most_types, most_expressions, most_instructions, most_procedures, most_parameters, declaration_section, type_section, expression_section, instruction_section, limit_section, procedure_section, variable_table, scope_table}
use Rattle.lingua.specs.Errors.{is_error}
use Rattle.lingua.specs.Outcome.{ok, fail, Result, is_ok}
use Rattle.lingua.specs.Body.{Body, size}
use Rattle.lingua.specs.Value.{fit_truth, fit_whole, fit_text, is_character, all_of, is_text, Composite, fit_hundredths}
use Rattle.lingua.specs.Expression.{Instruction, skip}
use Rattle.lingua.specs.Store.{Reading, contents, variable_at}
use Rattle.lingua.specs.Run.{scope_program, run, last_state, open_calls}
use Rattle.lingua.specs.Typing.{joined}
use Rattle.lingua.specs.Rows.{kind_at, a_at, bytes_at, until_zero, section_at, row_count, row_in, table_count, pair_count, detail_row, procedure_count, body_row, value_count, reference_count, groups, RowKind, numbered, used_of, type_kinds, type_row, Constant, boolean_constant, number_constant, word_constant, constant_value, ExpressionRow, constant_row, variable_row, current_row, unary_row, binary_row, lazy_row, choice_row, all_list_row, unknown_expression, expression_kinds, expression_row, InstructionRow, skip_row, assign_row, set_yoke_row, sequence_row, branch_row, loop_row, handle_row, call_row, unknown_instruction, operands, instruction_kinds, instruction_row, parts, evaluated, yoke_root, yoke_set, hundredths_constant}
use Rattle.lingua.specs.Trees.{tabulate, type_body, expression_tree, yoke_tree, given_values, given_references, instruction_of, instruction_in, instruction_tree, instruction_scope, expression_scope, body_in, declared_body, body_or, declaration_in, declaration_at, profile_of}
use Rattle.lingua.specs.Format.{profile, every_below, all_zero, rows_of}
use Rattle.lingua.specs.Rules.{used_bytes, section_belongs, bytes_fit, row_fits, ascending, paired, procedure_pairs, form_wrong, between, count_wrong, name_wrong, padded_by, constant_fits, row_constant_fits, attributes_fit, expression_attributes, type_attributes, handled_errors, constant_wrong}
use Rattle.lingua.specs.References.{all_below, on_call, yoke_in, declared_yoke, declaration_refers, declarations_refer, instruction_refers, expression_variables, instruction_variables, type_parts, rows_refer, variables_seen, variables_fit, variables_wrong, reference_wrong, occurrences, declared_roots, expression_uses, instruction_uses, use_wrong, yoke_roots, plain_roots, reads_variable, reads_current, place_wrong, type_wrong, parameters_fit, bits_above, parameters_wrong, all_different, references_wrong}
use Rattle.lingua.specs.Refusal.{Rule, rule, lowest, file_rules, row_rules, whole_file_rules, pair_rules}
use Rattle.laws.specs.Outcomes.{false_is_true, and_left, and_right, and_both, or_left, or_right}
use Rattle.laws.specs.Tests.{below_or}
use Rattle.laws.specs.Refusals.{lowest_none}
use Rattle.safety.specs.Answers.{true_is_false}
use Rattle.safety.specs.Every.{Every, every_more, every_left, every_right, every_implies, every_joined_part, tabulated, all_true_lem, below_true}
use Rattle.safety.specs.Constants.{Fitting, ConstantsHave, constants_imply, ConstantsFit, ClosedYoke}
use Rattle.safety.specs.Everywhere.{Everywhere, at_skip}
use Rattle.safety.specs.Sections.{row_in_table, row_in_section, row_of_procedures}
use Rattle.safety.specs.Forest.{ConstantHas, tree_has, tree_everywhere}
use Rattle.safety.specs.ProfileScopes.{scope_row, scope_every, scope_runs}
use Rattle.safety.specs.Invariant.{WellMade, WellMadeProfile, FilledWell, run_invariant, OpenKept, open_kept}

-- ---- no rule applies
pub none_applies : (n : ℕ) (b : Bool) (rs : List Rule) → ltb 0 n ≡ true → lowest (rule n b ∷ rs) ≡ 0 → (b ≡ false) × (lowest rs ≡ 0)
none_applies n b rs p e = lowest_none n b rs (ltb-true 0 n p) e

-- the rows of a profile to which no rule applies
pub record AcceptedRows (rows : List ℕ) : Type 0 where
  pub form : form_wrong profile rows ≡ false
  pub counts : count_wrong profile rows ≡ false
  pub names : name_wrong profile rows ≡ false
  pub constants : constant_wrong profile rows ≡ false
  pub references : reference_wrong rows ≡ false
  pub uses : use_wrong rows ≡ false
  pub places : place_wrong rows ≡ false
  pub types : type_wrong rows ≡ false
  pub parameters : parameters_wrong rows ≡ false
  pub repeated : references_wrong rows ≡ false

pub accepted_rows : (rows : List ℕ) (rest : List Rule) → lowest (row_rules profile rows ++ rest) ≡ 0 → AcceptedRows rows
unfolding row_rules
accepted_rows rows rest e =
    let form = none_applies _ _ _ refl e in
    let counts = none_applies _ _ _ refl form.1 in
    let names = none_applies _ _ _ refl counts.1 in
    let constants = none_applies _ _ _ refl names.1 in
    let references = none_applies _ _ _ refl constants.1 in
    let uses = none_applies _ _ _ refl references.1 in
    let places = none_applies _ _ _ refl uses.1 in
    let types = none_applies _ _ _ refl places.1 in
    let parameters = none_applies _ _ _ refl types.1 in
    let repeated = none_applies _ _ _ refl parameters.1 in
    record { form = form.0; counts = counts.0; names = names.0; constants = constants.0; references = references.0; uses = uses.0; places = places.0; types = types.0; parameters = parameters.0; repeated = repeated.0 }

-- both files whole
pub accepted_pair : (prof lims : List ℕ) → lowest (pair_rules prof lims) ≡ 0 → AcceptedRows (rows_of prof)
unfolding pair_rules whole_file_rules file_rules
accepted_pair prof lims e =
    let a = none_applies _ _ _ refl e in
    let b = none_applies _ _ _ refl a.1 in
    let c = none_applies _ _ _ refl b.1 in
    let d = none_applies _ _ _ refl c.1 in
    accepted_rows (rows_of prof) _ d.1

-- ---- conditions that a rule is made of
all_two : (a b : Bool) → not (a && b) ≡ false → (a ≡ true) × (b ≡ true)
all_two true true e = (refl, refl)
all_two true false e = true_is_false e
all_two false b e = true_is_false e

all_three : (a b c : Bool) → not (a && b && c) ≡ false → (a ≡ true) × (b ≡ true) × (c ≡ true)
all_three a b c e =
    let p = all_two (a && b) c e in
    (and_left a b p.0, and_right a b p.0, p.1)

all_five : (a b c d e : Bool) → (a && b && c && d && e) ≡ true → (a ≡ true) × (b ≡ true) × (c ≡ true) × (d ≡ true) × (e ≡ true)
all_five a b c d e h =
    let p = and_left (a && b && c && d) e h in
    let q = and_left (a && b && c) d p in
    let r = and_left (a && b) c q in
    (and_left a b r, and_right a b r, and_right (a && b) c q, and_right (a && b && c) d p, and_right (a && b && c && d) e h)

-- ---- 6 and 9: constants fit
characters : (cs : List ℕ) → padded_by is_character cs ≡ true → all_of is_character (until_zero cs) ≡ true
unfolding padded_by until_zero all_of
characters [] e = refl
characters (c ∷ cs) e = go (eqb c 0) e (λ q. characters cs q)
  where
    go : (t : Bool) → (if t then all_zero cs else is_character c && padded_by is_character cs) ≡ true → (padded_by is_character cs ≡ true → all_of is_character (until_zero cs) ≡ true)
        → all_of is_character (if t then [] else c ∷ until_zero cs) ≡ true
    go true q ih = refl
    go false q ih =
        and_both (is_character c) (all_of is_character (until_zero cs)) (and_left (is_character c) (padded_by is_character cs) q)
        (ih (and_right (is_character c) (padded_by is_character cs) q))

pub length_until : (cs : List ℕ) → length (until_zero cs) ≤ length cs
unfolding until_zero
length_until [] = omega arith
length_until (c ∷ cs) = go (eqb c 0) (length_until cs)
  where
    go : (t : Bool) → length (until_zero cs) ≤ length cs → length (if t then [] else c ∷ until_zero cs) ≤ suc (length cs)
    go true ih = omega arith
    go false ih = omega arith

word_fits : (cs : List ℕ) → (leb (length cs) word_length && padded_by is_character cs) ≡ true → is_text (until_zero cs) ≡ true
unfolding is_text
word_fits cs e =
    let l : length cs ≤ word_length = leb-true (length cs) word_length (and_left (leb (length cs) word_length) (padded_by is_character cs) e) in
    and_both (leb (length (until_zero cs)) word_length) (all_of is_character (until_zero cs))
    (le-leb (length (until_zero cs)) word_length (omega (arith, length_until cs)))
    (characters cs (and_right (leb (length cs) word_length) (padded_by is_character cs) e))

-- a constant fits its body, which takes one cell
abbrev pub Plain : Composite → Type 0
Plain c = Fitting c × (size c.body ≡ 1)

constant_plain : (c : Constant) → constant_fits c ≡ true → Plain (constant_value c)
unfolding size constant_fits constant_value
constant_plain (boolean_constant n) e = (fit_truth, refl)
constant_plain (number_constant z) e = (fit_whole e, refl)
constant_plain (hundredths_constant z) e = (fit_hundredths e, refl)
constant_plain (word_constant cs) e = (fit_text (word_fits cs e), refl)

row_plain : (row : ExpressionRow) → row_constant_fits row ≡ true → ConstantHas Plain row
unfolding size row_constant_fits ConstantHas
row_plain (constant_row c) e = constant_plain c e
row_plain (variable_row n) e = tt
row_plain current_row e = tt
row_plain (unary_row o a) e = tt
row_plain (binary_row o a b) e = tt
row_plain (lazy_row k a b) e = tt
row_plain (choice_row a b c) e = tt
row_plain (all_list_row a) e = tt
row_plain unknown_expression e = (fit_truth, refl)

-- ---- 6: a row's kind is one of its table's
-- a kind with its used bytes
pub record Known {R : Type 0} (kinds : List (RowKind R)) (k : ℕ) : Type 0 where
  pub bytes : ℕ
  pub is : used_of (numbered k kinds) ≡ some bytes

known_by : {R : Type 0} (kinds : List (RowKind R)) (k : ℕ) (bytes : List ℕ) (o : Option ℕ) → used_of (numbered k kinds) ≡ o → bytes_fit o bytes ≡ true → Known kinds k
unfolding bytes_fit
known_by kinds k bytes none q e = false_is_true e
known_by kinds k bytes (some n) q e = record { bytes = n; is = q }

known_type : (s k : ℕ) (bytes : List ℕ) → s ≡ type_section → bytes_fit (used_bytes s k) bytes ≡ true → Known type_kinds k
unfolding used_bytes
known_type s k bytes p e = known_by type_kinds k bytes (used_of (numbered k type_kinds)) refl (subst (λ (t : ℕ). bytes_fit (used_bytes t k) bytes ≡ true) p e)

known_expression : (s k : ℕ) (bytes : List ℕ) → s ≡ expression_section → bytes_fit (used_bytes s k) bytes ≡ true → Known expression_kinds k
unfolding used_bytes
known_expression s k bytes p e = known_by expression_kinds k bytes (used_of (numbered k expression_kinds)) refl (subst (λ (t : ℕ). bytes_fit (used_bytes t k) bytes ≡ true) p e)

known_instruction : (s k : ℕ) (bytes : List ℕ) → s ≡ instruction_section → bytes_fit (used_bytes s k) bytes ≡ true → Known instruction_kinds k
unfolding used_bytes
known_instruction s k bytes p e = known_by instruction_kinds k bytes (used_of (numbered k instruction_kinds)) refl (subst (λ (t : ℕ). bytes_fit (used_bytes t k) bytes ≡ true) p e)

-- there is no section above 6
high_none : (s k : ℕ) → procedure_section < s → used_bytes s k ≡ none
unfolding used_bytes
high_none s k l =
    rw (ne_eqb s declaration_section (λ q. omega arith), ne_eqb s type_section (λ q. omega arith), ne_eqb s expression_section (λ q. omega arith), ne_eqb s instruction_section (λ q. omega arith), ne_eqb s limit_section (λ q. omega arith), ne_eqb s procedure_section (λ q. omega arith))

no_bytes : (s k : ℕ) (bytes : List ℕ) → used_bytes s k ≡ none → bytes_fit (used_bytes s k) bytes ≡ true → ⊥
unfolding bytes_fit
no_bytes s k bytes e h = false_is_true (sym (ap (λ (o : Option ℕ). bytes_fit o bytes) e) ∙ h)

module _ (rows : List ℕ) (accepted : AcceptedRows rows) where
  form_holds : (every_below (row_count rows) (λ i. row_fits profile rows i) ≡ true) × (ascending rows ≡ true)
  unfolding form_wrong
  form_holds =
      let p = all_five (every_below (row_count rows) (λ i. row_fits profile rows i)) (ascending rows) (paired rows declaration_section) (paired rows limit_section) (procedure_pairs rows) (not-false _ accepted.form) in
      (p.0, p.1)

  pub sections_ascend : ascending rows ≡ true
  sections_ascend = form_holds.1

  -- a row's bytes fit its section and kind
  row_bytes_fit : (s r : ℕ) → r < table_count rows s → bytes_fit (used_bytes (section_at rows (row_in rows s r)) (kind_at rows (row_in rows s r))) (bytes_at rows (row_in rows s r)) ≡ true
  unfolding row_fits
  row_bytes_fit s r l =
      let i : ℕ = row_in rows s r in
      and_right (section_belongs profile (section_at rows i)) _ (below_true (row_count rows) (λ j. row_fits profile rows j) form_holds.0 i (row_in_table rows sections_ascend s r l).in_file)

  -- a row of procedures is in section 6
  pub procedure_section_is : (s r : ℕ) → procedure_section ≤ s → r < table_count rows s → section_at rows (row_in rows s r) ≡ procedure_section
  procedure_section_is s r h l =
      ⊎_elim (λ (q : procedure_section < section_at rows (row_in rows s r)). absurd (no_bytes _ _ _ (high_none _ _ q) (row_bytes_fit s r l)))
      (λ (q : section_at rows (row_in rows s r) ≤ procedure_section). let low = row_of_procedures rows sections_ascend s r h l in let e : section_at rows (row_in rows s r) ≡ procedure_section = omega arith in e)
      (below_or procedure_section (section_at rows (row_in rows s r)))

  -- row r of section s is in it and its bytes fit
  row_form : (s r : ℕ) → s < procedure_section → r < table_count rows s
      → (section_at rows (row_in rows s r) ≡ s) × (bytes_fit (used_bytes (section_at rows (row_in rows s r)) (kind_at rows (row_in rows s r))) (bytes_at rows (row_in rows s r)) ≡ true)
  row_form s r h l = (row_in_section rows sections_ascend s r h l, row_bytes_fit s r l)

  pub type_known : (r : ℕ) → r < table_count rows type_section → Known type_kinds (kind_at rows (row_in rows type_section r))
  type_known r l = let h = row_form type_section r (omega arith) l in known_type _ _ _ h.0 h.1

  pub expression_known : (r : ℕ) → r < table_count rows expression_section → Known expression_kinds (kind_at rows (row_in rows expression_section r))
  expression_known r l = let h = row_form expression_section r (omega arith) l in known_expression _ _ _ h.0 h.1

  pub instruction_known : (r : ℕ) → r < table_count rows instruction_section → Known instruction_kinds (kind_at rows (row_in rows instruction_section r))
  instruction_known r l = let h = row_form instruction_section r (omega arith) l in known_instruction _ _ _ h.0 h.1

  -- 9: attributes are numbered below 64, and constants fit
  numbers_hold : (every_below (table_count rows type_section) (λ j. attributes_fit (type_attributes (type_row rows j))) ≡ true)
      × (every_below (table_count rows expression_section) (λ j. row_constant_fits (expression_row rows j) && attributes_fit (expression_attributes (expression_row rows j))) ≡ true)
  unfolding constant_wrong
  numbers_hold =
      let p = all_three
      (every_below (table_count rows type_section) (λ j. attributes_fit (type_attributes (type_row rows j))))
      (every_below (table_count rows expression_section) (λ j. row_constant_fits (expression_row rows j) && attributes_fit (expression_attributes (expression_row rows j))))
      (every_below (table_count rows instruction_section) (λ j. all_of is_error (handled_errors (instruction_row rows j))))
      accepted.constants in
      (p.0, p.1)

  pub type_attributes_lem : (r : ℕ) → r < table_count rows type_section → attributes_fit (type_attributes (type_row rows r)) ≡ true
  type_attributes_lem r l = below_true (table_count rows type_section) (λ j. attributes_fit (type_attributes (type_row rows j))) numbers_hold.0 r l

  expression_holds : (r : ℕ) → r < table_count rows expression_section → (row_constant_fits (expression_row rows r) && attributes_fit (expression_attributes (expression_row rows r))) ≡ true
  expression_holds r l =
      below_true (table_count rows expression_section) (λ j. row_constant_fits (expression_row rows j) && attributes_fit (expression_attributes (expression_row rows j))) numbers_hold.1 r l

  pub expression_attributes_lem : (r : ℕ) → r < table_count rows expression_section → attributes_fit (expression_attributes (expression_row rows r)) ≡ true
  expression_attributes_lem r l = and_right (row_constant_fits (expression_row rows r)) (attributes_fit (expression_attributes (expression_row rows r))) (expression_holds r l)

  pub constant_holds : (r : ℕ) → r < table_count rows expression_section → row_constant_fits (expression_row rows r) ≡ true
  constant_holds r l = and_left (row_constant_fits (expression_row rows r)) (attributes_fit (expression_attributes (expression_row rows r))) (expression_holds r l)

  pub constant_row_fits : (r : ℕ) → r < table_count rows expression_section → ConstantHas Plain (expression_row rows r)
  constant_row_fits r l = row_plain (expression_row rows r) (constant_holds r l)

  pub tree_plain : (r : ℕ) → r < table_count rows expression_section → ConstantsHave Plain (expression_tree rows r)
  unfolding size
  tree_plain r l = tree_has Plain (fit_truth, refl) rows (table_count rows expression_section) constant_row_fits r l

  tree_constants : (r : ℕ) → r < table_count rows expression_section → ConstantsFit (expression_tree rows r)
  tree_constants r l = constants_imply (λ c h. h.0) (expression_tree rows r) (tree_plain r l)

-- ---- 18: a procedure's parameters are among its variables
pub record Parameters (rows : List ℕ) (k : ℕ) : Type 0 where
  pub values : value_count rows k ≤ most_parameters
  pub references : reference_count rows k ≤ most_parameters
  pub within : value_count rows k + reference_count rows k ≤ pair_count rows (variable_table k)
  pub few : pair_count rows (variable_table k) ≤ most_variables

pub length_groups : (n w : ℕ) → length (groups n w) ≡ n
unfolding groups
length_groups zero w = refl
length_groups (suc n) w = ap suc (length_groups n (w / 16))

least_of : (m n : ℕ) → n ≤ m → min m n ≡ n
least_of m n l = omega arith

-- ---- 10: what rows name
all_below_lem : (n : ℕ) (rs : List ℕ) → all_below n rs ≡ true → Every (λ r. r < n) rs
all_below_lem n rs e = every_implies (λ r q. ltb-true r n q) (all_true_lem (λ r. ltb r n) rs e)

-- what holds of a call holds of a row that is one
on_call_lem : (row : InstructionRow) (f : ℕ → ℕ → ℕ → Bool) (k b c : ℕ) → row ≡ call_row k b c → on_call row f ≡ true → f k b c ≡ true
on_call_lem row f k b c e h = subst (λ (i : InstructionRow). on_call i f ≡ true) e h

module _ (rows : List ℕ) (accepted : AcceptedRows rows) where
  refers_hold : (every_below (suc (procedure_count rows)) (λ s. declarations_refer rows s) ≡ true)
      × (every_below (table_count rows type_section) (λ r. all_below r (type_parts (type_row rows r))) ≡ true)
      × (every_below (table_count rows expression_section) (λ r. all_below r (operands (expression_row rows r))) ≡ true)
      × (every_below (table_count rows instruction_section) (λ r. instruction_refers rows r) ≡ true)
      × (every_below (procedure_count rows) (λ k. ltb (body_row rows k) (pred (table_count rows instruction_section))) ≡ true)
  unfolding reference_wrong rows_refer
  refers_hold =
      all_five
      (every_below (suc (procedure_count rows)) (λ s. declarations_refer rows s))
      (every_below (table_count rows type_section) (λ r. all_below r (type_parts (type_row rows r))))
      (every_below (table_count rows expression_section) (λ r. all_below r (operands (expression_row rows r))))
      (every_below (table_count rows instruction_section) (λ r. instruction_refers rows r))
      (every_below (procedure_count rows) (λ k. ltb (body_row rows k) (pred (table_count rows instruction_section))))
      (not-false (rows_refer rows) (or_left (not (rows_refer rows)) (variables_wrong rows) accepted.references))

  -- the declarations of a scope
  declaration_refers_lem : (a : ℕ) → a ≤ procedure_count rows → (d : ℕ) → d < pair_count rows (scope_table a) → declaration_refers rows (scope_table a) d ≡ true
  unfolding declarations_refer
  declaration_refers_lem a h d l =
      below_true (pair_count rows (scope_table a)) (λ k. declaration_refers rows (scope_table a) k)
      (below_true (suc (procedure_count rows)) (λ s. declarations_refer rows s) refers_hold.0 a (omega arith)) d l

  pub scope_type : (a : ℕ) → a ≤ procedure_count rows → (d : ℕ) → d < pair_count rows (scope_table a) → a_at rows (detail_row rows (scope_table a) d) < table_count rows type_section
  unfolding declaration_refers
  scope_type a h d l =
      ltb-true (a_at rows (detail_row rows (scope_table a) d)) (table_count rows type_section)
      (and_left _ (all_below (table_count rows expression_section) (yoke_root (yoke_in rows (scope_table a) d))) (declaration_refers_lem a h d l))

  pub scope_root : (a : ℕ) → a ≤ procedure_count rows → (d : ℕ) → d < pair_count rows (scope_table a) → Every (λ r. r < table_count rows expression_section) (yoke_root (yoke_in rows (scope_table a) d))
  unfolding declaration_refers
  scope_root a h d l =
      all_below_lem (table_count rows expression_section) (yoke_root (yoke_in rows (scope_table a) d))
      (and_right (ltb (a_at rows (detail_row rows (scope_table a) d)) (table_count rows type_section)) _ (declaration_refers_lem a h d l))

  -- the profile's own
  pub declared_type : (d : ℕ) → d < pair_count rows declaration_section → a_at rows (detail_row rows declaration_section d) < table_count rows type_section
  declared_type d l = scope_type 0 (omega arith) d l

  pub declared_root : (d : ℕ) → d < pair_count rows declaration_section → Every (λ r. r < table_count rows expression_section) (yoke_root (declared_yoke rows d))
  declared_root d l = scope_root 0 (omega arith) d l

  -- types name lower types
  pub type_parts_below : (r : ℕ) → r < table_count rows type_section → Every (λ a. a < r) (type_parts (type_row rows r))
  type_parts_below r l =
      all_below_lem r (type_parts (type_row rows r)) (below_true (table_count rows type_section) (λ k. all_below k (type_parts (type_row rows k))) refers_hold.1 r l)

  -- operands are lower rows
  pub operands_below : (r : ℕ) → r < table_count rows expression_section → Every (λ a. a < r) (operands (expression_row rows r))
  operands_below r l =
      all_below_lem r (operands (expression_row rows r)) (below_true (table_count rows expression_section) (λ k. all_below k (operands (expression_row rows k))) refers_hold.2 r l)

  instruction_refers_lem : (r : ℕ) → r < table_count rows instruction_section
      → (all_below r (parts (instruction_row rows r)) ≡ true)
      × (all_below (table_count rows expression_section) (evaluated (instruction_row rows r) ++ yoke_set (instruction_row rows r)) ≡ true)
      × (on_call (instruction_row rows r) (λ k b c. ltb k (procedure_count rows)) ≡ true)
  unfolding instruction_refers
  instruction_refers_lem r l =
      let all = below_true (table_count rows instruction_section) (λ k. instruction_refers rows k) refers_hold.3 r l in
      let lower = all_below r (parts (instruction_row rows r)) in
      let named = all_below (table_count rows expression_section) (evaluated (instruction_row rows r) ++ yoke_set (instruction_row rows r)) in
      let both = and_left (lower && named) _ all in
      (and_left lower named both, and_right lower named both, and_right (lower && named) _ all)

  -- and so are parts
  pub parts_below : (r : ℕ) → r < table_count rows instruction_section → Every (λ a. a < r) (parts (instruction_row rows r))
  parts_below r l = all_below_lem r (parts (instruction_row rows r)) (instruction_refers_lem r l).0

  pub instruction_roots_lem : (r : ℕ) → r < table_count rows instruction_section
      → Every (λ k. k < table_count rows expression_section) (evaluated (instruction_row rows r) ++ yoke_set (instruction_row rows r))
  instruction_roots_lem r l = all_below_lem (table_count rows expression_section) (evaluated (instruction_row rows r) ++ yoke_set (instruction_row rows r)) (instruction_refers_lem r l).1

  -- a procedure's body is an instruction row, and not the last
  pub body_below_last : (k : ℕ) → k < procedure_count rows → body_row rows k < pred (table_count rows instruction_section)
  body_below_last k l =
      ltb-true (body_row rows k) (pred (table_count rows instruction_section))
      (below_true (procedure_count rows) (λ j. ltb (body_row rows j) (pred (table_count rows instruction_section))) refers_hold.4 k l)

  pub body_row_lem : (k : ℕ) → k < procedure_count rows → body_row rows k < table_count rows instruction_section
  body_row_lem k l = omega (arith, body_below_last k l)

  -- a call names a procedure
  pub call_procedure : (r k b c : ℕ) → r < table_count rows instruction_section → instruction_row rows r ≡ call_row k b c → k < procedure_count rows
  call_procedure r k b c l e = ltb-true k (procedure_count rows) (on_call_lem (instruction_row rows r) (λ j x y. ltb j (procedure_count rows)) k b c e (instruction_refers_lem r l).2)

  -- ---- whose variables rows name
  variables_hold : (every_below (table_count rows expression_section) (λ r. all_below (variables_seen rows (expression_scope rows r)) (expression_variables (expression_row rows r))) ≡ true)
      × (every_below (table_count rows instruction_section) (λ r. variables_fit rows r) ≡ true)
  unfolding reference_wrong variables_wrong
  variables_hold =
      all_two
      (every_below (table_count rows expression_section) (λ r. all_below (variables_seen rows (expression_scope rows r)) (expression_variables (expression_row rows r))))
      (every_below (table_count rows instruction_section) (λ r. variables_fit rows r))
      (or_right (not (rows_refer rows)) (variables_wrong rows) accepted.references)

  pub expression_variables_lem : (r : ℕ) → r < table_count rows expression_section
      → Every (λ n. n < pair_count rows (scope_table (expression_scope rows r))) (expression_variables (expression_row rows r))
  unfolding variables_seen
  expression_variables_lem r l =
      all_below_lem (pair_count rows (scope_table (expression_scope rows r))) (expression_variables (expression_row rows r))
      (below_true (table_count rows expression_section) (λ j. all_below (variables_seen rows (expression_scope rows j)) (expression_variables (expression_row rows j))) variables_hold.0 r l)

  -- the variables that a row names itself, and those that a call gives
  variables_fit_lem : (r : ℕ) → r < table_count rows instruction_section
      → (all_below (pair_count rows (scope_table (instruction_scope rows r))) (instruction_variables (instruction_row rows r)) ≡ true)
      × (on_call (instruction_row rows r) (λ k b c. all_below (pair_count rows (scope_table (instruction_scope rows r))) (given_values rows k b ++ given_references rows k c)) ≡ true)
  unfolding variables_fit variables_seen
  variables_fit_lem r l =
      let all = below_true (table_count rows instruction_section) (λ j. variables_fit rows j) variables_hold.1 r l in
      let own = all_below (pair_count rows (scope_table (instruction_scope rows r))) (instruction_variables (instruction_row rows r)) in
      (and_left own _ all, and_right own _ all)

  pub instruction_variables_lem : (r : ℕ) → r < table_count rows instruction_section
      → Every (λ n. n < pair_count rows (scope_table (instruction_scope rows r))) (instruction_variables (instruction_row rows r))
  instruction_variables_lem r l = all_below_lem (pair_count rows (scope_table (instruction_scope rows r))) (instruction_variables (instruction_row rows r)) (variables_fit_lem r l).0

  pub given_variables : (r k b c : ℕ) → r < table_count rows instruction_section → instruction_row rows r ≡ call_row k b c
      → Every (λ n. n < pair_count rows (scope_table (instruction_scope rows r))) (given_values rows k b ++ given_references rows k c)
  given_variables r k b c l e =
      all_below_lem (pair_count rows (scope_table (instruction_scope rows r))) (given_values rows k b ++ given_references rows k c)
      (on_call_lem (instruction_row rows r) (λ j x y. all_below (pair_count rows (scope_table (instruction_scope rows r))) (given_values rows j x ++ given_references rows j y)) k b c e (variables_fit_lem r l).1)

  -- ---- 11: each expression row is used once
  uses_hold : (every_below (table_count rows expression_section) (λ k. eqb (occurrences k (expression_uses rows)) 1) ≡ true)
      × (every_below (pred (table_count rows instruction_section)) (λ k. eqb (occurrences k (instruction_uses rows)) 1) ≡ true)
  unfolding use_wrong
  uses_hold =
      all_two
      (every_below (table_count rows expression_section) (λ k. eqb (occurrences k (expression_uses rows)) 1))
      (every_below (pred (table_count rows instruction_section)) (λ k. eqb (occurrences k (instruction_uses rows)) 1))
      accepted.uses

  pub used_once : (r : ℕ) → r < table_count rows expression_section → occurrences r (expression_uses rows) ≡ 1
  used_once r l =
      eqb-true (occurrences r (expression_uses rows)) 1 (below_true (table_count rows expression_section) (λ k. eqb (occurrences k (expression_uses rows)) 1) uses_hold.0 r l)

  -- and so is each instruction row but the last
  pub instruction_once : (r : ℕ) → r < pred (table_count rows instruction_section) → occurrences r (instruction_uses rows) ≡ 1
  instruction_once r l =
      eqb-true (occurrences r (instruction_uses rows)) 1 (below_true (pred (table_count rows instruction_section)) (λ k. eqb (occurrences k (instruction_uses rows)) 1) uses_hold.1 r l)

  -- ---- 12: yokes read no variable
  yoke_roots_lem : Every (λ r. not (reads_variable (expression_tree rows r)) ≡ true) (yoke_roots rows)
  unfolding place_wrong
  yoke_roots_lem =
      all_true_lem (λ r. not (reads_variable (expression_tree rows r))) (yoke_roots rows)
      (all_two (all_of (λ r. not (reads_variable (expression_tree rows r))) (yoke_roots rows)) (all_of (λ r. not (reads_current (expression_tree rows r))) (plain_roots rows)) accepted.places).0

  scope_reads_none : (a : ℕ) → a ≤ procedure_count rows → (d : ℕ) → d < pair_count rows (scope_table a)
      → Every (λ r. not (reads_variable (expression_tree rows r)) ≡ true) (yoke_root (yoke_in rows (scope_table a) d))
  unfolding yoke_roots declared_roots
  scope_reads_none a h d l =
      let scopes = every_joined_part (tabulate (suc (procedure_count rows)) (λ s. declared_roots rows s)) (every_left _ _ yoke_roots_lem) in
      tabulated (pair_count rows (scope_table a)) (λ k. yoke_root (yoke_in rows (scope_table a) k))
      (every_joined_part (tabulate (pair_count rows (scope_table a)) (λ k. yoke_root (yoke_in rows (scope_table a) k)))
      (tabulated (suc (procedure_count rows)) (λ s. declared_roots rows s) scopes a (omega arith))) d l

  set_reads_none : (r : ℕ) → r < table_count rows instruction_section → Every (λ k. not (reads_variable (expression_tree rows k)) ≡ true) (yoke_set (instruction_row rows r))
  unfolding yoke_roots
  set_reads_none r l =
      tabulated (table_count rows instruction_section) (λ k. yoke_set (instruction_row rows k))
      (every_joined_part (tabulate (table_count rows instruction_section) (λ k. yoke_set (instruction_row rows k)))
      (every_right (joined (tabulate (suc (procedure_count rows)) (λ s. declared_roots rows s))) _ yoke_roots_lem)) r l

  closed_yoke : (y : ℕ) → Every (λ r. r < table_count rows expression_section) (yoke_root y) → Every (λ r. not (reads_variable (expression_tree rows r)) ≡ true) (yoke_root y) → ClosedYoke (yoke_tree rows y)
  unfolding yoke_root yoke_tree ClosedYoke
  closed_yoke zero h k = tt
  closed_yoke (suc r) (every_more h hs) (every_more k ks) =
      record { constants = tree_constants rows accepted r h; reads_none = not-true (reads_variable (expression_tree rows r)) k }

  -- a declared yoke of a scope
  pub scope_closed : (a : ℕ) → a ≤ procedure_count rows → (d : ℕ) → d < pair_count rows (scope_table a) → ClosedYoke (yoke_tree rows (yoke_in rows (scope_table a) d))
  scope_closed a h d l = closed_yoke (yoke_in rows (scope_table a) d) (scope_root a h d l) (scope_reads_none a h d l)

  -- ---- instructions
  node_well_made : (r : ℕ) (row : InstructionRow) (look : ℕ → Instruction) → Every (λ k. k < table_count rows expression_section) (evaluated row ++ yoke_set row)
      → Every (λ k. not (reads_variable (expression_tree rows k)) ≡ true) (yoke_set row) → WellMade (instruction_of rows r row look)
  unfolding instruction_of WellMade evaluated yoke_set
  node_well_made r skip_row look h k = tt
  node_well_made r (assign_row n e) look (every_more h hs) k = tree_constants rows accepted e h
  node_well_made r (set_yoke_row n y) look h k = closed_yoke y h k
  node_well_made r (sequence_row i j) look h k = tt
  node_well_made r (branch_row e i j) look (every_more h hs) k = tree_constants rows accepted e h
  node_well_made r (loop_row e i) look (every_more h hs) k = tree_constants rows accepted e h
  node_well_made r (handle_row n i) look h k = tt
  node_well_made r (call_row p b c) look h k = tt
  node_well_made r unknown_instruction look h k = tt

  pub tree_well_made : (r : ℕ) → r < table_count rows instruction_section → WellMade (instruction_tree rows r)
  unfolding instruction_tree instruction_in
  tree_well_made r l = node_well_made r (instruction_row rows r) _ (instruction_roots_lem r l) (set_reads_none r l)

  -- ---- 7 and 18: how many there are
  counts_hold : (between 1 most_variables (pair_count rows declaration_section) ≡ true)
      × (between 1 most_types (table_count rows type_section) ≡ true)
      × (between 0 most_expressions (table_count rows expression_section) ≡ true)
      × (between 1 most_instructions (table_count rows instruction_section) ≡ true)
      × (between 0 most_procedures (procedure_count rows) ≡ true)
  unfolding count_wrong
  counts_hold =
      all_five
      (between 1 most_variables (pair_count rows declaration_section)) (between 1 most_types (table_count rows type_section))
      (between 0 most_expressions (table_count rows expression_section)) (between 1 most_instructions (table_count rows instruction_section))
      (between 0 most_procedures (procedure_count rows)) (not-false _ accepted.counts)

  at_least : (low high n : ℕ) → between low high n ≡ true → low ≤ n
  at_least low high n e = leb-true low n (and_left (leb low n) (leb n high) e)

  at_most : (low high n : ℕ) → between low high n ≡ true → n ≤ high
  at_most low high n e = leb-true n high (and_right (leb low n) (leb n high) e)

  -- there is a program
  pub program_row : pred (table_count rows instruction_section) < table_count rows instruction_section
  program_row = omega (arith, at_least 1 most_instructions (table_count rows instruction_section) counts_hold.3)

  pub most_rows : table_count rows expression_section ≤ most_expressions
  most_rows = at_most 0 most_expressions (table_count rows expression_section) counts_hold.2

  pub few_procedures_lem : procedure_count rows ≤ most_procedures
  few_procedures_lem = at_most 0 most_procedures (procedure_count rows) counts_hold.4

  -- a procedure's parameters and variables
  parameters_hold : (every_below (procedure_count rows) (λ k. parameters_fit rows k) ≡ true)
      × (every_below (table_count rows instruction_section) (λ r. on_call (instruction_row rows r) (λ k b c. eqb (bits_above (value_count rows k) b) 0 && eqb (bits_above (reference_count rows k) c) 0)) ≡ true)
  unfolding parameters_wrong
  parameters_hold =
      all_two
      (every_below (procedure_count rows) (λ k. parameters_fit rows k))
      (every_below (table_count rows instruction_section) (λ r. on_call (instruction_row rows r) (λ k b c. eqb (bits_above (value_count rows k) b) 0 && eqb (bits_above (reference_count rows k) c) 0)))
      accepted.parameters

  pub parameters_of : (k : ℕ) → k < procedure_count rows → Parameters rows k
  unfolding parameters_fit
  parameters_of k l =
      let values = leb (value_count rows k) most_parameters in
      let references = leb (reference_count rows k) most_parameters in
      let within = leb (value_count rows k + reference_count rows k) (pair_count rows (variable_table k)) in
      let few = leb (pair_count rows (variable_table k)) most_variables in
      let all = below_true (procedure_count rows) (λ j. parameters_fit rows j) parameters_hold.0 k l in
      let three = and_left (values && references && within) few all in
      let two = and_left (values && references) within three in
      record {
        values = leb-true (value_count rows k) most_parameters (and_left values references two);
        references = leb-true (reference_count rows k) most_parameters (and_right values references two);
        within = leb-true (value_count rows k + reference_count rows k) (pair_count rows (variable_table k)) (and_right (values && references) within three);
        few = leb-true (pair_count rows (variable_table k)) most_variables (and_right (values && references && within) few all);
      }

  -- every scope has at most 16 variables
  pub few_variables : (a : ℕ) → a ≤ procedure_count rows → pair_count rows (scope_table a) ≤ most_variables
  few_variables zero h = at_most 1 most_variables (pair_count rows declaration_section) counts_hold.0
  few_variables (suc k) h = (parameters_of k (omega arith)).few

  -- ---- 18 and 19: calls
  -- the bits above those of the variables that are given are 0
  pub call_bits : (r k b c : ℕ) → r < table_count rows instruction_section → instruction_row rows r ≡ call_row k b c
      → (bits_above (value_count rows k) b ≡ 0) × (bits_above (reference_count rows k) c ≡ 0)
  call_bits r k b c l e =
      let values = eqb (bits_above (value_count rows k) b) 0 in
      let references = eqb (bits_above (reference_count rows k) c) 0 in
      let both = on_call_lem (instruction_row rows r) (λ j x y. eqb (bits_above (value_count rows j) x) 0 && eqb (bits_above (reference_count rows j) y) 0) k b c e
      (below_true (table_count rows instruction_section) (λ q. on_call (instruction_row rows q) (λ j x y. eqb (bits_above (value_count rows j) x) 0 && eqb (bits_above (reference_count rows j) y) 0)) parameters_hold.1 r l) in
      (eqb-true (bits_above (value_count rows k) b) 0 (and_left values references both), eqb-true (bits_above (reference_count rows k) c) 0 (and_right values references both))

  -- as many variables are given as there are parameters
  pub given_values_lem : (k b : ℕ) → k < procedure_count rows → length (given_values rows k b) ≡ value_count rows k
  unfolding given_values
  given_values_lem k b l = length_groups (min most_parameters (value_count rows k)) b ∙ least_of most_parameters (value_count rows k) (parameters_of k l).values

  pub given_references_lem : (k c : ℕ) → k < procedure_count rows → length (given_references rows k c) ≡ reference_count rows k
  unfolding given_references
  given_references_lem k c l = length_groups (min most_parameters (reference_count rows k)) c ∙ least_of most_parameters (reference_count rows k) (parameters_of k l).references

  -- and those by reference are all different
  pub references_differ : (r k b c : ℕ) → r < table_count rows instruction_section → instruction_row rows r ≡ call_row k b c → all_different (given_references rows k c) ≡ true
  unfolding references_wrong
  references_differ r k b c l e =
      on_call_lem (instruction_row rows r) (λ j x y. all_different (given_references rows j y)) k b c e
      (below_true (table_count rows instruction_section) (λ q. on_call (instruction_row rows q) (λ j x y. all_different (given_references rows j y))) (not-false _ accepted.repeated) r l)

  -- ---- the profile
  scope_row_lem : (a : ℕ) → a ≤ procedure_count rows → scope_row rows a < table_count rows instruction_section
  scope_row_lem zero h = program_row
  scope_row_lem (suc k) h = body_row_lem k h

  -- what holds of each row's tree holds at every node of what each scope runs
  pub scope_everywhere : (Q : Instruction → Type 0) → ((r : ℕ) → Q (skip r)) → ((r : ℕ) → r < table_count rows instruction_section → Q (instruction_tree rows r))
      → (lims : List ℕ) (a : ℕ) → Everywhere Q (scope_program (profile_of rows lims) a)
  scope_everywhere Q skips each lims a =
      scope_runs rows lims (λ i. Everywhere Q i) a
      (λ h. tree_everywhere Q skips rows (table_count rows instruction_section) each (scope_row rows a) (scope_row_lem a h)) (at_skip (skips 0))

  pub profile_well_made : (lims : List ℕ) → WellMadeProfile (profile_of rows lims)
  unfolding declaration_in yoke_in
  profile_well_made lims a =
      record { yokes = scope_every rows lims (λ w. ClosedYoke w.declared) a (scope_closed a); instructions = scope_everywhere WellMade (λ r. unfold WellMade in tt) tree_well_made lims a }

  -- 13: each type row has a body, and a declared body is its type row's
  pub type_body_is : (r : ℕ) → r < table_count rows type_section → type_body rows r ≡ ok (body_or (type_body rows r))
  unfolding type_wrong
  type_body_is r l = is_answer (type_body rows r) (below_true (table_count rows type_section) (λ k. is_ok (type_body rows k)) (not-false _ accepted.types) r l)
    where
      is_answer : (o : Result Body) → is_ok o ≡ true → o ≡ ok (body_or o)
      is_answer (ok b) e = refl
      is_answer (fail n) e = false_is_true e

  pub scope_body_is : (a : ℕ) → a ≤ procedure_count rows → (d : ℕ) → d < pair_count rows (scope_table a) → body_in rows (scope_table a) d ≡ ok (body_or (body_in rows (scope_table a) d))
  unfolding body_in
  scope_body_is a h d l = type_body_is (a_at rows (detail_row rows (scope_table a) d)) (scope_type a h d l)

  pub declared_body_is : (lims : List ℕ) (d : ℕ) → d < pair_count rows declaration_section → declared_body rows d ≡ ok (declaration_at rows lims d).body
  unfolding declaration_at declaration_in
  declared_body_is lims d l = scope_body_is 0 (omega arith) d l

-- each filled variable at the end of every run of an accepted pair of files, whether or not the type check passes it
pub accepted_invariant : (prof lims : List ℕ) → lowest (pair_rules prof lims) ≡ 0 → (readings : List Reading) (budget n : ℕ) (x : Composite)
    → contents (last_state (run (profile_of (rows_of prof) (rows_of lims)) readings budget)).store n ≡ some x
    → FilledWell (profile_of (rows_of prof) (rows_of lims)).declarations n (variable_at (last_state (run (profile_of (rows_of prof) (rows_of lims)) readings budget)).store n) x
accepted_invariant prof lims e readings budget n x q =
    run_invariant (profile_of (rows_of prof) (rows_of lims)) (profile_well_made (rows_of prof) (accepted_pair prof lims e) (rows_of lims)) readings budget n x q

-- and each open call's variables, which are those of some procedure
pub accepted_open : (prof lims : List ℕ) → lowest (pair_rules prof lims) ≡ 0 → (readings : List Reading) (budget : ℕ)
    → Every (OpenKept (profile_of (rows_of prof) (rows_of lims))) (open_calls (run (profile_of (rows_of prof) (rows_of lims)) readings budget))
accepted_open prof lims e readings budget =
    open_kept (profile_of (rows_of prof) (rows_of lims)) (profile_well_made (rows_of prof) (accepted_pair prof lims e) (rows_of lims)) readings budget
