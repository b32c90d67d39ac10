-- The type check of an accepted pair of files is sound: where it passes, no run of the pair meets a type error, for readings of number
-- variables and at every budget (`accepted_safe`). So each call that is not refused runs without type errors: `run_call_safe`,
-- `erased_call_safe`. Carried by scopes: each instruction row passes by the bodies of the variables that it names (`rows_derive`), so the
-- program passes by the profile's and each procedure's body by its own (`profile_derives`). Assumes nothing.
use Rattle.std.specs.Prelude.{◌≡◌, refl, Bool, true, false, not, ◌&&◌, eqb, ltb, length, get_or, ℤ}
use Rattle.std.proofs.Common.{sym, ap, ◌∙◌, ⊎_elim, arith, ltb-true}
use Rattle.std.proofs.Math.Path.{subst}
use mathlib.Core.List.{List, [], ◌∷◌, map, Memᴰ}
use Prim.Native.Nat.{ℕ, zero, suc, ◌+◌, ◌≤◌, ◌<◌, pred}
use Rattle.std.proofs.lemmas.Bool.{not-false}
use Rattle.lingua.specs.Numbers.{layout_length, declaration_section, instruction_section, declaration_place, most_readings}
use Rattle.lingua.specs.Outcome.{Outcome, ok, fail, Result, is_ok, all_answers}
use Rattle.lingua.specs.Body.{Body, boolean, is_quantity}
use Rattle.lingua.specs.Value.{all_of}
use Rattle.lingua.specs.Expression.{Instruction, skip}
use Rattle.lingua.specs.Store.{variable_at, Reading}
use Rattle.lingua.specs.Run.{Declaration, Procedure, no_procedure, unfilled, Scoped, scoped, Profile, scope_declarations, scope_program}
use Rattle.lingua.specs.Typing.{TypeError, Entry, Bodies, check_instruction, check_declarations, bodies_of, joined, all_declarations, scope_bodies, check_scoped, check_profile}
use Rattle.lingua.specs.Meets.{run_met}
use Rattle.lingua.specs.Rows.{table_count, pair_count, procedure_count, body_row}
use Rattle.lingua.specs.Trees.{tabulate_from, tabulate, instruction_tree, instruction_rows, instruction_scope, declared_body, body_or, declaration_in, declaration_at, profile_of}
use Rattle.lingua.specs.Format.{rows_of}
use Rattle.lingua.specs.Inputs.{Inputs, Buffers}
use Rattle.lingua.specs.Refusal.{lowest, pair_rules, body_has, is_variable_of, is_quantity_variable, reading_wrong, run_fits, run_rules, run_refusal, erased_refusal}
use Rattle.lingua.specs.Calls.{readings_of}
use Rattle.laws.specs.Outcomes.{and_left, and_right, false_is_true, or_right}
use Rattle.laws.specs.Tests.{below_or}
use Rattle.safety.specs.Answers.{same_answer, bound, all_answered}
use Rattle.safety.specs.Every.{Every, every_none, every_more, every_left, every_right, every_joined_part, every_implies, every_unmap, every_get_d, tabulated, all_true_lem}
use Rattle.safety.specs.Derivation.{Anything, anything, DerivedYoke, DerivedRow, yoke_derives, row_derives, yoke_closed}
use Rattle.safety.specs.Everywhere.{Everywhere, at_skip, everywhere_implies, everywhere_both}
use Rattle.safety.specs.Constants.{ClosedYoke}
use Rattle.safety.specs.Invariant.{WellMadeProfile}
use Rattle.safety.specs.Forest.{tree_everywhere}
use Rattle.safety.specs.Accepted.{AcceptedRows, accepted_pair, program_row, body_row_lem, profile_well_made}
use Rattle.safety.specs.ProfileScopes.{scope_row, scope_program_lem, scope_skips}
use Rattle.safety.specs.NodeRows.{node_row, tree_row, rows_everywhere}
use Rattle.safety.specs.Scoped.{body_scope, program_scope}
use Rattle.safety.specs.RunRules.{unfit_refused, none_refuses, erased_none}
use Rattle.safety.specs.RunErrors.{RunErrors}
use Rattle.safety.specs.Programs.{YokesDerived, TypedScope, TypedProfile, ReadsQuantity, run_safe}

-- ---- declared yokes
module _ (H : Entry → Type 0) (vars : Bodies) where
  -- a declaration whose yoke was found to give a boolean on its body
  unfoldable YokeFits : Declaration → Type 0
  YokeFits d = DerivedYoke H vars d.declared d.body

  declarations_derive : (d : ℕ) (ds : List Declaration) → Every (λ o. (es : List Entry) × (o ≡ ok es) × Every H es) (check_declarations vars d ds) → Every YokeFits ds
  unfolding check_declarations YokeFits
  declarations_derive d [] h = every_none
  declarations_derive d (v ∷ ds) (every_more h hs) =
      every_more (yoke_derives vars v.declared v.body (declaration_place + d) h.0 h.1 h.2) (declarations_derive (suc d) ds hs)

-- the variables that the check had matter nothing to yokes that read none
scope_yokes : (H : Entry → Type 0) (vars others : Bodies) {ds : List Declaration} → Every (YokeFits H vars) ds → Every (λ d. ClosedYoke d.declared) ds
    → (n : ℕ) → DerivedYoke H others (variable_at (map unfilled ds) n).yoke (bodies_of ds n)
unfolding YokeFits
scope_yokes H vars others every_none every_none n = unfold DerivedYoke in tt
scope_yokes H vars others (every_more {x = d} h hs) (every_more c cs) zero = yoke_closed H vars others d.declared d.body c h
scope_yokes H vars others (every_more {x = d} h hs) (every_more c cs) (suc n) = scope_yokes H vars others hs cs n

skip_derived : (H : Entry → Type 0) (procs : ℕ → Bodies) (vars : Bodies) (r : ℕ) → DerivedRow H procs vars (skip r)
unfolding DerivedRow
skip_derived H procs vars r = tt

-- ---- what the check found of a profile: H is what holds of all entries
abbrev procedure_bodies : Profile → ℕ → Bodies
procedure_bodies p k = scope_bodies p (suc k)

-- an instruction row, by the bodies of the variables that it names
unfoldable ScopedDerived : (Entry → Type 0) → Profile → Scoped → Type 0
ScopedDerived H p i = DerivedRow H (procedure_bodies p) (scope_bodies p i.scope) i.instruction

module _ (H : Entry → Type 0) (p : Profile) (es : List Entry) (passed : check_profile p ≡ ok es) (each : Every H es) where
  abbrev own : Bodies
  own = bodies_of p.declarations

  -- of declared yokes, procedures' too, and of instruction rows
  parts_derive : Every (YokeFits H own) (all_declarations p) × Every (ScopedDerived H p) p.instructions
  unfolding check_profile check_scoped ScopedDerived
  parts_derive =
      let a = bound (all_answers (check_declarations own 0 (all_declarations p))) _ es passed in
      let b = bound (all_answers (map (λ i. check_scoped p i) p.instructions)) _ es a.2 in
      let k = subst (Every H) (sym (same_answer b.2)) each in
      let ds = all_answered (check_declarations own 0 (all_declarations p)) a.0 a.1 (every_joined_part a.0 (every_left (joined a.0) (joined b.0) k)) in
      let is = all_answered (map (λ i. check_scoped p i) p.instructions) b.0 b.1 (every_joined_part b.0 (every_right (joined a.0) (joined b.0) k)) in (
        declarations_derive H own 0 (all_declarations p) ds,
        every_implies (λ i (h : (xs : List Entry) × (check_scoped p i ≡ ok xs) × Every H xs). row_derives (procedure_bodies p) (scope_bodies p i.scope) i.instruction h.0 h.1 h.2)
            (every_unmap (λ i. check_scoped p i) p.instructions is),
      )

  -- each scope's declared yokes
  scope_declared : (a : ℕ) → Every (YokeFits H own) (scope_declarations p a)
  unfolding all_declarations
  scope_declared zero = every_left p.declarations (joined (map (λ q. q.variables) p.procedures)) parts_derive.0
  scope_declared (suc k) =
      let vs = every_joined_part (map (λ q. q.variables) p.procedures) (every_right p.declarations (joined (map (λ q. q.variables) p.procedures)) parts_derive.0) in
      every_get_d {P = λ (q : Procedure). Every (YokeFits H own) q.variables} {d = no_procedure} (every_unmap (λ q. q.variables) p.procedures vs) every_none k

  -- so a scope is typed as soon as its tree is
  scope_typed : WellMadeProfile p → (a : ℕ) → Everywhere (DerivedRow H (procedure_bodies p) (scope_bodies p a)) (scope_program p a)
      → TypedScope H (procedure_bodies p) (scope_declarations p a) (scope_program p a)
  unfolding YokesDerived
  scope_typed made a h = record { yokes = scope_yokes H own (scope_bodies p a) (scope_declared a) (made a).yokes; instructions = h }

-- every instruction row, also one that no run gets to, by the bodies of its scope
pub rows_derive : {H : Entry → Type 0} (rows lims : List ℕ) (es : List Entry) → check_profile (profile_of rows lims) ≡ ok es → Every H es
    → (r : ℕ) → r < table_count rows instruction_section
    → DerivedRow H (λ k. scope_bodies (profile_of rows lims) (suc k)) (scope_bodies (profile_of rows lims) (instruction_scope rows r)) (instruction_tree rows r)
unfolding profile_of ScopedDerived
rows_derive {H} rows lims es e h =
    tabulated (table_count rows instruction_section) (λ r. scoped (instruction_scope rows r) (instruction_tree rows r)) (parts_derive H (profile_of rows lims) es e h).1

-- ---- trees: each node by the bodies of its row's scope
module _ {H : Entry → Type 0} (rows : List ℕ) (accepted : AcceptedRows rows) (lims : List ℕ) (es : List Entry) (passed : check_profile (profile_of rows lims) ≡ ok es) (each : Every H es) where
  abbrev whole : Profile
  whole = profile_of rows lims

  -- a tree all of whose rows name the variables of one scope
  tree_typed : (a r : ℕ) → r < table_count rows instruction_section → ((x : ℕ) → Memᴰ x (instruction_rows (instruction_tree rows r)) → instruction_scope rows x ≡ a)
      → Everywhere (DerivedRow H (procedure_bodies whole) (scope_bodies whole a)) (instruction_tree rows r)
  tree_typed a r l h =
      let own : Instruction → Type 0 = λ i. DerivedRow H (procedure_bodies whole) (scope_bodies whole (instruction_scope rows (node_row i))) i in
      let of_rows : Everywhere own (instruction_tree rows r) = tree_everywhere own (λ k. skip_derived H (procedure_bodies whole) (scope_bodies whole (instruction_scope rows (node_row (skip k)))) k) rows (table_count rows instruction_section)
      (λ k q. subst (λ (j : ℕ). DerivedRow H (procedure_bodies whole) (scope_bodies whole (instruction_scope rows j)) (instruction_tree rows k)) (sym (tree_row rows k)) (rows_derive rows lims es passed each k q)) r l in
      everywhere_implies (λ i (k : own i × (instruction_scope rows (node_row i) ≡ a)). subst (λ (b : ℕ). DerivedRow H (procedure_bodies whole) (scope_bodies whole b) i) k.1 k.0)
      (everywhere_both (instruction_tree rows r) of_rows (rows_everywhere {P = λ (x : ℕ). instruction_scope rows x ≡ a} (instruction_tree rows r) h))

  -- all rows of a scope's tree name its variables
  scope_rows : (a : ℕ) → a ≤ procedure_count rows → Everywhere (DerivedRow H (procedure_bodies whole) (scope_bodies whole a)) (instruction_tree rows (scope_row rows a))
  scope_rows zero l = tree_typed 0 (pred (table_count rows instruction_section)) (program_row rows accepted) (λ x m. program_scope rows accepted.uses accepted.references x m)
  scope_rows (suc k) l = tree_typed (suc k) (body_row rows k) (body_row_lem rows accepted k l) (λ x m. body_scope rows accepted.uses accepted.references k x l m)

  scope_tree : (a : ℕ) → Everywhere (DerivedRow H (procedure_bodies whole) (scope_bodies whole a)) (scope_program whole a)
  scope_tree a =
      let here : Instruction → Type 0 = Everywhere (DerivedRow H (procedure_bodies whole) (scope_bodies whole a)) in
      ⊎_elim (λ (l : procedure_count rows < a). subst here (sym (scope_skips rows lims a l)) (at_skip (skip_derived H (procedure_bodies whole) (scope_bodies whole a) 0)))
      (λ (l : a ≤ procedure_count rows). subst here (sym (scope_program_lem rows lims a l)) (scope_rows a l))
      (below_or (procedure_count rows) a)

  -- the rows that the check goes through are those of the program's and the bodies' trees
  pub profile_derives : TypedProfile H (profile_of rows lims)
  profile_derives a = scope_typed H (profile_of rows lims) es passed each (profile_well_made rows accepted lims) a (scope_tree a)

-- ---- any profile whose trees pass node by node
unfoldable pub PassedBelow : (ℕ → Bodies) → Bodies → Instruction → Type 0
PassedBelow procs vars i = Everywhere (λ k. (es : List Entry) × (check_instruction procs vars k ≡ ok es)) i

pub passed_below_derives : (p : Profile) → WellMadeProfile p → (es : List Entry) → check_profile p ≡ ok es
    → ((a : ℕ) → PassedBelow (λ k. scope_bodies p (suc k)) (scope_bodies p a) (scope_program p a)) → TypedProfile Anything p
unfolding PassedBelow
passed_below_derives p made es e h a =
    scope_typed Anything p es e (anything es) made a
    (everywhere_implies (λ i k. row_derives (procedure_bodies p) (scope_bodies p a) i k.0 k.1 (anything k.0)) (h a))

-- ---- readings
pub tabulated_at : {A B : Type 0} (f : A → B) (g : ℕ → A) (other : B) (i n k : ℕ) → k < n → get_or (map f (tabulate_from i n g)) k other ≡ f (g (i + k))
unfolding tabulate_from
tabulated_at f g other i zero k l = absurd (let z : ⊥ = omega arith in z)
tabulated_at f g other i (suc n) zero l = ap (λ (j : ℕ). f (g j)) (let e : i ≡ i + zero = omega arith in e)
tabulated_at f g other i (suc n) (suc k) l =
    tabulated_at f g other (suc i) n k (omega arith) ∙ ap (λ (j : ℕ). f (g j)) (let e : suc i + k ≡ i + suc k = omega arith in e)

-- the body of declaration d
pub profile_body : (rows lims : List ℕ) (d : ℕ) → d < pair_count rows declaration_section → bodies_of (profile_of rows lims).declarations d ≡ body_or (declared_body rows d)
unfolding profile_of tabulate declaration_at declaration_in
profile_body rows lims d l =
    tabulated_at (λ (c : Declaration). c.body) (λ k. declaration_at rows lims k) boolean 0 (pair_count rows declaration_section) d l
    ∙ ap (λ (k : ℕ). body_or (declared_body rows k)) (let e : 0 + d ≡ d = omega arith in e)

body_has_lem : (p : Body → Bool) (o : Result Body) → body_has p o ≡ true → p (body_or o) ≡ true
body_has_lem p (ok b) e = e
body_has_lem p (fail n) e = false_is_true e

pub variable_has : (p : Body → Bool) (rows lims : List ℕ) (v : ℕ) → is_variable_of p rows v ≡ true → p (bodies_of (profile_of rows lims).declarations v) ≡ true
unfolding is_variable_of
variable_has p rows lims v e =
    let inside = ltb v (pair_count rows declaration_section) in
    let has = body_has p (declared_body rows v) in
    ap p (profile_body rows lims v (ltb-true v (pair_count rows declaration_section) (and_left inside has e)))
    ∙ body_has_lem p (declared_body rows v) (and_right inside has e)

pub reads_quantity : (rows lims : List ℕ) (r : Reading) → is_quantity_variable rows r.variable ≡ true → ReadsQuantity (profile_of rows lims).declarations r
unfolding is_quantity_variable ReadsQuantity
reads_quantity rows lims r e = variable_has is_quantity rows lims r.variable e

-- ---- accepted pairs
pub accepted_safe : (prof lims : List ℕ) → lowest (pair_rules prof lims) ≡ 0 → (es : List Entry) → check_profile (profile_of (rows_of prof) (rows_of lims)) ≡ ok es
    → (readings : List Reading) → Every (λ r. is_quantity_variable (rows_of prof) r.variable ≡ true) readings → (budget : ℕ)
    → RunErrors (run_met (profile_of (rows_of prof) (rows_of lims)) readings budget)
accepted_safe prof lims e es passed readings ns budget =
    let rows = rows_of prof in
    let accepted = accepted_pair prof lims e in
    run_safe (profile_of rows (rows_of lims)) (profile_well_made rows accepted (rows_of lims)) (profile_derives rows accepted (rows_of lims) es passed (anything es))
    readings (every_implies (reads_quantity rows (rows_of lims)) ns) budget

-- ---- calls that are not refused
readings_of_numbers : (rows variables : List ℕ) (numbers : List ℤ) → Every (λ v. is_quantity_variable rows v ≡ true) variables → Every (λ r. is_quantity_variable rows r.variable ≡ true) (readings_of variables numbers)
unfolding readings_of
readings_of_numbers rows [] zs h = every_none
readings_of_numbers rows (v ∷ vs) [] h = every_none
readings_of_numbers rows (v ∷ vs) (z ∷ zs) (every_more h hs) = every_more h (readings_of_numbers rows vs zs hs)

reading_rule : (rows variables : List ℕ) → reading_wrong rows variables ≡ false → Every (λ v. is_quantity_variable rows v ≡ true) variables
unfolding reading_wrong
reading_rule rows variables e =
    all_true_lem (λ v. is_quantity_variable rows v) variables (not-false _ (or_right (ltb most_readings (length variables)) (not (all_of (λ v. is_quantity_variable rows v) variables)) e))

-- a run that is not refused takes readings of number variables
pub rules_readings : (i : Inputs) (b : Buffers) → run_refusal i b ≡ 0
    → Every (λ r. is_quantity_variable (rows_of i.profile) r.variable ≡ true) (readings_of i.variables i.numbers)
unfolding run_refusal
rules_readings i b e = readings_of_numbers (rows_of i.profile) i.variables i.numbers (reading_rule (rows_of i.profile) i.variables (none_refuses i _ e).1)

pub rules_pair : (i : Inputs) (b : Buffers) → run_refusal i b ≡ 0 → lowest (pair_rules i.profile i.limits) ≡ 0
unfolding run_refusal
rules_pair i b e = (none_refuses i _ e).0

pub run_call_safe : (i : Inputs) (b : Buffers) → run_refusal i b ≡ 0
    → (es : List Entry) → check_profile (profile_of (rows_of i.profile) (rows_of i.limits)) ≡ ok es → (budget : ℕ)
    → RunErrors (run_met (profile_of (rows_of i.profile) (rows_of i.limits)) (readings_of i.variables i.numbers) budget)
run_call_safe i b e es passed budget =
    accepted_safe i.profile i.limits (rules_pair i b e) es passed (readings_of i.variables i.numbers) (rules_readings i b e) budget

-- an erased run is refused where the type check finds an error
pub record ErasedAccepted (i : Inputs) (b : Buffers) : Type 0 where
  pub entries : List Entry
  pub passes : check_profile (profile_of (rows_of i.profile) (rows_of i.limits)) ≡ ok entries
  pub rules : run_refusal i b ≡ 0

pub erased_accepted : (i : Inputs) (b : Buffers) (layout : List ℕ) → erased_refusal i b layout ≡ 0 → ErasedAccepted i b
unfolding erased_refusal run_refusal
erased_accepted i b layout e =
    let a = erased_none i (eqb (length layout) layout_length && run_fits i b) _ e in
    let c = answered (check_profile (profile_of (rows_of i.profile) (rows_of i.limits))) (not-false _ a.1) in
    record { entries = c.0; passes = c.1; rules = fitting (eqb (length layout) layout_length) a.0 }
  where
    answered : (o : Outcome TypeError (List Entry)) → is_ok o ≡ true → (es : List Entry) × (o ≡ ok es)
    answered (ok es) q = (es, refl)
    answered (fail t) q = false_is_true q

    -- with a layout table of another length, 1 refuses
    fitting : (t : Bool) → lowest (run_rules (t && run_fits i b) i) ≡ 0 → lowest (run_rules (run_fits i b) i) ≡ 0
    fitting true q = q
    fitting false q = absurd (let z : ⊥ = omega (arith, sym (unfit_refused i) ∙ q) in z)

pub erased_call_safe : (i : Inputs) (b : Buffers) (layout : List ℕ) → erased_refusal i b layout ≡ 0
    → (budget : ℕ) → RunErrors (run_met (profile_of (rows_of i.profile) (rows_of i.limits)) (readings_of i.variables i.numbers) budget)
erased_call_safe i b layout e budget =
    let a = erased_accepted i b layout e in
    run_call_safe i b a.rules a.entries a.passes budget
