-- Scopes as the type check has them: their tables, how many variables there are, and the declared bodies of these. Assumes nothing.
use mathlib.Core.Path.{◌≡◌, refl, sym, ap, ap₂, ◌∙◌, subst, fun_ext}
use mathlib.Core.List.{List, [], ◌∷◌, map}
use Prim.Native.Nat.{ℕ, zero, suc, ◌+◌, ◌*◌, ◌≤◌, ◌<◌, ◌/◌}
use native.Mathlib.Numerals.{add-one}
use native.Mathlib.Omega.{arith}
use lib.ListN.{get_or}
use Rattle.lingua.specs.Numbers.{most_variables, most_procedures, expression_section, declaration_place, variable_table, scope_table}
use Rattle.lingua.specs.Outcome.{Outcome}
use Rattle.lingua.specs.Body.{Body, boolean}
use Rattle.lingua.specs.Run.{Declaration}
use Rattle.lingua.specs.Typing.{TypeError, Entry, check_instruction, bodies_of, scope_bodies}
use Rattle.lingua.specs.Rows.{table_count, pair_count, procedure_count}
use Rattle.lingua.specs.Trees.{tabulate_from, tabulate, yoke_tree, instruction_tree, declaration_in, profile_of}
use Rattle.lingua.specs.References.{yoke_in}
use Rattle.safety.specs.Constants.{ClosedYoke}
use Rattle.safety.specs.Accepted.{AcceptedRows, few_variables, scope_root, scope_closed}
use Rattle.safety.specs.ProfileScopes.{scope_declaration, scope_declarations_lem}
use Rattle.decoder.specs.Tables.{IsTable}
use Rattle.decoder.specs.declared.tables.Table.{Table}
use Rattle.scopes.specs.Marks.{InstructionScopes}
use Rattle.rules.specs.Accepted.{counts}
use Rattle.profile.specs.Variables.{scope_of, own_table, VariablesKnown}
use Rattle.profile.specs.Yokes.{every_yoke}
use Rattle.profile.proofs.Declaring.{pairs}
use Rattle.typing.specs.declared.walk.Scope.{Scope}
use Rattle.typing.specs.Check.{variable_bodies, Ready, Sees}
use Rattle.std.specs.Prelude.{Result as CodeResult}
use Rattle.lingua.specs.declared.errors.ErrorAt.{ErrorAt}
use Rattle.typecheck.specs.Verdicts.{ScopeIs, procedure_bodies, Settles, declarations_check, before, scope_check, instruction_check}

-- ---- tables
pub few_procedures_lem : (rows : List ℕ) → AcceptedRows rows → procedure_count rows ≤ most_procedures
few_procedures_lem rows accepted = (counts rows accepted.counts).procedures.most

-- a scope by its number
pub known_scope : {rows bodies : List ℕ} {t : Table} → Ready rows bodies → (a : ℕ) → a ≤ procedure_count rows → IsTable rows (scope_table a) t → VariablesKnown rows t bodies
known_scope ready a h is = record { scope = scope_of a h is; accepted = ready.accepted; held = ready.types }

pub scope_sees : {a : ℕ} {s : Scope} → ScopeIs a s → Ready s.rows.now s.bodies.now → Sees s
scope_sees {a} is ready = known_scope ready a is.there is.variables

pub known_ready : {rows bodies : List ℕ} {t : Table} → VariablesKnown rows t bodies → Ready rows bodies
known_ready known = record { accepted = known.accepted; types = known.held }

-- ---- variables
module _ {rows bodies : List ℕ} {t : Table} (known : VariablesKnown rows t bodies) where
  pub few_known : pair_count rows t.section ≤ most_variables
  few_known =
      subst (λ (s : ℕ). pair_count rows s ≤ most_variables) (sym known.scope.table.section) (few_variables rows known.accepted known.scope.scope known.scope.there)

  pub pairs_known : t.count / 2 ≡ pair_count rows t.section
  pairs_known = pairs rows t.section t (own_table known.scope.table)

  -- a declared yoke is there, and reads no variable
  pub yoke_there : (d y : ℕ) → d < pair_count rows t.section → y ≡ yoke_in rows t.section d → y ≤ table_count rows expression_section
  yoke_there d y l e =
      let s = known.scope in
      subst (λ (k : ℕ). k ≤ table_count rows expression_section) (sym (e ∙ ap (λ (k : ℕ). yoke_in rows k d) s.table.section))
      (every_yoke _ _ (scope_root rows known.accepted s.scope s.there d (subst (λ (k : ℕ). d < pair_count rows k) s.table.section l)))

  pub yoke_closed : (d y : ℕ) → d < pair_count rows t.section → y ≡ yoke_in rows t.section d → ClosedYoke (yoke_tree rows y)
  yoke_closed d y l e =
      let s = known.scope in
      subst (λ (k : ℕ). ClosedYoke (yoke_tree rows k)) (sym (e ∙ ap (λ (k : ℕ). yoke_in rows k d) s.table.section))
      (scope_closed rows known.accepted s.scope s.there d (subst (λ (k : ℕ). d < pair_count rows k) s.table.section l))

-- at most 16 in each scope
before_few : (rows : List ℕ) → AcceptedRows rows → (a : ℕ) → a ≤ suc (procedure_count rows) → before rows a ≤ 16 * a
unfolding before
before_few rows accepted zero l = omega arith
before_few rows accepted (suc a) l = omega (arith, before_few rows accepted a (omega arith), few_variables rows accepted a (omega arith))

pub places_few : {rows : List ℕ} → AcceptedRows rows → (a : ℕ) → a ≤ procedure_count rows → declaration_place + before rows a + pair_count rows (scope_table a) ≤ 1024
places_few {rows} accepted a l =
    omega (arith, few_procedures_lem rows accepted, before_few rows accepted a (omega arith), few_variables rows accepted a l)

pub before_more : (rows : List ℕ) (a : ℕ) → before rows (a + 1) ≡ before rows a + pair_count rows (scope_table a)
unfolding before
before_more rows a = ap (before rows) (add-one a)

-- ---- the same by the tables' own numbers
pub scope_settles : {rows : List ℕ} {t : Table} {first : ℕ} (a : ℕ) (v : CodeResult (Unit {0}) ErrorAt) (l m : List ℕ) → IsTable rows (scope_table a) t → first ≡ declaration_place + before rows a
    → Settles v l m (declarations_check rows t.section first) → Settles v l m (scope_check rows a)
unfolding scope_check
scope_settles {rows} a v l m is e h =
    subst (λ (o : Outcome TypeError (List Entry)). Settles v l m o) (ap₂ (λ (s n : ℕ). declarations_check rows s n) is.section e) h

pub row_settles : {rows scopes : List ℕ} {t : Table} (h : InstructionScopes rows scopes) (r : ℕ) (v : CodeResult (Unit {0}) ErrorAt) (l m : List ℕ) → IsTable rows (scope_table (get_or scopes r 0)) t
    → Settles v l m (check_instruction (procedure_bodies rows) (variable_bodies rows t.section) (instruction_tree rows r)) → Settles v l m (instruction_check rows r)
unfolding instruction_check
row_settles {rows} h r v l m is k =
    subst (λ (s : ℕ). Settles v l m (check_instruction (procedure_bodies rows) (variable_bodies rows s) (instruction_tree rows r))) (is.section ∙ ap scope_table (h.each r)) k

-- ---- declared bodies
pub map_tabulate : {A B : Type 0} (g : A → B) (f : ℕ → A) (i n : ℕ) → map g (tabulate_from i n f) ≡ tabulate_from i n (λ k. g (f k))
unfolding tabulate_from
map_tabulate g f i zero = refl
map_tabulate g f i (suc n) = ap (λ x. g (f i) ∷ x) (map_tabulate g f (suc i) n)

pub scope_bodies_lem : (rows lims : List ℕ) (a : ℕ) → a ≤ procedure_count rows → scope_bodies (profile_of rows lims) a ≡ variable_bodies rows (scope_table a)
unfolding variable_bodies tabulate declaration_in
scope_bodies_lem rows lims a l =
    ap (λ (ds : List Declaration). bodies_of ds) (scope_declarations_lem rows lims a l)
    ∙ fun_ext (λ n. ap (λ (bs : List Body). get_or bs n boolean) (map_tabulate (λ (d : Declaration). d.body) (λ d. scope_declaration rows lims a d) 0 (pair_count rows (scope_table a))))

pub procedure_bodies_lem : (rows : List ℕ) (k : ℕ) → k < procedure_count rows → procedure_bodies rows k ≡ variable_bodies rows (variable_table k)
unfolding procedure_bodies
procedure_bodies_lem rows k l = scope_bodies_lem rows [] (suc k) l

-- the same by a table's own number
pub parameters_are : (rows : List ℕ) (k : ℕ) (t : Table) → k < procedure_count rows → IsTable rows (variable_table k) t → variable_bodies rows t.section ≡ procedure_bodies rows k
parameters_are rows k t l is = ap (λ (s : ℕ). variable_bodies rows s) is.section ∙ sym (procedure_bodies_lem rows k l)

pub pairs_of : {rows : List ℕ} {s : ℕ} {t : Table} (n : ℕ) → IsTable rows s t → n ≤ pair_count rows s → n ≤ pair_count rows t.section
pairs_of {rows} n is h = subst (λ (s : ℕ). n ≤ pair_count rows s) (sym is.section) h
