-- What a call gives, group by group, and as a whole. Assumes nothing.
use mathlib.Core.Path.{◌≡◌, refl, sym, ap, ap₂, ◌∙◌, subst}
use mathlib.Core.Bool.{Bool, true, false, ◌&&◌}
use mathlib.Core.List.{List, [], ◌∷◌, ◌++◌}
use Prim.Native.Nat.{ℕ, zero, suc, ◌+◌, ◌/◌, ◌%◌, ◌<◌, min}
use native.Mathlib.Numerals.{add-one}
use native.Mathlib.Omega.{arith}
use lib.ListN.{length}
use Rattle.lingua.specs.Numbers.{most_parameters, variable_table}
use Rattle.lingua.specs.Body.{same_body}
use Rattle.lingua.specs.Typing.{Bodies, given_fit}
use Rattle.lingua.specs.Rows.{pair_count, value_count, reference_count, groups}
use Rattle.lingua.specs.Trees.{given_values, given_references}
use Rattle.safety.specs.Every.{Every, every_more, every_left, every_right}
use Rattle.safety.specs.Accepted.{Parameters, parameters_of, length_groups}
use Rattle.decoder.specs.Tables.{IsTable, IsProcedure}
use Rattle.decoder.specs.declared.tables.Table.{Table}
use Rattle.decoder.specs.declared.tables.Procedure.{Procedure}
use Rattle.profile.specs.Variables.{VariablesKnown}
use Rattle.typing.specs.declared.walk.Scope.{Scope}
use Rattle.typing.specs.Check.{variable_bodies, declared_bodies}
use Rattle.typecheck.specs.Verdicts.{procedure_bodies, Given, CallAsked}
use Rattle.typecheck.proofs.Scoping.{known_scope, known_ready, parameters_are, pairs_of}

-- ---- group by group
pub groups_more : (n r w : ℕ) → n ≡ r + 1 → groups n w ≡ w % 16 ∷ groups r (w / 16)
unfolding groups
groups_more zero r w e = absurd (let z : ⊥ = omega (arith, e) in z)
groups_more (suc n) r w e = ap (λ (k : ℕ). w % 16 ∷ groups k (w / 16)) (let q : n ≡ r = omega (arith, e) in q)

groups_none : (n w : ℕ) → n ≡ 0 → groups n w ≡ []
unfolding groups
groups_none zero w e = refl
groups_none (suc n) w e = absurd (let z : ⊥ = omega arith in z)

module _ {P : ℕ → Type 0} where
  first_of : {x : ℕ} {xs : List ℕ} → Every P (x ∷ xs) → P x
  first_of (every_more h hs) = h

  rest_of : {x : ℕ} {xs : List ℕ} → Every P (x ∷ xs) → Every P xs
  rest_of (every_more h hs) = hs

  pub group_first : (n r w : ℕ) → n ≡ r + 1 → Every P (groups n w) → P (w % 16)
  group_first n r w e h = first_of (subst (Every P) (groups_more n r w e) h)

  pub group_rest : (n r w : ℕ) → n ≡ r + 1 → Every P (groups n w) → Every P (groups r (w / 16))
  group_rest n r w e h = rest_of (subst (Every P) (groups_more n r w e) h)

module _ (vars params : Bodies) (n w m : ℕ) (o : Bool) (e : given_fit vars (groups n w) params m ≡ o) where
  pub fit_all : n ≡ 0 → true ≡ o
  unfolding given_fit
  fit_all z = ap (λ (ns : List ℕ). given_fit vars ns params m) (sym (groups_none n w z)) ∙ e

  module _ (r : ℕ) (l : n ≡ r + 1) where
    one_more : (same_body (vars (w % 16)) (params m) && given_fit vars (groups r (w / 16)) params (suc m)) ≡ o
    unfolding given_fit
    one_more = ap (λ (ns : List ℕ). given_fit vars ns params m) (sym (groups_more n r w l)) ∙ e

    pub fit_fails : same_body (vars (w % 16)) (params m) ≡ false → false ≡ o
    fit_fails h = ap (λ (b : Bool). b && given_fit vars (groups r (w / 16)) params (suc m)) (sym h) ∙ one_more

    pub fit_more : same_body (vars (w % 16)) (params m) ≡ true → given_fit vars (groups r (w / 16)) params (m + 1) ≡ o
    fit_more h =
        ap (λ (k : ℕ). given_fit vars (groups r (w / 16)) params k) (add-one m)
        ∙ ap (λ (b : Bool). b && given_fit vars (groups r (w / 16)) params (suc m)) (sym h)
        ∙ one_more

-- ---- as a whole
fit_append : (vars params : Bodies) (xs ys : List ℕ) (m : ℕ) → given_fit vars (xs ++ ys) params m ≡ (given_fit vars xs params m && given_fit vars ys params (m + length xs))
unfolding given_fit
fit_append vars params [] ys m = ap (λ (k : ℕ). given_fit vars ys params k) (let e : m ≡ m + 0 = omega arith in e)
fit_append vars params (x ∷ xs) ys m =
    ap (λ (b : Bool). same_body (vars x) (params m) && b) (fit_append vars params xs ys (suc m) ∙ ap (λ (k : ℕ). given_fit vars xs params (suc m) && given_fit vars ys params k) (let e : suc m + length xs ≡ m + suc (length xs) = omega arith in e))
    ∙ three (same_body (vars x) (params m)) (given_fit vars xs params (suc m)) (given_fit vars ys params (m + suc (length xs)))
  where
    three : (a b c : Bool) → (a && (b && c)) ≡ ((a && b) && c)
    three true b c = refl
    three false b c = refl

-- a call, its procedure's first row and the table of its variables
module _ {s : Scope} {k b c : ℕ} {p : Procedure} {t : Table} (h : CallAsked s k b c) (first : IsProcedure s.rows.now k p) (table : IsTable s.rows.now (variable_table k) t) where
  abbrev rows : List ℕ
  rows = s.rows.now

  is : Parameters rows k
  is = parameters_of rows h.known.accepted k h.procedure

  values_are : given_values rows k b ≡ groups p.values b
  unfolding given_values
  values_are = ap (λ (n : ℕ). groups n b) (let e : min most_parameters (value_count rows k) ≡ p.values = omega (arith, is.values, first.values) in e)

  references_are : given_references rows k c ≡ groups p.references c
  unfolding given_references
  references_are = ap (λ (n : ℕ). groups n c) (let e : min most_parameters (reference_count rows k) ≡ p.references = omega (arith, is.references, first.references) in e)

  abbrev Own : ℕ → Type 0
  Own n = n < pair_count rows s.variables.section

  wanted : VariablesKnown rows t s.bodies.now
  wanted = known_scope (known_ready h.known) (suc k) h.procedure table

  pub values_given : Given s t b p.values 0
  values_given =
      record {
        known = h.known;
        wanted = wanted;
        declared = subst (Every Own) values_are (every_left (given_values rows k b) (given_references rows k c) h.declared);
        within = pairs_of (0 + p.values) table (omega (arith, is.within, first.values));
      }

  pub references_given : Given s t c p.references p.values
  references_given =
      record {
        known = h.known;
        wanted = wanted;
        declared = subst (Every Own) references_are (every_right (given_values rows k b) (given_references rows k c) h.declared);
        within = pairs_of (p.values + p.references) table (omega (arith, is.within, first.values, first.references));
      }

  abbrev fits : List ℕ → ℕ → Bool
  fits ns m = given_fit (declared_bodies s) ns (variable_bodies rows t.section) m

  abbrev whole : Bool
  whole = given_fit (declared_bodies s) (given_values rows k b ++ given_references rows k c) (procedure_bodies rows k) 0

  both_fit : (fits (groups p.values b) 0 && fits (groups p.references c) p.values) ≡ whole
  both_fit =
      ap (λ (m : ℕ). fits (groups p.values b) 0 && fits (groups p.references c) m) (let e : p.values ≡ 0 + length (groups p.values b) = omega (arith, length_groups p.values b) in e)
      ∙ sym (fit_append (declared_bodies s) (variable_bodies rows t.section) (groups p.values b) (groups p.references c) 0)
      ∙ ap (λ (ps : Bodies). given_fit (declared_bodies s) (groups p.values b ++ groups p.references c) ps 0) (parameters_are rows k t h.procedure table)
      ∙ sym (ap₂ (λ (xs ys : List ℕ). given_fit (declared_bodies s) (xs ++ ys) (procedure_bodies rows k) 0) values_are references_are)

  pub values_unfit : (x : Bool) → x ≡ fits (groups p.values b) 0 → x ≡ false → false ≡ whole
  values_unfit x e z = ap (λ (y : Bool). y && fits (groups p.references c) p.values) (sym z ∙ e) ∙ both_fit

  pub references_decide : (x y : Bool) → x ≡ fits (groups p.values b) 0 → x ≡ true → y ≡ fits (groups p.references c) p.values → y ≡ whole
  references_decide x y e z f = f ∙ ap (λ (w : Bool). w && fits (groups p.references c) p.values) (sym z ∙ e) ∙ both_fit
