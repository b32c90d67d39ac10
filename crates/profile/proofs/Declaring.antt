-- Declarations and limits: their rows, and a variable's body. Assumes nothing.
use mathlib.Core.Path.{◌≡◌, sym, ap, ◌∙◌, subst}
use mathlib.Core.Bool.{Bool, true, false, or-true, or-false}
use mathlib.Core.List.{List}
use Prim.Native.Nat.{ℕ, ◌+◌, ◌*◌, ◌/◌, ◌≤◌, ◌<◌}
use native.Mathlib.Omega.{arith}
use lib.Dec.{eqb}
use lib.ListN.{length, get_or}
use lib.IntN.{ℤ}
use mir.Syntax.{w32}
use mir.Val.{to_z}
use borrow.Author.Tests.{lt-ltb, le-ltb}
use Rattle.lingua.specs.Numbers.{declaration_section, type_section, limit_section, scope_table}
use Rattle.lingua.specs.Body.{Body, is_number, is_hundredths, is_quantity}
use Rattle.lingua.specs.Compute.{same_text}
use Rattle.lingua.specs.Rows.{word32, a_at, b_at, bytes_at, table_count, row_in, pair_count, name_row, detail_row, type_row}
use Rattle.lingua.specs.Trees.{type_body, body_in, declared_body, body_or, name_at}
use Rattle.lingua.specs.References.{yoke_in}
use Rattle.lingua.specs.Refusal.{is_variable_of}
use Rattle.safety.specs.Accepted.{AcceptedRows, scope_type}
use Rattle.decoder.specs.Tables.{IsTable}
use Rattle.decoder.specs.declared.tables.Table.{Table}
use Rattle.body.specs.Encode.{Holds}
use Rattle.body.proofs.Tags.{is_hundredths_lem, not_hundredths, first_number}
use Rattle.rules.specs.Accepted.{counts}
use Rattle.rules.specs.Types.{body_at, BodiesBelow}
use Rattle.profile.specs.Hundredths.{hundredths_row, type_hundredths}
use Rattle.profile.specs.Variables.{HasScope, own_table, DeclaredIs, declared_in}

-- ---- rows of pairs
module _ (rows : List ℕ) (s : ℕ) (t : Table) (is : IsTable rows s t) where
  pub detail_place : (d : ℕ) → t.start + (2 * d + 1) ≡ detail_row rows s d
  unfolding detail_row row_in
  detail_place d = ap (λ (n : ℕ). n + (2 * d + 1)) is.start

  pub name_place : (d : ℕ) → t.start + 2 * d ≡ name_row rows s d
  unfolding name_row row_in
  name_place d = ap (λ (n : ℕ). n + 2 * d) is.start

  pub pairs : t.count / 2 ≡ pair_count rows s
  unfolding pair_count
  pairs = ap (λ (n : ℕ). n / 2) is.count

  pub name_is : (d : ℕ) (cs : List ℕ) → cs ≡ bytes_at rows (t.start + 2 * d) → cs ≡ name_at rows s d
  unfolding name_at
  name_is d cs e = e ∙ ap (bytes_at rows) (name_place d)

  -- a name that is compared
  pub same_name : (d : ℕ) (name cs : List ℕ) (b : Bool) → cs ≡ bytes_at rows (t.start + 2 * d) → b ≡ same_text cs name → b ≡ same_text (name_at rows s d) name
  unfolding name_at
  same_name d name cs b e h = h ∙ ap (λ (l : List ℕ). same_text l name) (e ∙ ap (bytes_at rows) (name_place d))

-- a scope's table by its own number
module _ (rows : List ℕ) (t : Table) (scope : HasScope rows t) (d : ℕ) where
  pub scope_detail : t.start + (2 * d + 1) ≡ detail_row rows t.section d
  scope_detail = detail_place rows t.section t (own_table scope.table) d

  pub yoke_is : (r : ℕ) → r ≡ b_at rows (t.start + (2 * d + 1)) → r ≡ yoke_in rows t.section d
  unfolding yoke_in
  yoke_is r e = e ∙ ap (b_at rows) scope_detail

-- ---- a variable's body
module _ (rows bodies : List ℕ) (accepted : AcceptedRows rows) (t : Table) (scope : HasScope rows t) (held : BodiesBelow rows bodies (table_count rows type_section)) (d : ℕ) (l : d < t.count / 2) where
  type_there : a_at rows (detail_row rows t.section d) < table_count rows type_section
  type_there =
      subst (λ (s : ℕ). a_at rows (detail_row rows s d) < table_count rows type_section) (sym scope.table.section)
      (scope_type rows accepted scope.scope scope.there d (omega (arith, pairs rows (scope_table scope.scope) t scope.table)))

  pub type_inside : (r : ℕ) → r ≡ a_at rows (detail_row rows t.section d) → 96 * r + 96 ≤ length bodies
  type_inside r e = omega (arith, type_there, held.long, (counts rows accepted.counts).types.most)

  pub declared_is : (r : ℕ) (x : List ℕ) → r ≡ a_at rows (detail_row rows t.section d) → x ≡ body_at bodies r → DeclaredIs rows t.section d x
  unfolding body_in
  declared_is r x e q =
      let h = held.each (a_at rows (detail_row rows t.section d)) type_there in
      record { body = h.body; is = h.is; holds = subst (λ (y : List ℕ). Holds y h.body) (sym (q ∙ ap (body_at bodies) e)) h.holds }

-- the same without the bodies: its type row is there, and says whether it is hundredths
module _ (rows : List ℕ) (accepted : AcceptedRows rows) (t types : Table) (is : IsTable rows declaration_section t) (has : IsTable rows type_section types) (d : ℕ) (l : d < t.count / 2)
    (r : ℕ) (e : r ≡ a_at rows (detail_row rows t.section d)) where
  own_type : r ≡ a_at rows (detail_row rows declaration_section d)
  own_type = e ∙ ap (λ (s : ℕ). a_at rows (detail_row rows s d)) is.section

  pub type_below : r < types.count
  type_below = omega (arith, own_type, has.count, scope_type rows accepted 0 (omega arith) d (omega (arith, pairs rows declaration_section t is)))

  pub says_declared : (f : Bool) → f ≡ hundredths_row (type_row rows r) → f ≡ is_hundredths (body_or (declared_body rows d))
  unfolding body_in
  says_declared f q = q ∙ sym (type_hundredths rows r) ∙ ap (λ (n : ℕ). is_hundredths (body_or (type_body rows n))) own_type

-- a variable that is there has a property if its body has
module _ (p : Body → Bool) (rows : List ℕ) (t : Table) (d : ℕ) (is : IsTable rows declaration_section t) where
  pub no_variable_there : t.count / 2 ≤ d → false ≡ is_variable_of p rows d
  unfolding is_variable_of
  no_variable_there h = rw (le-ltb d (pair_count rows declaration_section) (omega (arith, pairs rows declaration_section t is)))

  pub variable_there : (x : List ℕ) (f : Bool) → d < t.count / 2 → DeclaredIs rows t.section d x → ((b : Body) → Holds x b → f ≡ p b) → f ≡ is_variable_of p rows d
  unfolding is_variable_of
  variable_there x f h w g =
      let v = declared_in is w in
      g v.body v.holds ∙ rw (lt-ltb d (pair_count rows declaration_section) (omega (arith, pairs rows declaration_section t is)), v.is)

-- which bodies are reckoned with, by the first byte
module _ (x : List ℕ) (b : Body) (h : Holds x b) where
  pub hundredths_first : get_or x 0 0 ≡ 7 → is_quantity b ≡ true
  unfolding is_quantity
  hundredths_first e = rw (is_hundredths_lem x b h e) (or-true (is_number b))

  pub number_first : (get_or x 0 0 ≡ 7 → ⊥) → eqb (get_or x 0 0) 2 ≡ is_quantity b
  unfolding is_quantity
  number_first f = first_number x b h ∙ sym (rw (not_hundredths x b h f) (or-false (is_number b)))

-- ---- limits
pub end_is : (limits : List ℕ) (t : Table) (l from n : ℕ) (z : ℤ) → IsTable limits limit_section t → n ≡ word32 limits (10 * (t.start + (2 * l + 1)) + from) → z ≡ to_z w32 n
    → z ≡ to_z w32 (word32 limits (10 * detail_row limits limit_section l + from))
end_is limits t l from n z is e h = h ∙ ap (λ (i : ℕ). to_z w32 i) (e ∙ ap (λ (i : ℕ). word32 limits (10 * i + from)) (detail_place limits limit_section t is l))
