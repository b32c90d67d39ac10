-- A type row's body from those of the rows that it names, and the rows one after another. Assumes nothing.
use mathlib.Core.Path.{◌≡◌, sym, ap, ◌∙◌, subst}
use mathlib.Core.Bool.{true, false, not}
use mathlib.Core.List.{List, [], ◌∷◌}
use Prim.Native.Nat.{ℕ, suc, ◌+◌, ◌*◌, ◌≤◌, ◌<◌}
use native.Mathlib.Omega.{arith}
use mathlib.Core.Logic.{⊎_elim}
use lib.Dec.{ltb}
use lib.ListN.{length}
use lib.Seq.{paste, length-paste}
use borrow.Author.Tests.{ltb-true}
use Rattle.lingua.specs.Numbers.{type_section, attribute_numbers, most_types}
use Rattle.lingua.specs.Errors.{record_expected}
use Rattle.std.specs.Prelude.{Result, Ok, Err}
use Rattle.lingua.specs.declared.errors.Error.{Error}
use Rattle.lingua.specs.Faults.{error_number}
use Rattle.lingua.specs.Outcome.{Outcome, ok, fail, is_ok, ◌>>=◌}
use Rattle.lingua.specs.Body.{Body, boolean}
use Rattle.lingua.specs.Operation.{make_list, make_record, expand, unary_body, binary_body}
use Rattle.lingua.specs.Value.{all_of}
use Rattle.lingua.specs.Rows.{table_count, TypeRow, simple_type, list_type, record_type, expand_type, unknown_type, type_at, type_row}
use Rattle.lingua.specs.Trees.{lower, type_body_of, type_body}
use Rattle.lingua.specs.Rules.{attributes_fit, type_attributes}
use Rattle.lingua.specs.References.{type_parts, type_wrong}
use Rattle.laws.specs.Outcomes.{and_left}
use Rattle.laws.specs.Tests.{below_suc, every_all, every_false}
use Rattle.safety.specs.Every.{Every, every_more, every_implies}
use Rattle.decoder.specs.Tables.{IsTable}
use Rattle.decoder.specs.Decoded.{Decoded, decoded, type_meaning, TypeSays}
use Rattle.decoder.specs.declared.decode.TypeRow.{TypeRow as CodeType}
use Rattle.decoder.proofs.Decoding.{place, row_decoded}
use Rattle.decoder.specs.declared.tables.Table.{Table}
use Rattle.body.specs.Encode.{Holds, Held}
use Rattle.body.specs.Typed.{Types}
use Rattle.body.specs.declared.typed.Typed.{Typed}
use Rattle.laws.specs.Encoded.{length_encoded}
use Rattle.rules.specs.Types.{body_at, HeldAt, LooksUp, Answers, BodiesBelow, RowReady}
use Rattle.rules.specs.Unrolled.{lower_is, type_unrolled}
use Rattle.rules.proofs.TypePlaces.{kept_other, kept_own}

-- ---- what a row of a form names
module _ {P : ℕ → Type 0} (row : TypeRow) where
  pub part_list : (a : ℕ) → row ≡ list_type a → Every P (type_parts row) → P a
  unfolding type_parts
  part_list a e h = one (subst (λ (x : TypeRow). Every P (type_parts x)) e h)
    where
      one : Every P (a ∷ []) → P a
      one (every_more p ps) = p

  pub part_record : (n b : ℕ) → row ≡ record_type n b → Every P (type_parts row) → P b
  unfolding type_parts
  part_record n b e h = one (subst (λ (x : TypeRow). Every P (type_parts x)) e h)
    where
      one : Every P (b ∷ []) → P b
      one (every_more p ps) = p

  pub parts_expand : (a n c : ℕ) → row ≡ expand_type a n c → Every P (type_parts row) → P a × P c
  unfolding type_parts
  parts_expand a n c e h = two (subst (λ (x : TypeRow). Every P (type_parts x)) e h)
    where
      two : Every P (a ∷ c ∷ []) → P a × P c
      two (every_more p (every_more q ps)) = (p, q)

pub one_fits : (n : ℕ) → attributes_fit (n ∷ []) ≡ true → n < attribute_numbers
unfolding all_of
one_fits n e = ltb-true n attribute_numbers (and_left (ltb n attribute_numbers) true e)

pub attribute_record : (row : TypeRow) (n b : ℕ) → row ≡ record_type n b → attributes_fit (type_attributes row) ≡ true → n < attribute_numbers
unfolding type_attributes
attribute_record row n b e h = one_fits n (ap (λ (x : TypeRow). attributes_fit (type_attributes x)) (sym e) ∙ h)

pub attribute_expand : (row : TypeRow) (a n c : ℕ) → row ≡ expand_type a n c → attributes_fit (type_attributes row) ≡ true → n < attribute_numbers
unfolding type_attributes
attribute_expand row a n c e h = one_fits n (ap (λ (x : TypeRow). attributes_fit (type_attributes x)) (sym e) ∙ h)

pub held_is : (bodies x : List ℕ) (p : ℕ) → x ≡ body_at bodies p → HeldAt bodies p → Held x
held_is bodies x p e h = subst Held (sym e) h.held

-- ---- its body
answered : (t : Result Typed Error) (o p : Outcome ℕ Body) (n : ℕ) → o ≡ p → Types t p n → Answers t o
answered t o p n e h = record { offset = n; types = subst (λ (q : Outcome ℕ Body). Types t q n) (sym e) h }

bound : (o : Outcome ℕ Body) (f : Body → Outcome ℕ Body) (b : Body) → o ≡ ok b → (o >>= f) ≡ f b
bound o f b e = ap (λ (p : Outcome ℕ Body). p >>= f) e

module _ (t : Result Typed Error) (row : TypeRow) (look : ℕ → Outcome ℕ Body) where
  pub answers_simple : (b : Body) → row ≡ simple_type b → Types t (ok b) 0 → Answers t (type_body_of row look)
  unfolding type_body_of
  answers_simple b e h = answered t (type_body_of row look) (ok b) 0 (ap (λ (x : TypeRow). type_body_of x look) e) h

  module _ (bodies : List ℕ) (looks : Every (λ p. LooksUp look bodies p) (type_parts row)) where
    pub answers_list : (a : ℕ) (x : List ℕ) → row ≡ list_type a → x ≡ body_at bodies a → ((d : Body) → Holds x d → Types t (unary_body make_list d) 0)
        → Answers t (type_body_of row look)
    unfolding type_body_of
    answers_list a x e q h =
        let l = part_list row a e looks in
        answered t (type_body_of row look) (unary_body make_list l.body) 0
        (ap (λ (y : TypeRow). type_body_of y look) e ∙ bound (look a) (λ d. unary_body make_list d) l.body l.is)
        (h l.body (subst (λ (y : List ℕ). Holds y l.body) (sym q) l.holds))

    pub answers_record : (n b : ℕ) (x : List ℕ) → row ≡ record_type n b → x ≡ body_at bodies b → ((d : Body) → Holds x d → Types t (unary_body (make_record n) d) 0)
        → Answers t (type_body_of row look)
    unfolding type_body_of
    answers_record n b x e q h =
        let l = part_record row n b e looks in
        answered t (type_body_of row look) (unary_body (make_record n) l.body) 0
        (ap (λ (y : TypeRow). type_body_of y look) e ∙ bound (look b) (λ d. unary_body (make_record n) d) l.body l.is)
        (h l.body (subst (λ (y : List ℕ). Holds y l.body) (sym q) l.holds))

    pub answers_expand : (a n c : ℕ) (x y : List ℕ) (off : Body → Body → ℕ) → row ≡ expand_type a n c → x ≡ body_at bodies a → y ≡ body_at bodies c
        → ((d f : Body) → Holds x d → Holds y f → Types t (binary_body (expand n) d f) (off d f)) → Answers t (type_body_of row look)
    unfolding type_body_of
    answers_expand a n c x y off e q s h =
        let ls = parts_expand row a n c e looks in
        let d = ls.0.body in
        let f = ls.1.body in
        answered t (type_body_of row look) (binary_body (expand n) d f) (off d f)
        (ap (λ (z : TypeRow). type_body_of z look) e
        ∙ bound (look a) (λ u. look c >>= λ v. binary_body (expand n) u v) d ls.0.is
        ∙ bound (look c) (λ v. binary_body (expand n) d v) f ls.1.is)
        (h d f (subst (λ (z : List ℕ). Holds z d) (sym q) ls.0.holds) (subst (λ (z : List ℕ). Holds z f) (sym s) ls.1.holds))

-- ---- row r, from those below it
-- what was decoded at its place
pub row_is : (rows : List ℕ) {bytes : List ℕ} (t : Table) (r : ℕ) {d : Decoded CodeType} → bytes ≡ rows → IsTable rows type_section t → TypeSays bytes (t.start + r) d → decoded unknown_type type_meaning d ≡ type_row rows r
unfolding type_row
row_is rows t r e h says = row_decoded (type_at rows) (place rows type_section t r h) (rw e at says)

module _ {rows bodies : List ℕ} {r : ℕ} (h : RowReady rows r bodies) {row : TypeRow} (is : row ≡ type_row rows r) where
  below : Every (λ p. p < r) (type_parts row)
  below = subst (λ (x : TypeRow). Every (λ p. p < r) (type_parts x)) (sym is) (h.types.parts r h.below)

  pub row_attributes : attributes_fit (type_attributes row) ≡ true
  row_attributes = ap (λ (x : TypeRow). attributes_fit (type_attributes x)) is ∙ h.types.attributes r h.below

  pub row_parts : Every (λ p. HeldAt bodies p) (type_parts row)
  row_parts =
      let few : r < most_types = omega (arith, h.below, h.types.few) in
      every_implies
      (λ p l. record { within = omega (arith, h.held.long); held = record { body = (h.held.each p l).body; holds = (h.held.each p l).holds } })
      below

  pub row_answers : (o : Result Typed Error) → ((look : ℕ → Outcome ℕ Body) → Every (λ p. LooksUp look bodies p) (type_parts row) → Answers o (type_body_of row look)) → Answers o (type_body rows r)
  row_answers o f =
      let look : ℕ → Outcome ℕ Body = lower r (λ p. type_body rows p) (fail record_expected) in
      let given = f look (every_implies (λ p l. record { body = (h.held.each p l).body; is = lower_is r (λ q. type_body rows q) (fail record_expected) p l ∙ (h.held.each p l).is; holds = (h.held.each p l).holds }) below) in
      answered o (type_body rows r) (type_body_of row look) given.offset
      (type_unrolled rows r ∙ ap (λ (x : TypeRow). type_body_of x look) (sym is)) given.types

  -- an unknown row is a Boolean's
  pub unknown_answers : (o : Result Typed Error) → unknown_type ≡ row → Types o (ok boolean) 0 → Answers o (type_body rows r)
  unfolding type_body_of
  unknown_answers o e f = row_answers o (λ look p. answered o (type_body_of row look) (ok boolean) 0 (ap (λ (x : TypeRow). type_body_of x look) (sym e)) f)

-- ---- the rows one after another
pub one_more : (rows bodies after : List ℕ) (r : ℕ) (t : Typed) → r < most_types → BodiesBelow rows bodies r → Answers (Ok t) (type_body rows r)
    → after ≡ paste bodies (96 * r) t.body 96 → BodiesBelow rows after (r + 1)
one_more rows bodies after r t few held given q =
    let g = given.types in
    let full : length t.body ≡ 96 = ap length g.holds.is ∙ length_encoded g.body g.holds.few_nodes in
    let room : 96 * r + 96 ≤ length bodies = omega (arith, held.long) in
    record {
      long = ap length q ∙ length-paste bodies (96 * r) t.body 96 room (omega arith) ∙ held.long;
      each = λ p l. ⊎_elim
          (λ m. record { body = (held.each p m).body; is = (held.each p m).is; holds = subst (λ (x : List ℕ). Holds x (held.each p m).body) (sym (ap (λ (y : List ℕ). body_at y p) q ∙ kept_other bodies t.body r room full p m)) (held.each p m).holds })
          (λ m. subst (λ (j : ℕ). LooksUp (λ u. type_body rows u) after j) (sym m)
          (record { body = g.body; is = g.is; holds = subst (λ (x : List ℕ). Holds x g.body) (sym (ap (λ (y : List ℕ). body_at y r) q ∙ kept_own bodies t.body r room full)) g.holds }))
          (below_suc r p (let z : p < suc r = omega arith in z));
    }

not_ok : (o : Outcome ℕ Body) (n : ℕ) → o ≡ fail n → is_ok o ≡ false
not_ok o n e = ap (λ (p : Outcome ℕ Body). is_ok p) e

is_ok_lem : (o : Outcome ℕ Body) (b : Body) → o ≡ ok b → is_ok o ≡ true
is_ok_lem o b e = ap (λ (p : Outcome ℕ Body). is_ok p) e

pub row_wrong : (rows : List ℕ) (r : ℕ) {e : Error} → r < table_count rows type_section → Answers (Err e) (type_body rows r) → true ≡ type_wrong rows
unfolding type_wrong
row_wrong rows r {e} l given =
    ap not (sym (every_false (table_count rows type_section) (λ k. is_ok (type_body rows k)) r (not_ok (type_body rows r) (error_number e) given.types) l))

pub none_wrong : (rows bodies : List ℕ) (r : ℕ) → BodiesBelow rows bodies r → table_count rows type_section ≤ r → false ≡ type_wrong rows
unfolding type_wrong
none_wrong rows bodies r held l =
    ap not (sym (every_all (table_count rows type_section) (λ k. is_ok (type_body rows k)) (λ k q. let h = held.each k (omega arith) in is_ok_lem (type_body rows k) h.body h.is)))
