-- One variable more in the arrays of present bodies and of limits, and all of a run's start. Assumes nothing.
use mathlib.Core.Path.{◌≡◌, refl, sym, ap, ◌∙◌, subst}
use mathlib.Core.Bool.{Bool, true, false}
use mathlib.Core.List.{List, [], ◌∷◌, ◌++◌}
use mathlib.Core.Option.{Option, some, none}
use Prim.Native.Nat.{ℕ, zero, suc, ◌+◌, ◌-◌, ◌*◌, ◌/◌, ◌≤◌, ◌<◌}
use native.Mathlib.Numerals.{add-one}
use lib.Dec.{ltb}
use borrow.Author.Tests.{ltb-true, ltb-false}
use native.Mathlib.Omega.{arith}
use lib.IntN.{ℤ, pos}
use lib.Signed.{mag}
use mir.Syntax.{w64}
use mir.Val.{to_z, of_z}
use mir.ValLaws.{to_z-of_z}
use lib.ListN.{length, take, get_or, set, replicate, length-set, length-replicate}
use lib.Seq.{paste, take-suc, length-take-le, get_or-set_same, get_or-set_other}
use Rattle.lingua.specs.Numbers.{most_variables, cells_length, body_bytes, body_nodes, declaration_section, limit_section, variable_bodies_length, scope_table}
use Rattle.lingua.specs.Outcome.{Result}
use Rattle.lingua.specs.Body.{Body, nodes}
use Rattle.lingua.specs.Value.{pad}
use Rattle.lingua.specs.Encode.{encoded}
use Rattle.lingua.specs.Rows.{pair_count, procedure_count}
use Rattle.lingua.specs.Store.{Limit, Variable, no_variable, variable_at, present_body, store_bodies, bodies_in}
use Rattle.lingua.specs.Run.{unfilled}
use Rattle.lingua.specs.Compute.{same_text}
use Rattle.lingua.specs.Format.{profile}
use Rattle.lingua.specs.Rules.{name_wrong}
use Rattle.lingua.specs.Trees.{body_or, declaration_in, limit_if, limit_from, limit_of, limit_row, name_at}
use Rattle.laws.specs.Formed.{formed_bounds}
use Rattle.laws.specs.Every.{every_by, every_take}
use Rattle.laws.specs.Presents.{variable_bytes, Compact, body_more}
use Rattle.laws.specs.Equal.{same_text_lem, text_same}
use Rattle.laws.specs.Lookup.{NamedAt, found_first}
use Rattle.safety.specs.Limited.{one_variable}
use Rattle.safety.specs.Accepted.{AcceptedRows, few_variables}
use Rattle.safety.specs.ProfileScopes.{scope_declaration}
use Rattle.safety.specs.Formed.{scope_formed}
use Rattle.profile.specs.Variables.{DeclaredIs, declared_in, LimitAt}
use Rattle.profile.proofs.Declaring.{pairs}
use Rattle.decoder.specs.Tables.{IsTable}
use Rattle.decoder.specs.declared.tables.Table.{Table}
use Rattle.run.specs.Begun.{scope_start, start_store, Begun}
use Rattle.run.specs.Started.{start_states}
use Rattle.run.specs.Kept.{BodiesKept, YokesKept, LimitsFrom, Limited, LaterKept}
use Rattle.run.proofs.Unfilled.{counted, start_count, start_at, start_cells}

-- ---- bodies
pub bodies_none : (rows : List ℕ) (t : Table) (variables : List ℕ) → variables ≡ replicate variable_bodies_length 0 → BodiesKept rows t variables 0
unfolding bodies_in store_bodies pad
bodies_none rows t variables e = record { is = λ limits a h i. e }

start_compact : (rows limits : List ℕ) (a : ℕ) → a ≤ procedure_count rows → AcceptedRows rows → Compact (scope_start rows limits a)
unfolding declaration_in
start_compact rows limits a h accepted = every_by no_variable (scope_start rows limits a) (λ n l.
    let inside : n < pair_count rows (scope_table a) = omega (arith, start_count rows limits a h) in
    subst (λ (v : Variable). nodes (present_body v) ≤ body_nodes) (sym (start_at rows limits a h n inside)) (formed_bounds (scope_formed rows accepted a h n inside)).few_nodes)

pub bodies_more : (rows : List ℕ) (t : Table) (variables after : List ℕ) (d : ℕ) (x : List ℕ) → AcceptedRows rows → d < t.count / 2 → BodiesKept rows t variables d → DeclaredIs rows t.section d x
    → after ≡ paste variables (body_bytes * d) x body_bytes → BodiesKept rows t after (d + 1)
unfolding declaration_in
bodies_more rows t variables after d x accepted l kept given q = record { is = λ limits a h i. q ∙ one limits a h i }
  where
    one : (limits : List ℕ) (a : ℕ) → a ≤ procedure_count rows → IsTable rows (scope_table a) t → paste variables (body_bytes * d) x body_bytes ≡ bodies_in (take (d + 1) (scope_start rows limits a))
    one limits a h i =
        let vs = scope_start rows limits a in
        let w = unfilled (scope_declaration rows limits a d) in
        let n = start_count rows limits a h in
        let there : d < pair_count rows (scope_table a) = omega (arith, counted rows (scope_table a) t i) in
        let m : length (take d vs) ≡ d = length-take-le d vs (omega arith) in
        let own = declared_in i given in
        ap (λ (l : List ℕ). paste l (body_bytes * d) x body_bytes) (kept.is limits a h i)
        ∙ ap (λ (b : List ℕ). paste (bodies_in (take d vs)) (body_bytes * d) b body_bytes) (own.holds.is ∙ ap encoded (sym (ap (λ (o : Result Body). body_or o) own.is)))
        ∙ ap (λ (j : ℕ). paste (bodies_in (take d vs)) (body_bytes * j) (variable_bytes w) body_bytes) (sym m)
        ∙ sym (body_more (take d vs) w (every_take d (start_compact rows limits a h accepted)) (omega (arith, m, few_variables rows accepted a h)) (formed_bounds (scope_formed rows accepted a h d there)).few_nodes)
        ∙ ap (λ (v : Variable). bodies_in (take d vs ++ (v ∷ []))) (sym (start_at rows limits a h d there))
        ∙ ap (λ (us : List Variable). bodies_in us) (sym (take-suc vs d no_variable (omega arith)))
        ∙ ap (λ (j : ℕ). bodies_in (take j vs)) (sym (add-one d))

-- ---- limits
same_limit : (before after : List ℤ) (at : ℕ) (limit : Option Limit) → ((j : ℕ) → at ≤ j → j < at + 3 → get_or after j (pos 0) ≡ get_or before j (pos 0)) → LimitAt before at limit → LimitAt after at limit
unfolding LimitAt
same_limit before after at none s h = s at (omega arith) (omega arith) ∙ h
same_limit before after at (some l) s (a, b, c) = (s at (omega arith) (omega arith) ∙ a, s (at + 1) (omega arith) (omega arith) ∙ b, s (at + 2) (omega arith) (omega arith) ∙ c)

zeros : (n i : ℕ) → get_or (replicate n (pos 0)) i (pos 0) ≡ pos 0
zeros zero i = refl
zeros (suc n) zero = refl
zeros (suc n) (suc i) = zeros n i

-- behind the last row there is no limit
pub limits_none : (rows limits : List ℕ) (kept : List ℤ) (n l : ℕ) → kept ≡ replicate n (pos 0) → n ≡ 48 → l ≡ pair_count limits limit_section → LimitsFrom rows limits kept l
unfolding limit_from LimitAt
limits_none rows limits kept n l e m q =
    record {
      room = ap length e ∙ length-replicate n (pos 0) ∙ m;
      each = λ d h. subst (λ (k : ℕ). LimitAt kept (3 * d) (limit_from l k limits (name_at rows declaration_section d)))
          (let z : 0 ≡ pair_count limits limit_section - l = omega arith in z)
          (ap (λ (x : List ℤ). get_or x (3 * d) (pos 0)) e ∙ zeros n (3 * d));
    }

-- the cells of a variable's limit, once they are written
unfoldable within : List ℤ → ℕ → ℤ → ℤ → List ℤ
within kept d low high = set (set (set kept (3 * d) (pos 1)) (3 * d + 1) low) (3 * d + 2) high

within_length : (kept : List ℤ) (d : ℕ) (low high : ℤ) → length (within kept d low high) ≡ length kept
unfolding within
within_length kept d low high =
    length-set (set (set kept (3 * d) (pos 1)) (3 * d + 1) low) (3 * d + 2) high ∙ length-set (set kept (3 * d) (pos 1)) (3 * d + 1) low ∙ length-set kept (3 * d) (pos 1)

within_other : (kept : List ℤ) (d : ℕ) (low high : ℤ) (j : ℕ) → (j ≡ 3 * d + 2 → ⊥) → (j ≡ 3 * d + 1 → ⊥) → (j ≡ 3 * d → ⊥) → get_or (within kept d low high) j (pos 0) ≡ get_or kept j (pos 0)
unfolding within
within_other kept d low high j p q r =
    get_or-set_other (set (set kept (3 * d) (pos 1)) (3 * d + 1) low) (3 * d + 2) j high (pos 0) p
    ∙ get_or-set_other (set kept (3 * d) (pos 1)) (3 * d + 1) j low (pos 0) q
    ∙ get_or-set_other kept (3 * d) j (pos 1) (pos 0) r

within_own : (kept : List ℤ) (d : ℕ) (l : Limit) → 3 * d + 3 ≤ length kept → LimitAt (within kept d l.low l.high) (3 * d) (some l)
unfolding LimitAt within
within_own kept d l h =
    let a = set kept (3 * d) (pos 1) in
    let b = set a (3 * d + 1) l.low in
    let la = length-set kept (3 * d) (pos 1) in
    let lb = length-set a (3 * d + 1) l.low in (
      get_or-set_other b (3 * d + 2) (3 * d) l.high (pos 0) (λ e. omega arith)
          ∙ get_or-set_other a (3 * d + 1) (3 * d) l.low (pos 0) (λ e. omega arith)
          ∙ get_or-set_same kept (3 * d) (pos 1) (pos 0) (omega arith),
      get_or-set_other b (3 * d + 2) (3 * d + 1) l.high (pos 0) (λ e. omega arith)
          ∙ get_or-set_same a (3 * d + 1) l.low (pos 0) (omega arith),
      get_or-set_same b (3 * d + 2) l.high (pos 0) (omega arith),
    )

-- one row more: its limit is that of the variable that has its name, and of no other
module _ (rows limits : List ℕ) (kept : List ℤ) (l : ℕ) (inside : l < pair_count limits limit_section) (h : LimitsFrom rows limits kept (l + 1)) where
  abbrev name : List ℕ
  name = name_at limits limit_section l

  abbrev later : ℕ → Option Limit
  later d = limit_from (l + 1) (pair_count limits limit_section - (l + 1)) limits (name_at rows declaration_section d)

  turn : (d : ℕ) (t : Bool) → same_text name (name_at rows declaration_section d) ≡ t → limit_from l (pair_count limits limit_section - l) limits (name_at rows declaration_section d) ≡ limit_if t (limit_row limits l) (later d)
  unfolding limit_from
  turn d t e =
      ap (λ (n : ℕ). limit_from l n limits (name_at rows declaration_section d)) (let q : pair_count limits limit_section - l ≡ suc (pair_count limits limit_section - (l + 1)) = omega arith in q)
      ∙ ap (λ (b : Bool). limit_if b (limit_row limits l) (limit_from (suc l) (pair_count limits limit_section - (l + 1)) limits (name_at rows declaration_section d))) e
      ∙ ap (λ (k : ℕ). limit_if t (limit_row limits l) (limit_from k (pair_count limits limit_section - (l + 1)) limits (name_at rows declaration_section d))) (sym (add-one l))

  not_its : (after : List ℤ) (d : ℕ) → d < pair_count rows declaration_section → same_text name (name_at rows declaration_section d) ≡ false
      → ((j : ℕ) → 3 * d ≤ j → j < 3 * d + 3 → get_or after j (pos 0) ≡ get_or kept j (pos 0))
      → LimitAt after (3 * d) (limit_from l (pair_count limits limit_section - l) limits (name_at rows declaration_section d))
  not_its after d i e s = subst (λ (o : Option Limit). LimitAt after (3 * d) o) (sym (turn d false e)) (same_limit kept after (3 * d) (later d) s (h.each d i))

  module _ (names : name_wrong profile rows ≡ false) (few : pair_count rows declaration_section ≤ most_variables) (n : ℕ) (at : NamedAt rows name n) where
    its : name_at rows declaration_section n ≡ name
    its = same_text_lem _ _ at.named

    own : LimitAt (within kept n (limit_row limits l).low (limit_row limits l).high) (3 * n) (limit_from l (pair_count limits limit_section - l) limits (name_at rows declaration_section n))
    own =
        subst (λ (o : Option Limit). LimitAt (within kept n (limit_row limits l).low (limit_row limits l).high) (3 * n) o)
        (sym (turn n true (ap (λ (x : List ℕ). same_text name x) its ∙ text_same name)))
        (within_own kept n (limit_row limits l) (omega (arith, h.room, at.there)))

    others : (d : ℕ) → d < pair_count rows declaration_section → (d ≡ n → ⊥) → ((j : ℕ) → 3 * d ≤ j → j < 3 * d + 3 → get_or (within kept n (limit_row limits l).low (limit_row limits l).high) j (pos 0) ≡ get_or kept j (pos 0))
        → LimitAt (within kept n (limit_row limits l).low (limit_row limits l).high) (3 * d) (limit_from l (pair_count limits limit_section - l) limits (name_at rows declaration_section d))
    others d i other s = by (same_text name (name_at rows declaration_section d)) refl
      where
        by : (t : Bool) → same_text name (name_at rows declaration_section d) ≡ t → LimitAt (within kept n (limit_row limits l).low (limit_row limits l).high) (3 * d) (limit_from l (pair_count limits limit_section - l) limits (name_at rows declaration_section d))
        by true q = absurd (other (one_variable rows names d n i at.there (sym (same_text_lem _ _ q) ∙ sym its)))
        by false q = not_its _ d i q s

    limit_of_its : LimitsFrom rows limits (within kept n (limit_row limits l).low (limit_row limits l).high) l
    limit_of_its = record { room = within_length kept n (limit_row limits l).low (limit_row limits l).high ∙ h.room; each = λ d i. by d i (ltb d n) (ltb n d) refl refl }
      where
        by : (d : ℕ) → d < pair_count rows declaration_section → (a b : Bool) → ltb d n ≡ a → ltb n d ≡ b
            → LimitAt (within kept n (limit_row limits l).low (limit_row limits l).high) (3 * d) (limit_from l (pair_count limits limit_section - l) limits (name_at rows declaration_section d))
        by d i true b p q =
            let less : d < n = ltb-true d n p in
            others d i (λ e. omega arith) (λ j x y. within_other kept n _ _ j (λ e. omega arith) (λ e. omega arith) (λ e. omega arith))
        by d i false true p q =
            let more : n < d = ltb-true n d q in
            others d i (λ e. omega arith) (λ j x y. within_other kept n _ _ j (λ e. omega arith) (λ e. omega arith) (λ e. omega arith))
        by d i false false p q =
            let e : n ≡ d = omega (arith, ltb-false d n p, ltb-false n d q) in
            subst (λ (k : ℕ). LimitAt (within kept n (limit_row limits l).low (limit_row limits l).high) (3 * k) (limit_from l (pair_count limits limit_section - l) limits (name_at rows declaration_section k))) e own

    -- an end comes back from its cell as it was: it fits one
    pub limit_kept : (low high : ℤ) → low ≡ (limit_row limits l).low → high ≡ (limit_row limits l).high → mag low < 9223372036854775808 → mag high < 9223372036854775808
        → LimitsFrom rows limits (set (set (set kept (3 * n) (pos 1)) (3 * n + 1) (to_z w64 (of_z w64 low))) (3 * n + 2) (to_z w64 (of_z w64 high))) l
    unfolding within
    limit_kept low high e f p q =
        rw (to_z-of_z w64 low (record { sfits = p }), to_z-of_z w64 high (record { sfits = q }), e, f) limit_of_its

-- the limit before those that are kept is the next one
pub later_kept : {rows limits owners : List ℕ} {kept : List ℤ} {t : Table} {l : ℕ} → Limited rows limits owners → IsTable limits limit_section t → 0 < l → l ≤ t.count / 2 → LimitsFrom rows limits kept l → LaterKept rows limits owners kept (l - 1)
later_kept {rows} {limits} {kept = kept} {t} {l} known is above below h =
    record {
      known = known;
      there = omega (arith, above, below, pairs limits limit_section t is);
      later = subst (λ (n : ℕ). LimitsFrom rows limits kept n) (let e : l ≡ l - 1 + 1 = omega (arith, above) in e) h;
    }

-- whose limit l is, and that there is room for it
module _ {rows limits owners : List ℕ} {kept : List ℤ} {l : ℕ} (k : LaterKept rows limits owners kept l) where
  pub limit_below : l < 16
  limit_below = omega (arith, k.there, k.known.limited.read.few)

  pub owner_named : NamedAt rows (name_at limits limit_section l) (get_or owners l 0)
  owner_named = (found_first rows (name_at limits limit_section l) (get_or owners l 0) (k.known.limited.owners_are.owned l k.there)).0

  pub owner_room : 3 * get_or owners l 0 + 3 ≤ 48
  owner_room = omega (arith, few_variables rows k.known.accepted 0 (omega arith), owner_named.there)

pub start_limits : (rows limits : List ℕ) (kept : List ℤ) → LimitsFrom rows limits kept 0 → (n : ℕ) → n < length (start_store rows limits)
    → LimitAt kept (3 * n) (variable_at (start_store rows limits) n).limit
unfolding declaration_in limit_of
start_limits rows limits kept h n l =
    let inside : n < pair_count rows declaration_section = omega (arith, start_count rows limits 0 (omega arith)) in
    let all : pair_count limits limit_section - 0 ≡ pair_count limits limit_section = omega arith in
    subst (λ (o : Option Limit). LimitAt kept (3 * n) o)
    (ap (λ (k : ℕ). limit_from 0 k limits (name_at rows declaration_section n)) all ∙ sym (ap (λ (v : Variable). v.limit) (start_at rows limits 0 (omega arith) n inside))) (h.each n inside)

-- ---- all of it
pub begun : (rows limits : List ℕ) (t : Table) (kept cells : List ℤ) (states : List ℕ) → AcceptedRows rows → IsTable rows declaration_section t → cells ≡ replicate cells_length (pos 0)
    → YokesKept rows t states (t.count / 2) → LimitsFrom rows limits kept 0 → Begun rows limits kept cells states
begun rows limits t kept cells states h i e y l =
    record { cells_are = start_cells rows limits 0 cells h (omega arith) e; states_are = start_states rows limits 0 (omega arith) t i y; count = start_count rows limits 0 (omega arith); room = l.room; limited = start_limits rows limits kept l }
