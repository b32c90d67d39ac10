-- Rules 15 and 16: the order of signed numbers, tests of every limit and every reading, and the limits' owners. Assumes nothing.
use mathlib.Core.Path.{◌≡◌, refl, sym, ap, subst, ◌∙◌}
use mathlib.Core.Logic.{⊎_elim}
use mathlib.Core.Bool.{Bool, true, false, not, ◌&&◌, and-false}
use mathlib.Core.List.{List, [], ◌∷◌}
use mathlib.Core.Option.{some}
use Prim.Native.Nat.{ℕ, zero, suc, ◌+◌, ◌/◌, ◌≤◌, ◌<◌}
use native.Mathlib.Omega.{arith}
use lib.Dec.{ltb, leb}
use lib.ListN.{length, get_or, set}
use lib.Seq.{get_or-set_same, get_or-set_other}
use lib.IntN.{ℤ, pos, negsuc}
use lib.Signed.{lt_z, le_z}
use borrow.Author.Tests.{ltb-true, ltb-false, lt-ltb, le-ltb, le-leb, lt-leb, eq-eqb, ne_eqb}
use Rattle.lingua.specs.Numbers.{most_variables, most_readings, limit_section}
use Rattle.lingua.specs.Body.{Body, is_hundredths, is_quantity}
use Rattle.lingua.specs.Value.{in_range_of, all_of}
use Rattle.lingua.specs.Rows.{pair_count}
use Rattle.lingua.specs.Trees.{limit_row, name_at}
use Rattle.lingua.specs.Lookup.{look_up}
use Rattle.lingua.specs.Format.{every_below}
use Rattle.lingua.specs.Refusal.{is_quantity_variable, ends_fit, names_one, limit_fits, limit_wrong, reading_wrong}
use Rattle.laws.specs.Outcomes.{and_both}
use Rattle.laws.specs.Tests.{below_suc, every_more, every_false}
use Rattle.laws.specs.Lookup.{found_first}
use Rattle.safety.specs.Accepted.{AcceptedRows}
use Rattle.rules.specs.Accepted.{counts}
use Rattle.body.specs.Encode.{Holds}
use Rattle.body.proofs.Tags.{is_hundredths_lem, not_hundredths}
use Rattle.decoder.specs.declared.tables.Table.{Table}
use Rattle.profile.specs.Find.{limit, OneNamed, OwnerIs, LimitsRead, OwnersBelow, LimitsOwned}
use Rattle.std.specs.Prelude.{Option, Some, None}
use Rattle.profile.proofs.Declaring.{hundredths_first, number_first}

-- ---- order
nat_order : (a b : ℕ) → leb b a ≡ not (ltb a b)
nat_order a b = by (ltb a b) refl
  where
    by : (t : Bool) → ltb a b ≡ t → leb b a ≡ not t
    by true e = lt-leb b a (ltb-true a b e)
    by false e = le-leb b a (ltb-false a b e)

order : (a b : ℤ) → le_z b a ≡ not (lt_z a b)
order (pos a) (pos b) = nat_order a b
order (pos a) (negsuc b) = refl
order (negsuc a) (pos b) = refl
order (negsuc a) (negsuc b) = nat_order b a

-- ---- tests one after another
pub one_wrong : (n : ℕ) (p : ℕ → Bool) (k : ℕ) → p k ≡ false → k < n → true ≡ not (every_below n p)
one_wrong n p k e h = ap not (sym (every_false n p k e h))

pub none_wrong : (n i : ℕ) (p : ℕ → Bool) → every_below i p ≡ true → i ≡ n → false ≡ not (every_below n p)
none_wrong n i p h e = ap not (sym (ap (λ (k : ℕ). every_below k p) (sym e) ∙ h))

pub every_begins : (p : ℕ → Bool) → every_below 0 p ≡ true
unfolding every_below
every_begins p = refl

-- ---- a limit
-- the ends that a body may have, by its first byte
module _ (x : List ℕ) (low high : ℤ) (b : Body) (held : Holds x b) where
  fits_by : (s t : Bool) → is_quantity b ≡ s → is_hundredths b ≡ t → ends_fit (limit low high) b ≡ (s && in_range_of t low && in_range_of t high)
  unfolding ends_fit
  fits_by s t p q = rw (p, q)

  pub counts_fit : get_or x 0 0 ≡ 7 → (in_range_of true low && in_range_of true high) ≡ ends_fit (limit low high) b
  counts_fit e = sym (fits_by true true (hundredths_first x b held e) (is_hundredths_lem x b held e))

  pub numbers_fit : (get_or x 0 0 ≡ 7 → ⊥) → get_or x 0 0 ≡ 2 → (in_range_of false low && in_range_of false high) ≡ ends_fit (limit low high) b
  numbers_fit f e = sym (fits_by true false (sym (number_first x b held f) ∙ eq-eqb (get_or x 0 0) 2 e) (not_hundredths x b held f))

  pub others_fit : (get_or x 0 0 ≡ 7 → ⊥) → (get_or x 0 0 ≡ 2 → ⊥) → false ≡ ends_fit (limit low high) b
  others_fit f g = sym (fits_by false false (sym (number_first x b held f) ∙ ne_eqb (get_or x 0 0) 2 g) (not_hundredths x b held f))

-- whose the limit is
module _ (rows limits : List ℕ) (l : ℕ) (low high : ℤ) (el : low ≡ (limit_row limits l).low) (eh : high ≡ (limit_row limits l).high) where
  limit_by : (a d : Bool) → le_z low high ≡ a → names_one (ends_fit (limit low high)) rows (name_at limits limit_section l) ≡ d → limit_fits rows limits l ≡ (a && d)
  unfolding limit_fits ends_fit
  limit_by a d p s = rw (← el, ← eh, p, s)

  pub ends_crossed : lt_z high low ≡ true → OwnerIs None rows limits l
  unfolding OwnerIs
  ends_crossed e = limit_by false _ (order high low ∙ ap not e) refl

  -- ends in order: whose the limit is, its name decides
  pub name_decides : (o : Option ℕ) → lt_z high low ≡ false → OneNamed (ends_fit (limit low high)) o rows (name_at limits limit_section l) → OwnerIs o rows limits l
  unfolding OneNamed OwnerIs
  name_decides (Some d) e (s, t) = (s, limit_by true true (order high low ∙ ap not e) t)
  name_decides None e s = limit_by true false (order high low ∙ ap not e) s

-- ---- all limits
module _ (rows limits : List ℕ) where
  -- the limits before l fit, and have their owners
  pub record OwnedTo (owners : List ℕ) (l : ℕ) : Type 0 where
    pub fit : every_below l (λ j. limit_fits rows limits j) ≡ true
    pub owners_are : OwnersBelow rows limits owners l

  pub owned_none : (owners : List ℕ) → OwnedTo owners 0
  owned_none owners = record { fit = every_begins (λ j. limit_fits rows limits j); owners_are = record { owned = λ l h. absurd (let k : ⊥ = omega arith in k) } }

  -- an owner's number fits a byte: it is a variable's
  pub owner_small : AcceptedRows rows → (o : Option ℕ) (d l : ℕ) → o ≡ Some d → OwnerIs o rows limits l → d < most_variables
  unfolding OwnerIs
  owner_small accepted o d l e h =
      let at = (found_first rows (name_at limits limit_section l) d (subst (λ (q : Option ℕ). OwnerIs q rows limits l) e h).0).0 in
      omega (arith, at.there, (counts rows accepted.counts).variables.most)

  pub owned_more : (owners : List ℕ) (l d : ℕ) (o : Option ℕ) → l < length owners → o ≡ Some d → OwnerIs o rows limits l → OwnedTo owners l → OwnedTo (set owners l d) (l + 1)
  unfolding OwnerIs
  owned_more owners l d o i e h before =
      let own = subst (λ (q : Option ℕ). OwnerIs q rows limits l) e h in
      record {
        fit = every_more l (λ j. limit_fits rows limits j) before.fit own.1;
        owners_are = record {
          owned = λ k q. ⊎_elim
              (λ (less : k < l). before.owners_are.owned k less ∙ ap some (sym (get_or-set_other owners l k d 0 (λ z. omega (arith, z, less)))))
              (λ (is : k ≡ l). ap (λ (j : ℕ). (look_up rows (name_at limits limit_section j)).found) is ∙ own.0 ∙ ap some (sym (get_or-set_same owners l d 0 i) ∙ ap (λ (j : ℕ). get_or (set owners l d) j 0) (sym is)))
              (below_suc l k (let z : k < suc l = omega arith in z));
        };
      }

  module _ (u : Table) (read : LimitsRead limits) (count : u.count / 2 ≡ pair_count limits limit_section) where
    pub limits_wrong : (l : ℕ) (o : Option ℕ) → o ≡ None → OwnerIs o rows limits l → l < u.count / 2 → true ≡ limit_wrong rows limits
    unfolding limit_wrong OwnerIs
    limits_wrong l o e h k =
        one_wrong (pair_count limits limit_section) (λ j. limit_fits rows limits j) l (subst (λ (q : Option ℕ). OwnerIs q rows limits l) e h) (omega arith)

    module _ (owners : List ℕ) (l : ℕ) (h : OwnedTo owners l) (all : l ≡ u.count / 2) where
      pub limits_right : false ≡ limit_wrong rows limits
      unfolding limit_wrong
      limits_right = none_wrong (pair_count limits limit_section) l (λ j. limit_fits rows limits j) h.fit (all ∙ count)

      pub all_owned : LimitsOwned rows limits owners
      all_owned = record { read = read; owners_are = subst (λ (n : ℕ). OwnersBelow rows limits owners n) (all ∙ count) h.owners_are }

-- ---- readings
all_by : (p : ℕ → Bool) (vs : List ℕ) → ((k : ℕ) → k < length vs → p (get_or vs k 0) ≡ true) → all_of p vs ≡ true
unfolding all_of
all_by p [] h = refl
all_by p (v ∷ vs) h = and_both (p v) (all_of p vs) (h 0 (omega arith)) (all_by p vs (λ k l. h (suc k) (omega arith)))

all_fails : (p : ℕ → Bool) (vs : List ℕ) (k : ℕ) → k < length vs → p (get_or vs k 0) ≡ false → all_of p vs ≡ false
unfolding all_of
all_fails p [] k h e = absurd (let z : ⊥ = omega arith in z)
all_fails p (v ∷ vs) zero h e = ap (λ (t : Bool). t && all_of p vs) e
all_fails p (v ∷ vs) (suc k) h e = ap (λ (t : Bool). p v && t) (all_fails p vs k (omega arith) e) ∙ and-false (p v)

module _ (rows vs : List ℕ) where
  pub too_many : most_readings < length vs → true ≡ reading_wrong rows vs
  unfolding reading_wrong
  too_many h = rw (lt-ltb most_readings (length vs) h)

  pub readings_told : length vs ≤ most_readings → not (all_of (λ v. is_quantity_variable rows v) vs) ≡ reading_wrong rows vs
  unfolding reading_wrong
  readings_told n = rw (le-ltb most_readings (length vs) n)
