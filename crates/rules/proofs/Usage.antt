-- Counts of uses: a use counts up to 2 at its own row alone, uses of rows one after another are the uses of the joined list, and
-- "once" is the same of the count as of the list. Assumes nothing.
use mathlib.Core.Path.{◌≡◌, refl, sym, ap, ap₂, ◌∙◌, subst}
use mathlib.Core.Bool.{Bool, ◌&&◌}
use mathlib.Core.List.{List, [], ◌∷◌, ◌++◌, append-nil, append_assoc}
use mathlib.Core.Logic.{⊎_elim}
use Prim.Native.Nat.{ℕ, zero, suc, ◌+◌, ◌-◌, ◌/◌, ◌≤◌, ◌<◌, min, pred}
use native.Mathlib.Numerals.{add-one}
use native.Mathlib.Nat.{zero-add, add-zero, suc-add, add-suc}
use native.Mathlib.Omega.{arith}
use lib.Dec.{eqb}
use lib.ListN.{length, get_or, set, replicate, length-set, length-replicate, get_or-replicate}
use lib.Seq.{get_or-set_same, get_or-set_other}
use borrow.Author.Tests.{eq-eqb, ne_eqb}
use Rattle.lingua.specs.Trees.{tabulate_from, tabulate}
use Rattle.lingua.specs.Typing.{joined}
use Rattle.lingua.specs.Format.{every_below}
use Rattle.lingua.specs.Numbers.{expression_section, instruction_section, scope_table}
use Rattle.lingua.specs.Rows.{table_count, pair_count, procedure_count, expression_row, instruction_row, operands, evaluated, yoke_root, yoke_set}
use Rattle.lingua.specs.References.{occurrences, yoke_in, declared_roots, yoke_roots, plain_roots, expression_uses}
use Rattle.decoder.specs.Tables.{IsTable}
use Rattle.decoder.specs.declared.tables.Table.{Table}
use Rattle.rules.specs.Uses.{Counted}
use Rattle.decoder.proofs.Counting.{order}

-- ---- occurrences
pub occ_append : (r : ℕ) (xs ys : List ℕ) → occurrences r (xs ++ ys) ≡ occurrences r xs + occurrences r ys
unfolding occurrences
occ_append r [] ys = sym (zero-add (occurrences r ys))
occ_append r (x ∷ xs) ys = omega (arith, occ_append r xs ys)

occ_same : (r x : ℕ) (xs : List ℕ) → r ≡ x → occurrences r (xs ++ (x ∷ [])) ≡ occurrences r xs + 1
unfolding occurrences
occ_same r x xs e = occ_append r xs (x ∷ []) ∙ ap (λ (n : ℕ). occurrences r xs + n) (rw (eq-eqb r x e))

occ_other : (r x : ℕ) (xs : List ℕ) → (r ≡ x → ⊥) → occurrences r (xs ++ (x ∷ [])) ≡ occurrences r xs
unfolding occurrences
occ_other r x xs e = occ_append r xs (x ∷ []) ∙ ap (λ (n : ℕ). occurrences r xs + n) (rw (ne_eqb r x e)) ∙ add-zero (occurrences r xs)

-- ---- one use more
same_or : (r x : ℕ) {A : Type 0} → (r ≡ x → A) → ((r ≡ x → ⊥) → A) → A
same_or r x f g = ⊎_elim (λ l. g (λ e. omega arith)) (⊎_elim f (λ l. g (λ e. omega arith))) (order r x)

pub counted_out : (uses xs : List ℕ) (x : ℕ) → 512 ≤ x → Counted uses xs → Counted uses (xs ++ (x ∷ []))
counted_out uses xs x l h = record { long = h.long; counts = λ r lr. rw (occ_other r x xs (λ e. omega arith)) (h.counts r lr) }

-- the new count v is right at x
counted_set : (uses xs : List ℕ) (x v : ℕ) → x < 512 → v ≡ min (occurrences x xs + 1) 2 → Counted uses xs → Counted (set uses x v) (xs ++ (x ∷ []))
counted_set uses xs x v lx e h = record { long = length-set uses x v ∙ h.long; counts = at }
  where
    lu : x < length uses
    lu = omega arith

    at : (r : ℕ) → r < 512 → get_or (set uses x v) r 0 ≡ min (occurrences r (xs ++ (x ∷ []))) 2
    at r lr =
        same_or r x
        (λ q. rw q (get_or-set_same uses x v 0 lu ∙ e ∙ ap (λ (n : ℕ). min n 2) (sym (occ_same x x xs refl))))
        (λ q. get_or-set_other uses x r v 0 q ∙ h.counts r lr ∙ ap (λ (n : ℕ). min n 2) (sym (occ_other r x xs q)))

pub counted_first : (uses xs : List ℕ) (x : ℕ) → x < 512 → get_or uses x 0 ≡ 0 → Counted uses xs → Counted (set uses x 1) (xs ++ (x ∷ []))
counted_first uses xs x l e h = counted_set uses xs x 1 l (omega (arith, h.counts x l)) h

pub counted_next : (uses xs : List ℕ) (x : ℕ) → x < 512 → (get_or uses x 0 ≡ 0 → ⊥) → Counted uses xs → Counted (set uses x 2) (xs ++ (x ∷ []))
counted_next uses xs x l e h = counted_set uses xs x 2 l (omega (arith, h.counts x l)) h

pub counted_to : {uses xs ys : List ℕ} → Counted uses xs → xs ≡ ys → Counted uses ys
counted_to {uses} {xs} {ys} h e = subst (λ (l : List ℕ). Counted uses l) e h

pub counted_zeros : Counted (replicate 512 0) []
unfolding occurrences
counted_zeros = record { long = length-replicate {A = ℕ} 512 0; counts = λ r l. get_or-replicate 512 r 0 0 l }

-- ---- rows one after another

pub joined_snoc : {A : Type 0} (f : ℕ → List A) (i n : ℕ) → joined (tabulate_from i (suc n) f) ≡ joined (tabulate_from i n f) ++ f (i + n)
unfolding joined tabulate_from
joined_snoc f i zero = append-nil (f i) ∙ ap f (sym (add-zero i))
joined_snoc f i (suc n) = ap (λ l. f i ++ l) (joined_snoc f (suc i) n ∙ ap (λ (k : ℕ). joined (tabulate_from (suc i) n f) ++ f k) (suc-add i n ∙ sym (add-suc i n))) ∙ sym (append_assoc (f i) (joined (tabulate_from (suc i) n f)) (f (i + suc n)))

pub joined_more : {A : Type 0} (f : ℕ → List A) (n : ℕ) → joined (tabulate (n + 1) f) ≡ joined (tabulate n f) ++ f n
unfolding tabulate
joined_more f n = rw (add-one n) (joined_snoc f 0 n ∙ ap (λ (k : ℕ). joined (tabulate_from 0 n f) ++ f k) (zero-add n))

module _ (f : ℕ → List ℕ) (uses xs : List ℕ) where
  pub turn_none : Counted uses xs → Counted uses (xs ++ joined (tabulate 0 f))
  unfolding joined tabulate tabulate_from
  turn_none h = counted_to h (sym (append-nil xs))

  pub turn_more : (n : ℕ) (ys : List ℕ) → ys ≡ f n → Counted uses (xs ++ joined (tabulate n f) ++ ys) → Counted uses (xs ++ joined (tabulate (n + 1) f))
  turn_more n ys e h = counted_to h (append_assoc xs (joined (tabulate n f)) ys ∙ ap (λ (l : List ℕ). xs ++ l) (ap (λ (l : List ℕ). joined (tabulate n f) ++ l) e ∙ sym (joined_more f n)))

  pub turn_all : (i n : ℕ) → i ≡ n → Counted uses (xs ++ joined (tabulate i f)) → Counted uses (xs ++ joined (tabulate n f))
  turn_all i n e h = rw e at h

-- ---- once
once_same : (n : ℕ) → eqb (min n 2) 1 ≡ eqb n 1
once_same n =
    same_or n 1
    (λ e. eq-eqb (min n 2) 1 (omega arith) ∙ sym (eq-eqb n 1 e))
    (λ e. ne_eqb (min n 2) 1 (λ q. e (omega arith)) ∙ sym (ne_eqb n 1 e))

pub once_is : (uses xs : List ℕ) (n : ℕ) → n ≤ 512 → Counted uses xs → every_below n (λ r. eqb (get_or uses r 0) 1) ≡ every_below n (λ r. eqb (occurrences r xs) 1)
unfolding every_below
once_is uses xs zero l h = refl
once_is uses xs (suc n) l h = ap₂ (λ (a b : Bool). a && b) (once_is uses xs n (omega arith) h) (ap (λ (k : ℕ). eqb k 1) (h.counts n (omega arith)) ∙ once_same (occurrences n xs))

pub pred_is : (n : ℕ) → 1 ≤ n → n - 1 ≡ pred n
pred_is zero l = absurd (omega arith)
pred_is (suc n) l = omega arith

-- the same test of the same rows
pub once_to : {b : Bool} {n m : ℕ} {xs ys : List ℕ} → n ≡ m → xs ≡ ys → b ≡ every_below n (λ r. eqb (occurrences r xs) 1) → b ≡ every_below m (λ r. eqb (occurrences r ys) 1)
once_to p q h = rw (p, q) at h

-- the code notes uses in the definition's order
pub uses_order : (rows : List ℕ) → joined (tabulate (suc (procedure_count rows)) (λ s. declared_roots rows s)) ++ joined (tabulate (table_count rows instruction_section) (λ r. yoke_set (instruction_row rows r))) ++ joined (tabulate (table_count rows instruction_section) (λ r. evaluated (instruction_row rows r))) ++ joined (tabulate (table_count rows expression_section) (λ r. operands (expression_row rows r))) ≡ expression_uses rows
unfolding expression_uses yoke_roots plain_roots
uses_order rows = append_assoc (yoke_roots rows) (plain_roots rows) (joined (tabulate (table_count rows expression_section) (λ r. operands (expression_row rows r))))

-- ---- rows that each name one
one_each : {A : Type 0} (f : ℕ → A) (i n : ℕ) → joined (tabulate_from i n (λ k. f k ∷ [])) ≡ tabulate_from i n f
unfolding joined tabulate_from
one_each f i zero = refl
one_each f i (suc n) = ap (λ l. f i ∷ l) (one_each f (suc i) n)

pub joined_single : {A : Type 0} (f : ℕ → A) (n : ℕ) → joined (tabulate n (λ k. f k ∷ [])) ≡ tabulate n f
unfolding tabulate
joined_single f n = one_each f 0 n

-- the roots of a scope, by its table
pub roots_from : (rows : List ℕ) {uses : List ℕ} (xs : List ℕ) (s : ℕ) (t : Table) → IsTable rows (scope_table s) t → Counted uses (xs ++ joined (tabulate (t.count / 2) (λ d. yoke_root (yoke_in rows (scope_table s) d)))) → Counted uses (xs ++ declared_roots rows s)
unfolding declared_roots pair_count
roots_from rows xs s t h k = rw (← h.count) k

-- what the code's short list of a yoke holds
pub yoke_of : {n y : ℕ} {ys : List ℕ} → n ≡ y → ys ≡ yoke_root n → ys ≡ yoke_root y
yoke_of e h = h ∙ ap yoke_root e
