-- A walk over the elements of a list, where they lie: its length as the code has it, each element's place, and the results that are gathered,
-- one more at a time. Assumes nothing.
use mathlib.Core.Path.{◌≡◌, refl, sym, ap, ◌∙◌}
use mathlib.Core.Bool.{Bool, false, ◌&&◌, and-true, and_assoc}
use mathlib.Core.List.{List, [], ◌∷◌, ◌++◌, map}
use Prim.Native.Nat.{ℕ, zero, suc, ◌+◌, ◌-◌, ◌*◌, ◌≤◌, ◌<◌}
use native.Mathlib.Nat.{suc-mul}
use native.Mathlib.Numerals.{add-one}
use native.Mathlib.Omega.{arith}
use lib.ListN.{length, take, drop, get_or}
use lib.Seq.{take-take, take_all}
use lib.IntN.{ℤ, pos, nat_abs}
use mir.Syntax.{w64}
use mir.Val.{to_z, of_z}
use Rattle.lingua.specs.Numbers.{body_cells, list_places}
use Rattle.lingua.specs.Outcome.{ok, fail, Result, all_answers, ◌>>=◌}
use Rattle.lingua.specs.Body.{Body, list_of, size}
use Rattle.lingua.specs.Value.{Value, truth, items, count_values, value_list, as_items, cells_of, all_of}
use Rattle.laws.specs.Items.{place_room, length_list, element_fits, element_cells}
use Rattle.laws.specs.Sound.{fit_list, fit_count}
use Rattle.cells.specs.Stack.{Lies}
use Rattle.cells.proofs.Elements.{small_back, list_size, list_count}
use Rattle.cells.proofs.Operands.{lies_long}
use Rattle.cells.proofs.Windows.{take_part}

-- ---- the length as the code has it
abbrev pub counted : List ℤ → ℕ
counted s = nat_abs (to_z w64 (of_z w64 (get_or s 0 (pos 0))))

-- what a walk over elements of width cells keeps to
pub record Walked (list : List ℤ) (width : ℕ) : Type 0 where
  pub few : counted list ≤ list_places
  pub room : 1 + list_places * width ≤ body_cells
  pub long : 1 + list_places * width ≤ length list
  pub positive : to_z w64 (of_z w64 (get_or list 0 (pos 0))) ≡ pos (counted list)

module _ {list : List ℤ} {b : Body} {x : Value} (lies : Lies list 0 (list_of b) x) where
  length_back : to_z w64 (of_z w64 (get_or list 0 (pos 0))) ≡ pos (count_values (as_items x))
  length_back = ap (λ (z : ℤ). to_z w64 (of_z w64 z)) (list_count lies) ∙ small_back (count_values (as_items x)) (omega (arith, fit_count lies.fit))

  pub counted_elements : counted list ≡ count_values (as_items x)
  counted_elements = ap nat_abs length_back

  pub some_cell : 0 < length list
  some_cell = omega (arith, lies_long lies, list_size b)

  pub walks : (width : ℕ) → width ≡ size b → size (list_of b) ≤ body_cells → Walked list width
  walks width z small = record {
    few = omega (arith, counted_elements, fit_count lies.fit);
    room = omega (arith, z, list_size b, small);
    long = omega (arith, z, list_size b, lies_long lies);
    positive = length_back ∙ ap (λ (n : ℕ). pos n) (sym counted_elements);
  }

-- ---- one element
pub turn_room : (i n at w : ℕ) → at ≡ 1 + i * w → i < n → n ≤ list_places → at + w ≤ 1 + list_places * w
turn_room i n at w e l f = let p : i * w + w ≤ list_places * w = place_room i w (omega arith) in omega arith

pub next_place : (i at w : ℕ) → at ≡ 1 + i * w → at + w ≡ 1 + (i + 1) * w
next_place i at w e = omega (arith, suc-mul i w, ap (λ (k : ℕ). k * w) (add-one i))

pub element_at : Value → ℕ → Value
element_at x i = get_or (value_list (as_items x)) i (truth false)

cells_by_items : (b : Body) (x : Value) → cells_of (list_of b) x ≡ cells_of (list_of b) (items (as_items x))
unfolding cells_of as_items
cells_by_items b x = refl

module _ {list : List ℤ} {b : Body} {x : Value} (lies : Lies list 0 (list_of b) x) (i at w : ℕ) (z : w ≡ size b) (p : at ≡ 1 + i * w) (l : i < count_values (as_items x)) where
  place : at ≡ 1 + i * size b
  place = p ∙ ap (λ (k : ℕ). 1 + i * k) z

  within : at + size b ≤ size (list_of b)
  within = let q : i * size b + size b ≤ list_places * size b = place_room i (size b) (omega (arith, l, fit_count lies.fit)) in omega (arith, q, place, list_size b)

  -- it lies at its place, by itself too
  pub element_lies : Lies (take (at + w - at) (drop at list)) 0 b (element_at x i)
  unfolding element_at
  element_lies = record {
    cells =
        take-take (size b) (at + w - at) (drop at list) (omega (arith, z))
        ∙ sym (take_part list at (size b) (size (list_of b)) within)
        ∙ ap (λ (s : List ℤ). take (size b) (drop at s)) (lies.cells ∙ cells_by_items b x)
        ∙ ap (λ (k : ℕ). take (size b) (drop k (cells_of (list_of b) (items (as_items x))))) place
        ∙ element_cells (fit_list lies.fit) i l (truth false);
    fit = element_fits (fit_list lies.fit) i l (truth false);
  }

-- ---- what is gathered of the elements
map_more : {A B : Type 0} (g : A → B) (xs : List A) (i : ℕ) (d : A) → i < length xs → map g (take (suc i) xs) ≡ map g (take i xs) ++ (g (get_or xs i d) ∷ [])
map_more g [] i d h = absurd (let z : ⊥ = omega arith in z)
map_more g (x ∷ xs) zero d h = refl
map_more g (x ∷ xs) (suc i) d h = ap (λ l. g x ∷ l) (map_more g xs i d (omega arith))

module _ {A : Type 0} (g : Value → A) (x : Value) (i : ℕ) where
  pub gathered_more : i < count_values (as_items x) → map g (take (i + 1) (value_list (as_items x))) ≡ map g (take i (value_list (as_items x))) ++ (g (element_at x i) ∷ [])
  unfolding element_at
  gathered_more l = ap (λ (k : ℕ). map g (take k (value_list (as_items x)))) (add-one i) ∙ map_more g (value_list (as_items x)) i (truth false) (omega (arith, length_list (as_items x), l))

  pub gathered_all : i ≡ count_values (as_items x) → map g (take i (value_list (as_items x))) ≡ map g (value_list (as_items x))
  gathered_all e = ap (λ (l : List Value). map g l) (take_all i (value_list (as_items x)) (omega (arith, length_list (as_items x), e)))

-- ---- results with one more
abbrev pub more : {A : Type 0} → Result (List A) → Result A → Result (List A)
more m o = m >>= λ xs. o >>= λ y. ok (xs ++ (y ∷ []))

carried : {A : Type 0} (a : A) (m : Result (List A)) (o : Result A) → (more m o >>= λ rest. ok (a ∷ rest)) ≡ more (m >>= λ rest. ok (a ∷ rest)) o
carried a (fail n) o = refl
carried a (ok xs) (fail n) = refl
carried a (ok xs) (ok y) = refl

pub answers_snoc : {A : Type 0} (rs : List (Result A)) (o : Result A) → all_answers (rs ++ (o ∷ [])) ≡ more (all_answers rs) o
unfolding all_answers
answers_snoc [] (ok y) = refl
answers_snoc [] (fail n) = refl
answers_snoc (fail n ∷ rs) o = refl
answers_snoc {A} (ok a ∷ rs) o = ap (λ (m : Result (List A)). m >>= λ rest. ok (a ∷ rest)) (answers_snoc rs o) ∙ carried a (all_answers rs) o

pub all_snoc : {A : Type 0} (p : A → Bool) (xs : List A) (y : A) → all_of p (xs ++ (y ∷ [])) ≡ (all_of p xs && p y)
unfolding all_of
all_snoc p [] y = and-true (p y)
all_snoc p (x ∷ xs) y = ap (λ (t : Bool). p x && t) (all_snoc p xs y) ∙ sym (and_assoc (p x) (all_of p xs) (p y))
