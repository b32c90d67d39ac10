-- The groups of four bits in a field, from the lowest: what is asked of the first and of the rest is asked of all. Assumes nothing.
use mathlib.Core.Path.{◌≡◌, refl, sym, ap, ◌∙◌}
use mathlib.Core.Bool.{Bool, true, false, not, ◌&&◌, ◌||◌}
use mathlib.Core.List.{List, [], ◌∷◌}
use Prim.Native.Nat.{ℕ, zero, suc, ◌-◌, ◌/◌, ◌%◌, ◌^◌, ◌≤◌, ◌<◌, min}
use native.Mathlib.Omega.{arith}
use lib.ListN.{get_or}
use borrow.Author.Tests.{lt-ltb, le-ltb, eq-eqb, ne_eqb}
use Rattle.lingua.specs.Numbers.{most_parameters}
use Rattle.lingua.specs.Errors.{is_among}
use Rattle.lingua.specs.Value.{all_of}
use Rattle.lingua.specs.Rows.{groups}
use Rattle.lingua.specs.References.{all_below, bits_above, all_different}

-- ---- group i
abbrev shifted : ℕ → ℕ → ℕ
shifted zero w = w
shifted (suc i) w = shifted i (w / 16)

at_group : (n w i : ℕ) → i < n → shifted i w % 16 ≡ get_or (groups n w) i 0
unfolding groups
at_group zero w i h = absurd (let z : ⊥ = omega arith in z)
at_group (suc n) w zero h = refl
at_group (suc n) w (suc i) h = at_group n (w / 16) i (let l : i < n = omega arith in l)

module _ (w i : ℕ) where
  by_place : (k v : ℕ) → i ≡ k → v ≡ shifted k w % 16 → (n : ℕ) → i < n → v ≡ get_or (groups n w) i 0
  by_place k v e q n h = q ∙ ap (λ (j : ℕ). shifted j w % 16) (sym e) ∙ at_group n w i h

  pub group_0 : i ≡ 0 → ((n : ℕ) → i < n → w % 16 ≡ get_or (groups n w) i 0) × (w % 16 < 16)
  group_0 e = (by_place 0 (w % 16) e refl, omega arith)

  pub group_1 : i ≡ 1 → ((n : ℕ) → i < n → w / 16 % 16 ≡ get_or (groups n w) i 0) × (w / 16 % 16 < 16)
  group_1 e = (by_place 1 (w / 16 % 16) e refl, omega arith)

  pub group_2 : i ≡ 2 → ((n : ℕ) → i < n → w / 256 % 16 ≡ get_or (groups n w) i 0) × (w / 256 % 16 < 16)
  group_2 e = (by_place 2 (w / 256 % 16) e (omega arith), omega arith)

  pub group_3 : i ≡ 3 → ((n : ℕ) → i < n → w / 4096 % 16 ≡ get_or (groups n w) i 0) × (w / 4096 % 16 < 16)
  group_3 e = (by_place 3 (w / 4096 % 16) e (omega arith), omega arith)

-- ---- what stands above
module _ (w n : ℕ) where
  above_at : (m : ℕ) → min most_parameters n ≡ m → w / 16 ^ m ≡ bits_above n w
  unfolding bits_above
  above_at m e = ap (λ (k : ℕ). w / 16 ^ k) (sym e)

  pub above_0 : n ≡ 0 → w ≡ bits_above n w
  above_0 e = (let q : w ≡ w / 1 = omega arith in q) ∙ above_at 0 (omega arith)

  pub above_1 : n ≡ 1 → w / 16 ≡ bits_above n w
  above_1 e = above_at 1 (omega arith)

  pub above_2 : n ≡ 2 → w / 256 ≡ bits_above n w
  above_2 e = above_at 2 (omega arith)

  pub above_3 : n ≡ 3 → w / 4096 ≡ bits_above n w
  above_3 e = above_at 3 (omega arith)

  pub above_4 : 4 ≤ n → w / 65536 ≡ bits_above n w
  above_4 h = above_at 4 (omega arith)

-- ---- the first group, and the rest
more : (n w : ℕ) → 0 < n → groups n w ≡ w % 16 ∷ groups (n - 1) (w / 16)
unfolding groups
more zero w h = absurd (let z : ⊥ = omega arith in z)
more (suc n) w h = ap (λ (m : ℕ). w % 16 ∷ groups m (w / 16)) (let e : n ≡ suc n - 1 = omega arith in e)

-- F of all groups is F of what is left, at first
pub from_start : (F : List ℕ → Bool) (n w : ℕ) → F (groups (n - 0) w) ≡ F (groups n w)
from_start F n w = ap (λ (m : ℕ). F (groups m w)) (omega arith)

module _ (F : List ℕ → Bool) (n w left rest : ℕ) (inv : F (groups left rest) ≡ F (groups n w)) where
  pub from_first : (b : Bool) → 0 < left → F (rest % 16 ∷ groups (left - 1) (rest / 16)) ≡ b → b ≡ F (groups n w)
  from_first b h e = sym e ∙ ap F (sym (more left rest h)) ∙ inv

  pub from_rest : (next : ℕ) → next ≡ left - 1 → 0 < left → F (rest % 16 ∷ groups (left - 1) (rest / 16)) ≡ F (groups (left - 1) (rest / 16)) → F (groups next (rest / 16)) ≡ F (groups n w)
  from_rest next l h e = ap (λ (m : ℕ). F (groups m (rest / 16))) l ∙ sym e ∙ ap F (sym (more left rest h)) ∙ inv

  pub from_none : (b : Bool) → left ≡ 0 → F [] ≡ b → b ≡ F (groups n w)
  unfolding groups
  from_none b e f = sym f ∙ ap (λ (m : ℕ). F (groups m rest)) (sym e) ∙ inv

-- ---- what is asked of a group and the others
module _ (x : ℕ) (xs : List ℕ) where
  pub not_below : (end : ℕ) → end ≤ x → all_below end (x ∷ xs) ≡ false
  unfolding all_of
  not_below end h = ap (λ (t : Bool). t && all_below end xs) (le-ltb x end h)

  pub is_below : (end : ℕ) → x < end → all_below end (x ∷ xs) ≡ all_below end xs
  unfolding all_of
  is_below end h = ap (λ (t : Bool). t && all_below end xs) (lt-ltb x end h)

  pub is_here : (g : ℕ) → x ≡ g → is_among (x ∷ xs) g ≡ true
  unfolding is_among
  is_here g e = ap (λ (t : Bool). t || is_among xs g) (eq-eqb g x (sym e))

  pub not_here : (g : ℕ) → (x ≡ g → ⊥) → is_among (x ∷ xs) g ≡ is_among xs g
  unfolding is_among
  not_here g n = ap (λ (t : Bool). t || is_among xs g) (ne_eqb g x (λ e. n (sym e)))

  pub again : is_among xs x ≡ true → all_different (x ∷ xs) ≡ false
  unfolding all_different
  again e = ap (λ (t : Bool). not t && all_different xs) e

  pub not_again : is_among xs x ≡ false → all_different (x ∷ xs) ≡ all_different xs
  unfolding all_different
  not_again e = ap (λ (t : Bool). not t && all_different xs) e

pub below_none : (end : ℕ) → all_below end [] ≡ true
unfolding all_of
below_none end = refl

pub among_none : (g : ℕ) → is_among [] g ≡ false
unfolding is_among
among_none g = refl

pub different_none : all_different [] ≡ true
unfolding all_different
different_none = refl
