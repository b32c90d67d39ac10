-- What the first bytes of two operands say of them as quantities. Assumes nothing.
use mathlib.Core.Path.{◌≡◌, refl, sym, ap, ◌∙◌}
use mathlib.Core.Bool.{Bool, true, false, ◌||◌, ◌&&◌}
use mathlib.Core.List.{List}
use Prim.Native.Nat.{ℕ}
use lib.Dec.{eqb}
use lib.ListN.{get_or}
use Rattle.lingua.specs.Body.{Body, boolean, number, word, hundredths, list_of, record_of, size, is_number, is_hundredths, is_quantity, same_body}
use Rattle.lingua.specs.Typing.{hundredths_flag}
use Rattle.laws.specs.Outcomes.{false_is_true, is_number_lem, is_hundredths_lem}
use Rattle.body.specs.Encode.{Holds}
use Rattle.body.specs.Typed.{simple_of}
use Rattle.body.proofs.Tags as tags

-- ---- whether both are numbers, or both are hundredths
with_number : (b c : Body) → b ≡ number → is_number c ≡ (is_quantity b && same_body b c)
unfolding is_quantity is_number same_body
with_number b c e = rw (e) refl

with_hundredths : (b c : Body) → b ≡ hundredths → is_hundredths c ≡ (is_quantity b && same_body b c)
unfolding is_quantity is_number is_hundredths same_body
with_hundredths b c e = rw (e) refl

neither : (s t u : Bool) → s ≡ false → t ≡ false → false ≡ ((s || t) && u)
neither s t u d e = rw (d, e) refl

module _ (x y : List ℕ) (b c : Body) (h : Holds x b) (k : Holds y c) where
  pub two_numbers : get_or x 0 0 ≡ 2 → eqb (get_or y 0 0) 2 ≡ (is_quantity b && same_body b c)
  two_numbers e = tags.first_number y c k ∙ with_number b c (is_number_lem b (tags.is_number_lem x b h e))

  pub two_hundredths : get_or x 0 0 ≡ 7 → eqb (get_or y 0 0) 7 ≡ (is_quantity b && same_body b c)
  two_hundredths e = tags.first_hundredths y c k ∙ with_hundredths b c (is_hundredths_lem b (tags.is_hundredths_lem x b h e))

  pub no_quantities : (get_or x 0 0 ≡ 2 → ⊥) → (get_or x 0 0 ≡ 7 → ⊥) → false ≡ (is_quantity b && same_body b c)
  unfolding is_quantity
  no_quantities f g = neither (is_number b) (is_hundredths b) (same_body b c) (tags.not_number x b h f) (tags.not_hundredths x b h g)

-- ---- what is reckoned with, by its tag
pub flag_hundredths : (b : Body) → is_hundredths b ≡ true → 1 ≡ hundredths_flag b
unfolding hundredths_flag
flag_hundredths b e = rw (e) refl

pub flag_other : (b : Body) → is_hundredths b ≡ false → 0 ≡ hundredths_flag b
unfolding hundredths_flag
flag_other b e = rw (e) refl

pub hundredths_cell : (b : Body) → is_hundredths b ≡ true → 1 ≡ size b
unfolding size
hundredths_cell b e = sym (ap size (is_hundredths_lem b e))

-- a quantity that is no hundredths is a number
pub reckoned_number : (b c : Body) → is_quantity b && same_body b c ≡ true → is_hundredths b ≡ false → b ≡ simple_of 2
unfolding is_quantity is_number is_hundredths simple_of
reckoned_number boolean c e f = false_is_true e
reckoned_number number c e f = refl
reckoned_number word c e f = false_is_true e
reckoned_number hundredths c e f = false_is_true (sym f)
reckoned_number (list_of b) c e f = false_is_true e
reckoned_number (record_of fs) c e f = false_is_true e
