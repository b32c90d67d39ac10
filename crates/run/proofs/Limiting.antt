-- A limit in three cells is the definition's. Assumes nothing.
use mathlib.Core.Path.{◌≡◌, refl, sym, ap, ap₂, ◌∙◌}
use mathlib.Core.Bool.{Bool, true, ◌&&◌}
use mathlib.Core.List.{List}
use mathlib.Core.Option.{Option, some, none}
use Prim.Native.Nat.{ℕ, ◌+◌}
use native.Mathlib.Omega.{arith}
use lib.IntN.{ℤ, pos}
use lib.ListN.{get_or}
use lib.Signed.{le_z}
use mir.Syntax.{w64}
use mir.Val.{of_z}
use Rattle.lingua.specs.Store.{Limit, within}
use Rattle.profile.specs.Variables.{LimitAt}

pub no_limit : (limits : List ℤ) (at : ℕ) (l : Option Limit) (z : ℤ) → LimitAt limits at l → of_z w64 (get_or limits at (pos 0)) ≡ 0 → true ≡ within l z
unfolding LimitAt within
no_limit limits at none z h e = refl
no_limit limits at (some l) z h e = absurd (let k : of_z w64 (pos 1) ≡ 0 = ap (λ (y : ℤ). of_z w64 y) (sym h.0) ∙ e in let j : ⊥ = omega arith in j)

pub limit_is : (limits : List ℤ) (at : ℕ) (l : Option Limit) (z : ℤ) → LimitAt limits at l → (of_z w64 (get_or limits at (pos 0)) ≡ 0 → ⊥) → (le_z (get_or limits (at + 1) (pos 0)) z && le_z z (get_or limits (at + 2) (pos 0))) ≡ within l z
unfolding LimitAt within
limit_is limits at none z h f = absurd (f (ap (λ (y : ℤ). of_z w64 y) h))
limit_is limits at (some l) z h f = ap (λ (y : ℤ). le_z y z && le_z z (get_or limits (at + 2) (pos 0))) h.1 ∙ ap (λ (y : ℤ). le_z l.low z && le_z z y) h.2

-- ---- the code's comparisons, on numbers as it reads them back
module _ {low high z low' high' z' : ℤ} (l : low' ≡ low) (h : high' ≡ high) (k : z' ≡ z) where
  pub between_as : (le_z low' z' && le_z z' high') ≡ (le_z low z && le_z z high)
  between_as = ap₂ (λ (a b : Bool). a && b) (ap₂ (λ (a b : ℤ). le_z a b) l k) (ap₂ (λ (a b : ℤ). le_z a b) k h)
