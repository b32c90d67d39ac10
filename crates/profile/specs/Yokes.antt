-- Yokes by their numbers, as the state words have them. Assumes nothing.
use Rattle.std.specs.Prelude.{◌≡◌, refl, true, List, ℕ, zero, suc, ◌-◌, ◌≤◌, ◌<◌, ltb}
use Rattle.std.proofs.Common.{ap, arith, ltb-true}
use Rattle.lingua.specs.Numbers.{expression_section}
use Rattle.lingua.specs.Expression.{Yoke, always, yoke}
use Rattle.lingua.specs.Rows.{table_count, yoke_root}
use Rattle.lingua.specs.Trees.{expression_tree, yoke_tree}
use Rattle.lingua.specs.References.{all_below}
use Rattle.safety.specs.Every.{Every, every_more, every_implies, all_true_lem}

-- a yoke of the profile, by its number
pub record YokeOf (rows : List ℕ) (y : Yoke) : Type 0 where
  pub number : ℕ
  pub there : number ≤ table_count rows expression_section
  pub is : y ≡ yoke_tree rows number

-- a yoke that is there is at most the number of expression rows
pub every_yoke : (n y : ℕ) → Every (λ k. k < n) (yoke_root y) → y ≤ n
unfolding yoke_root
every_yoke n zero h = omega arith
every_yoke n (suc r) (every_more h k) = omega arith

pub all_yoke : (n y : ℕ) → all_below n (yoke_root y) ≡ true → y ≤ n
all_yoke n y e = every_yoke n y (every_implies (λ k q. ltb-true k n q) (all_true_lem (λ k. ltb k n) (yoke_root y) e))

-- 0 is the yoke that is always true, another number is 1 + its row
pub always_is : (rows : List ℕ) (y : ℕ) → y ≡ 0 → yoke_tree rows y ≡ always
unfolding yoke_tree
always_is rows zero e = refl
always_is rows (suc y) e = absurd (let k : ⊥ = omega arith in k)

pub yoke_is : (rows : List ℕ) (y : ℕ) → (y ≡ 0 → ⊥) → yoke_tree rows y ≡ yoke (expression_tree rows (y - 1))
unfolding yoke_tree
yoke_is rows zero f = absurd (f refl)
yoke_is rows (suc y) f = ap (λ (k : ℕ). yoke (expression_tree rows k)) (let e : y ≡ suc y - 1 = omega arith in e)
