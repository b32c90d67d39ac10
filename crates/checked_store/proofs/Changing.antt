-- Yoke change: only the variable's second state word changes. Assumes nothing.
use mathlib.Core.Path.{◌≡◌, refl, sym, ap, ◌∙◌}
use mathlib.Core.List.{List}
use Prim.Native.Nat.{ℕ, ◌≤◌, ◌<◌}
use native.Mathlib.Omega.{arith}
use lib.IntN.{ℤ}
use lib.ListN.{length, set}
use Rattle.lingua.specs.Numbers.{expression_section}
use Rattle.lingua.specs.Rows.{table_count}
use Rattle.lingua.specs.Outcome.{ok, Result, ◌>>◌}
use Rattle.lingua.specs.Store.{Variable, variable_at, with_yoke, yoke_holds, yoke_changed, set_yoke_at}
use Rattle.lingua.specs.Trees.{yoke_tree}
use Rattle.laws.specs.Presents.{bodies_unchanged}
use Rattle.run.specs.Reached.{lent}
use Rattle.run.specs.Memory.{Admits}
use Rattle.run.proofs.Storing.{cells_kept, words_changed}
use Rattle.run.proofs.Settling.{keeps, stores_as}
use Rattle.checked_store.specs.Meaning.{Running, Assigns}
use Rattle.checked_store.proofs.Keeping.{yoke_running}

module _ {rows : List ℕ} {limits cells : List ℤ} {states bodies : List ℕ} {vs : List Variable} (w : Running rows limits (lent cells states bodies) vs) (n : ℕ) (lt : n < length vs) (y e : ℕ) (admits : Admits e (yoke_holds vs (yoke_tree rows y) (variable_at vs n).content)) where
  pub not_changed : (e ≡ 0 → ⊥) → Assigns e rows limits (lent cells states bodies) (lent cells states bodies) (yoke_changed vs n (yoke_tree rows y))
  unfolding yoke_changed
  not_changed f = keeps e f (ap (λ (p : Result (Unit {0})). p >> ok (set vs n (with_yoke (variable_at vs n) (yoke_tree rows y)))) (admits.error f))

  pub changed : e ≡ 0 → y ≤ table_count rows expression_section → (words : List ℕ) → words ≡ set_yoke_at states n y → Assigns 0 rows limits (lent cells states bodies) (lent cells words bodies) (yoke_changed vs n (yoke_tree rows y))
  unfolding yoke_changed
  changed z l words q =
      stores_as (set vs n (with_yoke (variable_at vs n) (yoke_tree rows y)))
      (ap (λ (p : Result (Unit {0})). p >> ok (set vs n (with_yoke (variable_at vs n) (yoke_tree rows y)))) (admits.answer z))
      (yoke_running w n lt (yoke_tree rows y) (record { number = y; there = omega (arith, l); is = refl }) (lent cells words bodies)
      (record { cells_are = cells_kept vs n (yoke_tree rows y) w.world.stored.cells_are; states_are = q ∙ words_changed rows vs n lt y w.world.stored.states_are; bodies_are = w.world.stored.bodies_are ∙ sym (bodies_unchanged vs n (with_yoke (variable_at vs n) (yoke_tree rows y)) refl) }))
