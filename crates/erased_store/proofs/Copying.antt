-- A copy is the assignment of the variable's value, or fails where it is not filled. Assumes nothing.
use mathlib.Core.Path.{◌≡◌, sym, ap}
use mathlib.Core.Bool.{true, false}
use mathlib.Core.List.{List}
use mathlib.Core.Option.{Option}
use Prim.Native.Nat.{ℕ, ◌+◌, ◌-◌, ◌*◌, ◌<◌}
use lib.IntN.{ℤ}
use lib.ListN.{length, take, drop}
use Rattle.lingua.specs.Numbers.{body_cells}
use Rattle.lingua.specs.Errors.{not_filled}
use Rattle.lingua.specs.Outcome.{fail, or_fail, ◌>>=◌}
use Rattle.lingua.specs.Body.{Body}
use Rattle.lingua.specs.Value.{Composite}
use Rattle.lingua.specs.Store.{Variable, assigned, copied, filled_at}
use Rattle.lingua.specs.Run.{Profile}
use Rattle.lingua.specs.Typing.{scope_bodies}
use Rattle.run.specs.Reached.{lent}
use Rattle.run.proofs.Parts.{unfilled_is, filled_is}
use Rattle.erased_row.specs.Meaning.{Running}
use Rattle.erased_row.proofs.Cycle.{memory_of}
use Rattle.erased_store.specs.Meaning.{ValueFor}
use Rattle.erased_store.proofs.Values.{part_value}

module _ {p : Profile} {a : ℕ} {rows : List ℕ} {layout : List ℕ} {limits cells : List ℤ} {states bodies : List ℕ} {vs : List Variable} (w : Running p a rows layout limits (lent cells states bodies) vs) (n : ℕ) (lt : n < length vs) where
  pub not_copied : filled_at states n ≡ false → (ws : List Variable) (m : ℕ) → copied assigned vs n ws m ≡ fail not_filled
  unfolding copied
  not_copied e ws m = ap (λ (c : Option Composite). or_fail c not_filled >>= λ x. assigned ws m x) (unfilled_is (memory_of w.world) n lt e)

  module _ (e : filled_at states n ≡ true) where
    pub given : Composite
    given = (filled_is (memory_of w.world) n lt e).0

    pub copied_is : (ws : List Variable) (m : ℕ) → assigned ws m given ≡ copied assigned vs n ws m
    unfolding copied given
    copied_is ws m = sym (ap (λ (c : Option Composite). or_fail c not_filled >>= λ x. assigned ws m x) (filled_is (memory_of w.world) n lt e).1)

    pub given_part : {b : Body} → scope_bodies p a n ≡ b → ValueFor b body_cells (take (body_cells * n + body_cells - body_cells * n) (drop (body_cells * n) cells)) given
    unfolding given
    given_part q = part_value (memory_of w.world) n lt given (filled_is (memory_of w.world) n lt e).1 q
