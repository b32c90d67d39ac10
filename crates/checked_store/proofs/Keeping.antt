-- A store with one variable replaced, in the caller's memory: what is asked of a run's store still holds. Assumes nothing.
use mathlib.Core.Path.{◌≡◌, refl, subst}
use mathlib.Core.List.{List}
use mathlib.Core.Option.{some}
use Prim.Native.Nat.{ℕ, ◌<◌}
use native.Mathlib.Omega.{arith}
use lib.IntN.{ℤ}
use lib.ListN.{length, set, length-set}
use Rattle.lingua.specs.Value.{Composite}
use Rattle.lingua.specs.Expression.{Yoke}
use Rattle.lingua.specs.Store.{Variable, variable_at, present_body, with_content, with_yoke, cells_in, states_in, bodies_in}
use Rattle.safety.specs.Constants.{Fitting}
use Rattle.safety.specs.Stored.{replaced}
use Rattle.profile.specs.Yokes.{YokeOf}
use Rattle.run.specs.Reached.{Lent}
use Rattle.run.proofs.Storing.{limits_kept, yokes_kept}
use Rattle.checked_row.specs.Meaning.{Holdable}
use Rattle.checked_store.specs.Meaning.{Running}

-- memory that holds a store
pub record HoldsStore (l : Lent) (vs : List Variable) : Type 0 where
  pub cells_are : l.cells ≡ cells_in vs
  pub states_are : l.states ≡ states_in vs
  pub bodies_are : l.bodies ≡ bodies_in vs

module _ {rows : List ℕ} {limits : List ℤ} {l : Lent} {vs : List Variable} (h : Running rows limits l vs) (n : ℕ) (lt : n < length vs) where
  -- another variable n with the same limit
  replaced_running : (v : Variable) → v.limit ≡ (variable_at vs n).limit → Holdable (present_body v) → ((x : Composite) → v.content ≡ some x → Fitting x) → YokeOf rows v.yoke
      → (after : Lent) → HoldsStore after (set vs n v) → Running rows limits after (set vs n v)
  replaced_running v e b f y after m =
      let s = h.world.stored in
      let len : length (set vs n v) ≡ length vs = length-set vs n v in
      record {
        world = record {
          accepted = h.world.accepted;
          stored = record {
            cells_are = m.cells_are;
            states_are = m.states_are;
            bodies_are = m.bodies_are;
            few = omega (arith, len, s.few);
            holdable = λ k i. replaced (λ j w. j < length vs → Holdable (present_body w)) vs n v (λ z. b) (λ j. s.holdable j) k (omega (arith, len, i));
            fits = λ k. replaced (λ j w. (x : Composite) → w.content ≡ some x → Fitting x) vs n v f (λ j. s.fits j) k;
          };
        };
        room = omega (arith, len, h.room);
        limited = limits_kept vs n v limits e h.limited;
        yokes = yokes_kept vs n v y h.yokes;
      }

  pub content_running : (x : Composite) → Fitting x → Holdable x.body → (after : Lent) → HoldsStore after (set vs n (with_content (variable_at vs n) x))
      → Running rows limits after (set vs n (with_content (variable_at vs n) x))
  content_running x f b after m =
      replaced_running (with_content (variable_at vs n) x) refl b (λ y q. let e : x ≡ y = cc in subst Fitting e f) (h.yokes n lt) after m

  pub yoke_running : (y : Yoke) → YokeOf rows y → (after : Lent) → HoldsStore after (set vs n (with_yoke (variable_at vs n) y))
      → Running rows limits after (set vs n (with_yoke (variable_at vs n) y))
  yoke_running y o after m =
      replaced_running (with_yoke (variable_at vs n) y) refl (h.world.stored.holdable n lt) (h.world.stored.fits n) o after m
