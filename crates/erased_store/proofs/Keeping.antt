-- A store of a run with one variable replaced, in the caller's memory: what the erased run asks of its stores still holds. Assumes nothing.
use mathlib.Core.Path.{◌≡◌, refl, sym, ◌∙◌}
use mathlib.Core.List.{List, []}
use mathlib.Core.Option.{some}
use Prim.Native.Nat.{ℕ, ◌<◌}
use native.Mathlib.Omega.{arith}
use lib.IntN.{ℤ}
use lib.ListN.{length, set, length-set}
use Rattle.lingua.specs.Outcome.{ok}
use Rattle.lingua.specs.Body.{is_quantity}
use Rattle.lingua.specs.Value.{Composite}
use Rattle.lingua.specs.Expression.{Yoke}
use Rattle.lingua.specs.Run.{Profile}
use Rattle.lingua.specs.Store.{Variable, variable_at, contents, with_content, with_yoke, cells_in, states_in, assigned, yoke_changed}
use Rattle.lingua.specs.Typing.{scope_bodies}
use Rattle.safety.specs.Constants.{Fitting, ClosedYoke}
use Rattle.safety.specs.Derivation.{DerivedYoke}
use Rattle.safety.specs.Invariant.{scope_store}
use Rattle.safety.specs.Layout.{HoldsIn}
use Rattle.safety.specs.Programs.{YokesDerived, assigned_fit, changed_fit, assigned_yokes, changed_yokes}
use Rattle.safety.specs.Stored.{StoreKept, replaced, assigned_kept, changed_kept}
use Rattle.safety.specs.TypeSound.{VariablesFit}
use Rattle.profile.specs.Yokes.{YokeOf}
use Rattle.run.specs.Reached.{lent}
use Rattle.run.proofs.Storing.{limits_kept, yokes_kept}
use Rattle.erased_row.specs.Meaning.{Running}
use mathlib.Core.Bool.{true}

module _ {p : Profile} {a : ℕ} {rows : List ℕ} {layout : List ℕ} {limits cells : List ℤ} {states : List ℕ} {vs : List Variable} (h : Running p a rows layout limits (lent cells states []) vs) (n : ℕ) (lt : n < length vs) where
  -- another variable n with the same limit, and every filled variable of its declared body
  replaced_running : (v : Variable) → v.limit ≡ (variable_at vs n).limit → YokeOf rows v.yoke → StoreKept (scope_store p a) (set vs n v) → YokesDerived (HoldsIn layout) (scope_bodies p a) (set vs n v) → VariablesFit (scope_bodies p a) (contents (set vs n v))
      → (cells' : List ℤ) (states' : List ℕ) → cells' ≡ cells_in (set vs n v) → states' ≡ states_in (set vs n v) → Running p a rows layout limits (lent cells' states' []) (set vs n v)
  replaced_running v l y k d f cells' states' ce se =
      let len : length (set vs n v) ≡ length vs = length-set vs n v in
      record {
        world = record {
          accepted = h.world.accepted;
          long = h.world.long;
          cells_are = ce;
          states_are = se;
          few = omega (arith, len, h.world.few);
          small = h.world.small;
          fit = f;
        };
        count = len ∙ h.count;
        kept = k;
        passed_yokes = d;
        passed_rows = h.passed_rows;
        room = omega (arith, len, h.room);
        limited = limits_kept vs n v limits l h.limited;
        limited_quantities = λ m b i q.
            replaced (λ j w. j < length vs → w.limit ≡ some b → is_quantity (scope_bodies p a j) ≡ true) vs n v
            (λ j e. h.limited_quantities n b j (sym l ∙ e)) (λ j g e. h.limited_quantities j b g e) m (omega (arith, len, i)) q;
        quantity_variables = h.quantity_variables;
        own_bodies = h.own_bodies;
        yokes = yokes_kept vs n v y h.yokes;
      }

  -- a value of the declared body that was assigned
  pub content_running : (x : Composite) → x.body ≡ scope_bodies p a n → Fitting x → assigned vs n x ≡ ok (set vs n (with_content (variable_at vs n) x)) → (cells' : List ℤ) (states' : List ℕ)
      → cells' ≡ cells_in (set vs n (with_content (variable_at vs n) x)) → states' ≡ states_in (set vs n (with_content (variable_at vs n) x)) → Running p a rows layout limits (lent cells' states' []) (set vs n (with_content (variable_at vs n) x))
  content_running x b f e cells' states' ce se =
      let ws = set vs n (with_content (variable_at vs n) x) in
      replaced_running (with_content (variable_at vs n) x) refl (h.yokes n lt)
      (assigned_kept (scope_store p a) vs h.kept n x f ws e) (assigned_yokes (HoldsIn layout) (scope_bodies p a) vs h.passed_yokes n x ws e) (assigned_fit (scope_bodies p a) vs h.world.fit n x b f ws e) cells' states' ce se

  -- a yoke that took effect
  pub yoke_running : (y : Yoke) → YokeOf rows y → ClosedYoke y → DerivedYoke (HoldsIn layout) (scope_bodies p a) y (scope_bodies p a n) → yoke_changed vs n y ≡ ok (set vs n (with_yoke (variable_at vs n) y))
      → (states' : List ℕ) → cells ≡ cells_in (set vs n (with_yoke (variable_at vs n) y)) → states' ≡ states_in (set vs n (with_yoke (variable_at vs n) y)) → Running p a rows layout limits (lent cells states' []) (set vs n (with_yoke (variable_at vs n) y))
  yoke_running y o c d e states' ce se =
      let ws = set vs n (with_yoke (variable_at vs n) y) in
      replaced_running (with_yoke (variable_at vs n) y) refl o
      (changed_kept (scope_store p a) vs h.kept n y c ws e) (changed_yokes (HoldsIn layout) (scope_bodies p a) vs h.passed_yokes n y d ws e) (changed_fit (scope_bodies p a) vs h.world.fit n y ws e) cells states' ce se
