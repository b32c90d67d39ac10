-- A store has as many variables as before it took a value or a yoke. Assumes nothing.
use mathlib.Core.Path.{◌≡◌, subst}
use mathlib.Core.List.{List}
use Prim.Native.Nat.{ℕ}
use lib.ListN.{length, length-set}
use Rattle.lingua.specs.Errors.{overflow, not_filled}
use Rattle.lingua.specs.Outcome.{ok, ◌>>=◌}
use Rattle.lingua.specs.Value.{Composite, in_range_of}
use Rattle.lingua.specs.Expression.{Expression, Yoke}
use Rattle.lingua.specs.Evaluation.{eval, no_current}
use Rattle.lingua.specs.Store.{Variable, variable_at, contents, admitted, assigned, copied, yoke_holds, yoke_changed, with_content, with_yoke, Reading, counts_hundredths, reading_value, reading_taken}
use Rattle.safety.specs.Answers.{same_answer, bound, some_answer, demanded, after}

pub assigned_long : (vs : List Variable) (n : ℕ) (x : Composite) (ws : List Variable) → assigned vs n x ≡ ok ws → length ws ≡ length vs
unfolding assigned
assigned_long vs n x ws e =
    let q = after (admitted vs (variable_at vs n) x) _ ws e in
    subst (λ (us : List Variable). length us ≡ length vs) (same_answer q.1) (length-set vs n (with_content (variable_at vs n) x))

-- an expression's value
pub evaluated_long : (e : Expression) (n : ℕ) (vs ws : List Variable) → (eval e (contents vs) no_current >>= assigned vs n) ≡ ok ws → length ws ≡ length vs
evaluated_long e n vs ws q =
    let x = bound (eval e (contents vs) no_current) (assigned vs n) ws q in
    assigned_long vs n x.0 ws x.2

pub changed_long : (vs : List Variable) (n : ℕ) (y : Yoke) (ws : List Variable) → yoke_changed vs n y ≡ ok ws → length ws ≡ length vs
unfolding yoke_changed
changed_long vs n y ws e =
    let q = after (yoke_holds vs y (variable_at vs n).content) _ ws e in
    subst (λ (us : List Variable). length us ≡ length vs) (same_answer q.1) (length-set vs n (with_yoke (variable_at vs n) y))

pub taken_long : (vs : List Variable) (r : Reading) (ws : List Variable) → reading_taken vs r ≡ ok ws → length ws ≡ length vs
unfolding reading_taken
taken_long vs r ws e =
    let q = demanded (in_range_of (counts_hundredths vs r) r.number) overflow _ ws e in
    assigned_long vs r.variable (reading_value (counts_hundredths vs r) r.number) ws q.1

pub copied_long : (vs : List Variable) (n : ℕ) (us : List Variable) (m : ℕ) (ws : List Variable) → copied assigned vs n us m ≡ ok ws → length ws ≡ length us
unfolding copied
copied_long vs n us m ws e =
    let x = some_answer (contents vs n) not_filled (λ y. assigned us m y) ws e in
    assigned_long us m x.0 ws x.2
