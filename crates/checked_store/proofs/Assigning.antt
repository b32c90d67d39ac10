-- Assignment: what is stored is what the definition stores, and an error leaves the store as it was. Assumes nothing.
use mathlib.Core.Path.{◌≡◌, refl, ap, ◌∙◌}
use mathlib.Core.List.{List}
use Prim.Native.Nat.{ℕ, ◌<◌}
use native.Mathlib.Omega.{arith}
use lib.IntN.{ℤ}
use lib.ListN.{length, drop, set}
use lib.Seq.{paste}
use Rattle.std.specs.Prelude.{Result, Err}
use Rattle.lingua.specs.declared.errors.Error.{Error}
use Rattle.lingua.specs.Faults.{error_number}
use Rattle.lingua.specs.Outcome.{ok, fail, Result as Outcome, ◌>>=◌, ◌>>◌}
use Rattle.lingua.specs.Value.{Composite}
use Rattle.lingua.specs.Store.{Variable, variable_at, with_content, admitted, assigned}
use Rattle.safety.specs.Stored.{admitted_shows}
use Rattle.checked_row.specs.declared.answer.Evaluated.{Evaluated}
use Rattle.run.specs.Reached.{Lent, lent}
use Rattle.run.specs.Memory.{Admits}
use Rattle.cells.proofs.Operands.{lies_long}
use Rattle.run.proofs.Copying.{copied_lies}
use Rattle.run.proofs.Settling.{stores_as}
use Rattle.checked_row.specs.Meaning.{Current, Answers, Gives}
use Rattle.checked_store.specs.Meaning.{Bounds, Running, Assigns, Storable, StoresValue}
use Rattle.run.proofs.Parts.{cells_room, states_room}
use Rattle.checked_row.proofs.Storing.{memory_of, body_room, present_held}

-- the value, where it lies and by itself, is a current value
pub here_current : {x : Evaluated} {s : List ℤ} {o : Outcome Composite} (a : Answers x s o) → Current s x.body a.value
here_current a = record { lies = a.lies; holds = a.holds }

pub copied_current : {x : Evaluated} {s : List ℤ} {o : Outcome Composite} (a : Answers x s o) (from : List ℤ) {value : List ℤ} → value ≡ paste from 0 (drop 0 s) x.cells → Current value x.body a.value
copied_current {x} {s} a from e = record {
  lies = copied_lies from s 0 x.cells a.value.body a.value.value e a.cells (omega (arith, lies_long a.lies, a.cells)) a.lies.cells a.lies.fit;
  holds = a.holds;
}

pub operand_error : {x : Result Evaluated Error} {s : List ℤ} {o : Outcome Composite} (vs : List Variable) (n : ℕ) (e : Error) → Gives x s o → x ≡ Err e → (o >>= assigned vs n) ≡ fail (error_number e)
operand_error vs n e h f = ap (λ (p : Outcome Composite). p >>= assigned vs n) (h.error e f)

module _ {x : Evaluated} {s : List ℤ} {o : Outcome Composite} (vs : List Variable) (n : ℕ) (a : Answers x s o) {e : ℕ} (admits : Admits e (admitted vs (variable_at vs n) a.value)) where
  assigned_is : (o >>= assigned vs n) ≡ (admitted vs (variable_at vs n) a.value >> ok (set vs n (with_content (variable_at vs n) a.value)))
  unfolding assigned
  assigned_is = ap (λ (p : Outcome Composite). p >>= assigned vs n) a.is

  pub not_admitted : (e ≡ 0 → ⊥) → (o >>= assigned vs n) ≡ fail e
  not_admitted f = assigned_is ∙ ap (λ (p : Outcome (Unit {0})). p >> ok (set vs n (with_content (variable_at vs n) a.value))) (admits.error f)

  pub stores : {rows : List ℕ} {limits : List ℤ} {l after : Lent} → Running rows limits l vs → n < length vs → e ≡ 0
      → {value : List ℤ} → Current value x.body a.value → StoresValue l after n value x.cells x.body
      → Assigns 0 rows limits l after (o >>= assigned vs n)
  stores {rows} {limits} w lt z cur kept =
      let g = admits.answer z in
      stores_as (set vs n (with_content (variable_at vs n) a.value))
      (assigned_is ∙ ap (λ (p : Outcome (Unit {0})). p >> ok (set vs n (with_content (variable_at vs n) a.value))) g)
      (kept.running rows limits vs a.value w lt cur a.cells (admitted_shows vs (variable_at vs n) a.value g).is_coherent)

-- there is room for it
pub storable : {x : Evaluated} {s : List ℤ} {o : Outcome Composite} {rows : List ℕ} {limits : List ℤ} {l : Lent} {vs : List Variable} → Running rows limits l vs → (n : ℕ) → n < length vs
    → (a : Answers x s o) {value : List ℤ} → Current value x.body a.value → Storable l n value x.cells
storable w n lt a cur =
    let h = w.world.stored in
    record {
      cells_room = cells_room (memory_of h) n lt;
      states_room = states_room (memory_of h) n lt;
      bodies_room = body_room h n lt;
      narrow = omega (arith, a.cells, a.holds.few_cells);
      long = omega (arith, a.cells, lies_long cur.lies);
    }

-- what the code keeps of a variable of the store
pub bounds_of : {rows : List ℕ} {limits cells : List ℤ} {states bodies : List ℕ} {vs : List Variable} → Running rows limits (lent cells states bodies) vs → (n : ℕ) → n < length vs → Bounds bodies limits n (variable_at vs n)
bounds_of w n lt = record { own = present_held w.world.stored n lt _ refl; limited = w.limited n lt }
