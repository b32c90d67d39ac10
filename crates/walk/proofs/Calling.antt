-- A call by the ways in which its code ends: passed over, out, too deep, a copy in that failed, or as its body and what comes behind it leave the
-- run. Assumes nothing.
use mathlib.Core.Path.{◌≡◌, refl, sym, ap, ◌∙◌}
use mathlib.Core.Bool.{true, false, true≢false}
use Rattle.std.specs.Prelude.{Result as CodeResult, Ok, Err, is_err, is_some}
use mathlib.Core.List.{List}
use Prim.Native.Nat.{ℕ, suc, ◌-◌, ◌*◌, ◌<◌}
use native.Mathlib.Omega.{arith}
use lib.ListN.{length, drop, length-drop}
use Rattle.lingua.specs.Numbers.{cells_length, states_length, variable_bodies_length}
use Rattle.lingua.specs.declared.errors.Error.{Error}
use Rattle.lingua.specs.declared.errors.Error.TheVariants.{TooDeep}
use Rattle.lingua.specs.Faults.{error_number, number_of}
use Rattle.laws.specs.Faults.{error_some}
use Rattle.lingua.specs.Outcome.{ok, fail, Result}
use Rattle.lingua.specs.Rows.{procedure_count, body_row}
use Rattle.lingua.specs.Expression.{call, Instruction}
use Rattle.lingua.specs.Store.{Variable, assigned, copied_in}
use Rattle.lingua.specs.Run.{Progress, going, with_error, Calling, exec, Procedure, procedure_at, no_procedure, returned, opened, called, Profile}
use Rattle.lingua.specs.Trees.{instruction_tree, procedure_of, given_values, given_references}
use Rattle.safety.specs.Every.{tabulate_at}
use Rattle.run.specs.declared.steps.Status.{Status}
use Rattle.run.specs.Statuses.{state_of, StepOf, recorded}
use Rattle.run.specs.Reached.{Lent, Holding, Going, Reached}
use Rattle.run.specs.Acting.{passed_over, act_out, act_on, stays, reaches_as, settles}
use Rattle.frames.specs.Ways.{Way, checked, erased}
use Rattle.frames.specs.Meaning.{Context, procedures_in, CallableBy, Callable}
use Rattle.opening.specs.Meaning.{AreaBodies, AreaOf}
use Rattle.opening.specs.Calls.{unlimited, fresh_of, given_all, rest, bodies_of_call}
use Rattle.walk.specs.Meaning.{calling}

-- ---- the instruction
module _ (calls : Calling) {M : Holding} {o l : Lent} (vs : List Variable) (w : M l vs) {m : Status} (g : Going m) (row k : ℕ) (ns rs : List ℕ) where
  pub call_passed : is_some m.error ≡ true → Reached M o l o m (exec calls (call row k ns rs) (state_of m vs))
  unfolding exec
  call_passed h = stays vs w (passed_over m vs (λ t. calls row k ns rs t) g h)

  module _ {r : Status} (h : StepOf m r) (z : is_some m.error ≡ false) where
    pub call_out : r.out ≡ true → Reached M o l o r (exec calls (call row k ns rs) (state_of m vs))
    unfolding exec
    call_out q = stays vs w (act_out h z vs (λ t. calls row k ns rs t) q)

pub call_on : (calls : Calling) (vs : List Variable) (row k : ℕ) (ns rs : List ℕ) {m r : Status} → StepOf m r → is_some m.error ≡ false → r.out ≡ false
    → exec calls (call row k ns rs) (state_of m vs) ≡ calls row k ns rs (state_of r vs)
unfolding exec
call_on calls vs row k ns rs h z q = act_on h z vs (λ t. calls row k ns rs t) q

-- an error that a call records itself
module _ {M : Holding} {o l : Lent} (vs : List Variable) (w : M l vs) (r s : Status) (error : Error) (row : ℕ) (k : s ≡ recorded r (Err error) row) (q : r.out ≡ false) where
  failed : Reached M o l o s (going (with_error (state_of r vs) (error_number error) row))
  failed = settles vs w r s {o = fail (error_number error)} (Err error) row (record { answer = λ z. absurd (error_some error z); error = λ g. record { is = refl; same = refl } }) k q

-- where no call may be opened any more
pub call_deep : (rows : List ℕ) {M : Holding} {o l : Lent} (vs : List Variable) → M l vs → (r s : Status) (row k : ℕ) (ns rs : List ℕ) → s ≡ recorded r (Err TooDeep) row → r.out ≡ false
    → Reached M o l o s (calling rows 0 row k ns rs (state_of r vs))
unfolding called
call_deep rows vs w r s row k ns rs e q = failed vs w r s TooDeep row e q

-- ---- a call that is opened
body_is : (rows : List ℕ) (k : ℕ) → k < procedure_count rows → (procedure_at (procedures_in rows) k).body ≡ instruction_tree rows (body_row rows k)
unfolding procedure_of
body_is rows k l = ap (λ (q : Procedure). q.body) (tabulate_at (procedure_count rows) (λ j. procedure_of rows j) k no_procedure l)

module _ (rows : List ℕ) (n row k b c : ℕ) (m : Status) (vs : List Variable) where
  copies : Result (List Variable)
  copies = copied_in assigned vs (given_all rows k b c) 0 (fresh_of rows k)

  then_runs : List Variable → Progress
  then_runs ws = returned assigned row (length (given_values rows k b)) (given_references rows k c) (state_of m vs) (exec (calling rows n) (procedure_at (procedures_in rows) k).body (state_of m ws))

  call_is : calling rows (suc n) row k (given_values rows k b) (given_references rows k c) (state_of m vs) ≡ opened copies row (state_of m vs) then_runs
  unfolding called copies then_runs
  call_is = refl

  pub call_opened : (ws : List Variable) → copied_in assigned vs (given_all rows k b c) 0 (fresh_of rows k) ≡ ok ws → k < procedure_count rows
      → calling rows (suc n) row k (given_values rows k b) (given_references rows k c) (state_of m vs)
      ≡ returned assigned row (length (given_values rows k b)) (given_references rows k c) (state_of m vs) (exec (calling rows n) (instruction_tree rows (body_row rows k)) (state_of m ws))
  unfolding copies then_runs
  call_opened ws e l =
      call_is
      ∙ ap (λ (x : Result (List Variable)). opened x row (state_of m vs) then_runs) e
      ∙ ap (λ (i : Instruction). returned assigned row (length (given_values rows k b)) (given_references rows k c) (state_of m vs) (exec (calling rows n) i (state_of m ws))) (body_is rows k l)

  pub call_failed : {M : Holding} {o l : Lent} → M l vs → (s : Status) (answer : CodeResult (Unit {0}) Error) → is_err answer ≡ true
      → copied_in assigned vs (given_all rows k b c) 0 (fresh_of rows k) ≡ fail (number_of answer) → s ≡ recorded m answer row → m.out ≡ false
      → Reached M o l o s (calling rows (suc n) row k (given_values rows k b) (given_references rows k c) (state_of m vs))
  unfolding copies
  call_failed w s (Ok u) f e q z = absurd (true≢false (sym f))
  call_failed w s (Err x) f e q z =
      reaches_as (call_is ∙ ap (λ (y : Result (List Variable)). opened y row (state_of m vs) then_runs) e) (failed vs w m s x row q z)

-- ---- what the body asks
callable_way : (w : Way) (p : Profile) (c : Context) (types : List ℕ) → CallableBy w p c types → CallableBy w p (unlimited c) types
unfolding CallableBy
callable_way checked p c types x = x
callable_way erased p c types x = x

pub callable_unlimited : {w : Way} {p : Profile} {c : Context} {types : List ℕ} → Callable w p c types → Callable w p (unlimited c) types
callable_unlimited {w} {p} {c} {types} h = record { by = callable_way w p c types h.by }

rest_bodies : (w : Way) (n : ℕ) (bodies : List ℕ) → AreaBodies w (suc n) bodies → AreaBodies w n (drop (bodies_of_call w) bodies)
unfolding AreaBodies
rest_bodies checked n bodies e = length-drop variable_bodies_length bodies ∙ (let z : length bodies - variable_bodies_length ≡ variable_bodies_length * n = omega (arith, e) in z)
rest_bodies erased n bodies e = e

pub rest_area : {w : Way} {n : ℕ} {o : Lent} → AreaOf w (suc n) o → AreaOf w n (rest (bodies_of_call w) o)
unfolding rest
rest_area {w} {n} {o} h =
    record { cells = length-drop cells_length o.cells ∙ (let e : length o.cells - cells_length ≡ cells_length * n = omega (arith, h.cells) in e); states = length-drop states_length o.states ∙ (let e : length o.states - states_length ≡ states_length * n = omega (arith, h.states) in e); bodies = rest_bodies w n o.bodies h.bodies }
