-- A whole run: from begun memory through the readings and the program to its answer. Assumes nothing.
use mathlib.Core.Path.{◌≡◌, refl, sym, ap, ap₂, ◌∙◌, subst}
use mathlib.Core.Bool.{Bool, true, false}
use mathlib.Core.List.{List, []}
use Prim.Native.Nat.{ℕ, pred, ◌-◌, ◌≤◌}
use native.Mathlib.Omega.{arith}
use Rattle.std.specs.Prelude.{None, Ok}
use Rattle.lingua.specs.Numbers.{instruction_section}
use Rattle.lingua.specs.Rows.{table_count}
use Rattle.lingua.specs.Store.{Variable, Reading, cells_in, states_in}
use Rattle.lingua.specs.Run.{State, Progress, last_state, open_calls, exec, begun, started, take_readings, run}
use Rattle.lingua.specs.Trees.{instruction_tree, profile_of}
use Rattle.lingua.specs.Inputs.{buffers}
use Rattle.lingua.specs.Answers.{answered, run_meaning}
use Rattle.lingua.specs.declared.RunEnd.{RunEnd}
use Rattle.lingua.specs.Calls.{ending_of, registers_of, ran, run_result}
use Rattle.laws.specs.Every.{Every}
use Rattle.laws.specs.Frames.{Bounded}
use Rattle.safety.specs.Accepted.{AcceptedRows}
use Rattle.safety.specs.Invariant.{declared_store}
use Rattle.safety.specs.Memory.{open_bounded}
use Rattle.safety.specs.Steps.{run_left, run_shallow}
use Rattle.rules.specs.Accepted.{counts}
use Rattle.decoder.specs.declared.tables.Table.{Table}
use Rattle.decoder.specs.Tables.{IsTable}
use Rattle.run.specs.Statuses.{state_of, progress_of}
use Rattle.run.specs.declared.steps.Status.{Status}
use Rattle.run.specs.Reached.{Lent, Going, Reached}
use Rattle.frames.specs.Ways.{Way, checked, erased}
use Rattle.frames.specs.Meaning.{Context, HoldsBy, Holds, Standing}
use Rattle.opening.specs.Meaning.{Setting, Under}
use Rattle.walk.specs.Meaning.{calling, Stands, Asked, Executes}
use Rattle.whole_run.specs.Meaning.{TakesAll, Ready, Begins, Runs}
use Rattle.opening.proofs.Rows.{holds_accepted, root_under}
use Rattle.whole_run.proofs.Area.{OnZeros, clear_area, on_zeros}

-- ---- the memory holds the store's cells and state words
module _ {p : _} {c : Context} {l : Lent} {vs : List Variable} where
  holds_cells : (w : Way) → Holds w p 0 c l vs → l.cells ≡ cells_in vs
  unfolding HoldsBy
  holds_cells checked h = h.by.running.world.stored.cells_are
  holds_cells erased h = h.by.running.world.cells_are

  holds_states : (w : Way) → Holds w p 0 c l vs → l.states ≡ states_in vs
  unfolding HoldsBy
  holds_states checked h = h.by.running.world.stored.states_are
  holds_states erased h = h.by.running.world.states_are

-- ---- a run's start
pub fresh_going : (m : Status) (budget : ℕ) → m ≡ record { error = None; left = budget; out = false } → Going m
fresh_going m budget e = subst (λ (x : Status). Going x) (sym e) (record { not_out = refl })

module _ {w : Way} {s : Setting} {l o : Lent} {limits : List ℕ} (b : Ready w s l o limits) where
  ready_accepted : AcceptedRows s.context.rows
  ready_accepted = holds_accepted w b.holds

  -- where the code counts the instructions
  ready_row : {u : Table} → IsTable s.context.rows instruction_section u → 1 ≤ u.count
  ready_row h = omega (arith, h.count, (counts s.context.rows ready_accepted.counts).instructions.least)

  last_row : {u : Table} → IsTable s.context.rows instruction_section u → pred (table_count s.context.rows instruction_section) ≡ u.count - 1
  last_row h = omega (arith, h.count)

  -- the program's row, with the variables of the profile in memory
  ready_stands : {u : Table} {at : Lent} {vs : List Variable} → IsTable s.context.rows instruction_section u → Holds w (profile_of s.context.rows limits) 0 s.context at vs
      → Stands (u.count - 1) w (profile_of s.context.rows limits) 0 16 s at o vs
  ready_stands h k = record {
    holds = k;
    callable = b.callable;
    under = subst (λ (n : ℕ). Under s.context.rows 0 n) (last_row h) (root_under s.context.rows ready_accepted 0 b.holds.here);
    area = clear_area b.clear;
  }

module _ {w : Way} {s : Setting} {l o : Lent} (b : Begins w s l o) where
  -- rule 7 bounds the tables
  pub begins_standing : Standing w s.context l 32832 (λ a. a ≡ 0)
  begins_standing =
      let h = b.ready.holds in
      record {
        profile = _;
        scope = 0;
        store = _;
        holds = h;
        of_scope = refl;
        enough = omega (arith, (counts s.context.rows (holds_accepted w h).counts).expressions.most);
      }

  pub some_row : {u : Table} → IsTable s.context.rows instruction_section u → 1 ≤ u.count
  some_row h = ready_row b.ready h

  pub program_asked : {u : Table} {at : Lent} {first taken : Status} {rs : List Reading} {space : ℕ} → IsTable s.context.rows instruction_section u → TakesAll w s.context l at first taken rs → 32832 ≡ space
      → Asked (u.count - 1) w s at o taken space
  program_asked h k e =
      let q = k.reaches _ _ b.ready.holds in
      record {
        profile = _;
        scope = 0;
        may = 16;
        store = q.store;
        stands = ready_stands b.ready h q.running;
        enough = omega (arith, begins_standing.enough, e);
        there = omega (arith, some_row h, h.count);
        going = k.goes;
      }

-- ---- its end
last_state_lem : (b : Bool) (s : State) (os : List (List Variable)) → last_state (progress_of b s os) ≡ s
last_state_lem true s os = refl
last_state_lem false s os = refl

-- only a run that is out has open calls
last_open_lem : (b : Bool) (s : State) (os : List (List Variable)) → (b ≡ false → os ≡ []) → open_calls (progress_of b s os) ≡ os
last_open_lem true s os h = refl
last_open_lem false s os h = sym (h refl)

result_is : {w : Way} (a : RunEnd) (budget : ℕ) (after free : Lent) (q : Progress) → run_meaning (Ok a) ≡ answered (ending_of budget q) → after.cells ≡ cells_in (last_state q).store → after.states ≡ states_in (last_state q).store → OnZeros w free (open_calls q)
    → run_result (Ok a) (buffers after.cells after.states free.cells free.states) ≡ ran budget q
unfolding run_result ran registers_of
result_is a budget after free q m c d z = rw (m, c, d, z.cells_are, z.states_are)

module _ {w : Way} {s : Setting} {l o at after free : Lent} {u : Table} {first taken last : Status} {rs : List Reading} (rows_of_lem : IsTable s.context.rows instruction_section u) (budget : ℕ)
    (fresh : first ≡ record { error = None; left = budget; out = false }) (took : TakesAll w s.context l at first taken rs) (did : Executes (u.count - 1) w s at o after free taken last) where
  run_reaches : (limits : List ℕ) → Ready w s l o limits → Reached (Holds w (profile_of s.context.rows limits) 0 s.context) o after free last (run (profile_of s.context.rows limits) rs budget)
  unfolding run profile_of started begun
  run_reaches limits h =
      let p = profile_of s.context.rows limits in
      let q = took.reaches p (declared_store p) h.holds in
      let k = did.reaches p 0 16 q.store (ready_stands h rows_of_lem q.running) in
      let inputs : take_readings 0 rs (started p budget) ≡ state_of taken q.store = ap (λ (m : Status). take_readings 0 rs (state_of m (declared_store p))) (sym fresh) ∙ q.is in
      record {
        store = k.store;
        opens = k.opens;
        is = ap₂ (λ (n : ℕ) (t : State). exec (calling s.context.rows 16) (instruction_tree s.context.rows n) t) (last_row h rows_of_lem) inputs ∙ k.is;
        running = k.running;
        area = k.area;
        closed = k.closed;
      }

  pub left_within : Begins w s l o → last.left ≤ budget
  left_within b =
      let k = run_reaches b.limits b.ready in
      let e : (last_state (run (profile_of s.context.rows b.limits) rs budget)).left ≡ last.left =
      ap (λ (p : Progress). (last_state p).left) k.is ∙ ap (λ (t : State). t.left) (last_state_lem last.out (state_of last k.store) k.opens) in
      omega (arith, run_left (profile_of s.context.rows b.limits) rs budget)

  -- what the definition's end has
  module _ (limits : List ℕ) (h : Ready w s l o limits) where
    abbrev ended : Progress
    ended = run (profile_of s.context.rows limits) rs budget

    ended_store : (last_state ended).store ≡ (run_reaches limits h).store
    ended_store =
        let k = run_reaches limits h in
        ap (λ (q : Progress). (last_state q).store) k.is ∙ ap (λ (t : State). t.store) (last_state_lem last.out (state_of last k.store) k.opens)

    ended_open : open_calls ended ≡ (run_reaches limits h).opens
    ended_open =
        let k = run_reaches limits h in
        ap open_calls k.is ∙ last_open_lem last.out (state_of last k.store) k.opens k.closed

    -- the open calls' variables, on an area of zeros
    in_area : OnZeros w free (open_calls ended)
    in_area =
        let bounded : Every Bounded (open_calls ended) = open_bounded s.context.rows (ready_accepted h) limits rs budget in
        let area = (run_reaches limits h).area in
        on_zeros h.clear bounded (run_shallow (profile_of s.context.rows limits) rs budget)
        (subst (λ (os : List (List Variable)). free ≡ Rattle.run.specs.Reached.overlaid os o) (sym ended_open) area)

  pub run_answered : (a : RunEnd) → ((vs : List Variable) (os : List (List Variable)) → run_meaning (Ok a) ≡ answered (ending_of budget (progress_of last.out (state_of last vs) os))) → Runs w s l o after free rs budget a
  run_answered a h = record {
    is = λ limits g. let k = run_reaches limits g in
        result_is a budget after free (run (profile_of s.context.rows limits) rs budget) (h k.store k.opens ∙ ap (λ (q : Progress). answered (ending_of budget q)) (sym k.is))
        (holds_cells w k.running ∙ ap cells_in (sym (ended_store limits g))) (holds_states w k.running ∙ ap states_in (sym (ended_store limits g))) (in_area limits g);
    left = λ limits g. let k = run_reaches limits g in subst (λ (vs : List Variable). Holds w (profile_of s.context.rows limits) 0 s.context after vs) (sym (ended_store limits g)) k.running;
    open_bodies = λ limits g e. (in_area limits g).bodies_are e;
  }
