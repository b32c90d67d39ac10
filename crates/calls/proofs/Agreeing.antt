-- Both runs of one taken pair: from the two runs' promises, everything that the call of both promises. Assumes nothing.
use mathlib.Core.Path.{◌≡◌}
use mathlib.Core.List.{List}
use Prim.Native.Nat.{ℕ}
use Rattle.lingua.specs.Inputs.{Inputs, Buffers}
use Rattle.lingua.specs.Calls.{checked_call, erased_call, checked_result, erased_result}
use Rattle.safety.specs.TwoRuns.{demand_3, checked_holds}
use Rattle.calls.specs.Both.{BothRuns}
use Rattle.calls.specs.declared.both.BothAnswers.{BothAnswers}

pub both_run : {i : Inputs} {budget : ℕ} {b : Buffers} {bodies : List ℕ} {b' : Buffers} {layout : List ℕ} (r : BothAnswers) {after : Buffers} {bytes : List ℕ} {after' : Buffers} {table : List ℕ}
    → checked_result r.checked after bytes ≡ checked_call i budget b bodies
    → erased_result r.erased after' table ≡ erased_call i budget b' layout
    → BothRuns i budget b bodies b' layout r after bytes after' table
both_run {i} {budget} {b} {bodies} {b'} {layout} r {after} {bytes} {after'} {table} e e' =
    record {
      checked = e;
      erased = e';
      invariant = checked_holds i budget b bodies (checked_result r.checked after bytes) e;
      demand_3 = demand_3 i budget b bodies b' layout (checked_result r.checked after bytes) (erased_result r.erased after' table) e e';
    }
