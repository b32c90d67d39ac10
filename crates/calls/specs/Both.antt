-- What a call that makes both runs promises. Assumes nothing: these are definitions.
use Rattle.std.specs.Prelude.{◌≡◌, List, ℕ}
use Rattle.lingua.specs.Inputs.{Inputs, Buffers}
use Rattle.lingua.specs.Calls.{checked_call, erased_call, checked_result, erased_result}
use Rattle.safety.specs.TwoRuns.{Demand3, CheckedHolds}
use Rattle.calls.specs.declared.both.BothAnswers.{BothAnswers}

-- each run is its call's definition; of what the checked run gave and left, the invariant holds, and of what both did, document 01's third
-- demand; primed is the erased run's own memory
pub record BothRuns (i : Inputs) (budget : ℕ) (b : Buffers) (bodies : List ℕ) (b' : Buffers) (layout : List ℕ)
    (r : BothAnswers) (after : Buffers) (bytes : List ℕ) (after' : Buffers) (table : List ℕ) : Type 0 where
  pub checked : checked_result r.checked after bytes ≡ checked_call i budget b bodies
  pub erased : erased_result r.erased after' table ≡ erased_call i budget b' layout
  pub invariant : CheckedHolds i b bodies (checked_result r.checked after bytes)
  pub demand_3 : Demand3 i budget b bodies (checked_result r.checked after bytes) b' layout (erased_result r.erased after' table)
