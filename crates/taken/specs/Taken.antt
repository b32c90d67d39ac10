-- A pair of files that was taken, and what is known of a run of it once its rules are asked. Assumes nothing: these are definitions.
use Rattle.std.specs.Prelude.{◌≡◌, List, ℕ, ◌≤◌, length, take, Result, Ok}
use Rattle.lingua.specs.Numbers.{cells_length, states_length, open_cells_length, open_states_length}
use Rattle.lingua.specs.declared.errors.Refusal.{Refusal}
use Rattle.lingua.specs.Faults.{refusal_of}
use Rattle.lingua.specs.Format.{rows_of}
use Rattle.lingua.specs.Inputs.{Inputs, Buffers}
use Rattle.lingua.specs.Refusal.{lowest, pair_rules, run_refusal}
use Rattle.decoder.specs.Tables.{AreTables}
use Rattle.pair.specs.Pair.{PairIs}
use Rattle.pair.specs.declared.Pair.{Pair}
use Rattle.whole_run.specs.Meaning.{Readable}
use Rattle.taken.specs.Given.{RowsKnown}
use Rattle.taken.specs.declared.given.Admitted.{Admitted}
use Rattle.taken.specs.declared.given.Runnable.{Runnable}

-- what some two files gave
pub record PairOf (r : Result Pair Refusal) (areas others bodies : List ℕ) : Type 0 where
  pub prof : List ℕ
  pub lims : List ℕ
  pub is : PairIs r prof lims areas others bodies

-- where no rule applies: buffers of the listed lengths, both files' rows with what is known of them, and readings for number variables
pub record RunTaken (t : Runnable) (i : Inputs) (b : Buffers) : Type 0 where
  pub long_cells : length b.cells ≡ cells_length
  pub long_states : length b.states ≡ states_length
  pub long_open_cells : length b.open_cells ≡ open_cells_length
  pub long_open_states : length b.open_states ≡ open_states_length
  pub accepted : lowest (pair_rules i.profile i.limits) ≡ 0
  pub rows : t.rows ≡ rows_of i.profile
  pub limits : t.limits ≡ rows_of i.limits
  pub is_known : RowsKnown (rows_of i.profile) (rows_of i.limits) t.owners t.bodies.now
  pub readable : Readable (rows_of i.profile) i.variables i.numbers

-- the same before the limits' rows are at hand, which lie at the front of the second area
pub record RunAdmitted (a : Admitted) (i : Inputs) (b : Buffers) (others : List ℕ) : Type 0 where
  pub long_cells : length b.cells ≡ cells_length
  pub long_states : length b.states ≡ states_length
  pub long_open_cells : length b.open_cells ≡ open_cells_length
  pub long_open_states : length b.open_states ≡ open_states_length
  pub accepted : lowest (pair_rules i.profile i.limits) ≡ 0
  pub rows : a.rows ≡ rows_of i.profile
  pub limits : take a.limits.length others ≡ rows_of i.limits
  pub within_others : a.limits.length ≤ length others
  pub limit_tables : AreTables (rows_of i.limits) a.limits.tables
  pub is_known : RowsKnown (rows_of i.profile) (rows_of i.limits) a.owners a.bodies.now
  pub readable : Readable (rows_of i.profile) i.variables i.numbers

-- the lowest rule of 1 to 16 that applies, or what the run is given where none does
pub record RunIs (r : Result Admitted Refusal) (i : Inputs) (b : Buffers) (others : List ℕ) : Type 0 where
  pub refusal : refusal_of r ≡ run_refusal i b
  pub admitted : (a : Admitted) → r ≡ Ok a → RunAdmitted a i b others
