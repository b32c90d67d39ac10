-- The run of accepted rows in each way. Assumes nothing: these are definitions.
use Rattle.std.specs.Prelude.{◌≡◌, List, [], ℕ, ◌<◌, ℤ, length, replicate, true}
use Rattle.std.proofs.Math.Option.{some}
use Rattle.lingua.specs.Numbers.{cells_length, states_length, open_cells_length, open_states_length, layout_length, variable_bodies_length, open_bodies_length, declaration_section, type_section}
use Rattle.lingua.specs.Errors.{type_error_found}
use Rattle.lingua.specs.Outcome.{Outcome, ok, fail}
use Rattle.lingua.specs.Body.{is_quantity}
use Rattle.lingua.specs.Rows.{pair_count, table_count}
use Rattle.lingua.specs.Store.{Limit, present_in}
use Rattle.lingua.specs.Run.{Progress, run, last_state, open_calls}
use Rattle.lingua.specs.Typing.{TypeError, Entry, bodies_of, check_profile, layout_of}
use Rattle.lingua.specs.Trees.{declaration_at, profile_of}
use Rattle.lingua.specs.Answers.{refused}
use Rattle.lingua.specs.Inputs.{Buffers}
use Rattle.lingua.specs.Calls.{CheckedCall, ErasedCall, readings_of, ran, with_bodies, with_layout}
use Rattle.safety.specs.Accepted.{AcceptedRows}
use Rattle.rules.specs.Types.{BodiesBelow}
use Rattle.frames.specs.Ways.{Way, checked, erased}
use Rattle.whole_run.specs.Meaning.{Readable}

-- what a run of accepted rows asks: lent memory of the listed lengths, and readings for number variables
pub record Startable (rows who : List ℕ) (numbers : List ℤ) (b : Buffers) : Type 0 where
  pub accepted : AcceptedRows rows
  pub readable : Readable rows who numbers
  pub long_cells : length b.cells ≡ cells_length
  pub long_states : length b.states ≡ states_length
  pub long_open_cells : length b.open_cells ≡ open_cells_length
  pub long_open_states : length b.open_states ≡ open_states_length

-- the checked run, with the present bodies where it ended
unfoldable pub checked_end : ℕ → Progress → CheckedCall
checked_end budget p = with_bodies (ran budget p) (present_in (last_state p).store (open_calls p))

-- only number and hundredths variables have a limit (rules 8 and 15)
pub record QuantitiesLimited (rows limits : List ℕ) : Type 0 where
  pub limited : (n : ℕ) → n < pair_count rows declaration_section → (l : Limit) → (declaration_at rows limits n).limit ≡ some l → is_quantity (bodies_of (profile_of rows limits).declarations n) ≡ true

-- rows that the type check passed, with its layout table
pub record PassedRows (rows limits layout : List ℕ) : Type 0 where
  pub entries : List Entry
  pub passed : check_profile (profile_of rows limits) ≡ ok entries
  pub layout_is : layout ≡ layout_of entries
  pub long : length layout ≡ layout_length

-- what a run of its way is lent besides: the checked one the bodies of the type rows and room for the present bodies, the profile's and those of
-- the open calls, and the erased one the layout table of rows that the type check passed, and no body
pub record LendsChecked (rows layout types own area : List ℕ) : Type 0 where
  pub no_layout : layout ≡ []
  pub held : BodiesBelow rows types (table_count rows type_section)
  pub own_zeros : own ≡ replicate variable_bodies_length 0
  pub long_area : length area ≡ open_bodies_length

pub record LendsErased (rows limits layout types own area : List ℕ) : Type 0 where
  pub passed : PassedRows rows limits layout
  pub limited : QuantitiesLimited rows limits
  pub no_types : types ≡ []
  pub no_own : own ≡ []
  pub no_area : area ≡ []

unfoldable pub LendsBy : Way → List ℕ → List ℕ → List ℕ → List ℕ → List ℕ → List ℕ → Type 0
LendsBy checked rows limits layout types own area = LendsChecked rows layout types own area
LendsBy erased rows limits layout types own area = LendsErased rows limits layout types own area

pub record Lends (w : Way) (rows limits layout types own area : List ℕ) : Type 0 where
  pub by : LendsBy w rows limits layout types own area

-- the erased run where the type check passes, and rule 17 where it does not
unfoldable pub erased_verdict : Outcome TypeError (List Entry) → ℕ → Progress → Buffers → List ℕ → ErasedCall
erased_verdict (ok es) budget p b layout = with_layout (ran budget p) (layout_of es)
erased_verdict (fail e) budget p b layout =
    record { answer = refused type_error_found; registers = b; layout = layout }

unfoldable pub erased_rows : List ℕ → List ℕ → List ℕ → List ℤ → ℕ → Buffers → List ℕ → ErasedCall
erased_rows rows limits who numbers budget b layout =
    erased_verdict (check_profile (profile_of rows limits)) budget (run (profile_of rows limits) (readings_of who numbers) budget) b layout
