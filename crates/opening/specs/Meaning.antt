-- What a call and the instructions without parts ask of their memory and give, in each of the two ways to run. Assumes nothing: these are
-- definitions.
use Rattle.std.specs.Prelude.{◌≡◌, ℕ, ◌+◌, ◌*◌, ◌≤◌, ◌<◌, ℤ, length}
use mathlib.Core.List.{List, [], Memᴰ}
use Rattle.lingua.specs.Numbers.{body_cells, cells_length, states_length, variable_bodies_length, expression_section, instruction_section}
use Rattle.lingua.specs.Rows.{table_count, instruction_row}
use Rattle.lingua.specs.Store.{Variable}
use Rattle.lingua.specs.Run.{Calling, exec, Profile}
use Rattle.lingua.specs.Trees.{instruction_tree}
use Rattle.laws.specs.Reached.{steps_of}
use Rattle.safety.specs.ProfileScopes.{scope_row}
use Rattle.decoder.specs.declared.decode.InstructionRow.{InstructionRow}
use Rattle.decoder.specs.declared.decode.InstructionRow.TheVariants as does
use Rattle.decoder.specs.Decoded.{instruction_meaning}
use Rattle.run.specs.declared.steps.Status.{Status}
use Rattle.run.specs.Statuses.{state_of}
use Rattle.run.specs.Reached.{Lent, Going, Reached}
use Rattle.frames.specs.Ways.{Way, checked, erased}
use Rattle.frames.specs.Meaning.{Context, context, Holds}
use Rattle.frames.specs.Lending.{context_of}
use Rattle.opening.specs.declared.setting.Setting.{Setting as SettingRead}

-- ---- what is given
-- what a run reads and does not change: beside the context the bodies of the type rows
pub record Setting : Type 0 where
  pub context : Context
  pub types : List ℕ

abbrev pub setting : List ℕ → List ℕ → List ℤ → List ℕ → Setting
setting rows layout limits types = record { context = context rows layout limits; types = types }

-- what the code's struct holds
abbrev pub setting_of : SettingRead → Setting
setting_of s = record { context = context_of s.context; types = s.types.now }

-- ---- the area for the calls that may still be opened
unfoldable pub AreaBodies : Way → ℕ → List ℕ → Type 0
AreaBodies checked n bodies = length bodies ≡ variable_bodies_length * n
AreaBodies erased n bodies = bodies ≡ []

-- room for n of them
pub record AreaOf (w : Way) (n : ℕ) (o : Lent) : Type 0 where
  pub cells : length o.cells ≡ cells_length * n
  pub states : length o.states ≡ states_length * n
  pub bodies : AreaBodies w n o.bodies

-- ---- instructions
-- an instruction row of scope a
abbrev pub Under : List ℕ → ℕ → ℕ → Type 0
Under rows a row = Memᴰ row (steps_of rows (scope_row rows a))

-- what the code read of its row
pub record Means (rows : List ℕ) (row : ℕ) (d : InstructionRow) : Type 0 where
  pub is : instruction_meaning d ≡ instruction_row rows row

abbrev pub AssignAt : List ℕ → ℕ → ℕ → ℕ → Type 0
AssignAt rows row n e = Means rows row (does.Assign n e)

abbrev pub SetYokeAt : List ℕ → ℕ → ℕ → ℕ → Type 0
SetYokeAt rows row n y = Means rows row (does.SetYoke n y)

abbrev pub CallAt : List ℕ → ℕ → ℕ → ℕ → ℕ → Type 0
CallAt rows row k b c = Means rows row (does.Call k b c)

-- ---- instructions that no other is part of, whatever the area is and whatever calls do
pub record AskedLeaf (row : ℕ) (w : Way) (c : Context) (l : Lent) (m : Status) (room : ℕ) : Type 0 where
  pub profile : Profile
  pub scope : ℕ
  pub store : List Variable
  pub holds : Holds w profile scope c l store
  pub under : Under c.rows scope row
  pub enough : body_cells * (table_count c.rows expression_section + 1) ≤ room
  pub there : row < table_count c.rows instruction_section
  pub going : Going m

pub record ExecutesLeaf (row : ℕ) (w : Way) (c : Context) (l after : Lent) (m r : Status) : Type 0 where
  pub reaches : (p : Profile) (a : ℕ) (vs : List Variable) → Holds w p a c l vs → Under c.rows a row → (calls : Calling) (o : Lent)
      → Reached (Holds w p a c) o after o r (exec calls (instruction_tree c.rows row) (state_of m vs))
