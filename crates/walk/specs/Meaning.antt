-- What the one walk of instructions asks of its memory and gives, in each of the two ways to run. Assumes nothing: these are definitions.
use Rattle.std.specs.Prelude.{List, ℕ, ◌+◌, ◌*◌, ◌≤◌, ◌<◌, length}
use Rattle.lingua.specs.Numbers.{body_cells, cells_length, expression_section, instruction_section}
use Rattle.lingua.specs.Rows.{table_count}
use Rattle.lingua.specs.Store.{Variable, assigned}
use Rattle.lingua.specs.Run.{Calling, exec, called, Profile}
use Rattle.lingua.specs.Trees.{instruction_tree, given_values, given_references}
use Rattle.decoder.specs.declared.decode.InstructionRow.TheVariants as does
use Rattle.run.specs.declared.steps.Status.{Status}
use Rattle.run.specs.Statuses.{state_of}
use Rattle.run.specs.Reached.{Lent, Going, Reached}
use Rattle.frames.specs.Ways.{Way}
use Rattle.frames.specs.Meaning.{Holds, procedures_in, Callable}
use Rattle.opening.specs.Meaning.{Setting, AreaOf, Under, Means, CallAt}

-- what calls do as long as n may still be opened
abbrev pub calling : List ℕ → ℕ → Calling
calling rows n = called assigned exec (procedures_in rows) n

-- ---- instructions
-- a row's instruction with the variables of its scope in memory, and an area for n calls
pub record Stands (row : ℕ) (w : Way) (p : Profile) (a n : ℕ) (s : Setting) (l o : Lent) (vs : List Variable) : Type 0 where
  pub holds : Holds w p a s.context l vs
  pub callable : Callable w p s.context s.types
  pub under : Under s.context.rows a row
  pub area : AreaOf w n o

-- what an instruction asks: some such store
pub record Asked (row : ℕ) (w : Way) (s : Setting) (l o : Lent) (m : Status) (room : ℕ) : Type 0 where
  pub profile : Profile
  pub scope : ℕ
  pub may : ℕ
  pub store : List Variable
  pub stands : Stands row w profile scope may s l o store
  pub enough : body_cells * (table_count s.context.rows expression_section + 1) ≤ room
  pub there : row < table_count s.context.rows instruction_section
  pub going : Going m

abbrev pub BranchAt : List ℕ → ℕ → ℕ → ℕ → ℕ → Type 0
BranchAt rows row e i j = Means rows row (does.Branch e i j)

abbrev pub LoopAt : List ℕ → ℕ → ℕ → ℕ → Type 0
LoopAt rows row e i = Means rows row (does.Loop e i)

abbrev pub HandleAt : List ℕ → ℕ → ℕ → ℕ → Type 0
HandleAt rows row n i = Means rows row (does.Handle n i)

-- what it gives: the run stands where the definition does, at every store that the memory may hold
pub record Executes (row : ℕ) (w : Way) (s : Setting) (l o after free : Lent) (m r : Status) : Type 0 where
  pub reaches : (p : Profile) (a n : ℕ) (vs : List Variable) → Stands row w p a n s l o vs
      → Reached (Holds w p a s.context) o after free r (exec (calling s.context.rows n) (instruction_tree s.context.rows row) (state_of m vs))

-- ---- a call that has its step
-- one more may be opened
pub record Opening (row k b c : ℕ) (w : Way) (s : Setting) (l o : Lent) (m : Status) (room : ℕ) : Type 0 where
  pub asked : Asked row w s l o m room
  pub called : CallAt s.context.rows row k b c
  pub room_left : cells_length ≤ length o.cells

-- what the call does
pub record Opens (row k b c : ℕ) (w : Way) (s : Setting) (l o after free : Lent) (m r : Status) : Type 0 where
  pub reaches : (p : Profile) (a n : ℕ) (vs : List Variable) → Stands row w p a n s l o vs
      → Reached (Holds w p a s.context) o after free r (calling s.context.rows n row k (given_values s.context.rows k b) (given_references s.context.rows k c) (state_of m vs))
