-- What the check of declarations and instructions asks and gives. Assumes nothing: these are definitions.
use Rattle.std.specs.Prelude.{◌≡◌, Bool, List, [], ◌++◌, ℕ, zero, suc, ◌+◌, ◌≤◌, ◌<◌, length, replicate, Option as CodeOption, Result as CodeResult, Ok, Err}
use Rattle.lingua.specs.Numbers.{layout_length, declaration_section, expression_section, instruction_section, declaration_place, scope_table}
use Rattle.lingua.specs.Outcome.{Outcome, ok, fail, all_answers, ◌>>=◌}
use Rattle.lingua.specs.declared.errors.ErrorAt.{ErrorAt}
use Rattle.lingua.specs.Body.{Body}
use Rattle.lingua.specs.Typing.{TypeError, Entry, Typed, Finding, Bodies, scope_bodies, check_yoke, check_instruction, joined, placed, layout_of}
use Rattle.lingua.specs.Rows.{table_count, pair_count, procedure_count, groups}
use Rattle.lingua.specs.Trees.{tabulate, yoke_tree, given_values, given_references, instruction_tree, instruction_scope, body_or, body_in, profile_of}
use Rattle.lingua.specs.References.{yoke_in}
use Rattle.safety.specs.Constants.{ClosedYoke}
use Rattle.safety.specs.Every.{Every}
use Rattle.decoder.specs.Tables.{IsTable}
use Rattle.decoder.specs.declared.tables.Table.{Table}
use Rattle.body.specs.Encode.{Held}
use Rattle.profile.specs.Variables.{VariablesKnown}
use Rattle.typing.specs.declared.walk.Scope.{Scope}
use Rattle.typing.specs.Check.{Ready, Sees, Readable, error_meaning, Fails, variable_bodies}

-- ---- whose variables
-- the variables are those of scope a
pub record ScopeIs (a : ℕ) (s : Scope) : Type 0 where
  pub there : a ≤ procedure_count s.rows.now
  pub variables : IsTable s.rows.now (scope_table a) s.variables

-- the declared bodies of procedure k's variables; limits say nothing of bodies
unfoldable pub procedure_bodies : List ℕ → ℕ → Bodies
procedure_bodies rows k = scope_bodies (profile_of rows []) (suc k)

-- ---- what is asked
-- what the check of a yoke asks, where the current value has a body
pub record YokeAsked (s : Scope) (yoke : ℕ) (current layout : List ℕ) : Type 0 where
  pub sees : Sees s
  pub here : yoke ≤ table_count s.rows.now expression_section
  pub closed : ClosedYoke (yoke_tree s.rows.now yoke)
  pub held : Held current
  pub room : length layout ≡ layout_length

-- what the check of an expression outside yokes asks
pub record ExpressionAsked (s : Scope) (e : ℕ) (layout : List ℕ) : Type 0 where
  pub sees : Sees s
  pub here : e < table_count s.rows.now expression_section
  pub reads : Readable s e
  pub room : length layout ≡ layout_length

-- what the check of an assignment of expression e to variable n asks, in an instruction row
pub record Assigned (s : Scope) (row n e : ℕ) (layout : List ℕ) : Type 0 where
  pub value : ExpressionAsked s e layout
  pub few : row < 256
  pub declared : n < pair_count s.rows.now s.variables.section

-- what the comparison of given variables with parameters asks, those from one on
pub record Given (s : Scope) (parameters : Table) (w n first : ℕ) : Type 0 where
  pub known : Sees s
  pub wanted : VariablesKnown s.rows.now parameters s.bodies.now
  pub declared : Every (λ i. i < pair_count s.rows.now s.variables.section) (groups n w)
  pub within : first + n ≤ pair_count s.rows.now parameters.section

-- what the check of a call asks
pub record CallAsked (s : Scope) (k b c : ℕ) : Type 0 where
  pub known : Sees s
  pub procedure : k < procedure_count s.rows.now
  pub declared : Every (λ i. i < pair_count s.rows.now s.variables.section) (given_values s.rows.now k b ++ given_references s.rows.now k c)

-- what the check of an instruction row asks
pub record InstructionAsked (s : Scope) (row : ℕ) (layout : List ℕ) : Type 0 where
  pub ready : Ready s.rows.now s.bodies.now
  pub own : ScopeIs (instruction_scope s.rows.now row) s
  pub here : row < table_count s.rows.now instruction_section
  pub room : length layout ≡ layout_length

-- what the check of a scope's declared yokes asks
pub record DeclarationsAsked (own : Scope) (t : Table) (layout : List ℕ) : Type 0 where
  pub profile : ScopeIs 0 own
  pub known : VariablesKnown own.rows.now t own.bodies.now
  pub room : length layout ≡ layout_length

-- ---- what is given
-- whether a declaration's or an instruction's expression has a body that suits it, or the lowest fault
pub record JudgesBody (suits : Bool) (o : Finding Typed) (asks : Body → Bool) (entry exit : List ℕ) : Type 0 where
  pub typed : Typed
  pub is : o ≡ ok typed
  pub told : suits ≡ asks typed.body
  pub layout : exit ≡ placed typed.entries entry

abbrev pub Judges : CodeResult Bool (CodeOption ErrorAt) → Finding Typed → (Body → Bool) → List ℕ → List ℕ → Type 0
Judges (Ok suits) o asks entry exit = JudgesBody suits o asks entry exit
Judges (Err f) o asks entry exit = Fails f o

-- no type error, and the entries are in the layout table
pub record SettlesPassed (entry exit : List ℕ) (o : Outcome TypeError (List Entry)) : Type 0 where
  pub entries : List Entry
  pub is : o ≡ ok entries
  pub layout : exit ≡ placed entries entry

-- that, or the type error
abbrev pub Settles : CodeResult (Unit {0}) ErrorAt → List ℕ → List ℕ → Outcome TypeError (List Entry) → Type 0
Settles (Ok u) entry exit o = SettlesPassed entry exit o
Settles (Err e) entry exit o = o ≡ fail (error_meaning e)

-- ---- one after the other
-- f at 0 to n - 1: the type error of the first that has one, or all entries
unfoldable pub in_order : ℕ → (ℕ → Outcome TypeError (List Entry)) → Outcome TypeError (List Entry)
in_order n f = do
  ess ← all_answers (tabulate n f)
  ok (joined ess)

-- declaration d of a table, at a place: its yoke on its own declared body
unfoldable pub declaration_check : List ℕ → ℕ → ℕ → ℕ → Outcome TypeError (List Entry)
declaration_check rows s d p =
    check_yoke (yoke_tree rows (yoke_in rows s d)) (variable_bodies rows declaration_section) (body_or (body_in rows s d)) p

-- all declarations of a table, the first at a place
unfoldable pub declarations_check : List ℕ → ℕ → ℕ → Outcome TypeError (List Entry)
declarations_check rows s first = in_order (pair_count rows s) (λ d. declaration_check rows s d (first + d))

-- how many variables the scopes below one have
unfoldable pub before : List ℕ → ℕ → ℕ
before rows zero = 0
before rows (suc a) = before rows a + pair_count rows (scope_table a)

-- those of a scope, where places count on from the scopes below
unfoldable pub scope_check : List ℕ → ℕ → Outcome TypeError (List Entry)
scope_check rows a = declarations_check rows (scope_table a) (declaration_place + before rows a)

-- an instruction row, by the variables of its scope
unfoldable pub instruction_check : List ℕ → ℕ → Outcome TypeError (List Entry)
instruction_check rows r =
    check_instruction (procedure_bodies rows) (variable_bodies rows (scope_table (instruction_scope rows r))) (instruction_tree rows r)

-- declared yokes first, those of all scopes, and then instructions
unfoldable pub whole_check : List ℕ → Outcome TypeError (List Entry)
whole_check rows = do
  ds ← in_order (suc (procedure_count rows)) (scope_check rows)
  rs ← in_order (table_count rows instruction_section) (instruction_check rows)
  ok (ds ++ rs)

-- the whole check: a pass leaves the layout table of the entries, a type error leaves zeros
pub record ConcludesPassed (exit : List ℕ) (o : Outcome TypeError (List Entry)) : Type 0 where
  pub entries : List Entry
  pub is : o ≡ ok entries
  pub layout : exit ≡ layout_of entries

pub record ConcludesFailed (e : ErrorAt) (exit : List ℕ) (o : Outcome TypeError (List Entry)) : Type 0 where
  pub is : o ≡ fail (error_meaning e)
  pub layout : exit ≡ replicate layout_length 0

abbrev pub Concludes : CodeResult (Unit {0}) ErrorAt → List ℕ → Outcome TypeError (List Entry) → Type 0
Concludes (Ok u) exit o = ConcludesPassed exit o
Concludes (Err e) exit o = ConcludesFailed e exit o
