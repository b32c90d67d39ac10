-- What accepted rows show where an instruction is read, in either way to run: what the row names is there, in the row's own scope, and its tree
-- is that of its parts. Assumes nothing.
use mathlib.Core.Path.{◌≡◌, sym, ap, ◌∙◌, subst}
use mathlib.Core.Bool.{not}
use mathlib.Core.List.{List, Memᴰ}
use Prim.Native.Nat.{ℕ, zero, suc, ◌≤◌, ◌<◌}
use native.Mathlib.Omega.{arith}
use borrow.Author.Tests.{not-false}
use Rattle.lingua.specs.Numbers.{expression_section, instruction_section, scope_table}
use Rattle.lingua.specs.Rows.{table_count, pair_count, procedure_count, instruction_row, parts}
use Rattle.lingua.specs.Store.{Variable}
use Rattle.lingua.specs.Expression.{Instruction}
use Rattle.lingua.specs.Run.{Profile, exec}
use Rattle.lingua.specs.Trees.{instruction_tree, instruction_scope}
use Rattle.lingua.specs.References.{rows_refer, variables_wrong, reference_wrong}
use Rattle.laws.specs.Outcomes.{or_left}
use Rattle.laws.specs.Refers.{Refers, refers}
use Rattle.laws.specs.Reached.{step_part, step_root}
use Rattle.safety.specs.Accepted.{AcceptedRows, program_row, body_row_lem}
use Rattle.safety.specs.ProfileScopes.{scope_row}
use Rattle.safety.specs.Scoped.{body_scope, program_scope}
use Rattle.profile.specs.Row.{KnownInstruction}
use Rattle.rules.specs.Accepted.{counts}
use Rattle.profile.specs.Known.{instruction_row_known}
use Rattle.profile.specs.Yokes.{every_yoke}
use Rattle.decoder.specs.declared.decode.InstructionRow.{InstructionRow}
use Rattle.decoder.specs.declared.decode.InstructionRow.TheVariants as does
use Rattle.decoder.specs.Decoded.{instruction_meaning}
use Rattle.profile.specs.Facts.{InstructionFacts, instruction_facts, instruction_row_tree, instruction_row_tree_lem}
use Rattle.run.specs.declared.steps.Status.{Status}
use Rattle.run.specs.Statuses.{state_of}
use Rattle.run.specs.Reached.{Lent, Reached}
use Rattle.run.specs.Acting.{reaches_as}
use Rattle.erased_store.specs.Meaning.{AssignRow, YokeRow}
use Rattle.frames.specs.Ways.{Way, checked, erased}
use Rattle.frames.specs.Meaning.{Context, HoldsBy, Holds}
use Rattle.opening.specs.Meaning.{Under, AskedLeaf, Means, ExecutesLeaf}

-- ---- what both ways have
module _ {p : Profile} {a : ℕ} {c : Context} {l : Lent} {vs : List Variable} where
  pub holds_accepted : (w : Way) → Holds w p a c l vs → AcceptedRows c.rows
  unfolding HoldsBy
  holds_accepted checked h = h.by.running.world.accepted
  holds_accepted erased h = h.by.running.world.accepted

-- what the code read of a row, once its kind is told
pub meant_as : {rows : List ℕ} {row : ℕ} {c d : InstructionRow} → c ≡ d → instruction_meaning c ≡ instruction_row rows row → Means rows row d
meant_as e h = record { is = sym (ap (λ (k : InstructionRow). instruction_meaning k) e) ∙ h }

-- ---- scopes
module _ (rows : List ℕ) (accepted : AcceptedRows rows) where
  known : Refers rows
  unfolding reference_wrong
  known = refers rows (not-false (rows_refer rows) (or_left (not (rows_refer rows)) (variables_wrong rows) accepted.references))

  pub scope_row_lem : (a : ℕ) → a ≤ procedure_count rows → scope_row rows a < table_count rows instruction_section
  scope_row_lem zero l = program_row rows accepted
  scope_row_lem (suc k) l = body_row_lem rows accepted k l

  -- a row of a scope names the scope's variables
  pub scope_is : (a row : ℕ) → a ≤ procedure_count rows → Under rows a row → instruction_scope rows row ≡ a
  scope_is zero row l h = program_scope rows accepted.uses accepted.references row h
  scope_is (suc k) row l h = body_scope rows accepted.uses accepted.references k row l h

  -- its parts are of the same scope, and what a scope runs is too
  pub part_under : (a row i : ℕ) → a ≤ procedure_count rows → Under rows a row → Memᴰ i (parts (instruction_row rows row)) → Under rows a i
  part_under a row i l h m = step_part rows known (scope_row rows a) row i (scope_row_lem a l) h m

  pub root_under : (a : ℕ) → a ≤ procedure_count rows → Under rows a (scope_row rows a)
  root_under a l = step_root rows known (scope_row rows a) (scope_row_lem a l)

-- ---- a row's instruction
module _ {row : ℕ} {w : Way} {c : Context} {l : Lent} {p : Profile} {a : ℕ} {vs : List Variable} (h : Holds w p a c l vs) (inside : row < table_count c.rows instruction_section) where
  accepted : AcceptedRows c.rows
  accepted = holds_accepted w h

  -- its kind is known
  pub row_known : KnownInstruction c.rows row
  row_known = instruction_row_known c.rows accepted row inside

  -- a row number fits a place
  pub row_narrow : row < 65536
  row_narrow = omega (arith, (counts c.rows accepted.counts).instructions.most, inside)

  pub row_facts : {d : InstructionRow} → Means c.rows row d → InstructionFacts c.rows row d
  row_facts {d} s = instruction_facts c.rows accepted row inside d s.is

  pub tree : {d : InstructionRow} → Means c.rows row d → instruction_tree c.rows row ≡ instruction_row_tree c.rows row d
  tree {d} s = instruction_row_tree_lem c.rows row d s.is (row_facts s)

-- ---- what the leaves ask
module _ {row : ℕ} {w : Way} {c : Context} {l : Lent} {m : Status} {room : ℕ} (a : AskedLeaf row w c l m room) where
  own_facts : {d : InstructionRow} → Means c.rows row d → InstructionFacts c.rows row d
  own_facts s = row_facts a.holds a.there s

  pub leaf_narrow : row < 65536
  leaf_narrow = row_narrow a.holds a.there

  at_scope : (b : ℕ) → b ≤ procedure_count c.rows → Under c.rows b row → instruction_scope c.rows row ≡ b
  at_scope b k h = scope_is c.rows (holds_accepted w a.holds) b row k h

  -- by the tree of the row
  pub leaf_executes : {d : InstructionRow} {after : Lent} {r : Status} → Means c.rows row d
      → ((p : Profile) (b : ℕ) (vs : List Variable) → Holds w p b c l vs → Under c.rows b row → (calls : _) (o : Lent) → Reached (Holds w p b c) o after o r (exec calls (instruction_row_tree c.rows row d) (state_of m vs)))
      → ExecutesLeaf row w c l after m r
  leaf_executes {d} s f =
      record { reaches = λ p b vs h k calls o. reaches_as (ap (λ (i : Instruction). exec calls i (state_of m vs)) (tree a.holds a.there s)) (f p b vs h k calls o) }

  pub assign_there : {n e : ℕ} → Means c.rows row (does.Assign n e) → e < table_count c.rows expression_section
  unfolding InstructionFacts
  assign_there s = (own_facts s).1

  pub assign_row : {n e : ℕ} → Means c.rows row (does.Assign n e) → (b : ℕ) → b ≤ procedure_count c.rows → Under c.rows b row → AssignRow c.rows b n e
  unfolding InstructionFacts instruction_row_tree
  assign_row {n} s b k h =
      record { at = row; there = a.there; scope = at_scope b k h; declared = subst (λ (j : ℕ). n < pair_count c.rows (scope_table j)) (at_scope b k h) (own_facts s).0; is = tree a.holds a.there s }

  pub yoke_there : {n y : ℕ} → Means c.rows row (does.SetYoke n y) → y ≤ table_count c.rows expression_section
  unfolding InstructionFacts
  yoke_there {n} {y} s = every_yoke (table_count c.rows expression_section) y (own_facts s).1

  pub yoke_row : {n y : ℕ} → Means c.rows row (does.SetYoke n y) → (b : ℕ) → b ≤ procedure_count c.rows → Under c.rows b row → YokeRow c.rows b n y
  unfolding InstructionFacts instruction_row_tree
  yoke_row {n} s b k h =
      record { at = row; there = a.there; scope = at_scope b k h; declared = subst (λ (j : ℕ). n < pair_count c.rows (scope_table j)) (at_scope b k h) (own_facts s).0; is = tree a.holds a.there s }

  -- a yoke's number fits a state word
  pub few_yokes : {n y : ℕ} → Means c.rows row (does.SetYoke n y) → y < 65536
  few_yokes s = omega (arith, yoke_there s, (counts c.rows (holds_accepted w a.holds).counts).expressions.most)
