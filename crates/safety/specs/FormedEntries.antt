-- The bodies that the type check of an accepted profile derives are well-formed: each entry's, of the current value and of the result
-- (`entries_formed`). Assumes nothing.
use Rattle.std.specs.Prelude.{◌≡◌, List, [], ◌++◌, map}
use Rattle.std.proofs.Common.{sym}
use Rattle.std.proofs.Math.Path.{subst}
use Prim.Native.Nat.{ℕ, zero, suc, ◌+◌, ◌<◌}
use Rattle.lingua.specs.Numbers.{expression_section, instruction_section, declaration_place, scope_table}
use Rattle.lingua.specs.Outcome.{Outcome, ok, all_answers}
use Rattle.lingua.specs.Body.{Body}
use Rattle.lingua.specs.WellFormed.{WellFormed, formed_boolean}
use Rattle.lingua.specs.Expression.{Expression, Yoke, always, yoke, Instruction, skip, assign, set_yoke, sequence, branch, loop, handle, call}
use Rattle.lingua.specs.Run.{Declaration, Scoped, scoped, Profile, scope_declarations}
use Rattle.lingua.specs.Typing.{TypeError, Entry, Bodies, check_declarations, bodies_of, joined, all_declarations, scope_bodies, check_scoped, check_profile}
use Rattle.lingua.specs.Rows.{table_count, InstructionRow, skip_row, assign_row, set_yoke_row, sequence_row, branch_row, loop_row, handle_row, call_row, unknown_instruction, instruction_row, evaluated, yoke_root, yoke_set}
use Rattle.lingua.specs.Trees.{yoke_tree, instruction_of, instruction_in, instruction_tree, instruction_scope, declaration_in, profile_of}
use Rattle.lingua.specs.References.{yoke_in}
use Rattle.laws.specs.Outcomes.{is_list}
use Rattle.laws.specs.Formed.{formed_as, formed_element, unary_formed, binary_formed}
use Rattle.safety.specs.Answers.{same_answer, bound}
use Rattle.safety.specs.Every.{Every, every_none, every_more, every_append, every_one, every_map, every_tabulate}
use Rattle.safety.specs.Checked.{Checked, checked_constant, checked_variable, checked_current, checked_unary, checked_binary, checked_lazy, checked_choice, checked_all_list, CheckedYoke, CheckedRow, yoke_checked, row_checked}
use Rattle.safety.specs.ProfileScopes.{scope_every, all_declared}
use Rattle.safety.specs.Accepted.{AcceptedRows, scope_root, instruction_roots_lem}
use Rattle.safety.specs.Formed.{NamesFormed, tree_names, scope_formed, bodies_formed, scope_bodies_formed}

-- an entry's bodies
pub record FormedEntry (x : Entry) : Type 0 where
  pub current : WellFormed x.current
  pub result : WellFormed x.result

-- ---- a tree
module _ {vars : Bodies} (v : (n : ℕ) → WellFormed (vars n)) where
  checked_formed : {e : Expression} {cur b : Body} {es : List Entry} → Checked vars e cur b es → NamesFormed e → WellFormed cur → WellFormed b × Every FormedEntry es
  unfolding NamesFormed
  checked_formed checked_constant h k = (h, every_one (record { current = k; result = h }))
  checked_formed (checked_variable {n = n}) h k = (v n, every_one (record { current = k; result = v n }))
  checked_formed checked_current h k = (k, every_one (record { current = k; result = k }))
  checked_formed (checked_unary {o = o} c q) h k =
      let p = checked_formed c h.1 k in
      let r = unary_formed o h.0 p.0 q in
      (r, every_append p.1 (every_one (record { current = k; result = r })))
  checked_formed (checked_binary {o = o} c d q) h k =
      let p = checked_formed c h.1 k in
      let s = checked_formed d h.2 k in
      let r = binary_formed o h.0 p.0 s.0 q in
      (r, every_append (every_append p.1 s.1) (every_one (record { current = k; result = r })))
  checked_formed (checked_lazy c d) h k =
      (formed_boolean, every_append (every_append (checked_formed c h.0 k).1 (checked_formed d h.1 k).1) (every_one (record { current = k; result = formed_boolean })))
  checked_formed (checked_choice p c d) h k =
      let r = checked_formed c h.1 k in
      (r.0, every_append (every_append (checked_formed p h.0 k).1 (every_append r.1 (checked_formed d h.2 k).1)) (every_one (record { current = k; result = r.0 })))
  checked_formed (checked_all_list {cur = cur} {c} q d) h k =
      (formed_boolean, every_append (checked_formed d h (formed_element (formed_as (is_list cur c q) k))).1 (every_one (record { current = k; result = formed_boolean })))

-- ---- yokes and instructions
unfoldable pub YokeNames : Yoke → Type 0
YokeNames always = Unit {0}
YokeNames (yoke e) = NamesFormed e

-- of an instruction's own row
unfoldable pub RowNames : Instruction → Type 0
RowNames (skip r) = Unit {0}
RowNames (assign r n e) = NamesFormed e
RowNames (set_yoke r n y) = YokeNames y
RowNames (sequence r i j) = Unit {0}
RowNames (branch r e i j) = NamesFormed e
RowNames (loop r e i) = NamesFormed e
RowNames (handle r n i) = Unit {0}
RowNames (call r k vs rs) = Unit {0}

no_entries : {es : List Entry} → es ≡ [] → Every FormedEntry es
no_entries e = subst (Every FormedEntry) (sym e) every_none

module _ {vars : Bodies} (v : (n : ℕ) → WellFormed (vars n)) where
  yoke_formed : (y : Yoke) (b : Body) (es : List Entry) → YokeNames y → WellFormed b → CheckedYoke vars y b es → Every FormedEntry es
  unfolding YokeNames CheckedYoke
  yoke_formed always b es h k c = no_entries c
  yoke_formed (yoke e) b es h k c = (checked_formed v c h k).1

  row_formed : (procs : ℕ → Bodies) (i : Instruction) (es : List Entry) → RowNames i → CheckedRow procs vars i es → Every FormedEntry es
  unfolding RowNames CheckedRow
  row_formed procs (skip r) es h c = no_entries c
  row_formed procs (assign r n e) es h c = (checked_formed v c h formed_boolean).1
  row_formed procs (set_yoke r n y) es h c = yoke_formed y (vars n) es h (v n) c
  row_formed procs (sequence r i j) es h c = no_entries c
  row_formed procs (branch r e i j) es h c = (checked_formed v c h formed_boolean).1
  row_formed procs (loop r e i) es h c = (checked_formed v c h formed_boolean).1
  row_formed procs (handle r n i) es h c = no_entries c
  row_formed procs (call r k vs rs) es h c = no_entries c.0

-- ---- all of them
abbrev Recorded : Outcome TypeError (List Entry) → Type 0
Recorded o = (es : List Entry) → o ≡ ok es → Every FormedEntry es

all_formed : {os : List (Outcome TypeError (List Entry))} → Every Recorded os → (xss : List (List Entry)) → all_answers os ≡ ok xss → Every FormedEntry (joined xss)
unfolding all_answers joined
all_formed every_none xss q = subst (λ (l : List (List Entry)). Every FormedEntry (joined l)) (same_answer q) every_none
all_formed (every_more {x = o} {xs = os} h hs) xss q =
    let a = bound o _ xss q in
    let b = bound (all_answers os) _ xss a.2 in
    subst (λ (l : List (List Entry)). Every FormedEntry (joined l)) (same_answer b.2) (every_append (h a.0 a.1) (all_formed hs b.0 b.1))

declarations_recorded : {vars : Bodies} → ((n : ℕ) → WellFormed (vars n)) → (d : ℕ) {ds : List Declaration} → Every (λ w. YokeNames w.declared × WellFormed w.body) ds → Every Recorded (check_declarations vars d ds)
unfolding check_declarations
declarations_recorded v d every_none = every_none
declarations_recorded {vars} v d (every_more {x = w} h hs) =
    every_more (λ es q. yoke_formed v w.declared w.body es h.0 h.1 (yoke_checked vars w.declared w.body (declaration_place + d) es q)) (declarations_recorded v (suc d) hs)

-- each row by the bodies of the variables that it names
instructions_recorded : (p : Profile) → ((a n : ℕ) → WellFormed (scope_bodies p a n)) → {is : List Scoped} → Every (λ i. RowNames i.instruction) is → Every Recorded (map (λ i. check_scoped p i) is)
unfolding check_scoped
instructions_recorded p v hs =
    every_map (λ i. check_scoped p i)
    (λ i h es q. row_formed (v i.scope) (λ k. scope_bodies p (suc k)) i.instruction es h (row_checked (λ k. scope_bodies p (suc k)) (scope_bodies p i.scope) i.instruction es q)) hs

-- ---- an accepted profile
module _ (rows : List ℕ) (accepted : AcceptedRows rows) where
  yoke_names : (y : ℕ) → Every (λ r. r < table_count rows expression_section) (yoke_root y) → YokeNames (yoke_tree rows y)
  unfolding yoke_root yoke_tree YokeNames
  yoke_names zero h = tt
  yoke_names (suc r) (every_more h hs) = tree_names rows accepted r h

  node_names : (r : ℕ) (row : InstructionRow) (look : ℕ → Instruction) → Every (λ k. k < table_count rows expression_section) (evaluated row ++ yoke_set row) → RowNames (instruction_of rows r row look)
  unfolding instruction_of RowNames evaluated yoke_set
  node_names r skip_row look h = tt
  node_names r (assign_row n e) look (every_more h hs) = tree_names rows accepted e h
  node_names r (set_yoke_row n y) look h = yoke_names y h
  node_names r (sequence_row i j) look h = tt
  node_names r (branch_row e i j) look (every_more h hs) = tree_names rows accepted e h
  node_names r (loop_row e i) look (every_more h hs) = tree_names rows accepted e h
  node_names r (handle_row n i) look h = tt
  node_names r (call_row p b c) look h = tt
  node_names r unknown_instruction look h = tt

  pub row_names : (r : ℕ) → r < table_count rows instruction_section → RowNames (instruction_tree rows r)
  unfolding instruction_tree instruction_in
  row_names r l = node_names r (instruction_row rows r) _ (instruction_roots_lem rows accepted r l)

  -- the declarations of each scope, and of all
  scope_names : (lims : List ℕ) (a : ℕ) → Every (λ w. YokeNames w.declared × WellFormed w.body) (scope_declarations (profile_of rows lims) a)
  unfolding declaration_in yoke_in
  scope_names lims a =
      scope_every rows lims (λ w. YokeNames w.declared × WellFormed w.body) a
      (λ h d l. (yoke_names (yoke_in rows (scope_table a) d) (scope_root rows accepted a h d l), scope_formed rows accepted a h d l))

  all_names : (lims : List ℕ) → Every (λ w. YokeNames w.declared × WellFormed w.body) (all_declarations (profile_of rows lims))
  all_names lims = all_declared (λ w. YokeNames w.declared × WellFormed w.body) (profile_of rows lims) (scope_names lims)

  pub entries_formed : (lims : List ℕ) (es : List Entry) → check_profile (profile_of rows lims) ≡ ok es → Every FormedEntry es
  unfolding check_profile
  entries_formed lims es e =
      let p = profile_of rows lims in
      let vars : Bodies = bodies_of p.declarations in
      let a = bound (all_answers (check_declarations vars 0 (all_declarations p))) _ es e in
      let b = bound (all_answers (map (λ i. check_scoped p i) p.instructions)) _ es a.2 in
      subst (Every FormedEntry) (same_answer b.2)
      (every_append (all_formed (declarations_recorded (bodies_formed rows accepted lims) 0 (all_names lims)) a.0 a.1) (all_formed (instructions_recorded p (scope_bodies_formed rows accepted lims) set) b.0 b.1))
    where
      set : Every (λ i. RowNames i.instruction) (profile_of rows lims).instructions
      set = unfold profile_of in every_tabulate (table_count rows instruction_section) (λ r. scoped (instruction_scope rows r) (instruction_tree rows r)) (λ r l. row_names r l)
