-- The whole check by its two lists, of scopes and of instruction rows, and how it ends. Assumes nothing.
use mathlib.Core.Path.{◌≡◌, refl, sym, ap, ap₂, ◌∙◌, fun_ext}
use mathlib.Core.List.{List, [], ◌∷◌, ◌++◌, map, append_assoc}
use mathlib.Core.Option.{Option, none}
use Prim.Native.Nat.{ℕ, zero, suc, ◌+◌}
use native.Mathlib.Omega.{arith}
use lib.ListN.{length, replicate}
use Rattle.lingua.specs.Numbers.{layout_length, declaration_section, instruction_section, declaration_place, scope_table}
use Rattle.lingua.specs.Outcome.{Outcome, ok, fail, all_answers, ◌>>=◌}
use Rattle.lingua.specs.Store.{Limit}
use Rattle.lingua.specs.Run.{Declaration, Procedure, scoped, Profile}
use Rattle.lingua.specs.Rows.{table_count, pair_count, procedure_count}
use Rattle.lingua.specs.Trees.{tabulate_from, tabulate, instruction_tree, instruction_scope, name_at, limit_of, declaration_in, declaration_at, procedure_of, profile_of}
use Rattle.lingua.specs.References.{yoke_in}
use Rattle.lingua.specs.Typing.{TypeError, Entry, Bodies, check_yoke, check_instruction, check_declarations, check_scoped, check_profile, bodies_of, joined, all_declarations, placed, layout_of}
use Rattle.laws.specs.Scopes.{scope_at_most}
use Rattle.safety.specs.Every.{length_tabulate}
use Rattle.std.specs.Prelude.{Result as CodeResult, Ok, Err}
use Rattle.lingua.specs.declared.errors.ErrorAt.{ErrorAt}
use Rattle.typing.specs.Check.{error_meaning, variable_bodies}
use Rattle.typecheck.specs.Verdicts.{procedure_bodies, SettlesPassed, Settles, in_order, declaration_check, declarations_check, before, scope_check, instruction_check, whole_check, ConcludesPassed}
use Rattle.typing.proofs.Returns.{placed_append}
use Rattle.typecheck.proofs.Scoping.{map_tabulate, scope_bodies_lem}

-- ---- one after the other
abbrev in_turn : Outcome TypeError (List Entry) → Outcome TypeError (List Entry) → Outcome TypeError (List Entry)
in_turn x y = x >>= (λ ds. y >>= (λ rs. ok (ds ++ rs)))

-- the first type error of a list, or all entries
abbrev together : List (Outcome TypeError (List Entry)) → Outcome TypeError (List Entry)
together os = all_answers os >>= (λ ess. ok (joined ess))

turn_none : (y : Outcome TypeError (List Entry)) → in_turn (ok []) y ≡ y
turn_none (ok es) = refl
turn_none (fail e) = refl

turn_three : (x y z : Outcome TypeError (List Entry)) → in_turn x (in_turn y z) ≡ in_turn (in_turn x y) z
turn_three (ok ds) (ok es) (ok fs) = ap ok (sym (append_assoc ds es fs))
turn_three (ok ds) (ok es) (fail e) = refl
turn_three (ok ds) (fail e) z = refl
turn_three (fail e) y z = refl

together_more : (o : Outcome TypeError (List Entry)) (os : List (Outcome TypeError (List Entry))) → together (o ∷ os) ≡ in_turn o (together os)
unfolding all_answers joined
together_more o os = by o (all_answers os)
  where
    by : (x : Outcome TypeError (List Entry)) (y : Outcome TypeError (List (List Entry))) → ((x >>= (λ a. y >>= (λ rest. ok (a ∷ rest)))) >>= (λ ess. ok (joined ess))) ≡ in_turn x (y >>= (λ ess. ok (joined ess)))
    by (ok es) (ok ess) = refl
    by (ok es) (fail e) = refl
    by (fail e) y = refl

together_append : (os ps : List (Outcome TypeError (List Entry))) → together (os ++ ps) ≡ in_turn (together os) (together ps)
unfolding all_answers joined
together_append [] ps = sym (turn_none (together ps))
together_append (o ∷ os) ps =
    together_more o (os ++ ps)
    ∙ ap (in_turn o) (together_append os ps)
    ∙ turn_three o (together os) (together ps)
    ∙ ap (λ (x : Outcome TypeError (List Entry)). in_turn x (together ps)) (sym (together_more o os))

-- ---- the definition by rows
declared_append : (vars : Bodies) (k : ℕ) (xs ys : List Declaration) → check_declarations vars k (xs ++ ys) ≡ check_declarations vars k xs ++ check_declarations vars (k + length xs) ys
unfolding check_declarations
declared_append vars k [] ys = ap (λ (n : ℕ). check_declarations vars n ys) (let e : k ≡ k + 0 = omega arith in e)
declared_append vars k (x ∷ xs) ys =
    ap (λ (os : List (Outcome TypeError (List Entry))). check_yoke x.declared vars x.body (declaration_place + k) ∷ os)
    (declared_append vars (suc k) xs ys ∙ ap (λ (n : ℕ). check_declarations vars (suc k) xs ++ check_declarations vars n ys) (let e : suc k + length xs ≡ k + suc (length xs) = omega arith in e))

module _ (rows : List ℕ) where
  abbrev own : Bodies
  own = variable_bodies rows declaration_section

  -- the declarations of a table, whatever their limits, from one on
  table_from : (s b : ℕ) (limits : ℕ → Option Limit) (i n : ℕ)
      → check_declarations own (b + i) (tabulate_from i n (λ d. declaration_in rows s (limits d) d)) ≡ tabulate_from i n (λ d. declaration_check rows s d (declaration_place + b + d))
  unfolding check_declarations tabulate_from declaration_check declaration_in yoke_in
  table_from s b limits i zero = refl
  table_from s b limits i (suc n) =
      (λ j. declaration_check rows s i (place j) ∷ check_declarations own (next j) (tabulate_from (suc i) n (λ d. declaration_in rows s (limits d) d)))
      ∙ ap (λ (os : List (Outcome TypeError (List Entry))). declaration_check rows s i (declaration_place + b + i) ∷ os) (table_from s b limits (suc i) n)
    where
      place : declaration_place + (b + i) ≡ declaration_place + b + i
      place = omega arith

      next : suc (b + i) ≡ b + suc i
      next = omega arith

  scope_of_table : (a : ℕ) (limits : ℕ → Option Limit) → together (check_declarations own (before rows a) (tabulate (pair_count rows (scope_table a)) (λ d. declaration_in rows (scope_table a) (limits d) d))) ≡ scope_check rows a
  unfolding scope_check declarations_check in_order tabulate
  scope_of_table a limits =
      ap (λ (k : ℕ). together (check_declarations own k (tabulate_from 0 (pair_count rows (scope_table a)) (λ d. declaration_in rows (scope_table a) (limits d) d)))) (let e : before rows a ≡ before rows a + 0 = omega arith in e)
      ∙ ap together (table_from (scope_table a) (before rows a) limits 0 (pair_count rows (scope_table a)))

  -- a scope's declarations, and those behind
  scope_first : (a : ℕ) (limits : ℕ → Option Limit) (ds : List Declaration) → together (check_declarations own (before rows a) (tabulate (pair_count rows (scope_table a)) (λ d. declaration_in rows (scope_table a) (limits d) d) ++ ds))
      ≡ in_turn (scope_check rows a) (together (check_declarations own (before rows (suc a)) ds))
  unfolding before
  scope_first a limits ds =
      let xs : List Declaration = tabulate (pair_count rows (scope_table a)) (λ d. declaration_in rows (scope_table a) (limits d) d) in
      let many : length xs ≡ pair_count rows (scope_table a) = length_tabulate (pair_count rows (scope_table a)) (λ d. declaration_in rows (scope_table a) (limits d) d) in
      ap together (declared_append own (before rows a) xs ds)
      ∙ together_append (check_declarations own (before rows a) xs) (check_declarations own (before rows a + length xs) ds)
      ∙ ap₂ (λ (x : Outcome TypeError (List Entry)) (n : ℕ). in_turn x (together (check_declarations own (before rows a + n) ds))) (scope_of_table a limits) many

  procedures_from : (k n : ℕ) → together (check_declarations own (before rows (suc k)) (joined (map (λ (q : Procedure). q.variables) (tabulate_from k n (λ j. procedure_of rows j))))) ≡ together (tabulate_from (suc k) n (scope_check rows))
  unfolding tabulate_from procedure_of joined
  procedures_from k zero = unfold check_declarations in refl
  procedures_from k (suc n) =
      scope_first (suc k) (λ d. none) (joined (map (λ (q : Procedure). q.variables) (tabulate_from (suc k) n (λ j. procedure_of rows j))))
      ∙ ap (in_turn (scope_check rows (suc k))) (procedures_from (suc k) n)
      ∙ sym (together_more (scope_check rows (suc k)) (tabulate_from (suc (suc k)) n (scope_check rows)))

  declarations_of : (limits : List ℕ) → together (check_declarations own 0 (all_declarations (profile_of rows limits))) ≡ in_order (suc (procedure_count rows)) (scope_check rows)
  unfolding all_declarations profile_of in_order tabulate tabulate_from before declaration_at
  declarations_of limits =
      scope_first 0 (λ d. limit_of limits (name_at rows declaration_section d)) (joined (map (λ (q : Procedure). q.variables) (tabulate_from 0 (procedure_count rows) (λ j. procedure_of rows j))))
      ∙ ap (in_turn (scope_check rows 0)) (procedures_from 0 (procedure_count rows))
      ∙ sym (together_more (scope_check rows 0) (tabulate_from 1 (procedure_count rows) (scope_check rows)))

  row_of_lem : (limits : List ℕ) (r : ℕ) → check_scoped (profile_of rows limits) (scoped (instruction_scope rows r) (instruction_tree rows r)) ≡ instruction_check rows r
  unfolding check_scoped instruction_check procedure_bodies profile_of
  row_of_lem limits r =
      ap (λ (vars : Bodies). check_instruction (procedure_bodies rows) vars (instruction_tree rows r)) (scope_bodies_lem rows limits (instruction_scope rows r) (scope_at_most rows r))

  instructions_of : (limits : List ℕ) → together (map (λ i. check_scoped (profile_of rows limits) i) (profile_of rows limits).instructions) ≡ in_order (table_count rows instruction_section) (instruction_check rows)
  unfolding in_order tabulate profile_of
  instructions_of limits =
      ap together
      (map_tabulate (λ i. check_scoped (profile_of rows limits) i) (λ r. scoped (instruction_scope rows r) (instruction_tree rows r)) 0 (table_count rows instruction_section)
      ∙ ap (tabulate_from 0 (table_count rows instruction_section)) (fun_ext (row_of_lem limits)))

abbrev both_lists : Outcome TypeError (List (List Entry)) → Outcome TypeError (List (List Entry)) → Outcome TypeError (List Entry)
both_lists x y = x >>= (λ ds. y >>= (λ rs. ok (joined ds ++ joined rs)))

both_same : (x y : Outcome TypeError (List (List Entry))) → both_lists x y ≡ in_turn (x >>= (λ ess. ok (joined ess))) (y >>= (λ ess. ok (joined ess)))
both_same (ok ds) (ok rs) = refl
both_same (ok ds) (fail e) = refl
both_same (fail e) y = refl

by_rows : (rows limits : List ℕ)
    → check_profile (profile_of rows limits) ≡ in_turn (in_order (suc (procedure_count rows)) (scope_check rows)) (in_order (table_count rows instruction_section) (instruction_check rows))
unfolding check_profile
by_rows rows limits =
    let p : Profile = profile_of rows limits in
    both_same (all_answers (check_declarations (bodies_of p.declarations) 0 (all_declarations p))) (all_answers (map (λ i. check_scoped p i) p.instructions))
    ∙ ap₂ in_turn
    (ap (λ (vars : Bodies). together (check_declarations vars 0 (all_declarations p))) (scope_bodies_lem rows limits 0 (omega arith)) ∙ declarations_of rows limits)
    (instructions_of rows limits)

-- ---- how it ends
pub whole_is : (rows limits : List ℕ) → check_profile (profile_of rows limits) ≡ whole_check rows
unfolding whole_check
whole_is rows limits = by_rows rows limits

pub first_fails : (rows : List ℕ) (e : TypeError) → in_order (suc (procedure_count rows)) (scope_check rows) ≡ fail e → whole_check rows ≡ fail e
unfolding whole_check
first_fails rows e h = rw h refl

module _ (rows : List ℕ) {l0 l1 : List ℕ} (q : SettlesPassed l0 l1 (in_order (suc (procedure_count rows)) (scope_check rows))) where
  second_fails : (e : TypeError) → in_order (table_count rows instruction_section) (instruction_check rows) ≡ fail e → whole_check rows ≡ fail e
  unfolding whole_check
  second_fails e h = rw (q.is, h) refl

  both_pass : (l2 : List ℕ) → SettlesPassed l1 l2 (in_order (table_count rows instruction_section) (instruction_check rows)) → SettlesPassed l0 l2 (whole_check rows)
  unfolding whole_check
  both_pass l2 w =
      rw (q.is, w.is)
      (record { entries = q.entries ++ w.entries; is = refl; layout = w.layout ∙ ap (placed w.entries) q.layout ∙ sym (placed_append q.entries w.entries l0) })

  pub both_settle : (v : CodeResult (Unit {0}) ErrorAt) (l2 : List ℕ) → Settles v l1 l2 (in_order (table_count rows instruction_section) (instruction_check rows)) → Settles v l0 l2 (whole_check rows)
  both_settle (Ok u) l2 h = both_pass l2 h
  both_settle (Err e) l2 h = second_fails (error_meaning e) h

-- from zeros
pub whole_passes : (rows limits l0 l1 : List ℕ) → l0 ≡ replicate layout_length 0 → SettlesPassed l0 l1 (whole_check rows) → ConcludesPassed l1 (check_profile (profile_of rows limits))
unfolding layout_of
whole_passes rows limits l0 l1 z h =
    record { entries = h.entries; is = whole_is rows limits ∙ h.is; layout = h.layout ∙ ap (placed h.entries) z }
