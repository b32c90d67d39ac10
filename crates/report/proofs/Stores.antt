-- The variables' lines of the memory that an unrefused run leaves are those of its last store. Carried by the invariant of runs: a filled
-- variable's value fits its present body, so it takes as many cells as that body. Assumes nothing.
use mathlib.Core.Path.{◌≡◌, refl, sym, ap, ap₂, ◌∙◌, subst}
use mathlib.Core.Bool.{Bool, not}
use mathlib.Core.List.{List, [], ◌∷◌, ◌++◌, append_assoc}
use mathlib.Core.Option.{Option, some, none}
use Prim.Native.Nat.{ℕ, zero, suc, ◌+◌, ◌*◌, ◌<◌}
use native.Mathlib.Nat.{zero-add}
use native.Mathlib.Omega.{arith}
use lib.Dec.{eqb}
use lib.ListN.{length, take, drop}
use lib.IntN.{ℤ}
use Rattle.std.specs.Bool.{then_some}
use Rattle.lingua.specs.Numbers.{body_cells, declaration_section}
use Rattle.lingua.specs.Body.{size}
use Rattle.lingua.specs.WellFormed.{WellFormed}
use Rattle.lingua.specs.Value.{cells_of, Composite}
use Rattle.lingua.specs.Store.{Variable, variable_at, present_of, present_body, contents, filled_flag, cells_in, states_in, bodies_in, filled_at}
use Rattle.lingua.specs.Run.{run, last_state}
use Rattle.lingua.specs.Rows.{until_zero, pair_count}
use Rattle.lingua.specs.Trees.{tabulate_from, tabulate, name_at, declaration_in, declaration_at, profile_of}
use Rattle.lingua.specs.Format.{rows_of}
use Rattle.lingua.specs.Refusal.{lowest, pair_rules}
use Rattle.lingua.specs.Report.{newline, cell_texts, content_text, variable_lines}
use Rattle.laws.specs.Formed.{formed_bounds, formed_as}
use Rattle.safety.specs.Accepted.{accepted_pair, accepted_invariant, profile_well_made}
use Rattle.safety.specs.Formed.{ContentsFormed}
use Rattle.safety.specs.Programs.{kept_body}
use Rattle.safety.specs.Memory.{states_at, run_length, Known, end_known}
use Rattle.rules.specs.Accepted.{counts}
use Rattle.run.proofs.Parts.{content_at}
use Rattle.checked_row.proofs.Storing.{memory_of}
use Rattle.text.specs.Line.{content_of, variable_line}
use Rattle.report.specs.Memory.{Left, cells_of_bodies, memory_line, memory_lines}

-- ---- line by line
line_behind : (name content rest : List ℕ) → name ++ (content ++ (newline ∷ rest)) ≡ (name ++ (content ++ (newline ∷ []))) ++ rest
line_behind name content rest =
    sym (append_assoc name (content ++ (newline ∷ [])) rest ∙ ap (λ (l : List ℕ). name ++ l) (append_assoc content (newline ∷ []) rest))

lines_of : (rows lims : List ℕ) (cells : List ℤ) (states : List ℕ) (ws : List Variable) (i n : ℕ) (vs : List Variable)
    → length vs ≡ n
    → ((k : ℕ) → k < n → content_text (variable_at vs k).content ≡ content_of (then_some (filled_at states (i + k)) (cells_of_bodies cells ws (i + k))))
    → variable_lines (tabulate_from i n (λ d. declaration_at rows lims d)) vs ≡ memory_lines rows cells states ws i n
unfolding variable_lines tabulate_from memory_lines memory_line variable_line declaration_in declaration_at
lines_of rows lims cells states ws i zero vs e h = refl
lines_of rows lims cells states ws i (suc n) [] e h = absurd (let z : ⊥ = omega arith in z)
lines_of rows lims cells states ws i (suc n) (v ∷ vs) e h =
    let first : content_text v.content ≡ content_of (then_some (filled_at states i) (cells_of_bodies cells ws i)) =
    subst (λ (j : ℕ). content_text v.content ≡ content_of (then_some (filled_at states j) (cells_of_bodies cells ws j))) (let z : i + zero ≡ i = omega arith in z) (h zero (omega arith)) in
    let others = lines_of rows lims cells states ws (suc i) n vs (omega arith)
    (λ k l. subst (λ (j : ℕ). content_text (variable_at vs k).content ≡ content_of (then_some (filled_at states j) (cells_of_bodies cells ws j))) (let z : i + suc k ≡ suc i + k = omega arith in z) (h (suc k) (omega arith))) in
    ap₂ (λ (c r : List ℕ). until_zero (name_at rows declaration_section i) ++ (c ++ (newline ∷ r))) first others
    ∙ line_behind (until_zero (name_at rows declaration_section i)) (content_of (then_some (filled_at states i) (cells_of_bodies cells ws i))) (memory_lines rows cells states ws (suc i) n)

length_tabulate : {A : Type 0} (f : ℕ → A) (i n : ℕ) → length (tabulate_from i n f) ≡ n
unfolding tabulate_from
length_tabulate f i zero = refl
length_tabulate f i (suc n) = ap suc (length_tabulate f (suc i) n)

-- ---- the store of an accepted pair's run
module _ (prof lims : List ℕ) (e : lowest (pair_rules prof lims) ≡ 0) (budget : ℕ) where
  abbrev rows : List ℕ
  rows = rows_of prof

  abbrev store : List Variable
  store = (last_state (run (profile_of (rows_of prof) (rows_of lims)) [] budget)).store

  store_length : length store ≡ pair_count rows declaration_section
  unfolding profile_of tabulate
  store_length = run_length (profile_of (rows_of prof) (rows_of lims)) (profile_well_made (rows_of prof) (accepted_pair prof lims e) (rows_of lims)) [] budget ∙ length_tabulate (λ d. declaration_at rows (rows_of lims) d) 0 (pair_count rows declaration_section)

  formed : (d : ℕ) → WellFormed (present_body (variable_at store d))
  unfolding ContentsFormed
  formed d = by (contents store d) refl
    where
      known : Known (rows_of prof) (profile_of (rows_of prof) (rows_of lims)).declarations (last_state (run (profile_of (rows_of prof) (rows_of lims)) [] budget)).store
      known = end_known (rows_of prof) (accepted_pair prof lims e) (rows_of lims) [] budget

      by : (c : Option Composite) → contents store d ≡ c → WellFormed (present_of (variable_at store d).body c)
      by none q = formed_as (sym (kept_body (profile_of (rows_of prof) (rows_of lims)).declarations store known.kept d)) (known.declared d)
      by (some x) q = known.formed d x q

  -- the memory holds the store
  pub store_left : Left rows (bodies_in store) (cells_in store) (states_in store) store
  store_left = record {
    stored = record {
      cells_are = refl;
      states_are = refl;
      bodies_are = refl;
      few = omega (arith, store_length, (counts rows (accepted_pair prof lims e).counts).variables.most);
      holdable = λ n l. let b = formed_bounds (formed n) in record { few_cells = b.few_cells; few_nodes = b.few_nodes };
      fits = λ n x q. (accepted_invariant prof lims e [] budget n x q).fits;
    };
    count = store_length;
  }

  -- the first cells of a filled variable's place
  filled_cells : (d : ℕ) (x : Composite) → d < pair_count rows declaration_section → contents store d ≡ some x → cells_of_bodies (cells_in store) store d ≡ cells_of x.body x.value
  unfolding cells_of_bodies
  filled_cells d x l q =
      ap (λ (c : Option Composite). take (size (present_of (variable_at store d).body c)) (drop (body_cells * d) (cells_in store))) q
      ∙ content_at (memory_of store_left.stored) d (omega (arith, store_length)) x q

  flag_there : (d : ℕ) (o : Option Composite) → d < pair_count rows declaration_section → contents store d ≡ o → filled_at (states_in store) d ≡ not (eqb (filled_flag o) 0)
  unfolding filled_at
  flag_there d o l q =
      let m : d < length store = omega (arith, store_length) in
      ap (λ (n : ℕ). not (eqb n 0)) ((states_at store d m).0 ∙ ap filled_flag q)

  content_by : (d : ℕ) (o : Option Composite) → d < pair_count rows declaration_section → contents store d ≡ o → content_text o ≡ content_of (then_some (filled_at (states_in store) d) (cells_of_bodies (cells_in store) store d))
  unfolding content_text
  content_by d none l q = ap (λ (t : Bool). content_of (then_some t (cells_of_bodies (cells_in store) store d))) (sym (flag_there d none l q))
  content_by d (some x) l q =
      ap cell_texts (sym (filled_cells d x l q)) ∙ ap (λ (t : Bool). content_of (then_some t (cells_of_bodies (cells_in store) store d))) (sym (flag_there d (some x) l q))

  pub store_lines : variable_lines (profile_of (rows_of prof) (rows_of lims)).declarations store ≡ memory_lines rows (cells_in store) (states_in store) store 0 (pair_count rows declaration_section)
  unfolding profile_of tabulate
  store_lines =
      lines_of rows (rows_of lims) (cells_in store) (states_in store) store 0 (pair_count rows declaration_section) store store_length
      (λ k l. rw zero-add (content_by k (contents store k) l refl))
