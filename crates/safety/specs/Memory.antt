-- The invariant of runs, read in the caller's memory: where a variable's flag says that it is filled, its cells hold a value of the body that
-- its 96 bytes say, which satisfies the yoke that its state word names and lies within its limit (`accepted_memory`); and so it is with the
-- variables of each open call (`open_memory`). Where the type check passes, that is the declared body, and no run changes one
-- (`passed_memory`, `passed_open`). Assumes nothing.
use Rattle.std.specs.Prelude.{◌≡◌, true, ℕ, zero, suc, ◌-◌, ◌*◌, ◌≤◌, ◌<◌, get_or, take, drop, replicate, ℤ, pos}
use Rattle.std.proofs.Math.Path.{refl, sym, ap, subst}
use Rattle.std.proofs.Common.{◌∙◌, ⊎_elim, length-set}
use mathlib.Core.List.{List, [], ◌∷◌, map}
use Rattle.std.proofs.Math.Option.{Option, some, none}
use native.Mathlib.Omega.{arith}
use Rattle.std.proofs.Math.ListN.{length, length-map}
use Rattle.lingua.specs.Numbers.{most_variables, body_cells, body_bytes, cells_length, states_length, variable_bodies_length, most_calls, open_cells_length, open_states_length, open_bodies_length, declaration_section}
use Rattle.lingua.specs.Errors.{overflow, not_filled}
use Rattle.lingua.specs.Outcome.{ok}
use Rattle.lingua.specs.Body.{Body, size, attributes_of}
use Rattle.lingua.specs.WellFormed.{WellFormed}
use Rattle.lingua.specs.Value.{Value, Fits, as_whole, pad, cells_of, Composite, composite, in_range_of}
use Rattle.lingua.specs.Encode.{encoded}
use Rattle.lingua.specs.Expression.{Yoke, yoke_number, Instruction, skip, assign, set_yoke, sequence, branch, loop, handle, call}
use Rattle.lingua.specs.Evaluation.{Variables, eval, eval_yoke, boolean_of, no_current}
use Rattle.lingua.specs.Store.{Variable, no_variable, variable_at, present_of, present_body, contents, within, admitted, assigned, copied, yoke_holds, yoke_changed, with_content, with_yoke, Reading, reading_taken, content_cells, filled_flag, cells_in, states_in, bodies_in, call_cells, call_states, open_cells_in, open_states_in, present_in, flag_at, yoke_at, counts_hundredths, reading_value}
use Rattle.lingua.specs.Run.{State, Progress, Declaration, unfilled, begun, exec, called, Profile, scope_declarations, scope_program, started, take_readings, run, last_state, open_calls}
use Rattle.lingua.specs.Typing.{Entry, bodies_of, check_profile}
use Rattle.lingua.specs.Rows.{pair_count, procedure_count}
use Rattle.lingua.specs.Trees.{yoke_tree, declaration_at, profile_of}
use Rattle.lingua.specs.Format.{rows_of}
use Rattle.lingua.specs.Refusal.{lowest, pair_rules, is_quantity_variable}
use Rattle.laws.specs.Lengths.{length_cells}
use Rattle.laws.specs.Formed.{formed_bounds, formed_as}
use Rattle.laws.specs.Every.{every_by}
use Rattle.laws.specs.Tests.{below_or}
use Rattle.laws.specs.Stores.{cells_at as lent_cells, flag_at_lem, yoke_at_lem}
use Rattle.laws.specs.Presents.{bodies_at, bodies_same}
use Rattle.laws.specs.Frames.{Bounded, length_call_cells, length_call_states, open_cells_at, open_states_at, present_own, present_open, behind_padded, bodies_behind, flag_behind}
use Rattle.safety.specs.Answers.{same_answer, bound, some_answer, demanded, after}
use Rattle.safety.specs.Every.{Every, every_none, every_more, every_all, every_implies}
use Rattle.safety.specs.ProfileScopes.{scope_length, scope_empty}
use Rattle.safety.specs.Everywhere.{Everywhere, everywhere_all, everywhere_both, everywhere_implies}
use Rattle.safety.specs.Runs.{Family, Passes, Keeps, KeepsReading, Both, family_both, keeps_both, Frame, Done, pairwise_all, exec_keeps, called_keeps, readings_keep}
use Rattle.safety.specs.Invariant.{WellMadeProfile, scope_store, StateKept, ScopesKept, kept_family, well_made_keeps, start_kept, readings_kept, FilledWell, kept_well}
use Rattle.safety.specs.Derivation.{Anything, anything}
use Rattle.safety.specs.TypeSound.{VariablesFit}
use Rattle.safety.specs.Programs.{StateTyped, ScopesTyped, typed_family, program_keeps, readings_typed, kept_body, present_declared, start_fit}
use Rattle.safety.specs.Stored.{StoreKept}
use Rattle.safety.specs.Steps.{run_shallow}
use Rattle.safety.specs.Passed.{profile_derives, reads_quantity}
use Rattle.safety.specs.Formed.{ContentsFormed, declared_formed, scope_bodies_formed}
use Rattle.safety.specs.FormedRuns.{run_formed, open_formed}
use Rattle.safety.specs.Named.{AllNamed, run_named, open_named}
use Rattle.safety.specs.Accepted.{AcceptedRows, accepted_pair, profile_well_made, few_variables}

-- ---- a declared body has at most 64 cells
pub declared_size : (rows lims : List ℕ) → AcceptedRows rows → (d : ℕ) → d < pair_count rows declaration_section → size (declaration_at rows lims d).body ≤ body_cells
declared_size rows lims accepted d l = (formed_bounds (declared_formed rows accepted lims d l)).few_cells

-- ---- a run keeps the number of variables of each scope
module _ (p : Profile) where
  unfoldable pub ScopesLong : ℕ → State → Type 0
  ScopesLong a s = length s.store ≡ length (scope_declarations p a)

  long_family : Family p.procedures ScopesLong
  unfolding ScopesLong begun
  long_family =
      record { stable = λ a. record { marked = λ s e n h. h; stepped = λ s m e h. h }; begins = λ a k s h. length-map (scope_declarations p (suc k)) unfilled; back = λ a k s t h g. h }

  assigned_long : (vs : List Variable) (n : ℕ) (x : Composite) (ws : List Variable) → assigned vs n x ≡ ok ws → length ws ≡ length vs
  unfolding assigned
  assigned_long vs n x ws e =
      let q = after (admitted vs (variable_at vs n) x) _ ws e in
      subst (λ (us : List Variable). length us ≡ length vs) (same_answer q.1) (length-set vs n (with_content (variable_at vs n) x))

  changed_long : (vs : List Variable) (n : ℕ) (y : Yoke) (ws : List Variable) → yoke_changed vs n y ≡ ok ws → length ws ≡ length vs
  unfolding yoke_changed
  changed_long vs n y ws e =
      let q = after (yoke_holds vs y (variable_at vs n).content) _ ws e in
      subst (λ (us : List Variable). length us ≡ length vs) (same_answer q.1) (length-set vs n (with_yoke (variable_at vs n) y))

  long_copy : (a n b m : ℕ) → Passes ScopesLong a n b m
  unfolding Passes ScopesLong copied
  long_copy a n b m s t h k ws q =
      let x = some_answer (contents s.store n) not_filled (λ y. assigned t.store m y) ws q in
      assigned_long t.store m x.0 ws x.2 ∙ k

  long_keeps : (a : ℕ) (i : Instruction) → Keeps ScopesLong a i
  unfolding Keeps ScopesLong
  long_keeps a (skip r) = tt
  long_keeps a (assign r n e) = λ s h ws q.
      let x = bound (eval e (contents s.store) no_current) _ ws q in
      assigned_long s.store n x.0 ws x.2 ∙ h
  long_keeps a (set_yoke r n y) = λ s h ws q. changed_long s.store n y ws q ∙ h
  long_keeps a (sequence r i j) = tt
  long_keeps a (branch r e i j) = tt
  long_keeps a (loop r e i) = tt
  long_keeps a (handle r n i) = tt
  long_keeps a (call r k vs rs) =
      record { in_all = pairwise_all (λ n m. long_copy a n (suc k) m) _ 0; out_all = pairwise_all (λ n m. long_copy (suc k) m a n) rs _ }

  long_reading : (r : Reading) → KeepsReading (ScopesLong 0) r
  unfolding KeepsReading ScopesLong reading_taken
  long_reading r s h ws e =
      let q = demanded (in_range_of (counts_hundredths s.store r) r.number) overflow _ ws e in
      assigned_long s.store r.variable (reading_value (counts_hundredths s.store r) r.number) ws q.1 ∙ h

  readings_long : (readings : List Reading) (budget : ℕ) → ScopesLong 0 (take_readings 0 readings (started p budget))
  readings_long readings budget =
      readings_keep (ScopesLong 0) (long_family.stable 0) 0 readings (every_all long_reading readings) (started p budget)
      (unfold ScopesLong started begun in length-map p.declarations unfilled)

  -- with another property beside it
  with_long : (F : ℕ → State → Type 0) → Family p.procedures F → ((a : ℕ) → Everywhere (Keeps F a) (scope_program p a)) → (readings : List Reading) (budget : ℕ)
      → F 0 (take_readings 0 readings (started p budget)) → Done (Both F ScopesLong) 0 (run p readings budget)
  unfolding run
  with_long F family keeps readings budget h =
      let ps = p.procedures in
      let B = Both F ScopesLong in
      let fam = family_both F ScopesLong family long_family in
      let each : (a : ℕ) → Everywhere (Keeps (Both F ScopesLong) a) (scope_program p a) =
      λ a. everywhere_implies (keeps_both F ScopesLong a) (everywhere_both (scope_program p a) (keeps a) (everywhere_all (long_keeps a) (scope_program p a))) in
      exec_keeps B ps fam 0 (called assigned exec ps most_calls) (called_keeps B ps fam (λ k. each (suc k)) most_calls 0) p.program (each 0)
      (take_readings 0 readings (started p budget)) (h, readings_long readings budget)

  pub run_length : WellMadeProfile p → (readings : List Reading) (budget : ℕ) → length (last_state (run p readings budget)).store ≡ length p.declarations
  unfolding ScopesLong
  run_length made readings budget = (kept_long made readings budget).last.1
    where
      kept_long : WellMadeProfile p → (readings : List Reading) (budget : ℕ) → Done (Both (ScopesKept p) ScopesLong) 0 (run p readings budget)
      kept_long made readings budget =
          with_long (ScopesKept p) (kept_family p made) (λ a. everywhere_implies (well_made_keeps p a) (made a).instructions) readings budget (unfold ScopesKept in readings_kept p made readings budget)

-- ---- a variable's part of the memory, and its two state words
-- the contents take at most 64 cells each
unfoldable pub ContentsFit : List Variable → Type 0
ContentsFit vs = (n : ℕ) → length (content_cells (variable_at vs n).content) ≤ body_cells

pub cells_at : (vs : List Variable) → ContentsFit vs → (n : ℕ) → n < length vs
    → take body_cells (drop (body_cells * n) (cells_in vs)) ≡ pad body_cells (pos 0) (content_cells (variable_at vs n).content)
unfolding ContentsFit
cells_at vs h n l = lent_cells vs n l (every_by no_variable vs (λ k m. h k))

pub states_at : (vs : List Variable) (n : ℕ) → n < length vs
    → (flag_at (states_in vs) n ≡ filled_flag (variable_at vs n).content) × (yoke_at (states_in vs) n ≡ yoke_number (variable_at vs n).yoke)
states_at vs n l = (flag_at_lem vs n l, yoke_at_lem vs n l)

-- ---- the statements; rows are the profile's, ds the declarations of a scope
-- variable n's cells hold a value of a body, and the yoke that its state word names gives true on it, whatever the variables hold; the value
-- lies within the limit
pub record HoldsBody (rows : List ℕ) (ds : List Declaration) (cells : List ℤ) (states : List ℕ) (n : ℕ) (b : Body) : Type 0 where
  pub value : Value
  pub fits : Fits value b
  pub in_cells : take body_cells (drop (body_cells * n) cells) ≡ pad body_cells (pos 0) (cells_of b value)
  pub satisfied : (vars : Variables) → eval_yoke (yoke_tree rows (yoke_at states n)) vars (composite b value) ≡ ok (boolean_of true)
  pub limited : within (variable_at (map unfilled ds) n).limit (as_whole value) ≡ true

-- of its declared body
abbrev pub HoldsValue : List ℕ → List Declaration → List ℤ → List ℕ → ℕ → Type 0
HoldsValue rows ds cells states n = HoldsBody rows ds cells states n (bodies_of ds n)

-- of the body that its 96 bytes say, which is well-formed, and the declared one unless that is a record
pub record HoldsPresent (rows : List ℕ) (ds : List Declaration) (cells : List ℤ) (states bodies : List ℕ) (n : ℕ) : Type 0 where
  pub body : Body
  pub in_bytes_lem : take body_bytes (drop (body_bytes * n) bodies) ≡ encoded body
  pub formed : WellFormed body
  pub unless_record : attributes_of (bodies_of ds n) ≡ none → body ≡ bodies_of ds n
  pub holds : HoldsBody rows ds cells states n body

-- what the memory says of each declared variable: where its flag is 1, that of its value; where it is 0, its declared body
pub record PresentHold (rows : List ℕ) (ds : List Declaration) (cells : List ℤ) (states bodies : List ℕ) : Type 0 where
  pub filled : (n : ℕ) → n < length ds → flag_at states n ≡ 1 → HoldsPresent rows ds cells states bodies n
  pub unfilled : (n : ℕ) → n < length ds → flag_at states n ≡ 0 → take body_bytes (drop (body_bytes * n) bodies) ≡ encoded (bodies_of ds n)

filled_some : (c : Option Composite) → filled_flag c ≡ 1 → (x : Composite) × (c ≡ some x)
filled_some none e = absurd (let z : ⊥ = omega arith in z)
filled_some (some x) e = (x, refl)

unfilled_none : (c : Option Composite) → filled_flag c ≡ 0 → c ≡ none
unfilled_none none e = refl
unfilled_none (some x) e = absurd (let z : ⊥ = omega arith in z)

-- ---- one store in its memory
-- what is known of the variables of a scope at the end of a run
pub record Known (rows : List ℕ) (ds : List Declaration) (vs : List Variable) : Type 0 where
  pub kept : StoreKept (map unfilled ds) vs
  pub long : length vs ≡ length ds
  pub named : AllNamed rows vs
  pub formed : ContentsFormed (contents vs)
  pub declared : (n : ℕ) → WellFormed (bodies_of ds n)

module _ (rows : List ℕ) (ds : List Declaration) (vs : List Variable) (known : Known rows ds vs) where
  filled_well : (n : ℕ) (x : Composite) → contents vs n ≡ some x → FilledWell ds n (variable_at vs n) x
  filled_well n x e = kept_well ds vs known.kept n x e

  filled_formed : (n : ℕ) (x : Composite) → contents vs n ≡ some x → WellFormed x.body
  unfolding ContentsFormed
  filled_formed n x e = known.formed n x e

  contents_fit : ContentsFit vs
  unfolding ContentsFit content_cells
  contents_fit n = by (contents vs n) refl
    where
      by : (c : Option Composite) → contents vs n ≡ c → length (content_cells c) ≤ body_cells
      by none e = omega arith
      by (some x) e = omega (arith, length_cells (filled_well n x e).fits, (formed_bounds (filled_formed n x e)).few_cells)

  -- a variable that is not filled has its declared body
  own_body : (n : ℕ) → (variable_at vs n).body ≡ bodies_of ds n
  own_body n = kept_body ds vs known.kept n

  present_formed : (n : ℕ) → WellFormed (present_body (variable_at vs n))
  present_formed n = by (contents vs n) refl
    where
      by : (c : Option Composite) → contents vs n ≡ c → WellFormed (present_of (variable_at vs n).body c)
      by none e = formed_as (sym (own_body n)) (known.declared n)
      by (some x) e = filled_formed n x e

  pub known_bounded : length ds ≤ most_variables → Bounded vs
  unfolding ContentsFit
  known_bounded few =
      record { few = omega (arith, known.long); small = every_by no_variable vs (λ k m. contents_fit k); compact = every_by no_variable vs (λ k m. (formed_bounds (present_formed k)).few_nodes) }

  bytes_at_lem : (n : ℕ) → n < length vs → take body_bytes (drop (body_bytes * n) (bodies_in vs)) ≡ encoded (present_body (variable_at vs n))
  bytes_at_lem n l = bodies_at vs n l (every_by no_variable vs (λ k m. (formed_bounds (present_formed k)).few_nodes))

  -- the current yoke is the one that the state word names
  yoke_is : (n : ℕ) → n < length vs → (variable_at vs n).yoke ≡ yoke_tree rows (yoke_at (states_in vs) n)
  yoke_is n l = (known.named n).is ∙ ap (yoke_tree rows) (sym (states_at vs n l).1)

  inside : (n : ℕ) → n < length ds → n < length vs
  inside n l = omega (arith, known.long)

  -- what the flag says
  pub content_is : (n : ℕ) → n < length ds → flag_at (states_in vs) n ≡ 1 → (x : Composite) × (contents vs n ≡ some x)
  content_is n l e = filled_some (contents vs n) (sym (states_at vs n (inside n l)).0 ∙ e)

  pub filled_holds : (n : ℕ) → n < length ds → (x : Composite) → contents vs n ≡ some x → HoldsBody rows ds (cells_in vs) (states_in vs) n x.body
  unfolding content_cells
  filled_holds n l x f =
      let m = inside n l in
      let k = filled_well n x f in
      record {
        value = x.value;
        fits = k.fits;
        in_cells = cells_at vs contents_fit n m ∙ ap (λ (c : Option Composite). pad body_cells (pos 0) (content_cells c)) f;
        satisfied = λ vars. ap (λ (y : Yoke). eval_yoke y vars x) (sym (yoke_is n m)) ∙ k.satisfied vars;
        limited = k.limited;
      }

  pub known_holds : PresentHold rows ds (cells_in vs) (states_in vs) (bodies_in vs)
  known_holds =
      record {
        filled = λ n l e.
            let f = content_is n l e in
            record {
              body = f.0.body;
              in_bytes_lem = bytes_at_lem n (inside n l) ∙ ap (λ (c : Option Composite). encoded (present_of (variable_at vs n).body c)) f.1;
              formed = filled_formed n f.0 f.1;
              unless_record = (filled_well n f.0 f.1).unless_record;
              holds = filled_holds n l f.0 f.1;
            };
        unfilled = λ n l e.
            bytes_at_lem n (inside n l)
            ∙ ap (λ (c : Option Composite). encoded (present_of (variable_at vs n).body c)) (unfilled_none (contents vs n) (sym (states_at vs n (inside n l)).0 ∙ e))
            ∙ ap encoded (own_body n);
      }

-- ---- all scopes of an accepted profile
module _ (rows : List ℕ) (accepted : AcceptedRows rows) (lims : List ℕ) where
  pub scope_few : (a : ℕ) → length (scope_declarations (profile_of rows lims) a) ≤ most_variables
  scope_few a =
      ⊎_elim (λ (l : procedure_count rows < a). let e : length (scope_declarations (profile_of rows lims) a) ≡ 0 = ap (λ (ds : List Declaration). length ds) (scope_empty rows lims a l) in omega (arith, e))
      (λ (l : a ≤ procedure_count rows). omega (arith, scope_length rows lims a l, few_variables rows accepted a l))
      (below_or (procedure_count rows) a)

  -- ---- the end of a run: what each open call is, and that no more is known of one than of its procedure
  pub record OpenKnown (vs : List Variable) : Type 0 where
    pub procedure : ℕ
    pub known : Known rows (scope_declarations (profile_of rows lims) (suc procedure)) vs

  module _ (readings : List Reading) (budget : ℕ) where
    abbrev ending : List Variable
    ending = (last_state (run (profile_of rows lims) readings budget)).store

    kept_long : Done (Both (ScopesKept (profile_of rows lims)) (ScopesLong (profile_of rows lims))) 0 (run (profile_of rows lims) readings budget)
    kept_long =
        let p = profile_of rows lims in
        let made = profile_well_made rows accepted lims in
        with_long p (ScopesKept p) (kept_family p made) (λ a. everywhere_implies (well_made_keeps p a) (made a).instructions) readings budget (unfold ScopesKept in readings_kept p made readings budget)

    pub end_known : Known rows (profile_of rows lims).declarations ending
    end_known =
        record { kept = (unfold ScopesKept StateKept in kept_long.last.0); long = (unfold ScopesLong in kept_long.last.1); named = run_named rows lims readings budget; formed = run_formed rows accepted lims readings budget; declared = scope_bodies_formed rows accepted lims 0 }

    -- of three facts of each open call
    all_known : (os : List (List Variable)) → Every (Frame (Both (ScopesKept (profile_of rows lims)) (ScopesLong (profile_of rows lims)))) os → Every (AllNamed rows) os → Every (λ vs. ContentsFormed (contents vs)) os → Every OpenKnown os
    all_known [] every_none every_none every_none = every_none
    all_known (vs ∷ os) (every_more f fs) (every_more n ns) (every_more m ms) =
        every_more
        (record { procedure = f.procedure; known = record { kept = subst (StoreKept (scope_store (profile_of rows lims) (suc f.procedure))) f.is (unfold ScopesKept StateKept in f.has.0); long = subst (λ (us : List Variable). length us ≡ length (scope_declarations (profile_of rows lims) (suc f.procedure))) f.is (unfold ScopesLong in f.has.1); named = n; formed = m; declared = scope_bodies_formed rows accepted lims (suc f.procedure) } })
        (all_known os fs ns ms)

    pub open_known : Every OpenKnown (open_calls (run (profile_of rows lims) readings budget))
    open_known = all_known (open_calls (run (profile_of rows lims) readings budget)) kept_long.opens (open_named rows lims readings budget) (open_formed rows accepted lims readings budget)

    pub end_bounded : Bounded ending
    end_bounded = known_bounded rows (profile_of rows lims).declarations ending end_known (scope_few 0)

    pub open_bounded : Every Bounded (open_calls (run (profile_of rows lims) readings budget))
    open_bounded =
        every_implies (λ vs (k : OpenKnown vs). known_bounded rows (scope_declarations (profile_of rows lims) (suc k.procedure)) vs k.known (scope_few (suc k.procedure))) open_known

-- ---- every accepted pair of files, whether or not the type check passes it, with any readings, at every budget
abbrev pub last_run : List ℕ → List ℕ → List Reading → ℕ → Progress
last_run prof lims readings budget = run (profile_of (rows_of prof) (rows_of lims)) readings budget

abbrev pub last_store : List ℕ → List ℕ → List Reading → ℕ → List Variable
last_store prof lims readings budget = (last_state (last_run prof lims readings budget)).store

abbrev pub last_open : List ℕ → List ℕ → List Reading → ℕ → List (List Variable)
last_open prof lims readings budget = open_calls (last_run prof lims readings budget)

-- call j's part of the second area, and of the present bodies, which the profile's come before
abbrev pub call_cells_at : List ℤ → ℕ → List ℤ
call_cells_at cells j = take cells_length (drop (cells_length * j) cells)

abbrev pub call_states_at : List ℕ → ℕ → List ℕ
call_states_at states j = take states_length (drop (states_length * j) states)

abbrev pub call_bodies_at : List ℕ → ℕ → List ℕ
call_bodies_at bodies j = take variable_bodies_length (drop (variable_bodies_length * suc j) bodies)

-- what is said of the open calls: they are calls of these procedures, the oldest first, and behind them all is zero. H says what holds of a
-- call's variables, which its procedure declares, and of its memory; no other variable is filled
pub record OpenHold (p : Profile) (H : List Declaration → List ℤ → List ℕ → List ℕ → Type 0) (cells : List ℤ) (states bodies : List ℕ) : Type 0 where
  pub procedures : List ℕ
  pub few : length procedures ≤ most_calls
  pub each : (j : ℕ) → j < length procedures → H (scope_declarations p (suc (get_or procedures j 0))) (call_cells_at cells j) (call_states_at states j) (call_bodies_at bodies j)
  pub only : (j : ℕ) → j < length procedures → (n : ℕ) → flag_at (call_states_at states j) n ≡ 1 → n < length (scope_declarations p (suc (get_or procedures j 0)))
  pub zero_cells : drop (cells_length * length procedures) cells ≡ replicate (open_cells_length - cells_length * length procedures) (pos 0)
  pub zero_states : drop (states_length * length procedures) states ≡ replicate (open_states_length - states_length * length procedures) 0
  pub zero_bodies : drop (variable_bodies_length * suc (length procedures)) bodies ≡ replicate (open_bodies_length - variable_bodies_length * length procedures) 0

-- the procedures of open calls
called_from : {P : List Variable → ℕ → Type 0} (os : List (List Variable)) → Every (λ vs. (k : ℕ) × P vs k) os → List ℕ
called_from [] every_none = []
called_from (vs ∷ os) (every_more h hs) = h.0 ∷ called_from os hs

called_length : {P : List Variable → ℕ → Type 0} (os : List (List Variable)) (h : Every (λ vs. (k : ℕ) × P vs k) os) → length (called_from os h) ≡ length os
unfolding called_from
called_length [] every_none = refl
called_length (vs ∷ os) (every_more h hs) = ap suc (called_length os hs)

called_at : {P : List Variable → ℕ → Type 0} (os : List (List Variable)) (h : Every (λ vs. (k : ℕ) × P vs k) os) (j : ℕ) → j < length os → P (get_or os j []) (get_or (called_from os h) j 0)
unfolding called_from
called_at [] every_none j l = absurd (let z : ⊥ = omega arith in z)
called_at (vs ∷ os) (every_more h hs) zero l = h.1
called_at (vs ∷ os) (every_more h hs) (suc j) l = called_at os hs j (omega arith)

-- a flag behind the variables is not set
flag_inside : (vs : List Variable) (n : ℕ) → flag_at (states_in vs) n ≡ 1 → n < length vs
flag_inside vs n e = ⊎_elim (λ (l : n < length vs). l) (λ (l : length vs ≤ n). absurd (let z : flag_at (states_in vs) n ≡ 0 = flag_behind vs n l in let y : ⊥ = omega arith in y)) (below_or n (length vs))

-- ---- open calls in the second area, of a scope by scope property
module _ (p : Profile) (own : List Variable) (os : List (List Variable)) (ownBounded : Bounded own) (bounded : Every Bounded os) (shallow : length os ≤ most_calls)
    (H : List Declaration → List ℤ → List ℕ → List ℕ → Type 0)
    (holds : Every (λ vs. (k : ℕ) × ((length vs ≡ length (scope_declarations p (suc k))) × H (scope_declarations p (suc k)) (cells_in vs) (states_in vs) (bodies_in vs))) os) where
  pub open_hold : OpenHold p H (open_cells_in os) (open_states_in os) (present_in own os)
  unfolding open_cells_in open_states_in
  open_hold =
      let ks = called_from os holds in
      let same : length ks ≡ length os = called_length os holds in
      record {
        procedures = ks;
        few = omega (arith, same);
        each = λ j l.
            let m : j < length os = omega (arith, same) in
            let h = (called_at os holds j m).1 in
            in_place (scope_declarations p (suc (get_or ks j 0))) (get_or os j []) _ _ _ (sym (open_cells_at os bounded j m)) (sym (open_states_at os bounded j m)) (sym (present_open own os ownBounded bounded j m)) h;
        only = λ j l n e.
            let m : j < length os = omega (arith, same) in
            let w = flag_inside (get_or os j []) n (sym (ap (λ (states : List ℕ). flag_at states n) (open_states_at os bounded j m)) ∙ e) in
            omega (arith, (called_at os holds j m).0);
        zero_cells = rw same (behind_padded open_cells_length (pos 0) (call_cells os) (cells_length * length os) (length_call_cells os bounded));
        zero_states = rw same (behind_padded open_states_length 0 (call_states os) (states_length * length os) (length_call_states os bounded));
        zero_bodies = rw same (bodies_behind own os ownBounded bounded);
      }
    where
      in_place : (ds : List Declaration) (vs : List Variable) (cells : List ℤ) (states bodies : List ℕ) → cells_in vs ≡ cells → states_in vs ≡ states → bodies_in vs ≡ bodies
          → H ds (cells_in vs) (states_in vs) (bodies_in vs) → H ds cells states bodies
      in_place ds vs cells states bodies c t b h = subst (λ (x : List ℕ). H ds cells states x) b (subst (λ (x : List ℕ). H ds cells x (bodies_in vs)) t (subst (λ (x : List ℤ). H ds x (states_in vs) (bodies_in vs)) c h))

module _ (prof lims : List ℕ) (e : lowest (pair_rules prof lims) ≡ 0) (readings : List Reading) (budget : ℕ) where
  abbrev profile_read : Profile
  profile_read = profile_of (rows_of prof) (rows_of lims)

  pub accepted_bodies : take variable_bodies_length (present_in (last_store prof lims readings budget) (last_open prof lims readings budget)) ≡ bodies_in (last_store prof lims readings budget)
  accepted_bodies = present_own (last_store prof lims readings budget) (last_open prof lims readings budget) (end_bounded (rows_of prof) (accepted_pair prof lims e) (rows_of lims) readings budget)

  pub accepted_memory : PresentHold (rows_of prof) (profile_of (rows_of prof) (rows_of lims)).declarations (cells_in (last_store prof lims readings budget)) (states_in (last_store prof lims readings budget))
      (take variable_bodies_length (present_in (last_store prof lims readings budget) (last_open prof lims readings budget)))
  accepted_memory =
      subst (λ (bodies : List ℕ). PresentHold (rows_of prof) (profile_of (rows_of prof) (rows_of lims)).declarations (cells_in (last_store prof lims readings budget)) (states_in (last_store prof lims readings budget)) bodies) (sym accepted_bodies)
      (known_holds (rows_of prof) (profile_of (rows_of prof) (rows_of lims)).declarations (last_store prof lims readings budget) (end_known (rows_of prof) (accepted_pair prof lims e) (rows_of lims) readings budget))

  -- the same of each open call
  pub open_memory : OpenHold (profile_of (rows_of prof) (rows_of lims)) (PresentHold (rows_of prof)) (open_cells_in (last_open prof lims readings budget)) (open_states_in (last_open prof lims readings budget))
      (present_in (last_store prof lims readings budget) (last_open prof lims readings budget))
  open_memory =
      let rows = rows_of prof in
      let a = accepted_pair prof lims e in
      let p = profile_of (rows_of prof) (rows_of lims) in
      open_hold p (last_store prof lims readings budget) (last_open prof lims readings budget) (end_bounded rows a (rows_of lims) readings budget) (open_bounded rows a (rows_of lims) readings budget)
      (run_shallow p readings budget) (PresentHold rows)
      (every_implies (λ vs (k : OpenKnown rows a (rows_of lims) vs). (k.procedure, (k.known.long, known_holds rows (scope_declarations p (suc k.procedure)) vs k.known))) (open_known rows a (rows_of lims) readings budget))

-- ---- a pair that the type check passes keeps every declared body
-- each variable whose flag is 1 holds a value of its declared body; the bytes of the bodies are those of the declared ones
pub record ValuesHold (rows : List ℕ) (ds : List Declaration) (cells : List ℤ) (states bodies : List ℕ) : Type 0 where
  pub values : (n : ℕ) → n < length ds → flag_at states n ≡ 1 → HoldsValue rows ds cells states n
  pub declared : bodies ≡ bodies_in (map unfilled ds)

module _ (rows : List ℕ) (ds : List Declaration) (vs : List Variable) (known : Known rows ds vs) (fit : VariablesFit (bodies_of ds) (contents vs)) (fresh : StoreKept (map unfilled ds) (map unfilled ds)) where
  pub known_values : ValuesHold rows ds (cells_in vs) (states_in vs) (bodies_in vs)
  unfolding VariablesFit
  known_values =
      record {
        values = λ n l q.
            let f = content_is rows ds vs known n l q in
            subst (λ (b : Body). HoldsBody rows ds (cells_in vs) (states_in vs) n b) (fit n f.0 f.1).0 (filled_holds rows ds vs known n l f.0 f.1);
        declared =
            bodies_same vs (map unfilled ds) (known.long ∙ sym (length-map ds unfilled))
            (λ n l. present_declared ds vs known.kept fit n ∙ sym (present_declared ds (map unfilled ds) fresh (start_fit ds) n));
      }

module _ (prof lims : List ℕ) (e : lowest (pair_rules prof lims) ≡ 0) (es : List Entry) (passed : check_profile (profile_of (rows_of prof) (rows_of lims)) ≡ ok es)
    (readings : List Reading) (numeric : Every (λ r. is_quantity_variable (rows_of prof) r.variable ≡ true) readings) (budget : ℕ) where
  typed_long : Done (Both (ScopesTyped Anything (profile_of (rows_of prof) (rows_of lims))) (ScopesLong (profile_of (rows_of prof) (rows_of lims)))) 0 (last_run prof lims readings budget)
  typed_long =
      let rows = rows_of prof in
      let a = accepted_pair prof lims e in
      let p = profile_of rows (rows_of lims) in
      let made = profile_well_made rows a (rows_of lims) in
      let typed = profile_derives rows a (rows_of lims) es passed (anything es) in
      with_long p (ScopesTyped Anything p) (typed_family p made typed) (program_keeps p made typed) readings budget
      (unfold ScopesTyped in readings_typed p made typed readings (every_implies (reads_quantity rows (rows_of lims)) numeric) budget)

  fresh_kept : (a : ℕ) → StoreKept (scope_store (profile_of (rows_of prof) (rows_of lims)) a) (scope_store (profile_of (rows_of prof) (rows_of lims)) a)
  fresh_kept a = start_kept (profile_well_made (rows_of prof) (accepted_pair prof lims e) (rows_of lims) a).yokes

  pub passed_memory : ValuesHold (rows_of prof) (profile_of (rows_of prof) (rows_of lims)).declarations (cells_in (last_store prof lims readings budget)) (states_in (last_store prof lims readings budget))
      (bodies_in (last_store prof lims readings budget))
  passed_memory =
      known_values (rows_of prof) (profile_of (rows_of prof) (rows_of lims)).declarations (last_store prof lims readings budget) (end_known (rows_of prof) (accepted_pair prof lims e) (rows_of lims) readings budget)
      (unfold ScopesTyped in typed_long.last.0.fit) (fresh_kept 0)

  -- of four facts of each open call
  all_typed : (os : List (List Variable)) → Every (Frame (Both (ScopesTyped Anything (profile_of (rows_of prof) (rows_of lims))) (ScopesLong (profile_of (rows_of prof) (rows_of lims))))) os
      → Every (AllNamed (rows_of prof)) os → Every (λ vs. ContentsFormed (contents vs)) os
      → Every (λ vs. (k : ℕ) × ((length vs ≡ length (scope_declarations (profile_of (rows_of prof) (rows_of lims)) (suc k))) × ValuesHold (rows_of prof) (scope_declarations (profile_of (rows_of prof) (rows_of lims)) (suc k)) (cells_in vs) (states_in vs) (bodies_in vs))) os
  all_typed [] every_none every_none every_none = every_none
  all_typed (vs ∷ os) (every_more f fs) (every_more n ns) (every_more m ms) = every_more (one vs f n m) (all_typed os fs ns ms)
    where
      one : (vs : List Variable) → Frame (Both (ScopesTyped Anything (profile_of (rows_of prof) (rows_of lims))) (ScopesLong (profile_of (rows_of prof) (rows_of lims)))) vs → AllNamed (rows_of prof) vs → ContentsFormed (contents vs)
          → (k : ℕ) × ((length vs ≡ length (scope_declarations (profile_of (rows_of prof) (rows_of lims)) (suc k))) × ValuesHold (rows_of prof) (scope_declarations (profile_of (rows_of prof) (rows_of lims)) (suc k)) (cells_in vs) (states_in vs) (bodies_in vs))
      one vs f n m =
          let p = profile_of (rows_of prof) (rows_of lims) in
          let k = f.procedure in
          let ds = scope_declarations p (suc k) in
          let typed : StateTyped Anything (scope_declarations p (suc k)) f.state = (unfold ScopesTyped in f.has.0) in
          let long : length vs ≡ length ds = subst (λ (us : List Variable). length us ≡ length ds) f.is (unfold ScopesLong in f.has.1) in
          let kept : StoreKept (map unfilled ds) vs = subst (StoreKept (map unfilled ds)) f.is typed.kept in
          let fit : VariablesFit (bodies_of ds) (contents vs) = subst (λ (us : List Variable). VariablesFit (bodies_of ds) (contents us)) f.is typed.fit in
          (k, (long, known_values (rows_of prof) ds vs (record { kept = kept; long = long; named = n; formed = m; declared = scope_bodies_formed (rows_of prof) (accepted_pair prof lims e) (rows_of lims) (suc k) }) fit (fresh_kept (suc k))))

  pub passed_open : OpenHold (profile_of (rows_of prof) (rows_of lims)) (ValuesHold (rows_of prof)) (open_cells_in (last_open prof lims readings budget)) (open_states_in (last_open prof lims readings budget))
      (present_in (last_store prof lims readings budget) (last_open prof lims readings budget))
  passed_open =
      let rows = rows_of prof in
      let a = accepted_pair prof lims e in
      let p = profile_of (rows_of prof) (rows_of lims) in
      open_hold p (last_store prof lims readings budget) (last_open prof lims readings budget) (end_bounded rows a (rows_of lims) readings budget) (open_bounded rows a (rows_of lims) readings budget)
      (run_shallow p readings budget) (ValuesHold rows)
      (all_typed (last_open prof lims readings budget) typed_long.opens (open_named rows (rows_of lims) readings budget) (open_formed rows a (rows_of lims) readings budget))
