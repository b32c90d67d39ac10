-- Demand 3 of document 01 about what two calls gave, the checked run's and the erased run's, each with its own lent memory: one claim
-- (`TwoRuns`) over all passed pairs of files, all readings and all budgets. The calls' contracts give it, and nothing else is asked of them:
-- `two_runs`, and `demand_3` with what it supposes on the claim's side. Of the checked run alone the invariant holds for every accepted
-- pair: `checked_holds`. Assumes nothing.
use Rattle.std.specs.Prelude.{◌≡◌, Bool, true, not, ◌&&◌, List, [], ◌∷◌, ◌++◌, eqb, length, take}
use Rattle.std.proofs.Math.Path.{refl, sym, ap, subst}
use Rattle.std.proofs.Common.{◌∙◌, arith, eq-eqb}
use Prim.Native.Nat.{ℕ, zero, suc, ◌<◌}
use Rattle.lingua.specs.Numbers.{cells_length, states_length, variable_bodies_length, open_cells_length, open_states_length, present_bodies_length, layout_length}
use Rattle.lingua.specs.Errors.{bad_buffer, type_error_found}
use Rattle.lingua.specs.Outcome.{Outcome, ok, is_ok}
use Rattle.lingua.specs.Store.{present_in}
use Rattle.lingua.specs.Run.{last_state, open_calls}
use Rattle.lingua.specs.Typing.{TypeError, Entry, check_profile, layout_of}
use Rattle.lingua.specs.Meets.{run_met}
use Rattle.lingua.specs.Trees.{profile_of}
use Rattle.lingua.specs.Format.{rows_of}
use Rattle.lingua.specs.Inputs.{Inputs, Buffers}
use Rattle.lingua.specs.Refusal.{rule, lowest, pair_rules, type_check_refusal, run_fits, run_rules, run_refusal, checked_refusal, erased_refusal}
use Rattle.lingua.specs.Answers.{refused}
use Rattle.lingua.specs.Calls.{CheckedCall, ErasedCall, readings_of, registers_of, ran, run_of, with_bodies, checked_unless, checked_call, with_layout, erased_unless, erased_call, type_check_verdict, type_check_unless, type_check_call}
use Rattle.laws.specs.Refusals.{lowest_skip}
use Rattle.safety.specs.RunErrors.{RunErrors}
use Rattle.safety.specs.RunRules.{none_refuses, passed_refuse}
use Rattle.safety.specs.Passed.{accepted_safe, rules_readings}
use Rattle.safety.specs.Recorded.{NoTypeError, accepted_error}
use Rattle.safety.specs.Memory.{PresentHold, OpenHold, ValuesHold, accepted_memory, accepted_bodies, open_memory, passed_memory, passed_open}

-- ---- what the claim supposes
-- a pair of files passes: no rule refuses it, and the type check finds no error
pub record Passes (prof lims : List ℕ) : Type 0 where
  pub accepted : lowest (pair_rules prof lims) ≡ 0
  pub entries : List Entry
  pub checked : check_profile (profile_of (rows_of prof) (rows_of lims)) ≡ ok entries

-- the buffers of both calls have the listed lengths; primed is the erased run's
pub record ListedLengths (b : Buffers) (bodies : List ℕ) (b' : Buffers) (layout : List ℕ) : Type 0 where
  pub cells_are : length b.cells ≡ cells_length
  pub states_are : length b.states ≡ states_length
  pub open_cells_are : length b.open_cells ≡ open_cells_length
  pub open_states_are : length b.open_states ≡ open_states_length
  pub bodies_are : length bodies ≡ present_bodies_length
  pub cells'_are : length b'.cells ≡ cells_length
  pub states'_are : length b'.states ≡ states_length
  pub open_cells'_are : length b'.open_cells ≡ open_cells_length
  pub open_states'_are : length b'.open_states ≡ open_states_length
  pub layout_is : length layout ≡ layout_length

-- ---- the claim
-- each of the profile's variables whose flag is 1 holds a value of its declared body, satisfies its current yoke and lies within the limits; so
-- do those of each open call, of one of the profile's procedures, and behind the open calls all is zero. The present bodies are the checked
-- run's: all are the declared ones
pub record FilledHold (i : Inputs) (b : Buffers) (bodies : List ℕ) : Type 0 where
  pub own : ValuesHold (rows_of i.profile) (profile_of (rows_of i.profile) (rows_of i.limits)).declarations b.cells b.states (take variable_bodies_length bodies)
  pub opens : OpenHold (profile_of (rows_of i.profile) (rows_of i.limits)) (ValuesHold (rows_of i.profile)) b.open_cells b.open_states bodies

module _ (i : Inputs) (budget : ℕ) (b : Buffers) (bodies : List ℕ) (c : CheckedCall) (b' : Buffers) (layout : List ℕ) (d : ErasedCall) where
  -- one number refuses both, and each leaves its own memory as it was
  pub record BothRefused : Type 0 where
    pub number : ℕ
    pub refuses : checked_refusal i b bodies ≡ number
    pub some : 0 < number
    pub checked : c ≡ record { answer = refused number; registers = b; bodies = bodies }
    pub erased : d ≡ record { answer = refused number; registers = b'; layout = layout }

  -- neither is refused
  pub record BothRan : Type 0 where
    pub refuses_none : checked_refusal i b bodies ≡ 0
    -- alike in end, error, place and steps, and in all cells and state words, those of the open calls included
    pub same_answer : d.answer ≡ c.answer
    pub same_registers : d.registers ≡ c.registers
    -- each is the definition's run, whatever its memory held, and the erased run leaves the type check's layout table
    pub entries : List Entry
    pub passed : check_profile (profile_of (rows_of i.profile) (rows_of i.limits)) ≡ ok entries
    pub checked : c ≡ with_bodies (ran budget (run_of i budget)) (present_in (last_state (run_of i budget)).store (open_calls (run_of i budget)))
    pub erased : d ≡ with_layout (ran budget (run_of i budget)) (layout_of entries)
    pub layout_as_checked : d.layout ≡ (type_check_call i.profile i.limits layout).layout
    -- no type error is met, and none recorded
    pub meets : RunErrors (run_met (profile_of (rows_of i.profile) (rows_of i.limits)) (readings_of i.variables i.numbers) budget)
    pub recorded : NoTypeError (last_state (run_of i budget)).error
    -- what is filled in either memory; no variable has another body than the declared one
    pub checked_filled : FilledHold i c.registers c.bodies
    pub erased_filled : FilledHold i d.registers c.bodies

  -- document 01: both runs are refused by the same number, or neither is
  pub data TwoRuns : Type 0 where
    both_refused : BothRefused → TwoRuns
    both_ran : BothRan → TwoRuns

  -- the claim with what it supposes: a promise for any two calls of the code
  pub record Demand3 : Type 0 where
    pub claim : Passes i.profile i.limits → ListedLengths b bodies b' layout → TwoRuns

-- ---- one number refuses both
-- rule 1 does not apply to present bodies of the listed length
pub checked_shares : (i : Inputs) (b : Buffers) (bodies : List ℕ) → length bodies ≡ present_bodies_length → checked_refusal i b bodies ≡ run_refusal i b
unfolding checked_refusal run_refusal
checked_shares i b bodies l = ap (λ (t : Bool). lowest (run_rules (t && run_fits i b) i)) (eq-eqb (length bodies) present_bodies_length l)

-- rule 17 does not apply to a pair that passes, nor rule 1 to a layout table of the listed length
pub erased_shares : (i : Inputs) (b : Buffers) (layout : List ℕ) → length layout ≡ layout_length
    → (es : List Entry) → check_profile (profile_of (rows_of i.profile) (rows_of i.limits)) ≡ ok es → erased_refusal i b layout ≡ run_refusal i b
unfolding erased_refusal run_refusal
erased_shares i b layout l es e =
    ap (λ (t : Bool). lowest (run_rules (t && run_fits i b) i ++ (rule type_error_found (not (is_ok (check_profile (profile_of (rows_of i.profile) (rows_of i.limits))))) ∷ []))) (eq-eqb (length layout) layout_length l)
    ∙ passed_refuse i (run_fits i b) _ (ap (λ (o : Outcome TypeError (List Entry)). not (is_ok o)) e)

-- of the registers the rules see the lengths alone, and these are as listed in both
fits_listed : (i : Inputs) (b : Buffers) → length b.cells ≡ cells_length → length b.states ≡ states_length → length b.open_cells ≡ open_cells_length → length b.open_states ≡ open_states_length
    → run_fits i b ≡ (eqb (length i.variables) (length i.numbers) && true && true && true && true)
unfolding run_fits
fits_listed i b c s oc os =
    rw (eq-eqb (length b.cells) cells_length c, eq-eqb (length b.states) states_length s, eq-eqb (length b.open_cells) open_cells_length oc, eq-eqb (length b.open_states) open_states_length os)

same_lengths : (i : Inputs) (b : Buffers) (bodies : List ℕ) (b' : Buffers) (layout : List ℕ) → ListedLengths b bodies b' layout → run_refusal i b ≡ run_refusal i b'
unfolding run_refusal
same_lengths i b bodies b' layout l =
    ap (λ (t : Bool). lowest (run_rules t i))
    (fits_listed i b l.cells_are l.states_are l.open_cells_are l.open_states_are ∙ sym (fits_listed i b' l.cells'_are l.states'_are l.open_cells'_are l.open_states'_are))

-- ---- the layout table of a pair that passes
pub passed_layout : (prof lims layout : List ℕ) (p : Passes prof lims) → length layout ≡ layout_length → (type_check_call prof lims layout).layout ≡ layout_of p.entries
unfolding type_check_call type_check_unless type_check_verdict type_check_refusal
passed_layout prof lims layout p l =
    ap (λ (k : ℕ). (type_check_unless k prof lims layout).layout)
    (lowest_skip bad_buffer (not (eqb (length layout) layout_length)) (pair_rules prof lims) (ap not (eq-eqb (length layout) layout_length l)) ∙ p.accepted)
    ∙ ap (λ (o : Outcome TypeError (List Entry)). (type_check_verdict o).layout) p.checked

-- ---- the claim about the definitions' calls
module _ (i : Inputs) (budget : ℕ) (b : Buffers) (bodies : List ℕ) (b' : Buffers) (layout : List ℕ) (p : Passes i.profile i.limits) (listed : ListedLengths b bodies b' layout) where
  ran_both : checked_refusal i b bodies ≡ 0 → BothRan i budget b bodies (checked_unless 0 i budget b bodies) b' layout (erased_unless 0 i budget b' layout)
  unfolding ran registers_of run_of checked_unless erased_unless
  ran_both z =
      let readings = readings_of i.variables i.numbers in
      let numeric = rules_readings i b (sym (checked_shares i b bodies listed.bodies_are) ∙ z) in
      let own = passed_memory i.profile i.limits p.accepted p.entries p.checked readings numeric budget in
      let same = accepted_bodies i.profile i.limits p.accepted readings budget in
      let filled : FilledHold i (registers_of (run_of i budget)) (present_in (last_state (run_of i budget)).store (open_calls (run_of i budget))) =
      record { own = record { values = own.values; declared = same ∙ own.declared }; opens = passed_open i.profile i.limits p.accepted p.entries p.checked readings numeric budget } in
      record {
        refuses_none = z;
        same_answer = refl;
        same_registers = refl;
        entries = p.entries;
        passed = p.checked;
        checked = refl;
        erased = ap (with_layout (ran budget (run_of i budget))) (passed_layout i.profile i.limits layout p listed.layout_is);
        layout_as_checked = refl;
        meets = accepted_safe i.profile i.limits p.accepted p.entries p.checked readings numeric budget;
        recorded = accepted_error i.profile i.limits p.accepted p.entries p.checked readings numeric budget;
        checked_filled = filled;
        erased_filled = filled;
      }

  by_number : (k : ℕ) → checked_refusal i b bodies ≡ k → TwoRuns i budget b bodies (checked_unless k i budget b bodies) b' layout (erased_unless k i budget b' layout)
  unfolding checked_unless erased_unless
  by_number zero z = both_ran (ran_both z)
  by_number (suc k) z = both_refused (record { number = suc k; refuses = z; some = omega arith; checked = refl; erased = refl })

  calls_agree : TwoRuns i budget b bodies (checked_call i budget b bodies) b' layout (erased_call i budget b' layout)
  unfolding checked_call erased_call
  calls_agree =
      let k : ℕ = checked_refusal i b bodies in
      let same : k ≡ erased_refusal i b' layout =
      checked_shares i b bodies listed.bodies_are
      ∙ same_lengths i b bodies b' layout listed
      ∙ sym (erased_shares i b' layout listed.layout_is p.entries p.checked) in
      subst (λ (j : ℕ). TwoRuns i budget b bodies (checked_unless k i budget b bodies) b' layout (erased_unless j i budget b' layout)) same (by_number k refl)

-- ---- the claim about two calls of the code, by their contracts
module _ (i : Inputs) (budget : ℕ) (b : Buffers) (bodies : List ℕ) (b' : Buffers) (layout : List ℕ) (c : CheckedCall) (d : ErasedCall) where
  pub two_runs : c ≡ checked_call i budget b bodies → d ≡ erased_call i budget b' layout → Passes i.profile i.limits → ListedLengths b bodies b' layout
      → TwoRuns i budget b bodies c b' layout d
  two_runs e e' p listed =
      subst (λ (z : CheckedCall). TwoRuns i budget b bodies z b' layout d) (sym e)
      (subst (λ (z : ErasedCall). TwoRuns i budget b bodies (checked_call i budget b bodies) b' layout z) (sym e')
      (calls_agree i budget b bodies b' layout p listed))

  pub demand_3 : c ≡ checked_call i budget b bodies → d ≡ erased_call i budget b' layout → Demand3 i budget b bodies c b' layout d
  demand_3 e e' = record { claim = two_runs e e' }

-- ---- the invariant about one call of the checked run, by its contract: every accepted pair, whether or not it passes
-- what is said of each declared variable and of those of each open call, where the call is not refused
pub record CheckedHolds (i : Inputs) (b : Buffers) (bodies : List ℕ) (c : CheckedCall) : Type 0 where
  pub holds : checked_refusal i b bodies ≡ 0
      → PresentHold (rows_of i.profile) (profile_of (rows_of i.profile) (rows_of i.limits)).declarations c.registers.cells c.registers.states (take variable_bodies_length c.bodies)
  pub open_holds : checked_refusal i b bodies ≡ 0
      → OpenHold (profile_of (rows_of i.profile) (rows_of i.limits)) (PresentHold (rows_of i.profile)) c.registers.open_cells c.registers.open_states c.bodies

pub checked_holds : (i : Inputs) (budget : ℕ) (b : Buffers) (bodies : List ℕ) (c : CheckedCall) → c ≡ checked_call i budget b bodies → CheckedHolds i b bodies c
unfolding checked_call checked_unless ran registers_of run_of checked_refusal
checked_holds i budget b bodies c e =
    record {
      holds = λ z.
          subst (λ (d : CheckedCall). PresentHold (rows_of i.profile) (profile_of (rows_of i.profile) (rows_of i.limits)).declarations d.registers.cells d.registers.states (take variable_bodies_length d.bodies)) (sym (whole z))
          (accepted_memory i.profile i.limits (none_refuses i _ z).0 (readings_of i.variables i.numbers) budget);
      open_holds = λ z.
          subst (λ (d : CheckedCall). OpenHold (profile_of (rows_of i.profile) (rows_of i.limits)) (PresentHold (rows_of i.profile)) d.registers.open_cells d.registers.open_states d.bodies) (sym (whole z))
          (open_memory i.profile i.limits (none_refuses i _ z).0 (readings_of i.variables i.numbers) budget);
    }
  where
    whole : checked_refusal i b bodies ≡ 0 → c ≡ checked_unless 0 i budget b bodies
    whole z = (unfold checked_call in e) ∙ ap (λ (k : ℕ). checked_unless k i budget b bodies) z
