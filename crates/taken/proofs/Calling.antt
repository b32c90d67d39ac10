-- The ways in which a run of a taken pair ends: refused, or as the run of both files ends. Assumes nothing.
use mathlib.Core.Path.{◌≡◌, refl, sym, ap, ap₂, ◌∙◌, subst}
use mathlib.Core.List.{List, ◌++◌, append-nil}
use Prim.Native.Nat.{ℕ, ◌-◌, ◌≤◌}
use native.Mathlib.Nat.{suc-pred-eq_of_ne-zero}
use native.Mathlib.Omega.{arith}
use lib.IntN.{ℤ}
use lib.ListN.{length, take, drop, length-drop, drop_of_length-le}
use lib.Seq.{drop_at, length-take-le}
use Rattle.lingua.specs.Numbers.{layout_length, present_bodies_length}
use Rattle.lingua.specs.Outcome.{Outcome, ok, fail}
use Rattle.lingua.specs.Store.{Reading, present_in}
use Rattle.lingua.specs.Run.{Progress, run, last_state, open_calls}
use Rattle.lingua.specs.Typing.{TypeError, Entry, check_profile}
use Rattle.lingua.specs.Trees.{profile_of}
use Rattle.lingua.specs.Format.{rows_of}
use Rattle.lingua.specs.Inputs.{Inputs, Buffers}
use Rattle.lingua.specs.Refusal.{run_refusal, checked_refusal, erased_refusal}
use Rattle.std.specs.Prelude.{Result, Ok, Err}
use Rattle.lingua.specs.declared.errors.Refusal.{Refusal}
use Rattle.lingua.specs.declared.errors.Refusal.TheVariants.{BadBuffer, TypeErrorFound}
use Rattle.lingua.specs.Faults.{refusal_number, refusal_of}
use Rattle.lingua.specs.Answers.{RunAnswer, run_meaning}
use Rattle.lingua.specs.declared.RunEnd.{RunEnd}
use Rattle.lingua.specs.Calls.{RunCall, readings_of, ran, run_of, with_bodies, checked_unless, checked_call, with_layout, erased_unless, erased_call, run_result, checked_result, erased_result}
use Rattle.safety.specs.Accepted.{accepted_pair}
use Rattle.safety.specs.Limited.{accepted_limited}
use Rattle.safety.specs.TwoRuns.{checked_shares, passed_layout}
use Rattle.pair.proofs.Returns.{some_refusal}
use Rattle.typecheck.specs.Verdicts.{ConcludesPassed}
use Rattle.run.specs.Reached.{Lent}
use Rattle.frames.specs.Ways.{Way, checked, erased}
use Rattle.frames.specs.Meaning.{HoldsBy}
use Rattle.opening.specs.Meaning.{Setting}
use Rattle.whole_run.specs.Meaning.{Ready, Runs}
use Rattle.taken.specs.Given.{LimitsIn, IsKnown}
use Rattle.taken.specs.declared.given.Admitted.{Admitted}
use Rattle.taken.specs.declared.given.Runnable.{Runnable}
use Rattle.taken.specs.Taken.{RunTaken, RunAdmitted, RunIs}
use Rattle.taken.specs.Ways.{Startable, checked_end, QuantitiesLimited, PassedRows, erased_verdict, erased_rows}
use Rattle.taken.proofs.Refusing.{short_present, short_layout, run_refuses, type_error_refuses, none_refuses}

-- ---- what is taken serves both runs
-- the registers are asked as they are read
pub as_lent : {r : Result Admitted Refusal} {i : Inputs} {read b : Buffers} {others : List ℕ} → read ≡ b → RunIs r i read others → RunIs r i b others
as_lent {r} {i} {others = others} e h = subst (λ (x : Buffers). RunIs r i x others) e h

-- the limits' rows lie where they are looked for
pub limits_lie : {a : Admitted} {i : Inputs} {b : Buffers} {others : List ℕ} → RunAdmitted a i b others → LimitsIn a others
limits_lie h = record { within = h.within_others; tables = rw h.limits h.limit_tables }

module _ {i : Inputs} {b : Buffers} {t : Runnable} (h : RunTaken t i b) where
  -- all that the run of a taken pair's rows asks, besides the length of what is its own
  pub asks : Startable t.rows i.variables i.numbers b × IsKnown t
  asks = (
    rw h.rows (record {
      accepted = accepted_pair i.profile i.limits h.accepted;
      readable = h.readable;
      long_cells = h.long_cells;
      long_states = h.long_states;
      long_open_cells = h.long_open_cells;
      long_open_states = h.long_open_states;
    }),
    rw (h.rows, h.limits) h.is_known,
  )

  pub asks_limited : QuantitiesLimited t.rows t.limits
  asks_limited = rw (h.rows, h.limits) (record { limited = λ n d l q. accepted_limited i.profile i.limits h.accepted n d l q })

-- ---- the checked run
-- the present bodies where a run of its way ended, the profile's and those of the open calls
pub present_left : (w : Way) {s : Setting} (limits : List ℕ) {l o after free : Lent} {rs : List Reading} {budget : ℕ} {r : RunEnd} → Runs w s l o after free rs budget r → Ready w s l o limits
    → w ≡ checked → after.bodies ++ free.bodies ≡ present_in (last_state (run (profile_of s.context.rows limits) rs budget)).store (open_calls (run (profile_of s.context.rows limits) rs budget))
unfolding HoldsBy present_in
present_left checked limits h b e = ap₂ (λ (x y : List ℕ). x ++ y) (h.left limits b).by.running.world.stored.bodies_are (h.open_bodies limits b refl)
present_left erased limits h b e = cc

-- the answer and the registers, with those bodies
pub checked_ends : (p : Progress) (budget : ℕ) (r : RunEnd) (after : Buffers) (bytes : List ℕ) → run_result (Ok r) after ≡ ran budget p → bytes ≡ present_in (last_state p).store (open_calls p)
    → checked_result (Ok r) after bytes ≡ checked_end budget p
unfolding checked_result checked_end run_result
checked_ends p budget r after bytes e f = ap₂ (λ (c : RunCall) (l : List ℕ). with_bodies c l) e f

-- what was lent behind the first n comes back, and others of that number come to the front
pub lent_length : (before : List ℕ) (n : ℕ) → length (take (length before - n) (drop n before)) ≡ length before - n
lent_length before n = length-take-le (length before - n) (drop n before) (omega (arith, length-drop n before))

pub front_back : (own area before : List ℕ) (n : ℕ) → n ≤ length before → length own ≡ n → own ++ drop (length own) (take n before ++ (area ++ drop (length before - n) (drop n before))) ≡ own ++ area
front_back own area before n l e =
    ap (λ (k : ℕ). own ++ drop k (take n before ++ (area ++ drop (length before - n) (drop n before)))) e
    ∙ ap (λ (x : List ℕ). own ++ x) (drop_at (take n before) (area ++ drop (length before - n) (drop n before)) n (length-take-le n before l))
    ∙ ap (λ (x : List ℕ). own ++ (area ++ x)) (drop_of_length-le (drop n before) (let z : length (drop n before) ≤ length before - n = omega (arith, length-drop n before) in z))
    ∙ ap (λ (x : List ℕ). own ++ x) (append-nil area)

module _ (i : Inputs) (b : Buffers) (present : List ℕ) (budget : ℕ) where
  checked_refused : (e : Refusal) → checked_refusal i b present ≡ refusal_number e → checked_result (Err e) b present ≡ checked_call i budget b present
  unfolding checked_result checked_call checked_unless run_meaning
  checked_refused e q = rw (q, sym (suc-pred-eq_of_ne-zero (some_refusal e)))

  pub present_wrong : (length present ≡ present_bodies_length → ⊥) → checked_result (Err BadBuffer) b present ≡ checked_call i budget b present
  present_wrong h = checked_refused BadBuffer (short_present i b present h)

  module _ {r : Result Admitted Refusal} {others : List ℕ} (l : length present ≡ present_bodies_length) (h : RunIs r i b others) where
    shares : refusal_of r ≡ checked_refusal i b present
    shares = h.refusal ∙ sym (checked_shares i b present l)

    pub run_refused : {e : Refusal} → r ≡ Err e → checked_result (Err e) b present ≡ checked_call i budget b present
    run_refused {e} q = checked_refused e (sym shares ∙ ap (λ (x : Result Admitted Refusal). refusal_of x) q)

    pub run_done : {p : Admitted} (q : r ≡ Ok p) {t : Runnable} (k : RunTaken t i b) (a : RunAnswer) (after : Buffers) (bytes : List ℕ)
        → checked_result a after bytes ≡ checked_end budget (run (profile_of t.rows t.limits) (readings_of i.variables i.numbers) budget)
        → checked_result a after bytes ≡ checked_call i budget b present
    unfolding checked_call checked_unless checked_end run_of
    run_done q k a after bytes e =
        e
        ∙ ap₂ (λ (rows limits : List ℕ). checked_end budget (run (profile_of rows limits) (readings_of i.variables i.numbers) budget)) k.rows k.limits
        ∙ ap (λ (n : ℕ). checked_unless n i budget b present) (sym (ap (λ (x : Result Admitted Refusal). refusal_of x) q) ∙ shares)

-- ---- the type check's verdict on rows
module _ (rows limits : List ℕ) where
  pub faulted : {f : TypeError} (who : List ℕ) (numbers : List ℤ) (budget : ℕ) (b : Buffers) (layout : List ℕ) → check_profile (profile_of rows limits) ≡ fail f
      → erased_result (Err TypeErrorFound) b layout ≡ erased_rows rows limits who numbers budget b layout
  unfolding erased_rows erased_verdict erased_result run_meaning
  faulted who numbers budget b layout is =
      ap (λ (o : Outcome TypeError (List Entry)). erased_verdict o budget (run (profile_of rows limits) (readings_of who numbers) budget) b layout) (sym is)

  pub passed_rows : {table : List ℕ} → ConcludesPassed table (check_profile (profile_of rows limits)) → {copy : List ℕ} → copy ≡ table → length table ≡ layout_length → PassedRows rows limits copy
  passed_rows p e l = record { entries = p.entries; passed = p.is; layout_is = e ∙ p.layout; long = ap length e ∙ l }

pub passed_done : (rows limits who : List ℕ) (numbers : List ℤ) (budget : ℕ) (b : Buffers) (layout copy : List ℕ) → PassedRows rows limits copy → (r : RunAnswer) (after : Buffers)
    → run_result r after ≡ ran budget (run (profile_of rows limits) (readings_of who numbers) budget) → erased_result r after copy ≡ erased_rows rows limits who numbers budget b layout
unfolding erased_rows erased_verdict erased_result run_result
passed_done rows limits who numbers budget b layout copy p r after e =
    ap₂ (λ (c : RunCall) (l : List ℕ). with_layout c l) e p.layout_is
    ∙ ap (λ (o : Outcome TypeError (List Entry)). erased_verdict o budget (run (profile_of rows limits) (readings_of who numbers) budget) b layout) (sym p.passed)

-- ---- the erased run
module _ (i : Inputs) (b : Buffers) (layout : List ℕ) (budget : ℕ) where
  erased_refused : (e : Refusal) → erased_refusal i b layout ≡ refusal_number e → erased_result (Err e) b layout ≡ erased_call i budget b layout
  unfolding erased_result erased_call erased_unless run_meaning
  erased_refused e q = rw (q, sym (suc-pred-eq_of_ne-zero (some_refusal e)))

  pub layout_wrong : (length layout ≡ layout_length → ⊥) → erased_result (Err BadBuffer) b layout ≡ erased_call i budget b layout
  layout_wrong h = erased_refused BadBuffer (short_layout i b layout h)

  module _ {r : Result Admitted Refusal} {others : List ℕ} (l : length layout ≡ layout_length) (h : RunIs r i b others) where
    pub erased_run_refused : {e : Refusal} → r ≡ Err e → erased_result (Err e) b layout ≡ erased_call i budget b layout
    erased_run_refused {e} q =
        let g : run_refusal i b ≡ refusal_number e = sym h.refusal ∙ ap (λ (x : Result Admitted Refusal). refusal_of x) q in
        erased_refused e (run_refuses i b layout l (λ z. some_refusal e (sym g ∙ z)) ∙ g)

    module _ {p : Admitted} (q : r ≡ Ok p) where
      none_applies : run_refusal i b ≡ 0
      none_applies = sym h.refusal ∙ ap (λ (x : Result Admitted Refusal). refusal_of x) q

      by_verdict : (o : Outcome TypeError (List Entry)) → check_profile (profile_of (rows_of i.profile) (rows_of i.limits)) ≡ o
          → erased_verdict o budget (run_of i budget) b layout ≡ erased_call i budget b layout
      unfolding erased_verdict erased_call erased_unless
      by_verdict (ok es) e =
          ap (with_layout (ran budget (run_of i budget))) (sym (passed_layout i.profile i.limits layout (record { accepted = (h.admitted p q).accepted; entries = es; checked = e }) l))
          ∙ ap (λ (k : ℕ). erased_unless k i budget b layout) (sym (none_refuses i b layout l none_applies (ok es) e refl))
      by_verdict (fail e) f =
          ap (λ (k : ℕ). erased_unless k i budget b layout) (sym (type_error_refuses i b layout l none_applies (fail e) f refl))

      pub erased_done : {t : Runnable} (k : RunTaken t i b) (a : RunAnswer) (after : Buffers) (table : List ℕ)
          → erased_result a after table ≡ erased_rows t.rows t.limits i.variables i.numbers budget b layout
          → erased_result a after table ≡ erased_call i budget b layout
      erased_done k a after table e =
          e
          ∙ ap₂ (λ (rows limits : List ℕ). erased_rows rows limits i.variables i.numbers budget b layout) k.rows k.limits
          ∙ (unfold erased_rows run_of in by_verdict (check_profile (profile_of (rows_of i.profile) (rows_of i.limits))) refl)
