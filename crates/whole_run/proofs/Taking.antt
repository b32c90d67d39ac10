-- Readings: one that is taken, and where the loop over them stands in the definition. Assumes nothing.
use mathlib.Core.Path.{◌≡◌, refl, sym, ap, ◌∙◌, subst}
use mathlib.Core.Bool.{Bool, true, false, not, ◌||◌}
use mathlib.Core.List.{List, [], ◌∷◌}
use Prim.Native.Nat.{ℕ, zero, suc, ◌+◌, ◌≤◌, ◌<◌}
use native.Mathlib.Numerals.{add-one}
use native.Mathlib.Omega.{arith}
use lib.Dec.{ltb}
use lib.IntN.{ℤ, pos}
use lib.ListN.{length, get_or, drop}
use borrow.Author.Tests.{eq-eqb, ne_eqb, ltb-true, ltb-false, not-false}
use Rattle.std.specs.Prelude.{Result, Ok, Err, is_some}
use Rattle.lingua.specs.declared.errors.Error.{Error}
use Rattle.lingua.specs.Faults.{number_of}
use Rattle.lingua.specs.Numbers.{declaration_section, reading_place, most_readings}
use Rattle.lingua.specs.Rows.{pair_count}
use Rattle.lingua.specs.Value.{all_of}
use Rattle.lingua.specs.Store.{Variable, Reading, reading_taken}
use Rattle.lingua.specs.Run.{State, Profile, going, last_state, settled, taken_unless, take_readings}
use Rattle.lingua.specs.Refusal.{is_variable_of, is_quantity_variable, reading_wrong}
use Rattle.lingua.specs.Calls.{readings_of}
use Rattle.laws.specs.Outcomes.{false_is_true, and_left, and_right}
use Rattle.run.specs.Statuses.{error_in, state_of, progress_of, recorded}
use Rattle.run.specs.declared.steps.Status.{Status}
use Rattle.run.specs.Reached.{Lent, Holding, Going, Reached}
use Rattle.run.specs.Acting.{some_recorded, none_recorded, settles}
use Rattle.run.specs.Memory.{reading}
use Rattle.frames.specs.Ways.{Way}
use Rattle.frames.specs.Meaning.{Context, Holds, Standing, Stores}
use Rattle.whole_run.specs.Meaning.{Readable, Kept, Takes, TakesAll}

-- ---- rule 16
or_none : (a b : Bool) → (a || b) ≡ false → (a ≡ false) × (b ≡ false)
or_none true b e = false_is_true (sym e)
or_none false b e = (refl, e)

all_at : (p : ℕ → Bool) (vs : List ℕ) → all_of p vs ≡ true → (i : ℕ) → i < length vs → p (get_or vs i 0) ≡ true
unfolding all_of
all_at p [] e i l = absurd (let z : ⊥ = omega arith in z)
all_at p (v ∷ vs) e zero l = and_left (p v) (all_of p vs) e
all_at p (v ∷ vs) e (suc i) l = all_at p vs (and_right (p v) (all_of p vs) e) i (omega arith)

module _ {rows who : List ℕ} {numbers : List ℤ} (h : Readable rows who numbers) where
  pub few_readings : length who ≤ most_readings
  unfolding reading_wrong
  few_readings = ltb-false most_readings (length who) (or_none (ltb most_readings (length who)) (not (all_of (λ v. is_quantity_variable rows v) who)) h.right).0

  -- each is for a declared number variable
  pub reads_variable_lem : (i : ℕ) → i < length who → (get_or who i 0 < pair_count rows declaration_section) × (is_quantity_variable rows (get_or who i 0) ≡ true)
  unfolding reading_wrong is_quantity_variable is_variable_of
  reads_variable_lem i l =
      let all = not-false (all_of (λ v. is_quantity_variable rows v) who) (or_none (ltb most_readings (length who)) (not (all_of (λ v. is_quantity_variable rows v) who)) h.right).1 in
      let one = all_at (λ v. is_quantity_variable rows v) who all i l in
      (ltb-true (get_or who i 0) (pair_count rows declaration_section) (and_left (ltb (get_or who i 0) (pair_count rows declaration_section)) _ one), one)

-- ---- one input
recorded_going : (m r : Status) (answer : Result (Unit {0}) Error) (place : ℕ) → Going m → r ≡ recorded m answer place → Going r
recorded_going m r answer place g q = subst (λ (x : Status). Going x) (sym q) (by answer)
  where
    by : (x : Result (Unit {0}) Error) → Going (recorded m x place)
    by (Ok u) = g
    by (Err e) = record { not_out = g.not_out }

going_state : (b : Bool) (s u : State) (os : List (List Variable)) → b ≡ false → going s ≡ progress_of b u os → s ≡ u
going_state true s u os e q = absurd (let k : ◌≡◌ {A = ℕ} 0 1 = cc in let z : ⊥ = omega arith in z)
going_state false s u os e q = ap last_state q

kept_by : {M : Holding} {o l after : Lent} {m : Status} {s : State} → Reached M o l after m (going s) → m.out ≡ false → Kept M l m s
kept_by {m = m} {s} h e = record { store = h.store; is = going_state m.out s _ h.opens e h.is; running = h.running }

pub takes : {w : Way} {c : Context} {l after : Lent} {m : Status} (r : Status) (answer : Result (Unit {0}) Error) (place n : ℕ) (z : ℤ) → Going m → r ≡ recorded m answer place → Stores w c l after (number_of answer) (λ a. a ≡ 0) (λ vs. reading_taken vs (reading n z)) → Takes w c l after m r place n z
takes {l = l} {m = m} r answer place n z g q h =
    let goes = recorded_going m r answer place g q in
    record { goes = goes; reaches = λ p vs k. kept_by (settles {free = l} vs k m r answer place (h.settles p 0 vs refl k) q g.not_out) goes.not_out }

-- ---- the inputs from an index on
inputs_at : (who : List ℕ) (numbers : List ℤ) (i : ℕ) → length who ≡ length numbers → i < length who
    → drop i (readings_of who numbers) ≡ reading (get_or who i 0) (get_or numbers i (pos 0)) ∷ drop (suc i) (readings_of who numbers)
unfolding readings_of
inputs_at [] numbers i e l = absurd (let z : ⊥ = omega arith in z)
inputs_at (v ∷ vs) [] i e l = absurd (let z : ⊥ = omega (arith, e) in z)
inputs_at (v ∷ vs) (z ∷ zs) zero e l = refl
inputs_at (v ∷ vs) (z ∷ zs) (suc i) e l = inputs_at vs zs i (omega (arith, e)) (omega arith)

inputs_end : (who : List ℕ) (numbers : List ℤ) (i : ℕ) → length who ≤ i → drop i (readings_of who numbers) ≡ []
unfolding readings_of
inputs_end [] numbers zero l = refl
inputs_end [] numbers (suc i) l = refl
inputs_end (v ∷ vs) numbers zero l = absurd (let z : ⊥ = omega arith in z)
inputs_end (v ∷ vs) [] (suc i) l = refl
inputs_end (v ∷ vs) (z ∷ zs) (suc i) l = inputs_end vs zs i (omega arith)

-- with an error recorded nothing changes
none_taken : (i : ℕ) (rs : List Reading) (s : State) → (s.error ≡ 0 → ⊥) → take_readings i rs s ≡ s
unfolding take_readings
none_taken i [] s h = refl
none_taken i (r ∷ rs) s h = ap (λ (b : Bool). take_readings (suc i) rs (taken_unless b s i r)) (ne_eqb s.error 0 h) ∙ none_taken (suc i) rs s h

one_taken : (i : ℕ) (r : Reading) (rs : List Reading) (s : State) → s.error ≡ 0 → take_readings i (r ∷ rs) s ≡ take_readings (suc i) rs (settled s (reading_place + i) (reading_taken s.store r))
unfolding take_readings
one_taken i r rs s e = ap (λ (b : Bool). take_readings (suc i) rs (taken_unless b s i r)) (eq-eqb s.error 0 e)

-- ---- where the loop stands: what is left of the definition, from here
pub record Stands (w : Way) (p : Profile) (c : Context) (l : Lent) (who : List ℕ) (numbers : List ℤ) (first moment : Status) (i : ℕ) (vs : List Variable) : Type 0 where
  pub store : List Variable
  pub is : take_readings 0 (readings_of who numbers) (state_of first vs) ≡ take_readings i (drop i (readings_of who numbers)) (state_of moment store)
  pub running : Holds w p 0 c l store

pub record Taking (w : Way) (c : Context) (l₀ l : Lent) (who : List ℕ) (numbers : List ℤ) (first moment : Status) (i : ℕ) : Type 0 where
  pub goes : Going moment
  pub each : (p : Profile) (vs : List Variable) → Holds w p 0 c l₀ vs → Stands w p c l who numbers first moment i vs

pub taking_first : {w : Way} {c : Context} {l : Lent} {who : List ℕ} {numbers : List ℤ} {m : Status} → Going m → Taking w c l l who numbers m m 0
taking_first g = record { goes = g; each = λ p vs k. record { store = vs; is = refl; running = k } }

module _ {w : Way} {c : Context} {l₀ l : Lent} {who : List ℕ} {numbers : List ℤ} {first moment : Status} {i : ℕ} (h : Taking w c l₀ l who numbers first moment i) where
  pub taking_standing : {room space : ℕ} → Standing w c l₀ room (λ a. a ≡ 0) → room ≡ space → Standing w c l space (λ a. a ≡ 0)
  taking_standing s e =
      let k = h.each s.profile s.store (subst (λ (a : ℕ). Holds w s.profile a c l₀ s.store) s.of_scope s.holds) in
      record { profile = s.profile; scope = 0; store = k.store; holds = k.running; of_scope = refl; enough = omega (arith, s.enough, e) }

  ends : (q : (s : State) → s.error ≡ error_in moment.error → take_readings i (drop i (readings_of who numbers)) s ≡ s) → TakesAll w c l₀ l first moment (readings_of who numbers)
  ends q = record {
    goes = h.goes;
    reaches = λ p vs k. let s = h.each p vs k in record { store = s.store; is = s.is ∙ q (state_of moment s.store) refl; running = s.running };
  }

  pub taking_stops : is_some moment.error ≡ true → TakesAll w c l₀ l first moment (readings_of who numbers)
  taking_stops f = ends (λ s e. none_taken i (drop i (readings_of who numbers)) s (λ z. some_recorded moment.error f (sym e ∙ z)))

  pub taking_ends : length who ≤ i → TakesAll w c l₀ l first moment (readings_of who numbers)
  unfolding take_readings
  taking_ends k = ends (λ s e. ap (λ (rs : List Reading). take_readings i rs s) (inputs_end who numbers i k))

  pub taking_more : {after : Lent} (r : Status) (n place : ℕ) (z : ℤ) → Takes w c l after moment r place n z
      → length who ≡ length numbers → i < length who → n ≡ get_or who i 0 → z ≡ get_or numbers i (pos 0) → place ≡ reading_place + i → is_some moment.error ≡ false
      → Taking w c l₀ after who numbers first r (i + 1)
  taking_more {after} r n place z f le k en ez ep e =
      record { goes = f.goes; each = each }
    where
      each : (p : Profile) (vs : List Variable) → Holds w p 0 c l₀ vs → Stands w p c after who numbers first r (i + 1) vs
      each p vs u =
          let s = h.each p vs u in
          let q = f.reaches p s.store s.running in
          let here : reading (get_or who i 0) (get_or numbers i (pos 0)) ≡ reading n z = rw (en, ez) in
          record {
            store = q.store;
            is =
                s.is
                ∙ ap (λ (rs : List Reading). take_readings i rs (state_of moment s.store)) (inputs_at who numbers i le k ∙ ap (λ (x : Reading). x ∷ drop (suc i) (readings_of who numbers)) here)
                ∙ one_taken i (reading n z) (drop (suc i) (readings_of who numbers)) (state_of moment s.store) (none_recorded moment.error e)
                ∙ ap (λ (j : ℕ). take_readings (suc i) (drop (suc i) (readings_of who numbers)) (settled (state_of moment s.store) j (reading_taken s.store (reading n z)))) (sym ep)
                ∙ ap (λ (v : State). take_readings (suc i) (drop (suc i) (readings_of who numbers)) v) q.is
                ∙ ap (λ (j : ℕ). take_readings j (drop j (readings_of who numbers)) (state_of r q.store)) (sym (add-one i));
            running = q.running;
          }
