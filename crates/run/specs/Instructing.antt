-- Each kind of instruction, by the ways in which code ends it, whatever is asked of the memory. Assumes nothing.
use Rattle.std.specs.Prelude.{◌≡◌, Bool, true, false, List, [], ℕ, suc, ◌<◌, ◌≤◌, eqb, None, is_some, Result, Ok, Err}
use Rattle.std.proofs.Math.Path.{refl, ap}
use Rattle.std.proofs.Common.{sym, ◌∙◌, subst, arith}
use Rattle.lingua.specs.declared.errors.Error.{Error}
use Rattle.lingua.specs.Outcome.{◌>>=◌}
use Rattle.lingua.specs.Faults.{number_of}
use Rattle.lingua.specs.Store.{Variable, contents, assigned, yoke_changed}
use Rattle.lingua.specs.Expression.{Expression, Yoke, Instruction, assign, set_yoke, sequence, branch, loop, handle}
use Rattle.lingua.specs.Evaluation.{eval, eval_test, no_current}
use Rattle.lingua.specs.Run.{State, Progress, going, settled, proceed, act, decided, handled, repeat, Calling, exec, last_state}
use Rattle.run.specs.declared.steps.Status.{Status}
use Rattle.run.specs.Statuses.{error_in, state_of, progress_of, onward, StepOf, recorded}
use Rattle.run.specs.Reached.{Lent, Holding, Going, overlaid, Reached, Settles, Tells}
use Rattle.run.specs.Steps.{repeat_enough}
use Rattle.run.specs.Acting.{still_going, now_out, passed_over, act_out, act_on, area_stays, stays, reaches_as, settles, decided_yes, decided_no, test_failed}

-- ---- assignment and yoke change
abbrev assigns : ℕ → ℕ → Expression → State → Progress
assigns row n e s = going (settled s row (eval e (contents s.store) no_current >>= λ x. assigned s.store n x))

abbrev changes : ℕ → ℕ → Yoke → State → Progress
changes row n y s = going (settled s row (yoke_changed s.store n y))

module _ (calls : Calling) {M : Holding} {o l : Lent} (vs : List Variable) (w : M l vs) {m : Status} (g : Going m) (row n : ℕ) where
  module _ (e : Expression) where
    pub assign_passed : is_some m.error ≡ true → Reached M o l o m (exec calls (assign row n e) (state_of m vs))
    unfolding exec
    assign_passed h = stays vs w (passed_over m vs (assigns row n e) g h)

    module _ {r : Status} (h : StepOf m r) (z : is_some m.error ≡ false) where
      pub assign_out : r.out ≡ true → Reached M o l o r (exec calls (assign row n e) (state_of m vs))
      unfolding exec
      assign_out q = stays vs w (act_out h z vs (assigns row n e) q)

      pub assign_settled : {after : Lent} (s : Status) (answer : Result (Unit {0}) Error) → r.out ≡ false → Settles (number_of answer) M l after (eval e (contents vs) no_current >>= assigned vs n) → s ≡ recorded r answer row
          → Reached M o after o s (exec calls (assign row n e) (state_of m vs))
      unfolding exec
      assign_settled s answer q a k = reaches_as (act_on h z vs (assigns row n e) q) (settles vs w r s answer row a k q)

  module _ (y : Yoke) where
    pub change_passed : is_some m.error ≡ true → Reached M o l o m (exec calls (set_yoke row n y) (state_of m vs))
    unfolding exec
    change_passed h = stays vs w (passed_over m vs (changes row n y) g h)

    module _ {r : Status} (h : StepOf m r) (z : is_some m.error ≡ false) where
      pub change_out : r.out ≡ true → Reached M o l o r (exec calls (set_yoke row n y) (state_of m vs))
      unfolding exec
      change_out q = stays vs w (act_out h z vs (changes row n y) q)

      pub change_settled : {after : Lent} (s : Status) (answer : Result (Unit {0}) Error) → r.out ≡ false → Settles (number_of answer) M l after (yoke_changed vs n y) → s ≡ recorded r answer row
          → Reached M o after o s (exec calls (set_yoke row n y) (state_of m vs))
      unfolding exec
      change_settled s answer q a k = reaches_as (act_on h z vs (changes row n y) q) (settles vs w r s answer row a k q)

-- ---- sequence
module _ (calls : Calling) {M : Holding} {o l after : Lent} {r : Status} (m : Status) (vs : List Variable) (row : ℕ) (i j : Instruction) (h : Reached M o l after r (exec calls i (state_of m vs))) where
  sequence_is : exec calls (sequence row i j) (state_of m vs) ≡ proceed (progress_of r.out (state_of r h.store) h.opens) (λ t. exec calls j t)
  unfolding exec
  sequence_is = ap (λ (q : Progress). proceed q (λ t. exec calls j t)) h.is

  pub sequence_out : r.out ≡ true → Reached M o l after r (exec calls (sequence row i j) (state_of m vs))
  sequence_out q =
      record { store = h.store; opens = h.opens; is = sequence_is ∙ ap (λ (b : Bool). proceed (progress_of b (state_of r h.store) h.opens) (λ t. exec calls j t)) q ∙ now_out r (state_of r h.store) h.opens q; running = h.running; area = h.area; closed = h.closed }

  pub first_going : r.out ≡ false → Going r
  first_going q = record { not_out = q }

  pub sequence_on : r.out ≡ false → exec calls (sequence row i j) (state_of m vs) ≡ exec calls j (state_of r h.store)
  sequence_on q = sequence_is ∙ ap (λ (b : Bool). proceed (progress_of b (state_of r h.store) h.opens) (λ t. exec calls j t)) q

-- ---- branch
abbrev branches : Calling → ℕ → Expression → Instruction → Instruction → State → Progress
branches calls row e i j s = decided (eval_test e (contents s.store)) row s (λ u. exec calls i u) (λ u. exec calls j u)

module _ (calls : Calling) {M : Holding} {o l : Lent} (vs : List Variable) (w : M l vs) {m : Status} (g : Going m) (row : ℕ) (e : Expression) (i j : Instruction) where
  pub branch_passed : is_some m.error ≡ true → Reached M o l o m (exec calls (branch row e i j) (state_of m vs))
  unfolding exec
  branch_passed h = stays vs w (passed_over m vs (branches calls row e i j) g h)

  module _ {r : Status} (h : StepOf m r) (z : is_some m.error ≡ false) where
    pub branch_out : r.out ≡ true → Reached M o l o r (exec calls (branch row e i j) (state_of m vs))
    unfolding exec
    branch_out q = stays vs w (act_out h z vs (branches calls row e i j) q)

    module _ (q : r.out ≡ false) {told : Result Bool Error} (tells : Tells told (eval_test e (contents vs))) where
      pub branch_failed : (s : Status) (error : Error) → told ≡ Err error → s ≡ recorded r (Err error) row → Reached M o l o s (exec calls (branch row e i j) (state_of m vs))
      unfolding exec
      branch_failed s error f k = reaches_as (act_on h z vs (branches calls row e i j) q) (test_failed vs w r s error row (λ u. exec calls i u) (λ u. exec calls j u) tells f k q)

module _ (calls : Calling) {m r : Status} (h : StepOf m r) (z : is_some m.error ≡ false) (vs : List Variable) (row : ℕ) (e : Expression) (i j : Instruction) (q : r.out ≡ false) {told : Result Bool Error} (tells : Tells told (eval_test e (contents vs))) where
  pub branch_yes : told ≡ Ok true → exec calls (branch row e i j) (state_of m vs) ≡ exec calls i (state_of r vs)
  unfolding exec
  branch_yes f = act_on h z vs (branches calls row e i j) q ∙ decided_yes tells row (state_of r vs) (λ u. exec calls i u) (λ u. exec calls j u) f

  pub branch_no : told ≡ Ok false → exec calls (branch row e i j) (state_of m vs) ≡ exec calls j (state_of r vs)
  unfolding exec
  branch_no f = act_on h z vs (branches calls row e i j) q ∙ decided_no tells row (state_of r vs) (λ u. exec calls i u) (λ u. exec calls j u) f

-- ---- handler
abbrev handles : Calling → ℕ → Instruction → State → Progress
handles calls n i s = handled (eqb s.error n) s (λ u. exec calls i u)

module _ (calls : Calling) {m r : Status} (h : StepOf m r) (vs : List Variable) (row n : ℕ) (i : Instruction) where
  handle_is : (b : Bool) → r.out ≡ b → exec calls (handle row n i) (state_of m vs) ≡ onward b (state_of r vs) (handles calls n i)
  unfolding exec
  handle_is b q = h.is vs (handles calls n i) ∙ ap (λ (c : Bool). onward c (state_of r vs) (handles calls n i)) q

  pub handle_own : (s : Status) → r.out ≡ false → eqb (error_in r.error) n ≡ true → s ≡ record { error = None; left = r.left; out = r.out } → exec calls (handle row n i) (state_of m vs) ≡ exec calls i (state_of s vs)
  handle_own s q e k =
      handle_is false q
      ∙ ap (λ (b : Bool). handled b (state_of r vs) (λ u. exec calls i u)) e
      ∙ ap (λ (x : Status). exec calls i (state_of x vs)) (sym k)

module _ (calls : Calling) {M : Holding} {o l : Lent} (vs : List Variable) (w : M l vs) {m r : Status} (g : Going m) (h : StepOf m r) (row n : ℕ) (i : Instruction) where
  pub handle_out : r.out ≡ true → Reached M o l o r (exec calls (handle row n i) (state_of m vs))
  handle_out q = stays vs w (handle_is calls h vs row n i true q ∙ now_out r (state_of r vs) [] q)

  pub handle_other : r.out ≡ false → eqb (error_in r.error) n ≡ false → Reached M o l o r (exec calls (handle row n i) (state_of m vs))
  handle_other q f =
      stays vs w
      (handle_is calls h vs row n i false q ∙ ap (λ (b : Bool). handled b (state_of r vs) (λ u. exec calls i u)) f ∙ still_going r (state_of r vs) [] q)

pub cleared_going : (r : Status) {s : Status} → r.out ≡ false → s ≡ record { error = None; left = r.left; out = r.out } → Going s
cleared_going r q k = record { not_out = ap (λ (x : Status). x.out) k ∙ q }

-- ---- loop: what is left of it, from some turn's test on; the area is the one that it began with
pub record Turning (calls : Calling) (M : Holding) (o l after : Lent) (row : ℕ) (e : Expression) (i : Instruction) (m : Status) (q : Progress) : Type 0 where
  pub store : List Variable
  pub is : q ≡ repeat (suc m.left) (λ t. eval_test e (contents t.store)) row (λ t. exec calls i t) (state_of m store)
  pub running : M l store
  pub going : Going m
  pub same : after ≡ o

abbrev turn : Calling → ℕ → Expression → Instruction → ℕ → State → Progress
turn calls row e i k s = decided (eval_test e (contents s.store)) row s (λ u. proceed (exec calls i u) (λ w. repeat k (λ t. eval_test e (contents t.store)) row (λ t. exec calls i t) w)) (λ u. going u)

module _ (calls : Calling) {M : Holding} {o l : Lent} (row : ℕ) (e : Expression) (i : Instruction) where
  pub first_turn : {m : Status} (vs : List Variable) → M l vs → Going m → Turning calls M o l o row e i m (exec calls (loop row e i) (state_of m vs))
  unfolding exec
  first_turn vs w g = record { store = vs; is = refl; running = w; going = g; same = refl }

  module _ {now : Lent} {m : Status} {q : Progress} (h : Turning calls M o l now row e i m q) where
    turn_is : q ≡ act (state_of m h.store) (turn calls row e i m.left)
    unfolding repeat
    turn_is = h.is

    -- it stands where the area is the one that it began with
    standing : {s : Status} → Reached M o l o s q → Reached M o l now s q
    standing {s} x = subst (λ (a : Lent). Reached M o l a s q) (sym h.same) x

    -- with an error recorded the loop is over
    pub turns_over : is_some m.error ≡ true → Reached M o l now m q
    turns_over z = standing (stays h.store h.running (turn_is ∙ passed_over m h.store (turn calls row e i m.left) h.going z))

    module _ {r : Status} (d : StepOf m r) (z : is_some m.error ≡ false) where
      pub turn_out : r.out ≡ true → Reached M o l now r q
      turn_out b = standing (stays h.store h.running (turn_is ∙ act_out d z h.store (turn calls row e i m.left) b))

      module _ (b : r.out ≡ false) where
        turn_on : q ≡ turn calls row e i m.left (state_of r h.store)
        turn_on = turn_is ∙ act_on d z h.store (turn calls row e i m.left) b

        module _ {told : Result Bool Error} (tells : Tells told (eval_test e (contents h.store))) where
          pub turn_failed : (s : Status) (error : Error) → told ≡ Err error → s ≡ recorded r (Err error) row → Reached M o l now s q
          turn_failed s error f k = standing (reaches_as turn_on (test_failed h.store h.running r s error row _ (λ u. going u) tells f k b))

          pub turn_last : told ≡ Ok false → Reached M o l now r q
          turn_last f =
              standing (stays h.store h.running
              (turn_on ∙ decided_no tells row (state_of r h.store) _ (λ u. going u) f ∙ still_going r (state_of r h.store) [] b))

          module _ (f : told ≡ Ok true) {own after : Lent} {s : Status} (x : Reached M now own after s (exec calls i (state_of r h.store))) where
            turn_body : q ≡ proceed (progress_of s.out (state_of s x.store) x.opens) (λ w. repeat m.left (λ t. eval_test e (contents t.store)) row (λ t. exec calls i t) w)
            turn_body =
                turn_on
                ∙ decided_yes tells row (state_of r h.store) _ (λ u. going u) f
                ∙ ap (λ (p : Progress). proceed p (λ w. repeat m.left (λ t. eval_test e (contents t.store)) row (λ t. exec calls i t) w)) x.is

            pub body_out : s.out ≡ true → Reached M o own after s q
            body_out c =
                record { store = x.store; opens = x.opens; is = turn_body ∙ ap (λ (c : Bool). proceed (progress_of c (state_of s x.store) x.opens) (λ w. repeat m.left (λ t. eval_test e (contents t.store)) row (λ t. exec calls i t) w)) c ∙ now_out s (state_of s x.store) x.opens c; running = x.running; area = x.area ∙ ap (overlaid x.opens) h.same; closed = x.closed }

            -- no instruction gives a step back
            module _ (shorter : (y : State) → (last_state (exec calls i y)).left ≤ y.left) where
              pub fewer_left : s.left < m.left
              fewer_left =
                  let l : (last_state (exec calls i (state_of r h.store))).left ≤ r.left = shorter (state_of r h.store) in
                  let p : (last_state (progress_of s.out (state_of s x.store) x.opens)).left ≤ r.left = lesser l in
                  omega (arith, p, d.fewer b, same_left s.out (state_of s x.store) x.opens)
                where
                  lesser : (last_state (exec calls i (state_of r h.store))).left ≤ r.left → (last_state (progress_of s.out (state_of s x.store) x.opens)).left ≤ r.left
                  lesser l = let c : (last_state (exec calls i (state_of r h.store))).left ≡ (last_state (progress_of s.out (state_of s x.store) x.opens)).left = ap (λ (p : Progress). (last_state p).left) x.is in omega (arith, l, c)

                  same_left : (c : Bool) (y : State) (os : List (List Variable)) → (last_state (progress_of c y os)).left ≡ y.left
                  same_left true y os = refl
                  same_left false y os = refl

              pub next_turn : s.out ≡ false → Turning calls M o own after row e i s q
              next_turn c = record {
                store = x.store;
                is =
                    turn_body
                    ∙ ap (λ (c : Bool). proceed (progress_of c (state_of s x.store) x.opens) (λ w. repeat m.left (λ t. eval_test e (contents t.store)) row (λ t. exec calls i t) w)) c
                    ∙ repeat_enough (λ t. eval_test e (contents t.store)) row (λ t. exec calls i t) shorter m.left (suc s.left) (state_of s x.store) fewer_left (let c : s.left < suc s.left = omega arith in c);
                running = x.running;
                going = record { not_out = c };
                same = area_stays x c ∙ h.same;
              }
