-- A call for which there is room, by what its parts ask and give: its variables before the body, the body on them with a shorter area, and what
-- comes behind it. Assumes nothing.
use mathlib.Core.Path.{◌≡◌, refl, sym, ap, ◌∙◌, subst}
use mathlib.Core.Bool.{true, false}
use Rattle.std.specs.Prelude.{Result, Err, is_err}
use mathlib.Core.List.{List, [], ◌++◌, append-nil}
use Prim.Native.Nat.{ℕ, zero, suc, ◌+◌, ◌-◌, ◌≤◌, ◌<◌}
use native.Mathlib.Omega.{arith}
use lib.IntN.{ℤ, pos}
use lib.ListN.{length, take, drop, replicate, length-replicate, length-drop}
use lib.Seq.{length-take-le, drop-length}
use borrow.Author.Rules.{part_to_end}
use Rattle.lingua.specs.Numbers.{cells_length, states_length, variable_bodies_length, most_procedures, instruction_section}
use Rattle.lingua.specs.Errors.{no_error}
use Rattle.lingua.specs.Rows.{table_count, procedure_count, body_row}
use Rattle.lingua.specs.Store.{Variable, assigned, copied_in}
use Rattle.lingua.specs.Run.{Profile, exec}
use Rattle.lingua.specs.Trees.{instruction_tree, given_values, given_references}
use Rattle.lingua.specs.declared.errors.Error.{Error}
use Rattle.lingua.specs.declared.errors.Error.TheVariants.{TooDeep}
use Rattle.lingua.specs.Faults.{number_of}
use Rattle.safety.specs.Accepted.{few_procedures_lem}
use Rattle.rules.specs.Accepted.{counts}
use Rattle.profile.specs.Facts.{InstructionFacts}
use Rattle.run.specs.declared.steps.Status.{Status}
use Rattle.run.specs.Statuses.{state_of, recorded}
use Rattle.run.specs.Reached.{Lent, lent, Holding, Going, StoredAs, Reached}
use Rattle.run.specs.Acting.{reaches_as}
use Rattle.frames.specs.Ways.{Way, checked, erased}
use Rattle.frames.specs.Meaning.{Holds}
use Rattle.frames.specs.Kept.{BodiesAre, holds_fills}
use Rattle.frames.proofs.Copying.{fault_number}
use Rattle.opening.specs.Meaning.{Setting, AreaBodies, AreaOf}
use Rattle.opening.specs.Calls.{unlimited, alone, fresh_of, given_all, Calls, Calling, ZeroBodies, ZerosBy, Enters, rest, with_rest, bodies_of_call, Left, Leaving, Leaves}
use Rattle.opening.proofs.Rows.{holds_accepted, scope_row_lem, root_under}
use Rattle.walk.specs.Meaning.{calling, Stands, Asked, Executes, Opening, Opens}
use Rattle.walk.proofs.Rows.{facts, row_inside}
use Rattle.walk.proofs.Calling.{call_deep, call_opened, call_failed, callable_unlimited, rest_area}

-- ---- a later moment
pub stepped_asked : {row : ℕ} {w : Way} {s : Setting} {l o : Lent} {m r : Status} {room : ℕ} → Asked row w s l o m room → Going r → Asked row w s l o r room
stepped_asked a g =
    record { profile = a.profile; scope = a.scope; may = a.may; store = a.store; stands = a.stands; enough = a.enough; there = a.there; going = g }

-- ---- no room
pub too_deep_at : (rows : List ℕ) {w : Way} {M : Holding} {o l : Lent} (vs : List Variable) → M l vs → (n : ℕ) → AreaOf w n o → length o.cells < cells_length → (r s : Status) (row k : ℕ) (ns rs : List ℕ) → s ≡ recorded r (Err TooDeep) row → r.out ≡ false
    → Reached M o l o s (calling rows n row k ns rs (state_of r vs))
too_deep_at rows vs h zero a z r s row k ns rs e q = call_deep rows vs h r s row k ns rs e q
too_deep_at rows vs h (suc n) a z r s row k ns rs e q = absurd (let b : ⊥ = omega (arith, a.cells, z) in b)

-- ---- the bodies of a scope's variables
bodies_by : (w : Way) (bodies : List ℕ) (vs : List Variable) → BodiesAre w bodies vs → length bodies ≡ bodies_of_call w
unfolding BodiesAre
bodies_by checked bodies vs h = h.1
bodies_by erased bodies vs h = ap length h

few_bodies : (w : Way) → bodies_of_call w ≤ variable_bodies_length
few_bodies checked = omega arith
few_bodies erased = omega arith

-- what lies behind a list's front, lent and come back
nothing_left : {A : Type 0} (xs : List A) (n : ℕ) → drop (length xs - n) (drop n xs) ≡ []
nothing_left xs n = ap (λ (k : ℕ). drop k (drop n xs)) (sym (length-drop n xs)) ∙ drop-length (drop n xs)

put_end : {A : Type 0} (xs ys : List A) (n : ℕ) → take n xs ++ (ys ++ drop (length xs - n) (drop n xs)) ≡ take n xs ++ ys
put_end {A} xs ys n = ap (λ (q : List A). take n xs ++ q) (ap (λ (q : List A). ys ++ q) (nothing_left xs n) ∙ append-nil ys)

same_area : {o p : Lent} → o.cells ≡ p.cells → o.states ≡ p.states → o.bodies ≡ p.bodies → o ≡ p
same_area {o} {p} e f g =
    ap (λ (q : List ℤ). lent q o.states o.bodies) e ∙ ap (λ (q : List ℕ). lent p.cells q o.bodies) f ∙ ap (λ (q : List ℕ). lent p.cells p.states q) g

-- the area behind a call's own part
pub length_part : (xs : List ℤ) (n : ℕ) → length (take (length xs - n) (drop n xs)) ≡ length xs - n
length_part xs n = ap length (part_to_end xs n) ∙ length-drop n xs

pub area_before : (o : Lent) (n m : ℕ) → n ≡ m → lent (take (length o.cells - cells_length) (drop cells_length o.cells)) (take (length o.states - states_length) (drop states_length o.states)) (take (length o.bodies - n) (drop n o.bodies)) ≡ rest m o
unfolding rest
area_before o n m e =
    same_area (part_to_end o.cells cells_length) (part_to_end o.states states_length) (part_to_end o.bodies n ∙ ap (λ (q : ℕ). drop q o.bodies) e)

pub area_behind : (o after : Lent) (n m : ℕ) → n ≡ m
    → lent (take cells_length o.cells ++ (after.cells ++ drop (length o.cells - cells_length) (drop cells_length o.cells))) (take states_length o.states ++ (after.states ++ drop (length o.states - states_length) (drop states_length o.states))) (take n o.bodies ++ (after.bodies ++ drop (length o.bodies - n) (drop n o.bodies)))
    ≡ with_rest m o after
unfolding with_rest
area_behind o after n m e =
    same_area (put_end o.cells after.cells cells_length) (put_end o.states after.states states_length) (put_end o.bodies after.bodies n ∙ ap (λ (q : ℕ). take q o.bodies ++ after.bodies) e)

zero_front : (w : Way) (bodies : List ℕ) → bodies ≡ replicate variable_bodies_length 0 → ZeroBodies w (take (bodies_of_call w) bodies)
unfolding ZeroBodies
zero_front checked bodies e = ap (take variable_bodies_length) e
zero_front erased bodies e = ap (take 0) e

area_bodies : (w : Way) (n : ℕ) (bodies : List ℕ) → AreaBodies w (suc n) bodies → bodies_of_call w ≤ length bodies
unfolding AreaBodies
area_bodies checked n bodies e = omega (arith, e)
area_bodies erased n bodies e = omega arith

-- the same of other names for it
pub ran_as : {i j : ℕ} {w : Way} {s : Setting} {l own o before after free : Lent} {m r : Status} → i ≡ j → l ≡ own → o ≡ before → Executes i w s l o after free m r → Executes j w s own before after free m r
ran_as {i} {j} {w} {s} {l} {own} {o} {before} {after} {free} {m} {r} e f g x =
    subst (λ (q : ℕ). Executes q w s own before after free m r) e (subst (λ (q : Lent). Executes i w s q before after free m r) f (subst (λ (q : Lent). Executes i w s l q after free m r) g x))

-- ---- memory for a call's variables, as the machine gives it
module _ {row : ℕ} {w : Way} {s : Setting} {l o : Lent} {m : Status} {room : ℕ} (a : Asked row w s l o m room) where
  bodies_as : length l.bodies ≡ bodies_of_call w
  bodies_as = bodies_by w l.bodies a.store (holds_fills w a.stands.holds).bodies_are

  -- there is room for the bodies of a call's variables
  pub front_fits : length l.bodies ≤ variable_bodies_length
  front_fits = omega (arith, bodies_as, few_bodies w)

  -- what is lent of them is as long as it is said to be
  pub front_long : length l.bodies ≡ length {A = ℕ} (take (length l.bodies) (replicate variable_bodies_length 0))
  front_long =
      sym (length-take-le (length l.bodies) (replicate variable_bodies_length 0) (omega (arith, front_fits, (let e : length (replicate variable_bodies_length zero) ≡ variable_bodies_length = length-replicate {A = ℕ} variable_bodies_length 0 in e))))

  pub zeros_by : {bodies : List ℕ} → bodies ≡ take (length l.bodies) (replicate variable_bodies_length 0) → ZerosBy w (lent (replicate cells_length (pos 0)) (replicate states_length 0) bodies)
  zeros_by e =
      record { cells_are = refl; states_are = refl; bodies_are = subst (λ (q : List ℕ). ZeroBodies w q) (sym (e ∙ ap (λ (q : ℕ). take q (replicate variable_bodies_length 0)) bodies_as)) (zero_front w (replicate variable_bodies_length 0) refl) }

module _ {row k b c : ℕ} {w : Way} {s : Setting} {l o : Lent} {m : Status} {room : ℕ} (a : Opening row k b c w s l o m room) where
  rows : List ℕ
  rows = s.context.rows

  call_at : {p : Profile} {d n : ℕ} {vs : List Variable} → Stands row w p d n s l o vs → Calls row k b c w p d s l vs
  call_at h = record { holds = h.holds; callable = h.callable; under = h.under; says = a.called; there = row_inside a.asked }

  pub enter_asked : Calling row k b c w s l room
  enter_asked =
      record { profile = a.asked.profile; scope = a.asked.scope; store = a.asked.store; calls = call_at a.asked.stands; enough = a.asked.enough }

  pub procedure_there : k < procedure_count s.context.rows
  unfolding InstructionFacts
  procedure_there = (facts a.asked a.called).procedure

  pub procedure_few : k < most_procedures
  procedure_few = omega (arith, procedure_there, few_procedures_lem s.context.rows (holds_accepted w a.asked.stands.holds))

  pub own_bodies : length l.bodies ≡ bodies_of_call w
  own_bodies = bodies_as a.asked

  -- ---- there is room
  some_left : (n : ℕ) → AreaOf w n o → 1 ≤ n
  some_left zero h = absurd (let z : ⊥ = omega (arith, h.cells, a.room_left) in z)
  some_left (suc n) h = omega arith

  states_by : (n : ℕ) → AreaOf w n o → states_length ≤ length o.states
  states_by n h = omega (arith, h.states, some_left n h)

  bodies_room : (n : ℕ) → AreaOf w n o → bodies_of_call w ≤ length o.bodies
  bodies_room zero h = absurd (let z : ⊥ = omega (arith, some_left zero h) in z)
  bodies_room (suc n) h = area_bodies w n o.bodies h.bodies

  pub states_left : states_length ≤ length o.states
  states_left = states_by a.asked.may a.asked.stands.area

  pub bodies_left : length l.bodies ≤ length o.bodies
  bodies_left = omega (arith, own_bodies, bodies_room a.asked.may a.asked.stands.area)

  -- ---- the body
  module _ {own : Lent} {r : ℕ} (x : Enters row k b c w s l own r) where
    module _ (z : r ≡ no_error) where
      begins : {p : Profile} {d n : ℕ} {vs : List Variable} → Stands row w p d n s l o vs → StoredAs (Holds w p (suc k) (unlimited s.context)) own (copied_in assigned vs (given_all s.context.rows k b c) 0 (fresh_of s.context.rows k))
      begins {p} {d} {n} {vs} h = x.answer p d vs (call_at h) z

      body_stands : {p : Profile} {d n : ℕ} {vs : List Variable} (h : Stands row w p d (suc n) s l o vs) → Stands (body_row s.context.rows k) w p (suc k) n (alone s) own (rest (bodies_of_call w) o) (begins h).store
      body_stands h =
          record { holds = (begins h).running; callable = callable_unlimited h.callable; under = root_under s.context.rows (holds_accepted w h.holds) (suc k) procedure_there; area = rest_area h.area }

      scope_inside : body_row s.context.rows k < table_count s.context.rows instruction_section
      scope_inside = scope_row_lem s.context.rows (holds_accepted w a.asked.stands.holds) (suc k) procedure_there

      -- the body's measure is less, wherever its row is
      pub body_less : (i n : ℕ) → i ≡ body_row s.context.rows k → n ≡ length o.cells - cells_length → n + i < length o.cells
      body_less i n e f =
          omega (arith, e, f, a.room_left, scope_inside, (counts s.context.rows (holds_accepted w a.asked.stands.holds).counts).instructions.most)

      body_by : (n : ℕ) → Stands row w a.asked.profile a.asked.scope n s l o a.asked.store → Asked (body_row s.context.rows k) w (alone s) own (rest (bodies_of_call w) o) m room
      body_by zero h = absurd (let q : ⊥ = omega (arith, some_left zero h.area) in q)
      body_by (suc n) h =
          record { profile = a.asked.profile; scope = suc k; may = n; store = (begins h).store; stands = body_stands h; enough = a.asked.enough; there = scope_inside; going = a.asked.going }

      pub body_asked : {i space : ℕ} {mine area : Lent} → i ≡ body_row s.context.rows k → mine ≡ own → area ≡ rest (bodies_of_call w) o → room ≡ space → Asked i w (alone s) mine area m space
      body_asked {i} {space} {mine} {area} e f g q =
          subst (λ (t : ℕ). Asked t w (alone s) mine area m space) (sym e)
          (subst (λ (t : Lent). Asked (body_row s.context.rows k) w (alone s) t area m space) (sym f)
          (subst (λ (t : Lent). Asked (body_row s.context.rows k) w (alone s) own t m space) (sym g)
          (subst (λ (t : ℕ). Asked (body_row s.context.rows k) w (alone s) own (rest (bodies_of_call w) o) m t) q (body_by a.asked.may a.asked.stands))))

      -- ---- behind it
      module _ {done after : Lent} {ended : Status} (y : Executes (body_row s.context.rows k) w (alone s) own (rest (bodies_of_call w) o) done after m ended) {area : Lent} (g : area ≡ with_rest (bodies_of_call w) o after) where
        left_of : {p : Profile} {d n : ℕ} {vs : List Variable} (h : Stands row w p d (suc n) s l o vs)
            → Left row k b c w p d n s.context o done l area vs ended (exec (calling s.context.rows n) (instruction_tree s.context.rows (body_row s.context.rows k)) (state_of m (begins h).store))
        left_of {p} {d} {n} {vs} h =
            record { holds = h.holds; under = h.under; says = a.called; there = row_inside a.asked; room = h.area; after = after; reached = y.reaches p (suc k) n (begins h).store (body_stands h); area_is = g }

        leave_by : (n : ℕ) → Stands row w a.asked.profile a.asked.scope n s l o a.asked.store → Leaving row k c w s.context done l area ended room
        leave_by zero h = absurd (let q : ⊥ = omega (arith, some_left zero h.area) in q)
        leave_by (suc n) h =
            record { field = b; profile = a.asked.profile; scope = a.asked.scope; may = n; before = o; store = a.asked.store; progress = _; left = left_of h; enough = a.asked.enough }

        pub leave_asked : {mine : Lent} {space : ℕ} → mine ≡ done → room ≡ space → Leaving row k c w s.context mine l area ended space
        leave_asked {mine} {space} e q =
            subst (λ (t : Lent). Leaving row k c w s.context t l area ended space) (sym e)
            (subst (λ (t : ℕ). Leaving row k c w s.context done l area ended t) q (leave_by a.asked.may a.asked.stands))

        module _ {mine last free : Lent} {res : Status} (e : mine ≡ done) (v : Leaves row k c w s.context mine l area last free ended res) where
          left_so : Leaves row k c w s.context done l area last free ended res
          left_so = subst (λ (t : Lent). Leaves row k c w s.context t l area last free ended res) e v

          opens_by : (p : Profile) (d n : ℕ) (vs : List Variable) → Stands row w p d n s l o vs
              → Reached (Holds w p d s.context) o last free res (calling s.context.rows n row k (given_values s.context.rows k b) (given_references s.context.rows k c) (state_of m vs))
          opens_by p d zero vs h = absurd (let q : ⊥ = omega (arith, some_left zero h.area) in q)
          opens_by p d (suc n) vs h =
              reaches_as (call_opened s.context.rows n row k b c m vs (begins h).store (begins h).is procedure_there)
              (left_so.reaches b p d n o vs _ m (left_of h))

          pub opens : Opens row k b c w s l o last free m res
          opens = record { reaches = opens_by }

  -- ---- a copy in that failed
  pub opens_failed : {own : Lent} (answer : Result (Unit {0}) Error) → Enters row k b c w s l own (number_of answer) → is_err answer ≡ true → {res : Status} → res ≡ recorded m answer row → Opens row k b c w s l o l o m res
  opens_failed answer x f {res} e = record { reaches = failed_by }
    where
      failed_by : (p : Profile) (d n : ℕ) (vs : List Variable) → Stands row w p d n s l o vs
          → Reached (Holds w p d s.context) o l o res (calling s.context.rows n row k (given_values s.context.rows k b) (given_references s.context.rows k c) (state_of m vs))
      failed_by p d zero vs h = absurd (let q : ⊥ = omega (arith, some_left zero h.area) in q)
      failed_by p d (suc n) vs h =
          call_failed s.context.rows n row k b c m vs h.holds res answer f (x.error p d vs (call_at h) (fault_number answer f)) e a.asked.going.not_out
