-- A call behind its body: out of budget its variables are kept at the area's front, else what was given by reference comes back and the area is
-- as it was. Assumes nothing.
use mathlib.Core.Path.{◌≡◌, refl, sym, ap, ◌∙◌}
use mathlib.Core.Bool.{Bool, true, false}
use mathlib.Core.List.{List, [], ◌∷◌, ◌++◌}
use Prim.Native.Nat.{ℕ, suc, ◌≤◌, ◌<◌}
use native.Mathlib.Omega.{arith}
use lib.IntN.{ℤ}
use lib.ListN.{length, take, drop, length-append, take-append-drop}
use lib.Seq.{length-take-le}
use Rattle.lingua.specs.Numbers.{cells_length, states_length, variable_bodies_length, most_procedures}
use Rattle.lingua.specs.Rows.{procedure_count}
use Rattle.lingua.specs.Store.{Variable, assigned}
use Rattle.lingua.specs.Run.{Progress, going, copied_out, returned, Profile}
use Rattle.lingua.specs.Trees.{given_values, given_references}
use Rattle.laws.specs.Outcomes.{false_is_true}
use Rattle.safety.specs.Accepted.{few_procedures_lem}
use Rattle.rules.specs.Accepted.{counts}
use Rattle.run.specs.declared.steps.Status.{Status}
use Rattle.run.specs.Statuses.{state_of, progress_of}
use Rattle.run.specs.Reached.{Lent, lent, onto, overlaid, Reached}
use Rattle.run.specs.Acting.{still_going, overlaid_none, area_stays}
use Rattle.frames.specs.Ways.{Way, checked, erased}
use Rattle.frames.specs.Meaning.{Context, Holds, Facing, HasFacing, AllBack, CopiesOut}
use Rattle.frames.specs.Kept.{BodiesAre, Fills, holds_fills, BodiesRoom, behind_front, area_kept}
use Rattle.opening.specs.Meaning.{AreaBodies}
use Rattle.opening.specs.Calls.{unlimited, rest, with_rest, bodies_of_call, Left, Leaving, Leaves}
use Rattle.opening.proofs.Rows.{holds_accepted}
use Rattle.opening.proofs.Given.{Counted, values_long, references_are, call_known, references_back}

-- ---- the area
-- the rest as it was: the whole is
same_rest : (n : ℕ) (o : Lent) → with_rest n o (rest n o) ≡ o
unfolding with_rest rest
same_rest n o =
    ap (λ (x : List ℤ). lent x (take states_length o.states ++ drop states_length o.states) (take n o.bodies ++ drop n o.bodies)) (take-append-drop cells_length o.cells)
    ∙ ap (λ (x : List ℕ). lent o.cells x (take n o.bodies ++ drop n o.bodies)) (take-append-drop states_length o.states)
    ∙ ap (λ (x : List ℕ). lent o.cells o.states x) (take-append-drop n o.bodies)

front_fits : {A : Type 0} (n : ℕ) (l r : List A) → n ≤ length l → n ≤ length (take n l ++ r)
front_fits n l r h = omega (arith, length-append (take n l) r, length-take-le n l h)

bodies_room : (w : Way) (n : ℕ) (bodies : List ℕ) → AreaBodies w (suc n) bodies → BodiesRoom w (bodies_of_call w) bodies
unfolding AreaBodies BodiesRoom
bodies_room checked n bodies e = (refl, omega (arith, e))
bodies_room erased n bodies e = e

bodies_fit : (w : Way) (n : ℕ) (own bodies r : List ℕ) (us : List Variable) → BodiesAre w own us → AreaBodies w (suc n) bodies → length own ≤ length (take (bodies_of_call w) bodies ++ r)
unfolding BodiesAre AreaBodies
bodies_fit checked n own bodies r us b e = omega (arith, b.1, front_fits variable_bodies_length bodies r (omega (arith, e)))
bodies_fit erased n own bodies r us b e = omega (arith, ap (λ (xs : List ℕ). length xs) b)

-- ---- the body's end
module _ {row k b c : ℕ} {w : Way} {p : Profile} {a n : ℕ} {x : Context} {o own l area : Lent} {vs : List Variable} {ended : Status} {q : Progress}
    (h : Left row k b c w p a n x o own l area vs ended q) where
  filled : Fills w own h.reached.store
  filled = holds_fills w h.reached.running

  cells_room : cells_length ≤ length o.cells
  cells_room = omega (arith, h.room.cells)

  states_room : states_length ≤ length o.states
  states_room = omega (arith, h.room.states)

  -- there is room for its variables
  pub cells_fit : length own.cells ≤ length area.cells
  unfolding with_rest
  cells_fit =
      omega (arith, filled.long_cells, ap (λ (z : Lent). length z.cells) h.area_is, front_fits cells_length o.cells h.after.cells cells_room)

  pub states_fit : length own.states ≤ length area.states
  unfolding with_rest
  states_fit =
      omega (arith, filled.long_states, ap (λ (z : Lent). length z.states) h.area_is, front_fits states_length o.states h.after.states states_room)

  pub present_fit : length own.bodies ≤ length area.bodies
  unfolding with_rest
  present_fit =
      omega (arith, ap (λ (z : Lent). length z.bodies) h.area_is, bodies_fit w n own.bodies o.bodies h.after.bodies h.reached.store filled.bodies_are h.room.bodies)

  -- ---- out of budget
  front_is : area ≡ behind_front (bodies_of_call w) h.reached.opens o
  unfolding with_rest rest behind_front
  front_is = h.area_is ∙ ap (λ (r : Lent). with_rest (bodies_of_call w) o r) h.reached.area

  stays_open : {cells : List ℤ} {states bodies : List ℕ} → cells ≡ onto own.cells area.cells → states ≡ onto own.states area.states → bodies ≡ onto own.bodies area.bodies
      → lent cells states bodies ≡ overlaid (h.reached.store ∷ h.reached.opens) o
  stays_open {cells} {states} {bodies} e f g =
      ap (λ (z : List ℤ). lent z states bodies) e
      ∙ ap (λ (z : List ℕ). lent (onto own.cells area.cells) z bodies) f
      ∙ ap (λ (z : List ℕ). lent (onto own.cells area.cells) (onto own.states area.states) z) g
      ∙ area_kept w h.reached.running (bodies_of_call w) h.reached.opens o cells_room states_room (bodies_room w n o.bodies h.room.bodies) area front_is

  went_out : ended.out ≡ true → (m : Status) (j : ℕ) (rs : List ℕ)
      → returned assigned row j rs (state_of m vs) q ≡ progress_of ended.out (state_of ended vs) (h.reached.store ∷ h.reached.opens)
  went_out e m j rs =
      ap (λ (g : Progress). returned assigned row j rs (state_of m vs) g) (h.reached.is ∙ ap (λ (t : Bool). progress_of t (state_of ended h.reached.store) h.reached.opens) e)
      ∙ sym (ap (λ (t : Bool). progress_of t (state_of ended vs) (h.reached.store ∷ h.reached.opens)) e)

  left_open : ended.out ≡ true → {cells : List ℤ} {states bodies : List ℕ} → cells ≡ onto own.cells area.cells → states ≡ onto own.states area.states → bodies ≡ onto own.bodies area.bodies
      → (m : Status) (j : ℕ) (rs : List ℕ) → Reached (Holds w p a x) o l (lent cells states bodies) ended (returned assigned row j rs (state_of m vs) q)
  left_open e f g i m j rs =
      record {
        store = vs;
        opens = h.reached.store ∷ h.reached.opens;
        is = went_out e m j rs;
        running = h.holds;
        area = stays_open f g i;
        closed = λ z. false_is_true (sym z ∙ e);
      }

  -- ---- what was given by reference comes back
  pub left_there : k < procedure_count x.rows
  left_there = (call_known h.holds h.under h.says h.there).procedure

  pub left_few : k < most_procedures
  left_few = omega (arith, left_there, few_procedures_lem x.rows (holds_accepted w h.holds))

  pub left_narrow : row < 65536
  left_narrow = omega (arith, (counts x.rows (holds_accepted w h.holds).counts).instructions.most, h.there)

  module _ {i j : ℕ} (count : Counted x.rows k i j) where
    back_facing : Facing w p (suc k) a (unlimited x).limits own h.reached.store x l vs
    back_facing = record { gives = h.reached.running; takes = h.holds }

    back_pairs : AllBack w p (suc k) a h.reached.store vs c j i
    back_pairs = references_back h.holds h.under h.says h.there count h.reached.store h.reached.running.count

  module _ {i j : ℕ} (count : Counted x.rows k i j) (e : ended.out ≡ false) {after : Lent} {r : Status} (back : CopiesOut w own x l after row c j i ended r) where
    area_same : area ≡ o
    area_same = h.area_is ∙ ap (λ (z : Lent). with_rest (bodies_of_call w) o z) (area_stays h.reached e) ∙ same_rest (bodies_of_call w) o

    came_back : (d : Status) → Reached (Holds w p a x) o after area r (returned assigned row (length (given_values x.rows k b)) (given_references x.rows k c) (state_of d vs) q)
    came_back d =
        let u = back.back p (suc k) a (unlimited x).limits h.reached.store vs (back_facing count) (back_pairs count) in
        let on : r.out ≡ false = u.same_out ∙ e in
        record {
          store = u.store;
          opens = [];
          is =
              ap (λ (g : Progress). returned assigned row (length (given_values x.rows k b)) (given_references x.rows k c) (state_of d vs) g)
              (h.reached.is ∙ ap (λ (t : Bool). progress_of t (state_of ended h.reached.store) h.reached.opens) e)
              ∙ ap (λ (f : ℕ). going (copied_out assigned row h.reached.store f (given_references x.rows k c) (state_of ended vs))) (sym (values_long count b))
              ∙ ap (λ (ns : List ℕ). going (copied_out assigned row h.reached.store i ns (state_of ended vs))) (sym (references_are count c))
              ∙ ap going u.is
              ∙ still_going r (state_of r u.store) [] on;
          running = u.holds;
          area = area_same ∙ sym (overlaid_none o);
          closed = λ z. refl;
        }

-- ---- what the code shows
module _ {row k c : ℕ} {w : Way} {x : Context} {own l area : Lent} {ended : Status} {room : ℕ} (h : Leaving row k c w x own l area ended room) where
  pub back_has_facing : {m n : ℕ} → Counted x.rows k m n → HasFacing w own x l room (λ p a d vs ws. AllBack w p a d vs ws c n m)
  back_has_facing count =
      record {
        profile = h.profile;
        source = suc k;
        target = h.scope;
        limits = (unlimited x).limits;
        given = h.left.reached.store;
        taken = h.store;
        facing = back_facing h.left count;
        property = back_pairs h.left count;
        enough = h.enough;
      }

pub leaves_open : {row k c : ℕ} {w : Way} {x : Context} {own l area : Lent} {ended : Status} {cells : List ℤ} {states bodies : List ℕ} → ended.out ≡ true
    → cells ≡ onto own.cells area.cells → states ≡ onto own.states area.states → bodies ≡ onto own.bodies area.bodies
    → Leaves row k c w x own l area l (lent cells states bodies) ended ended
leaves_open {k = k} {c} {x = x} e f g i =
    record { reaches = λ b p a n o vs q m h. left_open h e f g i m (length (given_values x.rows k b)) (given_references x.rows k c) }

pub leaves_back : {row k c : ℕ} {w : Way} {x : Context} {own l area after : Lent} {ended r : Status} {m n : ℕ} → Counted x.rows k m n → ended.out ≡ false → CopiesOut w own x l after row c n m ended r
    → Leaves row k c w x own l area after area ended r
leaves_back count e back = record { reaches = λ b p a n o vs q m h. came_back h count e back m }
