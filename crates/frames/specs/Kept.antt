-- An open call's variables in the area: they lie at its front, before those of the calls that it opened (`area_kept`), and each part is as long
-- as the area gives it (`holds_fills`). Assumes nothing.
use Rattle.std.specs.Prelude.{◌≡◌, List, [], ◌∷◌, ◌++◌, ℕ, ◌+◌, ◌*◌, ◌≤◌, ℤ, pos, length, take, drop}
use Rattle.std.proofs.Common.{sym, ap, ◌∙◌, append_assoc, arith, length-append, take-append-drop, take_all, drop_at, length-take-le}
use Rattle.std.proofs.Math.Seq.{take-append-add, drop-append-add, take-nil, drop-nil}
use Rattle.lingua.specs.Numbers.{body_cells, cells_length, state_words, states_length, variable_bodies_length, most_variables}
use Rattle.lingua.specs.Store.{Variable, words_of_state, store_cells, store_states, cells_in, states_in, bodies_in, call_cells, call_states, call_bodies}
use Rattle.lingua.specs.Run.{Profile}
use Rattle.laws.specs.Lists.{length_pad}
use Rattle.laws.specs.Stores.{length_parts, variable_cells, store_cells_parts, store_states_parts, Small, small_sized, states_sized}
use Rattle.laws.specs.Frames.{length_bodies_in}
use Rattle.run.specs.Reached.{Lent, lent, onto, overlaid}
use Rattle.run.proofs.Parts.{contents_small}
use Rattle.checked_row.proofs.Storing.{memory_of, all_compact}
use Rattle.frames.specs.Ways.{Way, checked, erased}
use Rattle.frames.specs.Meaning.{Context, CheckedIn, ErasedIn, HoldsBy, Holds}

-- ---- a list's front replaced
pub onto_append : {A : Type 0} (xs ys l r : List A) → length xs ≡ length l → onto (xs ++ ys) (l ++ r) ≡ xs ++ onto ys r
unfolding onto
onto_append {A} xs ys l r e =
    ap (λ (k : ℕ). take (length (l ++ r)) ((xs ++ ys) ++ drop k (l ++ r))) (length-append xs ys ∙ ap (λ (k : ℕ). k + length ys) e)
    ∙ ap (λ (z : List A). take (length (l ++ r)) ((xs ++ ys) ++ z)) (drop-append-add l r (length ys))
    ∙ ap (λ (z : List A). take (length (l ++ r)) z) (append_assoc xs ys (drop (length ys) r))
    ∙ ap (λ (k : ℕ). take k (xs ++ (ys ++ drop (length ys) r))) (length-append l r ∙ ap (λ (k : ℕ). k + length r) (sym e))
    ∙ take-append-add xs (ys ++ drop (length ys) r) (length r)

-- where nothing else is replaced
pub onto_front : {A : Type 0} (xs l r : List A) → length xs ≡ length l → onto xs (l ++ r) ≡ xs ++ r
unfolding onto
onto_front {A} xs l r e =
    ap (λ (z : List A). take (length (l ++ r)) (xs ++ z)) (drop_at l r (length xs) (sym e))
    ∙ take_all (length (l ++ r)) (xs ++ r) (omega (arith, length-append l r, length-append xs r, e))

-- the front, once what lies behind it was replaced
pub onto_both : {A : Type 0} (n : ℕ) (xs ys l : List A) → length xs ≡ n → n ≤ length l → onto xs (take n l ++ onto ys (drop n l)) ≡ onto (xs ++ ys) l
onto_both {A} n xs ys l e h =
    let same : length xs ≡ length (take n l) = e ∙ sym (length-take-le n l h) in
    onto_front xs (take n l) (onto ys (drop n l)) same
    ∙ sym (onto_append xs ys (take n l) (drop n l) same)
    ∙ ap (λ (z : List A). onto (xs ++ ys) z) (take-append-drop n l)

-- a list without elements has no front
pub onto_nothing : {A : Type 0} (xs l : List A) → l ≡ [] → onto xs l ≡ []
unfolding onto
onto_nothing {A} xs l e = ap (λ (z : List A). take (length z) (xs ++ drop (length xs) z)) e

-- ---- the memory of a scope's variables, by its parts
-- the present bodies, which the erased run does without
unfoldable pub BodiesAre : Way → List ℕ → List Variable → Type 0
BodiesAre checked bodies vs = (bodies ≡ bodies_in vs) × (length bodies ≡ variable_bodies_length)
BodiesAre erased bodies vs = bodies ≡ []

pub record Fills (w : Way) (l : Lent) (vs : List Variable) : Type 0 where
  pub cells_are : l.cells ≡ cells_in vs
  pub states_are : l.states ≡ states_in vs
  pub bodies_are : BodiesAre w l.bodies vs
  pub long_cells : length l.cells ≡ cells_length
  pub long_states : length l.states ≡ states_length

length_cells_in : (vs : List Variable) → length vs ≤ most_variables → Small vs → length (cells_in vs) ≡ cells_length
unfolding cells_in
length_cells_in vs few small =
    length_pad cells_length (pos 0) (store_cells vs)
    (let e : length (store_cells vs) ≡ body_cells * length vs = ap (λ (l : List ℤ). length l) (store_cells_parts vs) ∙ length_parts variable_cells body_cells vs (small_sized small) in
    omega (arith, e, few))

length_states_in : (vs : List Variable) → length vs ≤ most_variables → length (states_in vs) ≡ states_length
unfolding states_in
length_states_in vs few =
    length_pad states_length 0 (store_states vs)
    (let e : length (store_states vs) ≡ state_words * length vs = ap (λ (l : List ℕ). length l) (store_states_parts vs) ∙ length_parts words_of_state state_words vs (states_sized vs) in
    omega (arith, e, few))

checked_fills : {c : Context} {l : Lent} {vs : List Variable} → CheckedIn c l vs → Fills checked l vs
unfolding BodiesAre
checked_fills {c} {l} {vs} h =
    let s = h.running.world.stored in
    let small : Small vs = contents_small (memory_of s) in
    record {
      cells_are = s.cells_are;
      states_are = s.states_are;
      bodies_are = (s.bodies_are, ap (λ (b : List ℕ). length b) s.bodies_are ∙ length_bodies_in vs (record { few = s.few; small = small; compact = all_compact s }));
      long_cells = ap (λ (z : List ℤ). length z) s.cells_are ∙ length_cells_in vs s.few small;
      long_states = ap (λ (z : List ℕ). length z) s.states_are ∙ length_states_in vs s.few;
    }

erased_fills : {p : Profile} {a : ℕ} {c : Context} {l : Lent} {vs : List Variable} → ErasedIn p a c l vs → Fills erased l vs
unfolding BodiesAre
erased_fills {vs = vs} h =
    let d = h.running.world in
    let small : Small vs = contents_small (record { cells_are = d.cells_are; states_are = d.states_are; few = d.few; small = λ n i. d.small n; fit = d.fit }) in
    record {
      cells_are = d.cells_are;
      states_are = d.states_are;
      bodies_are = h.no_bodies;
      long_cells = ap (λ (z : List ℤ). length z) d.cells_are ∙ length_cells_in vs d.few small;
      long_states = ap (λ (z : List ℕ). length z) d.states_are ∙ length_states_in vs d.few;
    }

pub holds_fills : (w : Way) {p : Profile} {a : ℕ} {c : Context} {l : Lent} {vs : List Variable} → Holds w p a c l vs → Fills w l vs
unfolding HoldsBy
holds_fills checked h = checked_fills h.by
holds_fills erased h = erased_fills h.by

-- ---- the area
-- a call's part of the bodies: how many bytes it takes, and that there is room for it
unfoldable pub BodiesRoom : Way → ℕ → List ℕ → Type 0
BodiesRoom checked n bodies = (n ≡ variable_bodies_length) × (variable_bodies_length ≤ length bodies)
BodiesRoom erased n bodies = bodies ≡ []

-- what lies in the area is o's own part for the call before what the calls that it opened left of the rest
unfoldable pub behind_front : ℕ → List (List Variable) → Lent → Lent
behind_front n os o =
    let r = overlaid os (lent (drop cells_length o.cells) (drop states_length o.states) (drop n o.bodies)) in
    lent (take cells_length o.cells ++ r.cells) (take states_length o.states ++ r.states) (take n o.bodies ++ r.bodies)

bodies_kept : (w : Way) (n : ℕ) (own bodies : List ℕ) (us : List Variable) (os : List (List Variable)) → BodiesAre w own us → BodiesRoom w n bodies
    → onto own (take n bodies ++ onto (call_bodies os) (drop n bodies)) ≡ onto (call_bodies (us ∷ os)) bodies
unfolding BodiesAre BodiesRoom call_bodies
bodies_kept checked n own bodies us os b r =
    onto_both n own (call_bodies os) bodies (b.1 ∙ sym r.0) (omega (arith, r.0, r.1))
    ∙ ap (λ (z : List ℕ). onto (z ++ call_bodies os) bodies) b.0
bodies_kept erased n own bodies us os b r =
    let nothing : take n bodies ++ onto (call_bodies os) (drop n bodies) ≡ [] =
    ap (λ (z : List ℕ). take n z ++ onto (call_bodies os) (drop n z)) r
    ∙ ap (λ (z : List ℕ). z ++ onto (call_bodies os) (drop n [])) (take-nil n)
    ∙ onto_nothing (call_bodies os) (drop n []) (drop-nil n) in
    onto_nothing own (take n bodies ++ onto (call_bodies os) (drop n bodies)) nothing
    ∙ sym (onto_nothing (bodies_in us ++ call_bodies os) bodies r)

same_lent : {cells cells' : List ℤ} {states states' bodies bodies' : List ℕ} → cells ≡ cells' → states ≡ states' → bodies ≡ bodies' → lent cells states bodies ≡ lent cells' states' bodies'
same_lent {cells} {cells'} {states} {states'} {bodies} {bodies'} p q r =
    ap (λ (z : List ℤ). lent z states bodies) p ∙ ap (λ (z : List ℕ). lent cells' z bodies) q ∙ ap (λ (z : List ℕ). lent cells' states' z) r

-- the call's own variables to the front of that: the area has them and those of the calls that it opened
pub area_kept : (w : Way) {p : Profile} {a : ℕ} {c : Context} {own : Lent} {us : List Variable} → Holds w p a c own us
    → (n : ℕ) (os : List (List Variable)) (o : Lent) → cells_length ≤ length o.cells → states_length ≤ length o.states → BodiesRoom w n o.bodies
    → (area : Lent) → area ≡ behind_front n os o → lent (onto own.cells area.cells) (onto own.states area.states) (onto own.bodies area.bodies) ≡ overlaid (us ∷ os) o
unfolding behind_front overlaid call_cells call_states
area_kept w {own = own} {us = us} h n os o cs ss room area e =
    let f = holds_fills w h in
    ap (λ (l : Lent). lent (onto own.cells l.cells) (onto own.states l.states) (onto own.bodies l.bodies)) e
    ∙ same_lent
    (onto_both cells_length own.cells (call_cells os) o.cells f.long_cells cs ∙ ap (λ (z : List ℤ). onto (z ++ call_cells os) o.cells) f.cells_are)
    (onto_both states_length own.states (call_states os) o.states f.long_states ss ∙ ap (λ (z : List ℕ). onto (z ++ call_states os) o.states) f.states_are)
    (bodies_kept w n own.bodies o.bodies us os f.bodies_are room)
