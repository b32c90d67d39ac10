-- The area for calls: at first zeros with room for sixteen, and at the end the open calls as the definition hands them out. Assumes nothing.
use mathlib.Core.Path.{◌≡◌, ap, ◌∙◌, subst}
use mathlib.Core.List.{List, ◌++◌}
use Prim.Native.Nat.{ℕ, ◌+◌, ◌-◌, ◌≤◌}
use native.Mathlib.Omega.{arith}
use lib.IntN.{ℤ, pos}
use lib.ListN.{length, take, replicate, length-append, length-replicate}
use lib.Seq.{take_all}
use Rattle.lingua.specs.Numbers.{most_calls, open_cells_length, open_states_length, open_bodies_length}
use Rattle.lingua.specs.Value.{pad}
use Rattle.lingua.specs.Store.{Variable, call_cells, call_states, call_bodies, open_cells_in, open_states_in}
use Rattle.laws.specs.Lists.{drop_replicate}
use Rattle.laws.specs.Every.{Every}
use Rattle.laws.specs.Frames.{Bounded, length_call_cells, length_call_states, length_call_bodies}
use Rattle.run.specs.Reached.{Lent, onto, overlaid}
use Rattle.frames.specs.Ways.{Way, checked, erased}
use Rattle.opening.specs.Meaning.{AreaBodies, AreaOf}
use Rattle.whole_run.specs.Meaning.{ClearBodies, Clear}

-- ---- at first
clear_bodies : (w : Way) (bodies : List ℕ) → ClearBodies w bodies → AreaBodies w 16 bodies
unfolding ClearBodies AreaBodies
clear_bodies checked bodies e = ap (λ (x : List ℕ). length x) e ∙ length-replicate {A = ℕ} open_bodies_length 0
clear_bodies erased bodies e = e

pub clear_area : {w : Way} {o : Lent} → Clear w o → AreaOf w 16 o
clear_area {w} {o} c = record {
  cells = ap (λ (x : List ℤ). length x) c.cells_are ∙ length-replicate {A = ℤ} open_cells_length (pos 0);
  states = ap (λ (x : List ℕ). length x) c.states_are ∙ length-replicate {A = ℕ} open_states_length 0;
  bodies = clear_bodies w o.bodies c.bodies_are;
}

-- ---- at the end
onto_zeros : {A : Type 0} (n : ℕ) (z : A) (xs : List A) → length xs ≤ n → onto xs (replicate n z) ≡ pad n z xs
unfolding onto pad
onto_zeros n z xs l =
    ap (λ (t : List _). take (length (replicate n z)) (xs ++ t)) (drop_replicate (length xs) n z)
    ∙ take_all (length (replicate n z)) (xs ++ replicate (n - length xs) z)
    (let e : length (xs ++ replicate (n - length xs) z) ≡ length xs + length (replicate (n - length xs) z) = length-append xs (replicate (n - length xs) z) in
    omega (arith, e, length-replicate (n - length xs) z, length-replicate n z))

-- the area with open calls, where there was none
pub record OnZeros (w : Way) (free : Lent) (os : List (List Variable)) : Type 0 where
  pub cells_are : free.cells ≡ open_cells_in os
  pub states_are : free.states ≡ open_states_in os
  pub bodies_are : w ≡ checked → free.bodies ≡ pad open_bodies_length 0 (call_bodies os)

pub on_zeros : {w : Way} {o free : Lent} {os : List (List Variable)} → Clear w o → Every Bounded os → length os ≤ most_calls → free ≡ overlaid os o → OnZeros w free os
unfolding overlaid open_cells_in open_states_in ClearBodies
on_zeros {w} {o} {free} {os} c bounded few e = record {
  cells_are =
      ap (λ (x : Lent). x.cells) e ∙ ap (λ (x : List ℤ). onto (call_cells os) x) c.cells_are
      ∙ onto_zeros open_cells_length (pos 0) (call_cells os) (omega (arith, few, length_call_cells os bounded));
  states_are =
      ap (λ (x : Lent). x.states) e ∙ ap (λ (x : List ℕ). onto (call_states os) x) c.states_are
      ∙ onto_zeros open_states_length 0 (call_states os) (omega (arith, few, length_call_states os bounded));
  bodies_are = λ q.
      ap (λ (x : Lent). x.bodies) e ∙ ap (λ (x : List ℕ). onto (call_bodies os) x) (subst (λ (v : Way). ClearBodies v o.bodies) q c.bodies_are)
      ∙ onto_zeros open_bodies_length 0 (call_bodies os) (omega (arith, few, length_call_bodies os bounded));
}
