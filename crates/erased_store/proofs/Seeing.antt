-- Memory that is lent to be read holds what the memory that it is lent from holds. Assumes nothing.
use mathlib.Core.Path.{◌≡◌, ap}
use mathlib.Core.List.{List}
use Prim.Native.Nat.{ℕ}
use lib.IntN.{ℤ}
use Rattle.run.specs.Reached.{Lent, lent}

pub same_cells : {cells these : List ℤ} {states those : List ℕ} {bodies present : List ℕ} → lent cells states bodies ≡ lent these those present → cells ≡ these
same_cells h = ap (λ (l : Lent). l.cells) h

pub same_states : {cells these : List ℤ} {states those : List ℕ} {bodies present : List ℕ} → lent cells states bodies ≡ lent these those present → states ≡ those
same_states h = ap (λ (l : Lent). l.states) h
