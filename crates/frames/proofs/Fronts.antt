-- A list that is copied to another's front. Assumes nothing.
use mathlib.Core.Path.{◌≡◌, sym}
use mathlib.Core.List.{List, ◌++◌}
use Prim.Native.Nat.{◌≤◌}
use native.Mathlib.Omega.{arith}
use lib.ListN.{length, drop, length-append, length-drop}
use lib.Seq.{take_all}
use Rattle.run.specs.Reached.{onto}

pub front_whole : {A : Type 0} (l xs : List A) → length xs ≤ length l → xs ++ drop (length xs) l ≡ onto xs l
unfolding onto
front_whole l xs h = sym (take_all (length l) (xs ++ drop (length xs) l) (omega (arith, length-append xs (drop (length xs) l), length-drop (length xs) l)))
