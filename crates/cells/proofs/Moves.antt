-- What is read of a signed cell, and what a move within the stack copies. Assumes nothing.
use mathlib.Core.Path.{◌≡◌, ap}
use mathlib.Core.List.{List}
use Prim.Native.Nat.{ℕ, ◌+◌, ◌-◌, ◌^◌, ◌<◌}
use native.Mathlib.Omega.{arith}
use lib.ListN.{drop}
use lib.Seq.{paste}
use lib.IntN.{ℤ}
use lib.Signed.{mag}
use mir.Syntax.{w64}
use mir.Val.{to_z, of_z, hbits}
use mir.ValLaws.{to_z-of_z}
use Rattle.std.specs.List.{copy_within}

-- a number that fits a cell comes back as it was stored
pub cell_back : (z : ℤ) → mag z < 2 ^ hbits w64 → to_z w64 (of_z w64 z) ≡ z
cell_back z h = to_z-of_z w64 z (record { sfits = h })

-- the n cells from a place on
pub moved : (s : List ℤ) (from n to : ℕ) → copy_within s from (from + n) to ≡ paste s to (drop from s) n
moved s from n to = ap (λ (k : ℕ). paste s to (drop from s) k) (let e : (from + n) - from ≡ n = omega arith in e)
