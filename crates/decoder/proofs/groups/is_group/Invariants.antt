-- `is_group` meets its contract. The invariant: the number is among those that are left where it is among all. Assumes nothing.
use mathlib.Core.Path.{◌≡◌}
use Prim.Native.Nat.{◌-◌}
use Rattle.lingua.specs.Rows.{groups}
use Rattle.lingua.specs.Errors.{is_among}
use Rattle.decoder.proofs.groups.is_group.Given as goal

abbrev pub invariant-loop-i : goal.invariant-loop-i
invariant-loop-i l = is_among (groups (l.n - l._i) l.rest) l.g ≡ is_among (groups l.n l.w) l.g
