-- `groups_differ` meets its contract. The invariant: what is asked of the groups that are left is asked of all. Assumes nothing.
use mathlib.Core.Path.{◌≡◌}
use Prim.Native.Nat.{◌-◌}
use Rattle.lingua.specs.Rows.{groups}
use Rattle.lingua.specs.References.{all_different}
use Rattle.decoder.proofs.groups.groups_differ.Given as goal

abbrev pub invariant-loop-i : goal.invariant-loop-i
invariant-loop-i l = all_different (groups (l.n - l.i) l.rest) ≡ all_different (groups l.n l.w)
