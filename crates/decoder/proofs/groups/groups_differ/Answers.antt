use mathlib.Core.Path.{sym, ◌∙◌}
use mathlib.Core.Bool.{true, false}
use Prim.Native.Nat.{◌-◌, ◌/◌, ◌%◌}
use native.Mathlib.Omega.{arith}
use Rattle.lingua.specs.Rows.{groups}
use Rattle.lingua.specs.References.{all_different}
use Rattle.decoder.proofs.Grouped.{from_start, from_first, from_rest, from_none, again, not_again, different_none}
use Rattle.decoder.proofs.groups.groups_differ.Goals as goal

pub loop-i-init : goal.loop-i-init
loop-i-init c = from_start all_different c.args.n c.args.w

pub returns-then-is_group : goal.returns-then-is_group
returns-then-is_group c = from_first (all_different) c.args.n c.args.w (c.args.n - c.loop-i.i) c.loop-i.rest c.loop-i.invariant false (omega arith) (again (c.loop-i.rest % 16) (groups ((c.args.n - c.loop-i.i) - 1) (c.loop-i.rest / 16)) (sym c.is_group.ensures ∙ c.if-is_group.true))

pub loop-i-preserved : goal.loop-i-preserved
loop-i-preserved c = from_rest (all_different) c.args.n c.args.w (c.args.n - c.loop-i.i) c.loop-i.rest c.loop-i.invariant _ (omega arith) (omega arith) (not_again (c.loop-i.rest % 16) (groups ((c.args.n - c.loop-i.i) - 1) (c.loop-i.rest / 16)) (sym c.is_group.ensures ∙ c.if-is_group.false))

pub returns : goal.returns
returns c = from_none (all_different) c.args.n c.args.w (c.args.n - c.loop-i.i) c.loop-i.rest c.loop-i.invariant true (omega arith) different_none
