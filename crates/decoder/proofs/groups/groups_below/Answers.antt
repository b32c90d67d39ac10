use mathlib.Core.Bool.{true, false}
use mathlib.Core.List.{List}
use Prim.Native.Nat.{ℕ, ◌-◌, ◌/◌, ◌%◌}
use native.Mathlib.Omega.{arith}
use Rattle.lingua.specs.Rows.{groups}
use Rattle.lingua.specs.References.{all_below}
use Rattle.decoder.proofs.Grouped.{from_start, from_first, from_rest, from_none, not_below, is_below, below_none}
use Rattle.decoder.proofs.groups.groups_below.Goals as goal

pub loop-i-init : goal.loop-i-init
loop-i-init c = from_start (λ (xs : List ℕ). all_below c.args.end xs) c.args.n c.args.w

pub returns-then-rest-end : goal.returns-then-rest-end
returns-then-rest-end c = from_first (λ (xs : List ℕ). all_below c.args.end xs) c.args.n c.args.w (c.args.n - c.loop-i._i) c.loop-i.rest c.loop-i.invariant false (omega arith) (not_below (c.loop-i.rest % 16) (groups ((c.args.n - c.loop-i._i) - 1) (c.loop-i.rest / 16)) c.args.end (omega arith))

pub loop-i-preserved : goal.loop-i-preserved
loop-i-preserved c = from_rest (λ (xs : List ℕ). all_below c.args.end xs) c.args.n c.args.w (c.args.n - c.loop-i._i) c.loop-i.rest c.loop-i.invariant _ (omega arith) (omega arith) (is_below (c.loop-i.rest % 16) (groups ((c.args.n - c.loop-i._i) - 1) (c.loop-i.rest / 16)) c.args.end (omega arith))

pub returns : goal.returns
returns c = from_none (λ (xs : List ℕ). all_below c.args.end xs) c.args.n c.args.w (c.args.n - c.loop-i._i) c.loop-i.rest c.loop-i.invariant true (omega arith) (below_none c.args.end)
