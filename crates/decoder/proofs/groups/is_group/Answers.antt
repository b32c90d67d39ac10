use mathlib.Core.Bool.{true, false}
use mathlib.Core.List.{List}
use Prim.Native.Nat.{ℕ, ◌-◌, ◌/◌, ◌%◌}
use native.Mathlib.Omega.{arith}
use Rattle.lingua.specs.Rows.{groups}
use Rattle.lingua.specs.Errors.{is_among}
use Rattle.decoder.proofs.Grouped.{from_start, from_first, from_rest, from_none, is_here, not_here, among_none}
use Rattle.decoder.proofs.groups.is_group.Goals as goal

pub loop-i-init : goal.loop-i-init
loop-i-init c = from_start (λ (xs : List ℕ). is_among xs c.args.g) c.args.n c.args.w

pub returns-then-rest-g : goal.returns-then-rest-g
returns-then-rest-g c = from_first (λ (xs : List ℕ). is_among xs c.args.g) c.args.n c.args.w (c.args.n - c.loop-i._i) c.loop-i.rest c.loop-i.invariant true (omega arith) (is_here (c.loop-i.rest % 16) (groups ((c.args.n - c.loop-i._i) - 1) (c.loop-i.rest / 16)) c.args.g c.if-rest-g.true)

pub loop-i-preserved : goal.loop-i-preserved
loop-i-preserved c = from_rest (λ (xs : List ℕ). is_among xs c.args.g) c.args.n c.args.w (c.args.n - c.loop-i._i) c.loop-i.rest c.loop-i.invariant _ (omega arith) (omega arith) (not_here (c.loop-i.rest % 16) (groups ((c.args.n - c.loop-i._i) - 1) (c.loop-i.rest / 16)) c.args.g c.if-rest-g.false)

pub returns : goal.returns
returns c = from_none (λ (xs : List ℕ). is_among xs c.args.g) c.args.n c.args.w (c.args.n - c.loop-i._i) c.loop-i.rest c.loop-i.invariant false (omega arith) (among_none c.args.g)
