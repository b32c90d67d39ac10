use mathlib.Core.Path.{◌≡◌}
use native.Mathlib.Omega.{arith}
use borrow.Author.Rules.{rules}
use lib.ListN.{length}
use Rattle.body.proofs.Equal.{none_compared, all_compared}
use Rattle.body.proofs.parts.all_same.Goals as goal

pub loop-i-init : goal.loop-i-init
loop-i-init c = none_compared _ _

pub returns : goal.returns
returns c =
    let args = c.args in
    let loop = c.loop-i in
    let lx : length args.x ≡ 96 = search rules in
    let ly : length args.y ≡ 96 = search rules in
    let e : loop.i ≡ 96 = omega arith in
    all_compared args.x args.y loop.alike loop.i loop.invariant (omega arith) (omega arith)
