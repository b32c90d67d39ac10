-- `body::walk::measured` meets its contract. Assumes nothing.
use mathlib.Core.Path.{◌≡◌}
use native.Mathlib.Omega.{arith}
use lib.ListN.{length}
use Rattle.body.proofs.Places.{at_below}
use Rattle.body.proofs.Measures.{measured_first}
use borrow.Author.Rules.{rules}
use Rattle.body.proofs.walk.measured.Goals as goal

pub bounds-body-at : goal.bounds-body-at
bounds-body-at c =
    let l : length c.args.body ≡ 96 = search rules in
    omega (arith, l, at_below c.args.body c.args.at c.requires.body c.requires.here)

pub overflow_add-result : goal.overflow_add-result
overflow_add-result c =
    let l : length c.args.body ≡ 96 = search rules in
    omega (arith, l, at_below c.args.body c.args.at c.requires.body c.requires.here)

pub returns-then-body-at-le-WORD : goal.returns-then-body-at-le-WORD
returns-then-body-at-le-WORD c = measured_first c.args.body c.args.at c.if-body-at-le-WORD.true

pub measure_at-requires : goal.measure_at-requires
measure_at-requires c = c.requires

pub returns : goal.returns
returns c = c.measure_at.ensures
