-- `keep_limit` meets its contract: the limit's owner gets it, and no other variable. Assumes nothing.
use native.Mathlib.Omega.{arith}
use lib.ListN.{length-set}
use Rattle.safety.specs.Accepted.{few_variables}
use Rattle.run.proofs.Keeping.{limit_below, owner_named, owner_room, limit_kept}
use Rattle.run.proofs.start.keep_limit.Goals as goal

pub bounds-owners-l : goal.bounds-owners-l
bounds-owners-l c = omega (arith, limit_below c.requires.1)

pub slice_set_of-kept : goal.slice_set_of-kept
slice_set_of-kept c = omega (arith, owner_room c.requires.1, c.requires.1.later.room)

pub bounds-kept-at : goal.bounds-kept-at
bounds-kept-at c = simp length-set (omega (arith, owner_room c.requires.1, c.requires.1.later.room))

pub bounds-kept-at-2 : goal.bounds-kept-at-2
bounds-kept-at-2 c = simp length-set (omega (arith, owner_room c.requires.1, c.requires.1.later.room))

pub returns : goal.returns
returns c =
    λ rows k. limit_kept rows c.args.limits.now c.args.kept.now c.args.l k.there k.later k.known.accepted.names (few_variables rows k.known.accepted 0 (omega arith)) _ (owner_named k) _ _
    c.limit_low-low.ensures c.limit_high-high.ensures c.limit_low-low.type_inv c.limit_high-high.type_inv
