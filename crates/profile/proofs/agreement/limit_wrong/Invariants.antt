-- `limit_wrong` meets its contract. The invariant: every limit passed fits, and has its owner. Assumes nothing.
use mathlib.Core.Path.{◌≡◌}
use lib.ListN.{length}
use Rattle.lingua.specs.Numbers.{most_limits}
use Rattle.profile.proofs.Agreeing.{OwnedTo}
use Rattle.profile.proofs.agreement.limit_wrong.Given as goal

abbrev pub invariant-loop-l : goal.invariant-loop-l
invariant-loop-l l = (length l.owners ≡ most_limits) × OwnedTo l.rows l.limits l.owners l.l
