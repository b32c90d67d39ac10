-- `earlier` meets its contract: the one that stands first in the order. Assumes nothing.
use Rattle.std.proofs.Common.{arith}
use Rattle.pair.proofs.Returns.{some_refusal}
use Rattle.pair.proofs.Pairs.{lower_less, lower_other}
use Rattle.pair.proofs.earlier.Goals as goal

pub returns-then-rank : goal.returns-then-rank
returns-then-rank c = lower_less _ _ (some_refusal c.args.a) (some_refusal c.args.b) (omega (arith, c.rank.ensures, c.rank-2.ensures))

pub returns : goal.returns
returns c = lower_other _ _ (some_refusal c.args.a) (some_refusal c.args.b) (omega (arith, c.rank.ensures, c.rank-2.ensures))
