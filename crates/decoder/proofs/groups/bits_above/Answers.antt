-- `bits_above` meets its contract, number by number. Assumes nothing.
use native.Mathlib.Omega.{arith}
use Rattle.decoder.proofs.Grouped.{above_0, above_1, above_2, above_3, above_4}
use Rattle.decoder.proofs.groups.bits_above.Goals as goal

pub returns-in-0 : goal.returns-in-0
returns-in-0 c = above_0 c.args.w c.args.n c.in-0.is

pub returns-in-1 : goal.returns-in-1
returns-in-1 c = above_1 c.args.w c.args.n c.in-1.is

pub returns-in-2 : goal.returns-in-2
returns-in-2 c = above_2 c.args.w c.args.n c.in-2.is

pub returns-in-3 : goal.returns-in-3
returns-in-3 c = above_3 c.args.w c.args.n c.in-3.is

pub returns-in_default : goal.returns-in_default
returns-in_default c = above_4 c.args.w c.args.n (omega arith)
