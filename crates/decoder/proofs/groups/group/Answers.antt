-- `group` meets its contract, place by place. Assumes nothing.
use native.Mathlib.Omega.{arith}
use Rattle.decoder.proofs.Grouped.{group_0, group_1, group_2, group_3}
use Rattle.decoder.proofs.groups.group.Goals as goal

pub returns-in-0 : goal.returns-in-0
returns-in-0 c = group_0 c.args.w c.args.i c.in-0.is

pub returns-in-1 : goal.returns-in-1
returns-in-1 c = group_1 c.args.w c.args.i c.in-1.is

pub returns-in-2 : goal.returns-in-2
returns-in-2 c = group_2 c.args.w c.args.i c.in-2.is

pub returns-in_default : goal.returns-in_default
returns-in_default c = group_3 c.args.w c.args.i (omega arith)
