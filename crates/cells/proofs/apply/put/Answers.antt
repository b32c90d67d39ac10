-- `put` meets its contract, by `put_whole`. Assumes nothing.
use Rattle.cells.proofs.Numbers.{put_whole}
use Rattle.cells.proofs.apply.put.Goals as goal

pub returns : goal.returns
returns c = λ h o e k. put_whole h c.args.stack.now c.in_ok-stack.field-0 c.requires (rw c.in_ok-stack.was at e) k
