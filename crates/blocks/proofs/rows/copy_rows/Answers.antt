-- `copy_rows` meets its contract. Assumes nothing.
use Rattle.blocks.proofs.Steps.{rows_then_zeros}
use Rattle.blocks.proofs.rows.copy_rows.Goals as goal

pub returns : goal.returns
returns c = rows_then_zeros c.args.rows.now c.args.out.now c.copy_from_slice.new.self c.fill.new.self c.requires c.copy_from_slice.ensures.after (c.fill.ensures.after (λ y e. e))
