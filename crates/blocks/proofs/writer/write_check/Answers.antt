-- `write_check` meets its contract: the check behind the bytes that it goes over. Assumes nothing.
use Rattle.std.proofs.Common.{sym, arith, length-take-le, ◌∙◌}
use Rattle.lingua.specs.Numbers.{check_place}
use Rattle.lingua.specs.Format.{bytes32}
use Rattle.blocks.proofs.Writes.{check_stored}
use Rattle.blocks.proofs.writer.write_check.Goals as goal

pub slice_bounds-block_check-end-2 : goal.slice_bounds-block_check-end-2
slice_bounds-block_check-end-2 c = sym (length-take-le check_place c.args.block.now (omega arith))

pub block_check-check-requires : goal.block_check-check-requires
block_check-check-requires c =
    let e = length-take-le check_place c.args.block.now (omega arith) in
    omega (arith, e)

pub returns : goal.returns
unfolding bytes32
returns c = check_stored c.args.block.now c.copy_from_slice.new.self c.block_check-check.result c.requires c.block_check-check.ensures (c.copy_from_slice.ensures.after ∙ c.to_le_bytes.ensures)
