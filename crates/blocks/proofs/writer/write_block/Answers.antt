-- `write_block` meets its contract: header, rows and check fill the block. Assumes nothing.
use Rattle.std.proofs.Common.{sym, arith, length-take-le}
use Rattle.lingua.specs.Numbers.{header_bytes}
use Rattle.lingua.specs.Answers.{file_meaning}
use Rattle.blocks.proofs.Writes.{block_stored}
use Rattle.blocks.proofs.writer.write_block.Goals as goal

pub slice_bounds-write_header-end-2 : goal.slice_bounds-write_header-end-2
slice_bounds-write_header-end-2 c = sym (length-take-le header_bytes c.args.block.now (omega arith))

pub write_header-requires : goal.write_header-requires
write_header-requires c = length-take-le header_bytes c.args.block.now (omega arith)

pub returns : goal.returns
returns c =
    block_stored (file_meaning c.args.kind) c.args.model c.args.k c.args.count c.args.area.now c.args.block.now
    c.write_header.new.header c.copy_rows.new.out c.write_check.new.block c.requires.0 c.requires.1 c.write_header.ensures c.copy_rows.ensures c.write_check.ensures
