use Rattle.std.proofs.Common.{◌+◌, ◌-◌, ◌*◌, ◌/◌, length, drop, refl, ap, ◌∙◌, arith}
use borrow.Rule.Slice.PartMut.{same_len_mid}
use Rattle.lingua.specs.Numbers.{block_bytes, area_bytes}
use Rattle.lingua.specs.Format.{blocks_from}
use Rattle.lingua.specs.Answers.{file_meaning}
use Rattle.laws.specs.Parts.{length_part, length_taken}
use Rattle.blocks.proofs.Writes.{write_next, file_written}
use Rattle.blocks.proofs.writer.write_file.Goals as goal

pub loop-k-init : goal.loop-k-init
unfolding blocks_from
loop-k-init c = (refl, refl)

pub write_block-requires : goal.write_block-requires
write_block-requires c =
    let short = length_taken area_bytes (drop (area_bytes * c.loop-k.k) c.args.rows.now) in
    (omega (arith, ap length c.area_of-area.ensures, short), length_part c.loop-k.out (block_bytes * c.loop-k.k) block_bytes (omega arith))

pub loop-k-preserved : goal.loop-k-preserved
loop-k-preserved c =
    let last = c.write_block.new.block in (
      same_len_mid (block_bytes * c.loop-k.k) (block_bytes * c.loop-k.k + block_bytes - block_bytes * c.loop-k.k) c.loop-k.out last c.write_block.auto.block ∙ c.loop-k.invariant.0,
      write_next (file_meaning c.args.kind) c.args.model (length c.args.out.now / block_bytes) c.loop-k.k c.args.rows.now c.area_of-area.result.now c.args.out.now c.loop-k.out last
          c.area_of-area.ensures c.loop-k.invariant.1 c.write_block.ensures,
    )

pub shape_of-out : goal.shape_of-out
shape_of-out c = c.loop-k.invariant.0

pub returns : goal.returns
returns c = file_written (file_meaning c.args.kind) c.args.model c.loop-k.k c.args.rows.now c.args.out.now c.loop-k.out c.requires.0 (omega arith) c.loop-k.invariant.1
