-- `gather_rows` meets its contract: of the areas that were gathered, those up to the last row that is not zero. Assumes nothing.
use Rattle.std.proofs.Common.{◌*◌, ◌/◌, length, sym, arith, length-take-le}
use Rattle.lingua.specs.Numbers.{area_bytes, block_bytes}
use Rattle.lingua.specs.Format.{block_count}
use Rattle.blocks.proofs.Steps.{gathered}
use Rattle.blocks.proofs.rows.gather_rows.Goals as goal

pub slice_bounds-used_rows-end : goal.slice_bounds-used_rows-end
unfolding block_count
slice_bounds-used_rows-end c = omega (arith, c.gather.auto.areas, c.requires)

pub slice_bounds-used_rows-end-2 : goal.slice_bounds-used_rows-end-2
unfolding block_count
slice_bounds-used_rows-end-2 c = sym (length-take-le (area_bytes * (length c.args.file.now / block_bytes)) c.gather.new.areas (omega (arith, c.gather.auto.areas, c.requires)))

pub returns : goal.returns
unfolding block_count
returns c = gathered c.args.file.now c.args.areas.now c.gather.new.areas c.used_rows.result c.requires c.gather.ensures c.used_rows.ensures c.gather.auto.areas

pub overflow_mul-result : goal.overflow_mul-result
unfolding block_count
overflow_mul-result c = omega (arith, (gathered c.args.file.now c.args.areas.now c.gather.new.areas c.used_rows.result c.requires c.gather.ensures c.used_rows.ensures c.gather.auto.areas).inside, c.gather.auto.areas, c.well_formed)
