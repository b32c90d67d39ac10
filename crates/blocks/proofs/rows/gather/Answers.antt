use Rattle.std.proofs.Common.{◌≡◌, ℕ, ◌+◌, ◌-◌, ◌*◌, ◌++◌, drop, refl, ap, ◌∙◌, arith, rules}
use borrow.Rule.Slice.PartMut.{same_len_mid}
use Rattle.lingua.specs.Numbers.{area_bytes}
use Rattle.lingua.specs.Format.{areas_from, block_count}
use Rattle.laws.specs.Parts.{length_part}
use Rattle.blocks.proofs.Steps.{length_source, gather_next}
use Rattle.blocks.proofs.rows.gather.Goals as goal

pub loop-k-init : goal.loop-k-init
unfolding areas_from
loop-k-init c = (refl, refl)

pub copy_from_slice-requires : goal.copy_from_slice-requires
unfolding block_count
copy_from_slice-requires c = omega (arith, length_source c.args.file.now c.loop-k.k (omega arith), length_part c.loop-k.areas (area_bytes * c.loop-k.k) area_bytes (omega arith))

pub shape_of-areas : goal.shape_of-areas
shape_of-areas c = c.loop-k.invariant.0

pub returns : goal.returns
unfolding block_count
returns c =
    let n : c.loop-k.k ≡ block_count c.args.file.now = omega arith in
    c.loop-k.invariant.1 ∙ ap (λ (m : ℕ). areas_from 0 m c.args.file.now ++ drop (area_bytes * m) c.args.areas.now) n

pub slice_bounds-copy_from_slice-end : goal.slice_bounds-copy_from_slice-end
unfolding block_count
slice_bounds-copy_from_slice-end c = search rules

pub loop-k-preserved : goal.loop-k-preserved
unfolding block_count
loop-k-preserved c = (
  same_len_mid (area_bytes * c.loop-k.k) (area_bytes * c.loop-k.k + area_bytes - area_bytes * c.loop-k.k) c.loop-k.areas c.copy_from_slice.new.self c.copy_from_slice.ensures.len ∙ c.loop-k.invariant.0,
  gather_next c.args.file.now c.args.areas.now c.loop-k.areas c.copy_from_slice.new.self c.loop-k.k (omega arith) (omega arith) c.loop-k.invariant.1 c.copy_from_slice.ensures.after,
)
