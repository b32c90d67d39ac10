-- One turn of each loop over rows and blocks, and what a loop leaves at its end. Assumes nothing.
use Rattle.std.proofs.Common.{◌≡◌, ℕ, suc, add-one, ◌+◌, ◌-◌, ◌*◌, ◌<◌, ◌≤◌, Bool, true, false, List, ◌++◌, length, take, drop, sym, ap, ◌∙◌, arith, ap₂, replicate, take-take, take_at, append-nil, drop_of_length-le, length-append, length-drop}
use lib.ListN.{length-take}
use borrow.Rule.Slice.PartMut.{put_mid}
use Rattle.lingua.specs.Numbers.{row_bytes, block_bytes, header_bytes, area_bytes, check_place}
use Rattle.std.specs.Prelude.{if◌then◌else◌}
use Rattle.lingua.specs.Value.{pad}
use Rattle.lingua.specs.Rows.{row_count}
use Rattle.lingua.specs.Format.{block_count, block_at, row_area, areas_from, all_zero, used_rows, rows_of}
use Rattle.laws.specs.Parts.{put_next}
use Rattle.laws.specs.Blocks.{length_block, length_area}
use Rattle.laws.specs.Areas.{part_area, areas_next, length_areas, used_inside, length_rows, count_rows}
use Rattle.blocks.specs.Blocks.{Gathered}

-- ---- used rows, one more row at a time: the part of the bytes that the code tests is the row
module _ (bytes : List ℕ) (r : ℕ) (t : Bool) (is : t ≡ all_zero (take (row_bytes * r + row_bytes - row_bytes * r) (drop (row_bytes * r) bytes))) where
  used_next : used_rows (r + 1) bytes ≡ (if t then used_rows r bytes else suc r)
  unfolding used_rows
  used_next =
      let e : row_bytes * r + row_bytes - row_bytes * r ≡ row_bytes = omega arith in
      rw add-one
      (ap (λ (u : Bool). if u then used_rows r bytes else suc r)
      (sym (is ∙ ap (λ (m : ℕ). all_zero (take m (drop (row_bytes * r) bytes))) e)))

  pub used_here : t ≡ false → used_rows (r + 1) bytes ≡ r + 1
  used_here e = used_next ∙ (ap (λ (u : Bool). if u then used_rows r bytes else suc r) e ∙ sym (add-one r))

  pub used_before : t ≡ true → used_rows (r + 1) bytes ≡ used_rows r bytes
  used_before e = used_next ∙ ap (λ (u : Bool). if u then used_rows r bytes else suc r) e

-- ---- a block's rows behind those of the blocks before it
-- what is copied
abbrev source : List ℕ → ℕ → List ℕ
source file k = take (block_bytes * k + check_place - (block_bytes * k + header_bytes)) (drop (block_bytes * k + header_bytes) file)

pub length_source : (file : List ℕ) (k : ℕ) → k < block_count file → length (source file k) ≡ area_bytes
length_source file k h =
    ap length (part_area file k) ∙ length_area (block_at file k) (let l = length_block file k h in omega (arith, l))

pub gather_next : (file areas₀ areas last : List ℕ) (k : ℕ) → k < block_count file → area_bytes * block_count file ≤ length areas
    → areas ≡ areas_from 0 k file ++ drop (area_bytes * k) areas₀
    → last ≡ source file k
    → put_mid (area_bytes * k) (area_bytes * k + area_bytes - area_bytes * k) areas last ≡ areas_from 0 (k + 1) file ++ drop (area_bytes * (k + 1)) areas₀
gather_next file areas₀ areas last k h room is copied =
    let a : ℕ = area_bytes * k in
    let e : ℕ = area_bytes * k + area_bytes in
    let whole : last ≡ row_area (block_at file k) =
    copied ∙ part_area file k in
    let n : e ≡ area_bytes * (k + 1) = omega arith in
    ap (λ (l : List ℕ). put_mid a (e - a) areas l) whole
    ∙ ap (λ (l : List ℕ). put_mid a (e - a) l (row_area (block_at file k))) is
    ∙ put_next (areas_from 0 k file) areas₀ (row_area (block_at file k)) a e (length_areas 0 k file (omega arith)) (omega arith)
    ∙ ap (λ (l : List ℕ). l ++ drop e areas₀) (sym (areas_next file k))
    ∙ ap (λ (m : ℕ). areas_from 0 (k + 1) file ++ drop m areas₀) n

-- ---- the rows at the front of what they are copied to, and zeros behind them
pub rows_then_zeros : (rows out last zeros : List ℕ) → length rows ≤ length out → last ≡ rows
    → zeros ≡ replicate (length (take (length (last ++ drop (length rows) out) - length rows) (drop (length rows) (last ++ drop (length rows) out)))) 0
    → put_mid (length rows) (length (last ++ drop (length rows) out) - length rows) (last ++ drop (length rows) out) zeros ≡ pad (length out) 0 rows
unfolding pad
rows_then_zeros rows out last zeros room is filled =
    let n : ℕ = length rows in
    let copied : List ℕ = last ++ drop n out in
    let whole : length copied ≡ length out = omega (arith, length-append last (drop n out), length-drop n out, ap length is) in
    let rest : length (take (length copied - n) (drop n copied)) ≡ length out - n = omega (arith, length-take (length copied - n) (drop n copied), length-drop n copied) in
    put_next last out zeros n (length copied) (ap length is) (omega arith)
    ∙ ap (λ (l : List ℕ). (last ++ zeros) ++ l) (drop_of_length-le out (let e : length out ≤ length copied = omega arith in e))
    ∙ append-nil (last ++ zeros)
    ∙ ap₂ (λ (x y : List ℕ). x ++ y) is (filled ∙ ap (λ (m : ℕ). replicate m 0) rest)

-- ---- the rows of the areas that were gathered
module _ (file areas last : List ℕ) (r : ℕ) (room : area_bytes * block_count file ≤ length areas)
    (is : last ≡ areas_from 0 (block_count file) file ++ drop (area_bytes * block_count file) areas) where
  front : take (area_bytes * block_count file) last ≡ areas_from 0 (block_count file) file
  front =
      ap (λ (l : List ℕ). take (area_bytes * block_count file) l) is
      ∙ take_at (areas_from 0 (block_count file) file) (drop (area_bytes * block_count file) areas) (area_bytes * block_count file)
      (length_areas 0 (block_count file) file (omega arith))

  pub gathered : r ≡ used_rows (row_count (take (area_bytes * block_count file) last)) (take (area_bytes * block_count file) last)
      → length last ≡ length areas → Gathered (row_bytes * r) last file
  unfolding rows_of
  gathered used long =
      let all : List ℕ = areas_from 0 (block_count file) file in
      let u : r ≡ used_rows (row_count all) all = used ∙ ap (λ (l : List ℕ). used_rows (row_count l) l) front in
      let b : row_bytes * r ≤ area_bytes * block_count file = omega (arith, used_inside all, length_areas 0 (block_count file) file (omega arith)) in
      record {
        rows =
            sym (take-take (row_bytes * r) (area_bytes * block_count file) last b) ∙ ap (λ (l : List ℕ). take (row_bytes * r) l) front
            ∙ ap (λ (n : ℕ). take (row_bytes * n) all) u;
        whole = omega (arith, count_rows file, length_rows file);
        inside = omega arith;
      }
