-- What the stores of the writer leave: the part of the rows that a block has, its header, its check, the block, and the blocks one
-- after the other. Assumes nothing.
use Rattle.std.proofs.Common.{◌≡◌, ℕ, ◌+◌, ◌-◌, ◌*◌, ◌/◌, ◌%◌, ◌≤◌, List, [], ◌∷◌, ◌++◌, length, take, drop, set, sym, ap, ◌∙◌, ap₂, append_assoc, append-nil, arith, length-append, length-drop, drop_of_length-le, take_all, take_at}
use lib.Seq.{take-nil, drop-length}
use borrow.Rule.Slice.PartMut.{put_mid}
use Rattle.lingua.specs.Numbers.{block_bytes, header_bytes, area_bytes, check_place}
use Rattle.lingua.specs.Value.{pad}
use Rattle.lingua.specs.Rows.{row_count}
use Rattle.lingua.specs.Format.{File, marker, bytes16, bytes32, block_check, block_body, with_check, blocks_for, file_length, blocks_from, file_of}
use Rattle.laws.specs.Parts.{length_part, put_next, store_four_at}
use Rattle.laws.specs.Lists.{length_pad}
use Rattle.laws.specs.Written.{length_marker, written, blocks_next, length_blocks}
use Rattle.blocks.specs.Blocks.{header_of}

-- ---- the rows of a block
module _ (rows : List ℕ) (k : ℕ) where
  pub area_none : length rows ≤ area_bytes * k → take (length rows - length rows) (drop (length rows) rows) ≡ take area_bytes (drop (area_bytes * k) rows)
  area_none h =
      ap (λ (l : List ℕ). take (length rows - length rows) l) (drop-length rows) ∙ take-nil (length rows - length rows)
      ∙ sym (ap (λ (l : List ℕ). take area_bytes l) (drop_of_length-le rows h) ∙ take-nil area_bytes)

  pub area_last : length rows ≤ area_bytes * k + area_bytes → take (length rows - area_bytes * k) (drop (area_bytes * k) rows) ≡ take area_bytes (drop (area_bytes * k) rows)
  area_last h =
      let l = length-drop (area_bytes * k) rows in
      take_all (length rows - area_bytes * k) (drop (area_bytes * k) rows) (omega (arith, l))
      ∙ sym (take_all area_bytes (drop (area_bytes * k) rows) (omega (arith, l)))

  pub area_full : take (area_bytes * k + area_bytes - area_bytes * k) (drop (area_bytes * k) rows) ≡ take area_bytes (drop (area_bytes * k) rows)
  area_full =
      let e : area_bytes * k + area_bytes - area_bytes * k ≡ area_bytes = omega arith in
      ap (λ (n : ℕ). take n (drop (area_bytes * k) rows)) e

-- ---- a block's header, over eight bytes
pub header_stored : (f : File) (model k n : ℕ) (m header last : List ℕ) (a b : ℕ) → length header ≡ header_bytes → m ≡ marker f
    → last ≡ m → a ≡ model % 256 → b ≡ model / 256 % 256
    → set (set (set (set (last ++ drop 4 header) 4 k) 5 n) 6 a) 7 b ≡ header_of f model k n
unfolding header_of bytes16
header_stored f model k n m header last a b h is copied ea eb =
    let four : length m ≡ 4 = ap length is ∙ length_marker f in
    let from : last ++ drop 4 header ≡ m ++ drop (length m) header = ap₂ (λ (l : List ℕ) (n : ℕ). l ++ drop n header) copied (sym four) in
    ap (λ (l : List ℕ). set (set (set (set l 4 k) 5 n) 6 a) 7 b) from
    ∙ store_four_at 4 m (drop (length m) header) k n a b four (length-drop (length m) header ∙ (let e : length header - length m ≡ 4 = omega arith in e))
    ∙ ap₂ (λ (x y : ℕ). m ++ (k ∷ n ∷ x ∷ y ∷ [])) ea eb
    ∙ ap (λ (l : List ℕ). l ++ (k ∷ n ∷ model % 256 ∷ model / 256 % 256 ∷ [])) is

-- ---- a block's check, over its last four bytes
pub check_stored : (block last : List ℕ) (check : ℕ) → length block ≡ block_bytes → check ≡ block_check (take check_place block) → last ≡ bytes32 check
    → put_mid check_place (length block - check_place) block last ≡ with_check (take check_place block)
unfolding with_check
check_stored block last check long is written =
    let front : List ℕ = take check_place block in
    let none : drop (length block - check_place) (drop check_place block) ≡ [] = drop_of_length-le (drop check_place block) (omega (arith, length-drop check_place block)) in
    ap (λ (l : List ℕ). front ++ (last ++ l)) none
    ∙ ap (λ (l : List ℕ). front ++ l) (append-nil last ∙ (written ∙ ap bytes32 is))

-- ---- a block: header, rows, check
length_header : (f : File) (model k n : ℕ) → length (header_of f model k n) ≡ header_bytes
unfolding header_of bytes16
length_header f model k n = omega (arith, length-append (marker f) (k ∷ n ∷ bytes16 model), length_marker f)

pub block_stored : (f : File) (model k n : ℕ) (area block h ys zs : List ℕ) → length area ≤ area_bytes → length block ≡ block_bytes
    → h ≡ header_of f model k n
    → ys ≡ pad (length (take area_bytes (drop header_bytes (h ++ drop header_bytes block)))) 0 area
    → zs ≡ with_check (take check_place (put_mid header_bytes area_bytes (h ++ drop header_bytes block) ys))
    → zs ≡ with_check (header_of f model k n ++ pad area_bytes 0 area)
block_stored f model k n area block h ys zs short long is filled checked =
    let eight : length h ≡ header_bytes = ap length is ∙ length_header f model k n in
    let room = length_part (h ++ drop header_bytes block) header_bytes area_bytes (omega (arith, length-append h (drop header_bytes block), length-drop header_bytes block)) in
    let rest : ys ≡ pad area_bytes 0 area = filled ∙ ap (λ (m : ℕ). pad m 0 area) room in
    let full : length (h ++ ys) ≡ check_place = omega (arith, length-append h ys, ap length rest ∙ length_pad area_bytes 0 area short) in
    checked
    ∙ ap (λ (l : List ℕ). with_check (take check_place l)) (put_next h block ys header_bytes check_place eight (omega arith))
    ∙ ap with_check (take_at (h ++ ys) (drop check_place block) check_place full ∙ ap₂ (λ (x y : List ℕ). x ++ y) is rest)

-- ---- the blocks, one after the other
body_is : (f : File) (model k n : ℕ) (rows : List ℕ)
    → header_of f model k n ++ pad area_bytes 0 (take area_bytes (drop (area_bytes * k) rows)) ≡ block_body f model k n rows
unfolding header_of block_body
body_is f model k n rows =
    append_assoc (marker f) (k ∷ n ∷ bytes16 model) (pad area_bytes 0 (take area_bytes (drop (area_bytes * k) rows)))

pub write_next : (f : File) (model n k : ℕ) (rows area out₀ out last : List ℕ) → area ≡ take area_bytes (drop (area_bytes * k) rows)
    → out ≡ blocks_from f model n 0 k rows ++ drop (block_bytes * k) out₀
    → last ≡ with_check (header_of f model k n ++ pad area_bytes 0 area)
    → put_mid (block_bytes * k) (block_bytes * k + block_bytes - block_bytes * k) out last ≡ blocks_from f model n 0 (k + 1) rows ++ drop (block_bytes * (k + 1)) out₀
write_next f model n k rows area out₀ out last part is block =
    let a : ℕ = block_bytes * k in
    let e : ℕ = block_bytes * k + block_bytes in
    let whole : last ≡ written f model n rows k =
    block ∙ ap (λ (l : List ℕ). with_check (header_of f model k n ++ pad area_bytes 0 l)) part ∙ ap with_check (body_is f model k n rows) in
    let m : e ≡ block_bytes * (k + 1) = omega arith in
    ap (λ (l : List ℕ). put_mid a (e - a) out l) whole
    ∙ ap (λ (l : List ℕ). put_mid a (e - a) l (written f model n rows k)) is
    ∙ put_next (blocks_from f model n 0 k rows) out₀ (written f model n rows k) a e (length_blocks f model n rows 0 k) (omega arith)
    ∙ ap (λ (l : List ℕ). l ++ drop e out₀) (sym (blocks_next f model n rows k))
    ∙ ap (λ (j : ℕ). blocks_from f model n 0 (k + 1) rows ++ drop j out₀) m

pub file_written : (f : File) (model k : ℕ) (rows out₀ out : List ℕ) → length out₀ ≡ file_length f (row_count rows) → k ≡ length out₀ / block_bytes
    → out ≡ blocks_from f model (length out₀ / block_bytes) 0 k rows ++ drop (block_bytes * k) out₀ → out ≡ file_of f model rows
unfolding file_of file_length
file_written f model k rows out₀ out long all is =
    let n : length out₀ / block_bytes ≡ blocks_for f (row_count rows) = omega (arith, long) in
    is
    ∙ ap (λ (l : List ℕ). blocks_from f model (length out₀ / block_bytes) 0 k rows ++ l) (drop_of_length-le out₀ (let d : length out₀ ≤ block_bytes * k = omega (arith, long) in d))
    ∙ append-nil (blocks_from f model (length out₀ / block_bytes) 0 k rows)
    ∙ ap (λ (m : ℕ). blocks_from f model (length out₀ / block_bytes) 0 m rows) all
    ∙ ap (λ (m : ℕ). blocks_from f model m 0 m rows) n
