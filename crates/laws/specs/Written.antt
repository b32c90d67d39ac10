-- The file that is written from rows: how long its parts are, and its blocks one by one. Assumes nothing.
use Rattle.std.specs.Prelude.{◌≡◌, length, take, drop}
use Rattle.std.proofs.Math.Path.{refl, sym, ap}
use Rattle.std.proofs.Common.{◌∙◌, add-zero, add-one}
use mathlib.Core.List.{List, ◌∷◌, ◌++◌, append_assoc, append-nil}
use Prim.Native.Nat.{ℕ, zero, suc, ◌+◌, ◌*◌}
use native.Mathlib.Omega.{arith}
use Rattle.std.proofs.Math.ListN.{length-append}
use Rattle.lingua.specs.Numbers.{block_bytes, area_bytes, check_place}
use Rattle.lingua.specs.Value.{pad}
use Rattle.lingua.specs.Rows.{row_count}
use Rattle.lingua.specs.Format.{File, profile, limits, marker, bytes16, bytes32, block_check, block_body, with_check, blocks_for, file_length, blocks_from, file_of}
use Rattle.laws.specs.Lists.{length_pad}
use Rattle.laws.specs.Parts.{length_taken}

pub length_marker : (f : File) → length (marker f) ≡ 4
length_marker profile = refl
length_marker limits = refl

pub length_body : (f : File) (model k n : ℕ) (rows : List ℕ) → length (block_body f model k n rows) ≡ check_place
unfolding block_body bytes16
length_body f model k n rows =
    let area : List ℕ = take area_bytes (drop (area_bytes * k) rows) in
    let p = length_pad area_bytes 0 area (length_taken area_bytes (drop (area_bytes * k) rows)) in
    omega (arith, length-append (marker f) (k ∷ n ∷ (bytes16 model ++ pad area_bytes 0 area)), length_marker f, p)

pub length_checked : (body : List ℕ) → length (with_check body) ≡ length body + 4
unfolding with_check bytes32
length_checked body = length-append body (bytes32 (block_check body))

-- a block of a file
abbrev pub written : File → ℕ → ℕ → List ℕ → ℕ → List ℕ
written f model n rows k = with_check (block_body f model k n rows)

pub length_written : (f : File) (model n : ℕ) (rows : List ℕ) (k : ℕ) → length (written f model n rows k) ≡ block_bytes
length_written f model n rows k = omega (arith, length_checked (block_body f model k n rows), length_body f model k n rows)

module _ (f : File) (model n : ℕ) (rows : List ℕ) where
  -- one block more
  pub blocks_more : (k m : ℕ) → blocks_from f model n k (suc m) rows ≡ blocks_from f model n k m rows ++ written f model n rows (k + m)
  unfolding blocks_from
  blocks_more k zero = append-nil (written f model n rows k) ∙ ap (λ (j : ℕ). written f model n rows j) (sym (add-zero k))
  blocks_more k (suc m) =
      let e : suc k + m ≡ k + suc m = omega arith in
      ap (λ (l : List ℕ). written f model n rows k ++ l) (blocks_more (suc k) m)
      ∙ sym (append_assoc (written f model n rows k) (blocks_from f model n (suc k) m rows) (written f model n rows (suc k + m)))
      ∙ ap (λ (j : ℕ). (written f model n rows k ++ blocks_from f model n (suc k) m rows) ++ written f model n rows j) e

  pub blocks_next : (k : ℕ) → blocks_from f model n 0 (k + 1) rows ≡ blocks_from f model n 0 k rows ++ written f model n rows k
  blocks_next k =
      ap (λ (m : ℕ). blocks_from f model n 0 m rows) (add-one k) ∙ blocks_more 0 k
      ∙ ap (λ (j : ℕ). blocks_from f model n 0 k rows ++ written f model n rows j) (let e : 0 + k ≡ k = omega arith in e)

  pub length_blocks : (k m : ℕ) → length (blocks_from f model n k m rows) ≡ block_bytes * m
  unfolding blocks_from
  length_blocks k zero = refl
  length_blocks k (suc m) =
      omega (arith, length-append (written f model n rows k) (blocks_from f model n (suc k) m rows), length_written f model n rows k, length_blocks (suc k) m)

pub length_file : (f : File) (model : ℕ) (rows : List ℕ) → length (file_of f model rows) ≡ file_length f (row_count rows)
unfolding file_of file_length
length_file f model rows = length_blocks f model (blocks_for f (row_count rows)) rows 0 (blocks_for f (row_count rows))
