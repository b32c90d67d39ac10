-- How long the report's texts are at most, so that they all find room. Assumes nothing.
use mathlib.Core.Path.{◌≡◌, refl}
use mathlib.Core.Bool.{Bool, true, false}
use mathlib.Core.List.{List, [], ◌∷◌, ◌++◌}
use Prim.Native.Nat.{ℕ, zero, suc, ◌+◌, ◌*◌, ◌/◌, ◌%◌, ◌≤◌, ◌<◌}
use native.Mathlib.Omega.{arith}
use lib.Dec.{ltb}
use lib.ListN.{length, drop, length-append, length-take}
use lib.IntN.{ℤ, pos, negsuc}
use Rattle.std.specs.Bool.{then_some}
use Rattle.lingua.specs.Numbers.{body_cells, declaration_section}
use Rattle.std.specs.Prelude.{if◌then◌else◌}
use Rattle.lingua.specs.Body.{size}
use Rattle.lingua.specs.Store.{Variable, variable_at, present_body, filled_at}
use Rattle.lingua.specs.Rows.{bytes_at, pair_count, name_row}
use Rattle.lingua.specs.Trees.{name_at}
use Rattle.lingua.specs.Format.{rows_of}
use Rattle.lingua.specs.Refusal.{lowest, pair_rules}
use Rattle.lingua.specs.Answers.{Answer, refused, answered, Ending}
use Rattle.lingua.specs.Report.{digits_in, decimal, signed_decimal, end_line, cell_texts, refused_text}
use Rattle.safety.specs.Accepted.{length_until}
use Rattle.text.specs.Line.{content_of, variable_line}
use Rattle.report.specs.Call.{answer_text}
use Rattle.report.specs.Memory.{Left, cells_of_bodies, memory_line, memory_lines, lines_unless, variables_text}
use Rattle.report.specs.Written.{most_text}

-- ---- numbers
digits_length : (k n : ℕ) (ds : List ℕ) → length (digits_in k n ds) ≤ k + length ds
unfolding digits_in
digits_length zero n ds = omega arith
digits_length (suc k) n ds = go (ltb n 10) (digits_length k (n / 10) ((48 + n % 10) ∷ ds))
  where
    go : (t : Bool) → length (digits_in k (n / 10) ((48 + n % 10) ∷ ds)) ≤ k + suc (length ds)
        → length (if t then (48 + n) ∷ ds else digits_in k (n / 10) ((48 + n % 10) ∷ ds)) ≤ suc k + length ds
    go true h = omega arith
    go false h = omega arith

decimal_length : (n : ℕ) → length (decimal n) ≤ 20
unfolding decimal
decimal_length n = omega (arith, digits_length 20 n [])

signed_length : (z : ℤ) → length (signed_decimal z) ≤ 21
unfolding signed_decimal
signed_length (pos n) = omega (arith, decimal_length n)
signed_length (negsuc n) = omega (arith, decimal_length (suc n))

-- ---- the first line
answer_length : (a : Answer Ending) → length (answer_text a) ≤ 106
unfolding answer_text end_line refused_text
answer_length (refused n) = simp length-append (omega (arith, decimal_length n))
answer_length (answered e) =
    simp length-append (omega (arith, decimal_length e.end, decimal_length e.error, decimal_length e.place, decimal_length e.steps))

-- ---- a variable's line
cells_length_most : (zs : List ℤ) → length (cell_texts zs) ≤ 22 * length zs
unfolding cell_texts
cells_length_most [] = omega arith
cells_length_most (z ∷ zs) = simp length-append (omega (arith, signed_length z, cells_length_most zs))

content_length : (filled : Bool) (zs : List ℤ) → length zs ≤ 64 → length (content_of (then_some filled zs)) ≤ 1408
content_length true zs h = omega (arith, cells_length_most zs)
content_length false zs h = omega arith

name_length : (rows : List ℕ) (d : ℕ) → length (name_at rows declaration_section d) ≤ 8
unfolding name_at bytes_at
name_length rows d = omega (arith, length-take 8 (drop (10 * name_row rows declaration_section d + 2) rows))

module _ {rows present : List ℕ} {cells : List ℤ} {states : List ℕ} {vs : List Variable} (left : Left rows present cells states vs) where
  body_length : (d : ℕ) → d < pair_count rows declaration_section → length (cells_of_bodies cells vs d) ≤ 64
  unfolding cells_of_bodies
  body_length d l =
      omega (arith, length-take (size (present_body (variable_at vs d))) (drop (body_cells * d) cells), (left.stored.holdable d (omega (arith, l, left.count))).few_cells)

  line_length : (d : ℕ) → d < pair_count rows declaration_section → length (memory_line rows cells states vs d) ≤ 1417
  unfolding memory_line variable_line
  line_length d l =
      simp length-append
      (omega (arith, length_until (name_at rows declaration_section d), name_length rows d, content_length (filled_at states d) (cells_of_bodies cells vs d) (body_length d l)))

  lines_length : (d n : ℕ) → d + n ≤ pair_count rows declaration_section → length (memory_lines rows cells states vs d n) ≤ 1417 * n
  unfolding memory_lines
  lines_length d zero l = omega arith
  lines_length d (suc n) l = simp length-append (omega (arith, line_length d (omega arith), lines_length (suc d) n (omega arith)))

module _ (prof lims : List ℕ) {present : List ℕ} {cells : List ℤ} {states : List ℕ} {vs : List Variable} (left : lowest (pair_rules prof lims) ≡ 0 → Left (rows_of prof) present cells states vs) where
  variables_length : length (variables_text prof lims cells states vs) ≤ 22672
  unfolding variables_text lines_unless
  variables_length = go (lowest (pair_rules prof lims)) refl
    where
      go : (n : ℕ) → lowest (pair_rules prof lims) ≡ n → length (lines_unless n (rows_of prof) cells states vs) ≤ 22672
      go zero e = omega (arith, lines_length (left e) 0 (pair_count (rows_of prof) declaration_section) (omega arith), (left e).count, (left e).stored.few)
      go (suc n) e = omega arith

  pub report_fits : (a : Answer Ending) → length (answer_text a ++ variables_text prof lims cells states vs) ≤ most_text
  report_fits a = simp length-append (omega (arith, answer_length a, variables_length))
