-- What each way out of the rules' functions shows: the test of the rule, from what the branches on the way said. Assumes nothing.
use Rattle.std.proofs.Common.{◌≡◌, ℕ, ◌*◌, ◌/◌, ◌<◌, ◌≤◌, Bool, true, false, not, ltb, leb, List, length, get_or, take, sym, refl, ap, ◌∙◌, arith, le-ltb, lt-ltb, eq-eqb, ne_eqb, le-leb, leb-false, leb-true, ◌%◌, ◌^◌, ◌&&◌, [], ◌∷◌, eqb, ap₂}
use lib.Pointwise.{pointwise}
use borrow.Author.Tests.{eqb-true, eqb-false}
use Rattle.std.specs.Int.{w32, rotate_left}
use Rattle.std.proofs.lemmas.Nat.{or_shifted}
use borrow.Author.Tests.{lt-leb}
use Rattle.lingua.specs.Numbers.{block_bytes, most_blocks}
use Rattle.lingua.specs.Compute.{same_text}
use Rattle.lingua.specs.Rows.{word16}
use Rattle.lingua.specs.Format.{File, profile, block_count, marker, block_at, every_below, length_wrong, marker_wrong, header_fits, header_wrong, block_check_wrong, model_of, empty_block, rotated}
use Rattle.lingua.specs.Errors.{no_error, bad_length, bad_marker, bad_header, bad_check}
use Rattle.lingua.specs.Value.{all_of}
use Rattle.lingua.specs.Refusal.{rank, place_in, lowest, file_rules}
use Rattle.laws.specs.Refusals.{lowest_nil, lowest_skip, lowest_first}
use Rattle.laws.specs.Written.{length_marker}
use Rattle.blocks.specs.Blocks.{header_is}

-- ---- 2: the length of a profile
pub length_uneven : (file : List ℕ) → (length file ≡ block_bytes * (length file / block_bytes) → ⊥) → length_wrong profile file ≡ true
unfolding length_wrong block_count
length_uneven file h = simp (ne_eqb (length file) (block_bytes * (length file / block_bytes)) h)

pub length_none : (file : List ℕ) → length file ≡ block_bytes * (length file / block_bytes) → length file / block_bytes < 1 → length_wrong profile file ≡ true
unfolding length_wrong block_count
length_none file e h =
    simp (eq-eqb (length file) (block_bytes * (length file / block_bytes)) e, lt-leb 1 (length file / block_bytes) h)

not_leb : (a b : ℕ) → not (leb a b) ≡ ltb b a
not_leb a b = by_test (leb a b) refl
  where
    by_test : (t : Bool) → leb a b ≡ t → not t ≡ ltb b a
    by_test true e = sym (le-ltb b a (leb-true a b e))
    by_test false e = sym (lt-ltb b a (leb-false a b e))

pub length_some : (file : List ℕ) → length file ≡ block_bytes * (length file / block_bytes) → 1 ≤ length file / block_bytes
    → length_wrong profile file ≡ ltb most_blocks (length file / block_bytes)
unfolding length_wrong block_count
length_some file e h =
    simp (eq-eqb (length file) (block_bytes * (length file / block_bytes)) e, le-leb 1 (length file / block_bytes) h)
    (not_leb (length file / block_bytes) most_blocks)

-- ---- 4: a block's header
module _ (f : File) (block : List ℕ) (k count model : ℕ) where
  pub header_number : (get_or block 4 0 ≡ k → ⊥) → header_is f block k count model ≡ false
  unfolding header_is
  header_number h = simp (ne_eqb (get_or block 4 0) k h)

  pub header_count : get_or block 4 0 ≡ k → (get_or block 5 0 ≡ count → ⊥) → header_is f block k count model ≡ false
  unfolding header_is
  header_count e h = simp (eq-eqb (get_or block 4 0) k e, ne_eqb (get_or block 5 0) count h)

  pub header_model : get_or block 4 0 ≡ k → get_or block 5 0 ≡ count → (word16 block 6 ≡ model → ⊥) → header_is f block k count model ≡ false
  unfolding header_is
  header_model e d h = simp (eq-eqb (get_or block 4 0) k e, eq-eqb (get_or block 5 0) count d, ne_eqb (word16 block 6) model h)

  pub header_rest : get_or block 4 0 ≡ k → get_or block 5 0 ≡ count → word16 block 6 ≡ model → header_is f block k count model ≡ not (empty_block f block)
  unfolding header_is
  header_rest e d m = simp (eq-eqb (get_or block 4 0) k e, eq-eqb (get_or block 5 0) count d, eq-eqb (word16 block 6) model m)

-- ---- 3: the marker
pub marker_is : (f : File) (file m : List ℕ) → m ≡ marker f
    → not (every_below (block_count file) (λ j. same_text (take (length m) (block_at file j)) m)) ≡ marker_wrong f file
unfolding marker_wrong
marker_is f file m e =
    ap (λ (x : List ℕ). not (every_below (block_count file) (λ j. same_text (take (length x) (block_at file j)) x))) e
    ∙ ap (λ (n : ℕ). not (every_below (block_count file) (λ j. same_text (take n (block_at file j)) (marker f)))) (length_marker f)

-- ---- 4: the headers of a file
pub header_is_lem : (f : File) (file : List ℕ) (model : ℕ) → model ≡ word16 file 6
    → not (every_below (block_count file) (λ j. header_is f (block_at file j) j (length file / block_bytes) model)) ≡ header_wrong f file
unfolding header_wrong header_fits header_is model_of block_count
header_is_lem f file model e =
    ap (λ (m : ℕ). not (every_below (length file / block_bytes) (λ j. header_is f (block_at file j) j (length file / block_bytes) m))) e

pub header_none : (f : File) (file : List ℕ) → length file / block_bytes ≡ 0 → header_wrong f file ≡ false
unfolding header_wrong block_count every_below
header_none f file e = ap (λ (n : ℕ). not (every_below n (λ k. header_fits f file k))) e

-- ---- the lowest of the four
module _ (f : File) (file : List ℕ) where
  pub refused_length : length_wrong f file ≡ true → lowest (file_rules f file) ≡ bad_length
  unfolding file_rules all_of rank place_in
  refused_length a = lowest_first bad_length (length_wrong f file) _ a refl

  pub refused_marker : length_wrong f file ≡ false → marker_wrong f file ≡ true → lowest (file_rules f file) ≡ bad_marker
  unfolding file_rules all_of rank place_in
  refused_marker a b = lowest_skip bad_length (length_wrong f file) _ a ∙ lowest_first bad_marker (marker_wrong f file) _ b refl

  pub refused_header : length_wrong f file ≡ false → marker_wrong f file ≡ false → header_wrong f file ≡ true → lowest (file_rules f file) ≡ bad_header
  unfolding file_rules all_of rank place_in
  refused_header a b d =
      lowest_skip bad_length (length_wrong f file) _ a ∙ lowest_skip bad_marker (marker_wrong f file) _ b
      ∙ lowest_first bad_header (header_wrong f file) _ d refl

  pub refused_check : length_wrong f file ≡ false → marker_wrong f file ≡ false → header_wrong f file ≡ false → block_check_wrong file ≡ true
      → lowest (file_rules f file) ≡ bad_check
  unfolding file_rules all_of rank place_in
  refused_check a b d e =
      lowest_skip bad_length (length_wrong f file) _ a ∙ lowest_skip bad_marker (marker_wrong f file) _ b
      ∙ lowest_skip bad_header (header_wrong f file) _ d ∙ lowest_first bad_check (block_check_wrong file) _ e refl

  pub refused_not : length_wrong f file ≡ false → marker_wrong f file ≡ false → header_wrong f file ≡ false → block_check_wrong file ≡ false
      → lowest (file_rules f file) ≡ no_error
  unfolding file_rules
  refused_not a b d e =
      lowest_skip bad_length (length_wrong f file) _ a ∙ lowest_skip bad_marker (marker_wrong f file) _ b
      ∙ lowest_skip bad_header (header_wrong f file) _ d ∙ lowest_skip bad_check (block_check_wrong file) _ e ∙ lowest_nil

-- ---- a word rotated, by the library's word
pub rotated_is : (x : ℕ) → x < 2 ^ 32 → rotate_left w32 x 5 ≡ rotated x
unfolding rotated
rotated_is x h =
    let a : ℕ = x % 2 ^ 27 in
    let e : x * 2 ^ 5 % 2 ^ 32 ≡ a * 2 ^ 5 = omega arith in
    let b : x / 2 ^ 27 < 2 ^ 5 = omega arith in
    rw e (or_shifted a 5 (x / 2 ^ 27) b)

-- ---- the bytes that a block begins with
eqb_swap : (a b : ℕ) → eqb a b ≡ eqb b a
eqb_swap a b = by_test (eqb b a) refl
  where
    by_test : (t : Bool) → eqb b a ≡ t → eqb a b ≡ t
    by_test true e = eq-eqb a b (sym (eqb-true b a e))
    by_test false e = ne_eqb a b (λ q. eqb-false b a e (sym q))

pub begins_is : (part text : List ℕ) → pointwise eqb text part ≡ same_text part text
unfolding same_text
begins_is [] [] = refl
begins_is [] (d ∷ ds) = refl
begins_is (c ∷ cs) [] = refl
begins_is (c ∷ cs) (d ∷ ds) = ap₂ (λ (a b : Bool). a && b) (eqb_swap d c) (begins_is cs ds)
