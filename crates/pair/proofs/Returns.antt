-- The ways in which the reader and the writer end, each by the rules that were asked. Assumes nothing.
use mathlib.Core.Path.{◌≡◌, refl, sym, ap, ap₂, ◌∙◌, subst}
use mathlib.Core.Bool.{Bool, true, false, not, ◌&&◌}
use mathlib.Core.List.{List, ◌++◌}
use Prim.Native.Nat.{ℕ, suc, ◌*◌, ◌%◌, ◌≤◌}
use native.Mathlib.Nat.{suc-pred-eq_of_ne-zero}
use native.Mathlib.Omega.{arith}
use lib.Dec.{eqb}
use lib.ListN.{length, take}
use lib.Seq.{length-take-le}
use borrow.Author.Tests.{eq-eqb, ne_eqb}
use Rattle.lingua.specs.Numbers.{row_bytes, rows_length, area_bytes, areas_length, type_section}
use Rattle.std.specs.Prelude.{Result, Ok, Err}
use Rattle.std.specs.Result.{IsErrAnd}
use Rattle.std.proofs.lemmas.Result.{err_from_is_err_and}
use Rattle.lingua.specs.declared.errors.Refusal.{Refusal}
use Rattle.lingua.specs.Faults.{refusal_number}
use Rattle.laws.specs.Faults.{refusal_number_counted}
use Rattle.lingua.specs.Errors.{bad_buffer}
use Rattle.lingua.specs.Value.{all_of, pad}
use Rattle.lingua.specs.Rows.{row_count, table_count}
use Rattle.lingua.specs.Format.{File, profile, limits, block_count, blocks_for, model_of, rows_of, file_of, file_length}
use Rattle.lingua.specs.Refusal.{rank, place_in, lowest, file_rules, row_rules, whole_file_rules, read_refusal, write_refusal}
use Rattle.lingua.specs.Answers.{read_meaning, write_meaning}
use Rattle.lingua.specs.declared.errors.Refusal.TheVariants.{BadBuffer}
use Rattle.lingua.specs.Calls.{read_unless, read_call, read_result, write_unless, write_call, write_result}
use Rattle.laws.specs.Files.{blocks_few, file_passes, length_whole, limits_one, profile_some}
use Rattle.blocks.specs.Blocks.{Gathered}
use Rattle.decoder.specs.Tables.{AreTables}
use Rattle.rules.specs.Types.{BodiesBelow}
use Rattle.rules.specs.Refusals.{Judged}
use Rattle.decoder.specs.declared.tables.Tables.{Tables}
use Rattle.pair.specs.Taken.{room_for, RowsTaken, TakenIs}
use Rattle.pair.specs.declared.file.Taken.{Taken}
use Rattle.laws.specs.Accepted.{accepted_rows}
use Rattle.laws.specs.Areas.{count_rows}
use Rattle.laws.specs.Refusals.{lowest_skip, lowest_first, Decides, first, second, decides, all_above}

pub some_refusal : (e : Refusal) → refusal_number e ≡ 0 → ⊥
some_refusal e z = let l : 1 ≤ refusal_number e = (refusal_number_counted e).0 in omega arith

-- ---- a file's own rules, then its rows'
by_parts : (f : File) (file : List ℕ) → Decides 5 (file_rules f file) (row_rules f (rows_of file))
unfolding file_rules row_rules all_of rank place_in
by_parts profile file = decides 5 (file_rules profile file) (row_rules profile (rows_of file)) refl refl
by_parts limits file = decides 5 (file_rules limits file) (row_rules limits (rows_of file)) refl refl

pub by_file : (f : File) (file : List ℕ) (n : ℕ) → n ≡ lowest (file_rules f file) → (n ≡ 0 → ⊥) → n ≡ lowest (whole_file_rules f file)
unfolding whole_file_rules
by_file f file n e h = go (by_parts f file)
  where
    go : Decides 5 (file_rules f file) (row_rules f (rows_of file)) → n ≡ lowest (file_rules f file ++ row_rules f (rows_of file))
    go (second z d) = absurd (h (e ∙ z))
    go (first a b d) = e ∙ sym d

pub by_rows : (f : File) (file : List ℕ) (n : ℕ) → lowest (file_rules f file) ≡ 0 → n ≡ lowest (row_rules f (rows_of file)) → n ≡ lowest (whole_file_rules f file)
unfolding whole_file_rules
by_rows f file n z e = go (by_parts f file)
  where
    go : Decides 5 (file_rules f file) (row_rules f (rows_of file)) → n ≡ lowest (file_rules f file ++ row_rules f (rows_of file))
    go (second y d) = e ∙ sym d
    go (first a b d) = absurd (let k : ⊥ = omega (arith, z) in k)

-- none of them applies: neither a file's own nor its rows'
pub none_of_either : (f : File) (file : List ℕ) → 0 ≡ lowest (whole_file_rules f file) → (lowest (file_rules f file) ≡ 0) × (lowest (row_rules f (rows_of file)) ≡ 0)
unfolding whole_file_rules
none_of_either f file e = go (by_parts f file)
  where
    go : Decides 5 (file_rules f file) (row_rules f (rows_of file)) → (lowest (file_rules f file) ≡ 0) × (lowest (row_rules f (rows_of file)) ≡ 0)
    go (second y d) = (y, sym d ∙ sym e)
    go (first a b d) = absurd (let k : ⊥ = omega (arith, e ∙ d) in k)

-- ---- the reader
above_one : (f : File) (file : List ℕ) → all_above 1 (whole_file_rules f file) ≡ true
unfolding whole_file_rules file_rules row_rules all_of rank place_in
above_one profile file = refl
above_one limits file = refl

read_as : (f : File) (file buffer : List ℕ) (e : Refusal) (m : ℕ) → read_refusal f file buffer ≡ refusal_number e → refusal_number e ≡ suc m → read_result (Err e) buffer ≡ read_call f file buffer
unfolding read_result read_call read_unless read_meaning
read_as f file buffer e m h s = rw (h, s)

pub read_short : (f : File) (file buffer : List ℕ) → (length buffer ≡ rows_length → ⊥) → read_result (Err BadBuffer) buffer ≡ read_call f file buffer
unfolding read_refusal
read_short f file buffer h =
    read_as f file buffer BadBuffer 0
    (lowest_first bad_buffer (not (eqb (length buffer) rows_length)) (whole_file_rules f file) (ap not (ne_eqb (length buffer) rows_length h)) (above_one f file)) refl

refusal_is : (f : File) (file buffer : List ℕ) (n : ℕ) → length buffer ≡ rows_length → n ≡ lowest (whole_file_rules f file) → read_refusal f file buffer ≡ n
unfolding read_refusal
refusal_is f file buffer n l e =
    lowest_skip bad_buffer (not (eqb (length buffer) rows_length)) (whole_file_rules f file) (ap not (eq-eqb (length buffer) rows_length l)) ∙ sym e

pub read_refused : (f : File) (file buffer : List ℕ) (e : Refusal) → length buffer ≡ rows_length → refusal_number e ≡ lowest (whole_file_rules f file)
    → read_result (Err e) buffer ≡ read_call f file buffer
read_refused f file buffer e l h = read_as f file buffer e _ (refusal_is f file buffer (refusal_number e) l h) (sym (suc-pred-eq_of_ne-zero (some_refusal e)))

pub read_done : (f : File) (file buffer out : List ℕ) (model count : ℕ) → length buffer ≡ rows_length → 0 ≡ lowest (whole_file_rules f file)
    → out ≡ pad rows_length 0 (rows_of file) → model ≡ model_of file → count ≡ row_count (rows_of file) → read_result (Ok (record { model = model; count = count })) out ≡ read_call f file buffer
unfolding read_result read_call read_unless read_meaning
read_done f file buffer out model count l e p q r = rw (refusal_is f file buffer 0 l e, p, q, r)

-- ---- the writer
rows_above : (f : File) (rows : List ℕ) → all_above 1 (row_rules f rows) ≡ true
unfolding row_rules all_of rank place_in
rows_above profile rows = refl
rows_above limits rows = refl

write_as : (f : File) (model : ℕ) (rows buffer : List ℕ) (e : Refusal) (m : ℕ) → write_refusal f rows buffer ≡ refusal_number e → refusal_number e ≡ suc m
    → write_result (Err e) buffer ≡ write_call f model rows buffer
unfolding write_result write_call write_unless write_meaning
write_as f model rows buffer e m h s = rw (h, s)

-- rule 1 of the writer: rows that are no whole tens, or a buffer of another length
one_applies : (f : File) (model : ℕ) (rows buffer : List ℕ) → (eqb (length rows % row_bytes) 0 && eqb (length buffer) (file_length f (row_count rows))) ≡ false
    → write_result (Err BadBuffer) buffer ≡ write_call f model rows buffer
unfolding write_refusal
one_applies f model rows buffer e = write_as f model rows buffer BadBuffer 0 (lowest_first bad_buffer _ (row_rules f rows) (ap not e) (rows_above f rows)) refl

and_false_right : (t : Bool) → (t && false) ≡ false
and_false_right true = refl
and_false_right false = refl

pub write_odd : (f : File) (model : ℕ) (rows buffer : List ℕ) → (length rows % row_bytes ≡ 0 → ⊥) → write_result (Err BadBuffer) buffer ≡ write_call f model rows buffer
write_odd f model rows buffer h = one_applies f model rows buffer (rw (ne_eqb (length rows % row_bytes) 0 h))

pub write_other : (f : File) (model : ℕ) (rows buffer : List ℕ) → (length buffer ≡ file_length f (row_count rows) → ⊥) → write_result (Err BadBuffer) buffer ≡ write_call f model rows buffer
write_other f model rows buffer h = one_applies f model rows buffer (rw (ne_eqb (length buffer) (file_length f (row_count rows)) h) (and_false_right (eqb (length rows % row_bytes) 0)))

module _ (f : File) (model : ℕ) (rows buffer : List ℕ) (tens : length rows % row_bytes ≡ 0) (room : length buffer ≡ file_length f (row_count rows)) where
  write_refusal_is : (n : ℕ) → n ≡ lowest (row_rules f rows) → write_refusal f rows buffer ≡ n
  unfolding write_refusal
  write_refusal_is n e =
      lowest_skip bad_buffer _ (row_rules f rows)
      (rw (eq-eqb (length rows % row_bytes) 0 tens, eq-eqb (length buffer) (file_length f (row_count rows)) room)) ∙ sym e

  pub write_refused : (e : Refusal) → refusal_number e ≡ lowest (row_rules f rows) → write_result (Err e) buffer ≡ write_call f model rows buffer
  write_refused e h = write_as f model rows buffer e _ (write_refusal_is (refusal_number e) h) (sym (suc-pred-eq_of_ne-zero (some_refusal e)))

  pub write_done : (out : List ℕ) → 0 ≡ lowest (row_rules f rows) → out ≡ file_of f model rows → write_result (Ok tt) out ≡ write_call f model rows buffer
  unfolding write_result write_call write_unless write_meaning
  write_done out e p = rw (write_refusal_is 0 e, p)

-- ---- taking a file whole
-- what the exit of a `?` returns
pub passed_on : {A : Type 0} {e : Refusal} (r : Result A Refusal) → IsErrAnd r (λ d. d ≡ e) → r ≡ Err e
passed_on r h = let p = err_from_is_err_and r h in rw p.2 at p.1

pub taken_by_file : (f : File) (file areas bodies : List ℕ) {e : Refusal} → refusal_number e ≡ lowest (file_rules f file) → TakenIs (Err e) f file areas bodies
taken_by_file f file areas bodies {e} h = record { refusal = by_file f file (refusal_number e) h (some_refusal e); taken = λ t q. cc }

module _ (f : File) (file areas bodies : List ℕ) (n : ℕ) (z : lowest (file_rules f file) ≡ 0) (g : Gathered n areas file) {A : Type 0} where
  pub refused_by_rows : {e : Refusal} → Judged {A = A} (Err e) f (take n areas) bodies → TakenIs (Err e) f file areas bodies
  refused_by_rows {e} h = record { refusal = by_rows f file (refusal_number e) z (h.refusal ∙ ap (λ (rows : List ℕ). lowest (row_rules f rows)) g.rows); taken = λ t q. cc }

  pub taken_by_rows : {u : A} {tables : Tables} → AreTables (take n areas) tables → Judged (Ok u) f (take n areas) bodies → TakenIs (Ok (record { length = n; tables = tables })) f file areas bodies
  taken_by_rows {u} {tables} a h =
      let r : RowsTaken (record { length = n; tables = tables }) f file areas bodies = record {
        rows = g.rows;
        within = g.inside;
        tables = subst (λ (rows : List ℕ). AreTables rows tables) g.rows a;
        held = λ p. subst (λ (rows : List ℕ). BodiesBelow rows bodies (table_count rows type_section)) g.rows (h.held p refl);
      } in
      record {
        refusal = by_rows f file 0 z (h.refusal ∙ ap (λ (rows : List ℕ). lowest (row_rules f rows)) g.rows);
        taken = λ t q. let e : ◌≡◌ {A = Taken} (record { length = n; tables = tables }) t = cc in subst (λ (k : Taken). RowsTaken k f file areas bodies) e r;
      }

-- a limits file's one block, a profile's seventeen: their rows have room
pub room_enough : (f : File) (file : List ℕ) (n : ℕ) → lowest (file_rules f file) ≡ 0 → room_for f ≤ n → area_bytes * block_count file ≤ n
unfolding room_for
room_enough profile file n e l = omega (arith, blocks_few profile file (file_passes profile file e).sized)
room_enough limits file n e l = omega (arith, limits_one file (file_passes limits file e).sized)

-- room for a profile is room for both
pub room_most : (f : File) → room_for f ≤ areas_length
unfolding room_for
room_most profile = omega arith
room_most limits = omega arith

-- ---- what the reader needs of an accepted file
pub header_there : (f : File) (file : List ℕ) → lowest (file_rules f file) ≡ 0 → 8 ≤ length file
header_there profile file e =
    let s = (file_passes profile file e).sized in
    omega (arith, length_whole profile file s, profile_some file s)
header_there limits file e =
    let s = (file_passes limits file e).sized in
    omega (arith, length_whole limits file s, limits_one file s)

module _ (t : Taken) (f : File) (file areas bodies : List ℕ) (h : TakenIs (Ok t) f file areas bodies) where
  pub taken_length : (t.length ≡ row_bytes * row_count (rows_of file)) × (t.length ≤ rows_length)
  taken_length =
      let k = h.taken t refl in
      let n : t.length ≡ length (rows_of file) = sym (length-take-le t.length areas k.within) ∙ ap length k.rows in
      let m : row_bytes * row_count (rows_of file) ≤ rows_length = accepted_rows f (rows_of file) (none_of_either f file h.refusal).1 in
      (n ∙ sym (count_rows file), omega (arith, count_rows file))

  pub rows_written : (out : List ℕ) (n : ℕ) → n ≡ rows_length → out ≡ pad n 0 (take t.length areas) → out ≡ pad rows_length 0 (rows_of file)
  rows_written out n l e = e ∙ ap₂ (λ (k : ℕ) (rows : List ℕ). pad k 0 rows) l (h.taken t refl).rows

-- the file of accepted rows has at most twenty-two blocks
pub file_short : (f : File) (rows : List ℕ) → lowest (row_rules f rows) ≡ 0 → file_length f (row_count rows) ≤ 11264
unfolding file_length blocks_for
file_short profile rows e = omega (arith, accepted_rows profile rows e)
file_short limits rows e = omega arith
