-- The two round trips, for both kinds of file and over all inputs: rows that are accepted and written read back as the same rows and
-- model, and an accepted file's rows written again give the same bytes. Each is stated of the refusals and of the public calls.
-- Assumes nothing.
use Rattle.std.specs.Prelude.{◌≡◌, refl, Bool, not, ◌&&◌, List, ℕ, zero, suc, ◌*◌, ◌/◌, ◌%◌, ◌<◌, eqb, length, get_or, take}
use Rattle.std.proofs.Common.{sym, ap, ap₂, ◌∙◌, arith, take_at, eqb-true, eq-eqb}
use Rattle.std.proofs.lemmas.Bool.{not-false}
use Rattle.lingua.specs.Numbers.{row_bytes, rows_length}
use Rattle.lingua.specs.Errors.{no_error, bad_buffer, bad_length, bad_marker, bad_header, bad_check}
use Rattle.lingua.specs.Value.{pad}
use Rattle.lingua.specs.Rows.{row_count}
use Rattle.lingua.specs.Format.{File, file_length, file_of, rows_of, model_of, length_wrong, marker_wrong, header_wrong, block_check_wrong}
use Rattle.lingua.specs.Refusal.{lowest, file_rules, row_rules, whole_file_rules, read_refusal, write_refusal}
use Rattle.lingua.specs.Answers.{Answer, answered, RowsRead}
use Rattle.lingua.specs.Calls.{ReadCall, read_unless, read_call, WriteCall, write_unless, write_call}
use Rattle.laws.specs.Outcomes.{and_left, and_both}
use Rattle.laws.specs.Refusals.{lowest_skip, lowest_none}
use Rattle.laws.specs.Areas.{count_rows}
use Rattle.roundtrip.specs.Written.{rows_written, model_written, file_fine}
use Rattle.roundtrip.specs.Read.{file_same}

-- every element is a byte
abbrev pub Bytes : List ℕ → Type 0
Bytes file = (i : ℕ) → get_or file i 0 < 256

-- ---- rows that are accepted and written, read back
pub record ReadsBack (f : File) (model : ℕ) (rows buffer : List ℕ) : Type 0 where
  pub accepted : read_refusal f (file_of f model rows) buffer ≡ no_error
  pub same_rows : rows_of (file_of f model rows) ≡ rows
  pub same_model : model_of (file_of f model rows) ≡ model

-- what the writer's rule 1 leaves, with its other rules
write_accepted : (f : File) (rows out : List ℕ) → write_refusal f rows out ≡ no_error → (length rows ≡ row_bytes * row_count rows) × (lowest (row_rules f rows) ≡ no_error)
unfolding write_refusal row_count
write_accepted f rows out e =
    let tens : Bool = eqb (length rows % row_bytes) 0 in
    let room : Bool = eqb (length out) (file_length f (length rows / row_bytes)) in
    let fine = lowest_none bad_buffer (not (tens && room)) (row_rules f rows) (omega arith) e in
    let t = eqb-true (length rows % row_bytes) 0 (and_left tens room (not-false (tens && room) fine.0)) in
    (omega (arith, t), fine.1)

pub write_then_read : (f : File) (model : ℕ) (rows out buffer : List ℕ) → model < 65536 → length buffer ≡ rows_length
    → write_refusal f rows out ≡ no_error → ReadsBack f model rows buffer
unfolding read_refusal whole_file_rules
write_then_read f model rows out buffer small room e =
    let fine = write_accepted f rows out e in
    record {
      accepted =
          lowest_skip bad_buffer (not (eqb (length buffer) rows_length)) _ (ap not (eq-eqb (length buffer) rows_length room))
          ∙ file_fine f model rows fine.0 fine.1 small;
      same_rows = rows_written f model rows fine.0 fine.1;
      same_model = model_written f model rows fine.0 fine.1 small;
    }

-- ---- an accepted file's rows, written again
pub record WritesBack (f : File) (file out : List ℕ) : Type 0 where
  pub accepted : write_refusal f (rows_of file) out ≡ no_error
  pub same_file : file_of f (model_of file) (rows_of file) ≡ file

pub read_then_write : (f : File) (file buffer out : List ℕ) → Bytes file → length out ≡ file_length f (row_count (rows_of file))
    → read_refusal f file buffer ≡ no_error → WritesBack f file out
unfolding read_refusal whole_file_rules file_rules write_refusal
read_then_write f file buffer out bytes room e =
    let r1 = lowest_none bad_buffer (not (eqb (length buffer) rows_length)) _ (omega arith) e in
    let r2 = lowest_none bad_length (length_wrong f file) _ (omega arith) r1.1 in
    let r3 = lowest_none bad_marker (marker_wrong f file) _ (omega arith) r2.1 in
    let r4 = lowest_none bad_header (header_wrong f file) _ (omega arith) r3.1 in
    let r5 = lowest_none bad_check (block_check_wrong file) _ (omega arith) r4.1 in
    let tens : length (rows_of file) % row_bytes ≡ 0 = omega (arith, count_rows file) in
    record {
      accepted =
          lowest_skip bad_buffer (not (eqb (length (rows_of file) % row_bytes) 0 && eqb (length out) (file_length f (row_count (rows_of file))))) (row_rules f (rows_of file))
          (ap not (and_both _ _ (eq-eqb (length (rows_of file) % row_bytes) 0 tens) (eq-eqb (length out) (file_length f (row_count (rows_of file))) room)))
          ∙ r5.1;
      same_file = file_same f file bytes r2.0 r3.0 r4.0 r5.0;
    }

-- ---- the same of the calls: a call that answers was not refused
written_answer : (n : ℕ) (f : File) (model : ℕ) (rows out : List ℕ) → (write_unless n f model rows out).answer ≡ answered tt → n ≡ no_error
unfolding write_unless
written_answer zero f model rows out e = refl
written_answer (suc n) f model rows out e = absurd (let z : ◌≡◌ {A = ℕ} 0 1 = cc in let k : ⊥ = omega arith in k)

read_answer : (n : ℕ) (file buffer : List ℕ) (a : RowsRead) → (read_unless n file buffer).answer ≡ answered a → n ≡ no_error
unfolding read_unless
read_answer zero file buffer a e = refl
read_answer (suc n) file buffer a e = absurd (let z : ◌≡◌ {A = ℕ} 0 1 = cc in let k : ⊥ = omega arith in k)

same_answer : (a b : RowsRead) → ◌≡◌ {A = Answer RowsRead} (answered a) (answered b) → a ≡ b
same_answer a b e = cc

abbrev the_read : ℕ → List ℕ → ReadCall
the_read model rows = record { answer = answered (record { model = model; count = row_count rows }); buffer = pad rows_length 0 rows }

abbrev the_written : List ℕ → WriteCall
the_written file = record { answer = answered tt; buffer = file }

-- what the writer wrote, the reader reads: the same model, as many rows, and in the buffer the same rows, then zeros
pub write_then_read_call : (f : File) (model : ℕ) (rows out buffer : List ℕ) → model < 65536 → length buffer ≡ rows_length
    → (write_call f model rows out).answer ≡ answered tt
    → read_call f (write_call f model rows out).buffer buffer
    ≡ record { answer = answered (record { model = model; count = row_count rows }); buffer = pad rows_length 0 rows }
unfolding write_call read_call write_unless read_unless
write_then_read_call f model rows out buffer small room e =
    let none = written_answer (write_refusal f rows out) f model rows out e in
    let back = write_then_read f model rows out buffer small room none in
    ap (λ (n : ℕ). read_call f (write_unless n f model rows out).buffer buffer) none
    ∙ ap (λ (n : ℕ). read_unless n (file_of f model rows) buffer) back.accepted
    ∙ ap₂ (λ (m : ℕ) (l : List ℕ). the_read m l) back.same_model back.same_rows

-- what the reader read, the writer writes: the same bytes
pub read_then_write_call : (f : File) (file buffer out : List ℕ) (a : RowsRead) → Bytes file → (read_call f file buffer).answer ≡ answered a
    → length out ≡ file_length f a.count
    → write_call f a.model (take (row_bytes * a.count) (read_call f file buffer).buffer) out ≡ record { answer = answered tt; buffer = file }
unfolding write_call read_call write_unless read_unless pad
read_then_write_call f file buffer out a bytes e room =
    let none = read_answer (read_refusal f file buffer) file buffer a e in
    let call : read_call f file buffer ≡ the_read (model_of file) (rows_of file) = ap (λ (n : ℕ). read_unless n file buffer) none in
    let is = same_answer a (record { model = model_of file; count = row_count (rows_of file) }) (sym e ∙ ap (λ (c : ReadCall). c.answer) call) in
    let n : a.count ≡ row_count (rows_of file) = ap (λ (r : RowsRead). r.count) is in
    let rows : take (row_bytes * a.count) (read_call f file buffer).buffer ≡ rows_of file =
    ap₂ (λ (m : ℕ) (c : ReadCall). take (row_bytes * m) c.buffer) n call
    ∙ take_at (rows_of file) _ (row_bytes * row_count (rows_of file)) (sym (count_rows file)) in
    let back = read_then_write f file buffer out bytes (room ∙ ap (λ (m : ℕ). file_length f m) n) none in
    ap₂ (λ (m : ℕ) (l : List ℕ). write_call f m l out) (ap (λ (r : RowsRead). r.model) is) rows
    ∙ ap (λ (m : ℕ). write_unless m f (model_of file) (rows_of file) out) back.accepted
    ∙ ap the_written back.same_file
