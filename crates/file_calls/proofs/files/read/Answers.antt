-- `file_calls::files::read` meets its contract: refused by its buffer, refused by the file's rules, or carried out. Assumes nothing.
use mathlib.Core.Path.{refl, sym}
use native.Mathlib.Omega.{arith}
use lib.Seq.{length-take-le}
use Rattle.lingua.specs.Answers.{file_meaning}
use Rattle.lingua.specs.Format.{model_of}
use Rattle.pair.proofs.Returns.{passed_on, read_short, read_refused, read_done, none_of_either, header_there, taken_length, rows_written, room_most}
use Rattle.file_calls.proofs.files.read.Goals as goal

pub returns-then-rows-ne-ROWS_LENGTH : goal.returns-then-rows-ne-ROWS_LENGTH
returns-then-rows-ne-ROWS_LENGTH c = read_short (file_meaning c.args.kind) _ _ c.if-rows-ne-ROWS_LENGTH.true

pub take-requires-clause-kind_in_bounds : goal.take-requires-clause-kind_in_bounds
take-requires-clause-kind_in_bounds c = room_most (file_meaning c.args.kind)

pub returns-in_err-taken : goal.returns-in_err-taken
returns-in_err-taken c =
    rw (passed_on _ c.from_residual.ensures.1) (read_refused (file_meaning c.args.kind) _ _ _ c.if-rows-ne-ROWS_LENGTH.false c.in_err-taken.ensures.refusal)

pub slice_bounds-areas-end : goal.slice_bounds-areas-end
slice_bounds-areas-end c = (c.in_ok-taken.ensures.taken _ refl).within

pub slice_bounds-copy_rows-end : goal.slice_bounds-copy_rows-end
slice_bounds-copy_rows-end c = sym (length-take-le _ _ (c.in_ok-taken.ensures.taken _ refl).within)

pub copy_rows-requires : goal.copy_rows-requires
copy_rows-requires c =
    omega (arith, length-take-le c.in_ok-taken.taken.length c.take.new.areas (c.in_ok-taken.ensures.taken _ refl).within, (taken_length _ _ _ _ _ c.in_ok-taken.ensures).1, c.if-rows-ne-ROWS_LENGTH.false)

pub word16_at-requires : goal.word16_at-requires
word16_at-requires c = header_there (file_meaning c.args.kind) _ (none_of_either (file_meaning c.args.kind) _ c.in_ok-taken.ensures.refusal).0

pub overflow_cast-result : goal.overflow_cast-result
overflow_cast-result c = record { fits = omega (arith, (taken_length _ _ _ _ _ c.in_ok-taken.ensures).1) }

pub returns : goal.returns
unfolding model_of
returns c =
    let n = taken_length _ _ _ _ _ c.in_ok-taken.ensures in
    read_done (file_meaning c.args.kind) _ _ _ _ _ c.if-rows-ne-ROWS_LENGTH.false c.in_ok-taken.ensures.refusal
    (rows_written _ _ _ _ _ c.in_ok-taken.ensures _ _ c.if-rows-ne-ROWS_LENGTH.false c.copy_rows.ensures) c.word16_at.ensures (omega (arith, n.0))
