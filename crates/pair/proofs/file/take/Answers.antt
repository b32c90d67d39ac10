-- `take` meets its contract, by the ways in which it ends. Assumes nothing.
use mathlib.Core.Path.{sym}
use lib.Seq.{length-take-le}
use Rattle.lingua.specs.Answers.{file_meaning}
use Rattle.pair.proofs.Returns.{passed_on, taken_by_file, refused_by_rows, taken_by_rows, room_enough}
use Rattle.pair.proofs.file.take.Goals as goal

pub gather_rows-n-requires : goal.gather_rows-n-requires
gather_rows-n-requires c = room_enough (file_meaning c.args.kind) _ _ (sym c.in_ok-file_refusal.ensures) c.requires.kind_in_bounds

pub slice_bounds-of-end-2 : goal.slice_bounds-of-end-2
slice_bounds-of-end-2 c = sym (length-take-le _ _ c.gather_rows-n.ensures.inside)

pub returns-in_err-file_refusal : goal.returns-in_err-file_refusal
returns-in_err-file_refusal c = rw (passed_on _ c.from_residual.ensures.1) (taken_by_file (file_meaning c.args.kind) c.args.file.now c.args.areas.now c.args.bodies.now c.in_err-file_refusal.ensures)

pub returns-in_err-rows_refusal : goal.returns-in_err-rows_refusal
returns-in_err-rows_refusal c = rw (passed_on _ c.from_residual-in_err-rows_refusal.ensures.1) (refused_by_rows (file_meaning c.args.kind) c.args.file.now _ _ _ (sym c.in_ok-file_refusal.ensures) c.gather_rows-n.ensures (rw c.of-rows.ensures at c.in_err-rows_refusal.ensures))

pub returns : goal.returns
returns c = taken_by_rows (file_meaning c.args.kind) c.args.file.now _ _ _ (sym c.in_ok-file_refusal.ensures) c.gather_rows-n.ensures (rw c.of-rows.ensures at c.tables.ensures) (rw c.of-rows.ensures at c.in_ok-rows_refusal.ensures)
