-- `file_calls::files::write` meets its contract: refused by its buffers, refused by the rows' rules, or carried out. Assumes nothing.
use mathlib.Core.Path.{sym, ◌∙◌}
use native.Mathlib.Omega.{arith}
use Rattle.lingua.specs.Answers.{file_meaning}
use Rattle.pair.proofs.Returns.{passed_on, write_odd, write_other, write_refused, write_done, file_short}
use Rattle.file_calls.proofs.files.write.Goals as goal

pub returns-then-rows-ne0 : goal.returns-then-rows-ne0
returns-then-rows-ne0 c = write_odd (file_meaning c.args.kind) _ _ _ c.if-rows-ne0.true

pub returns-then-file-file_length : goal.returns-then-file-file_length
returns-then-file-file_length c = write_other (file_meaning c.args.kind) _ _ _ (λ e. c.if-file-file_length.true (e ∙ sym c.file_length.ensures))

pub returns-in_err-rows_refusal : goal.returns-in_err-rows_refusal
returns-in_err-rows_refusal c =
    let j = c.in_err-rows_refusal.ensures.refusal in
    rw (passed_on _ c.from_residual.ensures.1) (write_refused (file_meaning c.args.kind) _ _ _ c.if-rows-ne0.false (c.if-file-file_length.false ∙ c.file_length.ensures) _ (rw c.of.ensures at j))

pub write_file-requires : goal.write_file-requires
write_file-requires c =
    let j = c.in_ok-rows_refusal.ensures.refusal in
    let room = c.if-file-file_length.false ∙ c.file_length.ensures in
    (room, omega (arith, file_short (file_meaning c.args.kind) _ (sym (rw c.of.ensures at j))))

pub returns : goal.returns
returns c =
    let none = c.in_ok-rows_refusal.ensures.refusal in
    write_done (file_meaning c.args.kind) _ _ _ c.if-rows-ne0.false (c.if-file-file_length.false ∙ c.file_length.ensures) _ (rw c.of.ensures at none) c.write_file.ensures
