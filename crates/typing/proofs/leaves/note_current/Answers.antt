-- `typing::leaves::note_current` meets its contract: without a body the row is not at fault, with one it is noted. Assumes nothing.
use Rattle.std.proofs.Common.{◌≡◌, None, Some, arith}
use Rattle.std.proofs.lemmas.Result.{err_from_is_err_and}
use Rattle.typing.proofs.Found.{current_some, current_none}
use Rattle.typing.proofs.Returns.{current_passes, no_current_fails}
use Rattle.typing.proofs.leaves.note_current.Goals as goal

pub returns-in_err-current : goal.returns-in_err-current
returns-in_err-current c = λ vars b h.
    let p = err_from_is_err_and c.from_residual.result c.from_residual.ensures.1 in
    let n : c.args.body ≡ None = grind arith in
    let e : c.in_err-current.field-0.0 ≡ None = grind arith in
    rw (p.1, p.2, e, current_none b (rw n at h)) (no_current_fails c.args.row vars)

pub returns : goal.returns
returns c = λ vars b h.
    let e : c.args.body ≡ Some c.in_ok-current.current = grind arith in
    let d = current_some _ b (rw e at h) in
    rw d.1 (current_passes c.note_row.ensures vars d.0 d.2)
