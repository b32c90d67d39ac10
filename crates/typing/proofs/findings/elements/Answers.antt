-- `typing::findings::elements` meets its contract: no current value, no list, or the body that `top` gives of the list's. Assumes nothing.
use Rattle.std.proofs.Common.{◌≡◌, ap, ◌∙◌, None, Some, arith}
use Rattle.std.proofs.lemmas.Result.{err_from_is_err_and}
use Rattle.lingua.specs.Operations.{unary_meaning}
use Rattle.lingua.specs.Typing.{own_rule, elements_at}
use Rattle.typing.proofs.Found.{own_fails, own_passes, current_some, current_none, elements_are, no_current}
use Rattle.typing.proofs.findings.elements.Goals as goal

pub returns-in_err-list : goal.returns-in_err-list
returns-in_err-list c = λ b h.
    let p = err_from_is_err_and c.from_residual.result c.from_residual.ensures.1 in
    let n : c.args.current ≡ None = grind arith in
    let e : c.in_err-list.field-0.0 ≡ None = grind arith in
    rw (p.1, p.2, e, current_none b (rw n at h)) (no_current c.args.row)

pub returns-in_err-h : goal.returns-in_err-h
unfolding unary_meaning
returns-in_err-h c = λ b h.
    let p = err_from_is_err_and c.from_residual-in_err-h.result c.from_residual-in_err-h.ensures.1 in
    let e : c.args.current ≡ Some c.in_ok-list.list = grind arith in
    let d = current_some _ b (rw e at h) in
    rw (p.1, p.2, d.1, elements_are c.args.row d.0)
    (own_fails _ _ _ _ (c.unary_half.ensures d.0 d.2) _ c.in_err-h.ensures)

pub returns : goal.returns
unfolding unary_meaning
returns c = λ b h.
    let e : c.args.current ≡ Some c.in_ok-list.list = grind arith in
    let d = current_some _ b (rw e at h) in
    let q = own_passes _ _ _ _ (c.unary_half.ensures d.0 d.2) _ c.in_ok-h.ensures in
    record { element = q.body; is = ap (elements_at c.args.row) d.1 ∙ elements_are c.args.row d.0 ∙ ap (own_rule c.args.row) q.is; holds = q.passes.holds }
