-- `opening::leaf::skip` takes its step, unless an error is recorded. Assumes nothing.
use Rattle.std.proofs.Common.{sym, ◌∙◌}
use Rattle.run.specs.Acting.{skip_passed, skip_stepped}
use Rattle.opening.proofs.leaf.skip.Goals as goal

pub returns-then-is_some : goal.returns-then-is_some
returns-then-is_some c = λ row. skip_passed row c.requires (sym c.is_some.ensures ∙ c.if-is_some.true)

pub returns : goal.returns
returns c = λ row. skip_stepped row c.stepped.ensures (sym c.is_some.ensures ∙ c.if-is_some.false)
