-- `body::make::list_of` meets its contract: the body goes after a list's tag. Assumes nothing.
use mathlib.Core.Path.{◌∙◌}
use Rattle.body.proofs.Making.{list_made}
use Rattle.body.proofs.make.list_of.Goals as goal

pub returns : goal.returns
returns c = λ b h.
    c.pasted.ensures ∙ list_made c.args.body b h
