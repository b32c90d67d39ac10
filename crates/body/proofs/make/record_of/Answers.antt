-- `body::make::record_of` meets its contract: the body goes after a record's tag, the count and the number. Assumes nothing.
use mathlib.Core.Path.{◌∙◌}
use Rattle.body.proofs.Making.{record_made}
use Rattle.body.proofs.make.record_of.Goals as goal

pub returns : goal.returns
returns c = λ b h f.
    let args = c.args in
    c.pasted.ensures ∙ record_made args.body args.n b h f
