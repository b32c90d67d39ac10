-- `body::typed::scalar` meets its contract: the tag alone is a simple body. Assumes nothing.
use Rattle.body.proofs.Answers.{scalar_is}
use Rattle.body.proofs.typed.scalar.Goals as goal

pub returns : goal.returns
returns c = scalar_is c.args.tag c.simple.result c.simple.ensures c.requires
