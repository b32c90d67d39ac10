-- `mark` meets its contract: one row is no further than before, and no further than the scope. Assumes nothing.
use Rattle.scopes.proofs.Marking.{marked_one}
use Rattle.scopes.proofs.pass.mark.Goals as goal

pub returns : goal.returns
returns c = marked_one c.args.scopes.now c.args.x c.args.s c.nearer.result c.requires c.nearer.ensures
