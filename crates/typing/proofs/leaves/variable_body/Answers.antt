-- `typing::leaves::variable_body` meets its contract: `variable_holds`. Assumes nothing.
use Rattle.typing.proofs.Parts.{variable_holds, in_pairs}
use Rattle.typing.proofs.leaves.variable_body.Goals as goal

pub declared_body-requires-clause-d_bound : goal.declared_body-requires-clause-d_bound
declared_body-requires-clause-d_bound c = in_pairs c.args.rows.now c.args.t c.args.n c.requires.variables_known.scope c.requires.n_bound

pub returns : goal.returns
returns c = variable_holds c.args.rows.now c.args.t.section c.args.n c.declared_body.result c.requires.n_bound c.declared_body.ensures
