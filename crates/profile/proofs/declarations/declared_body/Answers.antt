-- `declared_body` meets its contract: the type row is there, and so is its body. Assumes nothing.
use Rattle.rules.specs.Types.{body_at}
use Rattle.profile.proofs.Declaring.{type_inside, declared_is}
use Rattle.profile.proofs.declarations.declared_body.Goals as goal

pub taken-requires : goal.taken-requires
taken-requires c = type_inside c.args.rows.now c.args.bodies.now c.requires.variables_known.accepted c.args.t c.requires.variables_known.scope c.requires.variables_known.held c.args.d c.requires.d_bound c.declared_type-r.result c.declared_type-r.ensures

pub returns : goal.returns
unfolding body_at
returns c = declared_is c.args.rows.now c.args.bodies.now c.requires.variables_known.accepted c.args.t c.requires.variables_known.scope c.requires.variables_known.held c.args.d c.requires.d_bound c.declared_type-r.result c.taken.result c.declared_type-r.ensures c.taken.ensures
