-- `declared_yoke` meets its contract. Assumes nothing.
use Rattle.profile.proofs.Declaring.{yoke_is}
use Rattle.profile.proofs.declarations.declared_yoke.Goals as goal

pub returns-clause-value : goal.returns-clause-value
returns-clause-value c = (yoke_is c.args.rows.now c.args.t c.requires.has_scope c.args.d c.b_at.result (rw c.bytes.ensures at c.b_at.ensures.0))

pub returns-clause-upper_bound : goal.returns-clause-upper_bound
returns-clause-upper_bound c = c.b_at.ensures.1
