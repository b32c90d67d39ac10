-- `declared_type` meets its contract. Assumes nothing.
use mathlib.Core.Path.{ap, ◌∙◌}
use Rattle.lingua.specs.Rows.{a_at}
use Rattle.profile.proofs.Declaring.{scope_detail}
use Rattle.profile.proofs.declarations.declared_type.Goals as goal

pub returns : goal.returns
returns c = (rw c.bytes.ensures at c.a_at.ensures.0) ∙ ap (a_at c.args.rows.now) (scope_detail c.args.rows.now c.args.t c.requires.has_scope c.args.d)
