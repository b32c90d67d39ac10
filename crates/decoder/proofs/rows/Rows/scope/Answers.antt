-- `scope` meets its contract: the profile's table, or the procedure's. Assumes nothing.
use Rattle.decoder.proofs.Scoped.{scope_own, scope_profile}
use Rattle.decoder.proofs.rows.Rows.scope.Goals as goal

pub returns-then-s-eq0 : goal.returns-then-s-eq0
returns-then-s-eq0 c = rw (← c.self.view_is) (scope_profile _ c.args.s c.self.inside.tables.declarations c.if-s-eq0.true c.self.invariant.declarations)

pub returns : goal.returns
returns c = scope_own _ c.args.s c.variables.result c.if-s-eq0.false c.variables.ensures
