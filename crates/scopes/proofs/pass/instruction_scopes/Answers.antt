-- `instruction_scopes` meets its contract: bodies first, then the rows' parts. Assumes nothing.
use native.Mathlib.Omega.{arith}
use Rattle.lingua.specs.Numbers.{instruction_section}
use Rattle.lingua.specs.Rows.{table_count}
use Rattle.laws.specs.Refers.{refers}
use Rattle.scopes.proofs.Marking.{owned_none, owned_all}
use Rattle.scopes.proofs.pass.instruction_scopes.Goals as goal

pub mark_bodies-requires-clause-ready : goal.mark_bodies-requires-clause-ready
mark_bodies-requires-clause-ready c = (record { sized = c.requires.sized; refers = refers c.args.rows.now c.requires.rows_value })

pub mark_bodies-requires-clause-owned : goal.mark_bodies-requires-clause-owned
mark_bodies-requires-clause-owned c = (owned_none c.args.rows.now (table_count c.args.rows.now instruction_section) (omega arith))

pub mark_parts-requires-clause-ready : goal.mark_parts-requires-clause-ready
mark_parts-requires-clause-ready c = (record { sized = c.requires.sized; refers = refers c.args.rows.now c.requires.rows_value })

pub returns : goal.returns
returns c = owned_all c.args.rows.now (refers c.args.rows.now c.requires.rows_value) c.mark_parts.new.scopes c.mark_parts.ensures
