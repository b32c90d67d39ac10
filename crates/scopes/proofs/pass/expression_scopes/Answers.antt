-- `expression_scopes` meets its contract: roots first, then the rows' operands. Assumes nothing.
use native.Mathlib.Omega.{arith}
use Rattle.lingua.specs.Numbers.{expression_section}
use Rattle.lingua.specs.Rows.{table_count}
use Rattle.laws.specs.Refers.{refers}
use Rattle.scopes.proofs.Marking.{used_none, used_all}
use Rattle.scopes.proofs.pass.expression_scopes.Goals as goal

pub mark_roots-requires-clause-ready : goal.mark_roots-requires-clause-ready
mark_roots-requires-clause-ready c = (record { sized = c.requires.sized; refers = refers c.args.rows.now c.requires.rows_value })

pub mark_roots-requires-clause-used : goal.mark_roots-requires-clause-used
mark_roots-requires-clause-used c = (used_none c.args.rows.now (table_count c.args.rows.now expression_section) (omega arith))

pub mark_operands-requires-clause-ready : goal.mark_operands-requires-clause-ready
mark_operands-requires-clause-ready c = (record { sized = c.requires.sized; refers = refers c.args.rows.now c.requires.rows_value })

pub returns : goal.returns
returns c = used_all c.args.rows.now (refers c.args.rows.now c.requires.rows_value) c.mark_operands.new.scopes c.mark_operands.ensures
