-- `variables` meets its contract: between a procedure's first row and the next procedure stand its variables. Assumes nothing.
use native.Mathlib.Omega.{arith}
use Rattle.decoder.proofs.Scoped.{head_before, are_variables}
use Rattle.decoder.proofs.rows.Rows.variables.Goals as goal

pub overflow_sub-count : goal.overflow_sub-count
overflow_sub-count c = omega (arith, head_before c.self.inside.bytes.now c.self.inside.tables c.args.k c.self.invariant (rw c.self.view_is c.requires.k_lt_count) c.requires.k_lt_most)

pub overflow_sub-count-2 : goal.overflow_sub-count-2
overflow_sub-count-2 c = omega (arith, head_before c.self.inside.bytes.now c.self.inside.tables c.args.k c.self.invariant (rw c.self.view_is c.requires.k_lt_count) c.requires.k_lt_most)

pub returns : goal.returns
returns c = rw (← c.self.view_is) (are_variables c.self.inside.bytes.now c.self.inside.tables c.args.k c.self.invariant (rw c.self.view_is c.requires.k_lt_count) c.requires.k_lt_most)
