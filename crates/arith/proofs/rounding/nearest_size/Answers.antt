-- `nearest_size` meets its contract: the rest is below half of the divisor, or not. Assumes nothing.
use native.Mathlib.Nat.{mod-le, div-le_self}
use native.Mathlib.Omega.{arith}
use Rattle.arith.proofs.Halves.{kept, raised}
use Rattle.arith.proofs.rounding.nearest_size.Goals as goal

pub overflow_mul-rest : goal.overflow_mul-rest
overflow_mul-rest c = record { fits = omega (arith, mod-le c.args.n c.args.d) }

pub returns-then-rest-d : goal.returns-then-rest-d
returns-then-rest-d c = kept c.args.n c.args.d c.requires.d_nonzero (omega (arith, c.if-rest-d.true))

pub overflow_add-result : goal.overflow_add-result
overflow_add-result c = record { fits = omega (arith, div-le_self c.args.n c.args.d) }

pub returns : goal.returns
returns c = raised c.args.n c.args.d c.requires.d_nonzero (omega (arith, c.if-rest-d.false))
