-- `simple_tag` meets its contract, by `simple_is`. Assumes nothing.
use native.Mathlib.Omega.{arith}
use Rattle.checked_row.proofs.Simple.{simple_is}
use Rattle.checked_row.proofs.quick.simple_tag.Goals as goal

pub returns : goal.returns
returns c = λ body b h e. simple_is _ body b h e (omega (arith, c.if-first-gt-WORD.false))
