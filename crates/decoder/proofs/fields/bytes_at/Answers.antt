-- `bytes_at` meets its contract: the part is eight bytes long. Assumes nothing.
use Rattle.decoder.proofs.Counting.{part_is}
use Prim.Native.Nat.{◌+◌, ◌*◌}
use native.Mathlib.Omega.{arith}
use lib.ListN.{length-take, length-drop}
use Rattle.lingua.specs.Rows.{bytes_at}
use Rattle.decoder.proofs.fields.bytes_at.Goals as goal

pub returns : goal.returns
unfolding bytes_at
returns c = (part_is c.args.rows.now (10 * c.args.i + 2) (10 * c.args.i + 2 + 8) 8 (omega arith), simp (length-take, length-drop) (omega arith))
