-- `body::walk::measure_body` meets its contract: an array that holds a body has its bytes at the start. Assumes nothing.
use Rattle.body.proofs.Making.{held_at, held_some}
use Rattle.body.proofs.walk.measure_body.Goals as goal

pub measured-requires : goal.measured-requires
measured-requires c = held_some c.args.body c.requires

pub returns : goal.returns
returns c = λ b h. c.measured.ensures b (held_at c.args.body b h)
