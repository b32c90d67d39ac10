-- `body_half::unary::is_boolean` meets its contract. Assumes nothing.
use Rattle.body.proofs.Tags.{first_boolean}
use Rattle.body_half.proofs.unary.is_boolean.Goals as goal

pub returns : goal.returns
returns c = λ b h. first_boolean c.args.x b h
