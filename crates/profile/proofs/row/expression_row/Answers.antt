-- `expression_row` meets its contract: the kind is known, so there is a row, and attributes that fit are its bytes. Assumes nothing.
use Rattle.profile.proofs.Decoding.{expression_says, expression_not_unknown}
use Rattle.profile.proofs.row.expression_row.Goals as goal

pub returns-in-Some : goal.returns-in-Some
returns-in-Some c = expression_says c.args.rows.now c.expressions-t.result c.args.r c.expressions-t.ensures (rw c.bytes.ensures at c.in-Some.ensures) c.requires.known_expression

pub returns-in-None : goal.returns-in-None
returns-in-None c = absurd (expression_not_unknown c.args.rows.now c.expressions-t.result c.args.r c.expressions-t.ensures (rw c.bytes.ensures at c.in-None.ensures) c.requires.known_expression)
