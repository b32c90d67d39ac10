-- `expression_row` meets its contract: the decoded row names what the row names, and an unknown row names nothing. Assumes nothing.
use Rattle.lingua.specs.Numbers.{expression_section}
use Rattle.lingua.specs.Rows.{expression_at, expression_row}
use Rattle.decoder.specs.Decoded.{decoded, in_bytes}
use Rattle.decoder.proofs.Decoding.{place, row_decoded, expression_alike, no_expression_alike}
use Rattle.decoder.proofs.rows.Rows.expression_row.Goals as goal

pub returns-in-None : goal.returns-in-None
unfolding expression_row decoded
returns-in-None c =
    rw (← c.self.view_is, ← c.self.invariant.expressions.start)
    (no_expression_alike (row_decoded (λ i. in_bytes (expression_at c.self.inside.bytes.now i)) (place c.self.inside.bytes.now expression_section c.self.inside.tables.expressions c.args.r c.self.invariant.expressions) c.in-None.ensures))

pub returns-in-Some : goal.returns-in-Some
unfolding expression_row decoded
returns-in-Some c =
    rw (← c.self.view_is, ← c.self.invariant.expressions.start)
    (expression_alike (row_decoded (λ i. in_bytes (expression_at c.self.inside.bytes.now i)) (place c.self.inside.bytes.now expression_section c.self.inside.tables.expressions c.args.r c.self.invariant.expressions) c.in-Some.ensures))
