-- `constant_fits_at` meets its contract: the decoded row is the row. Assumes nothing.
use mathlib.Core.Path.{ap, ◌∙◌}
use Rattle.lingua.specs.Numbers.{expression_section}
use Rattle.lingua.specs.Rows.{expression_at, expression_row}
use Rattle.lingua.specs.Rules.{row_constant_fits}
use Rattle.decoder.specs.Decoded.{decoded, in_bytes}
use Rattle.decoder.proofs.Decoding.{place, row_decoded, constant_in_bytes}
use Rattle.row_rules.proofs.constants.constant_fits_at.Goals as goal

pub returns-in-Some : goal.returns-in-Some
unfolding expression_row decoded
returns-in-Some c =
    let e = row_decoded (λ i. in_bytes (expression_at c.bytes-bytes.result.now i)) (place c.bytes-bytes.result.now expression_section c.expressions-t.result c.args.r (rw c.bytes-bytes.ensures c.expressions-t.ensures)) c.in-Some.ensures in
    rw (← c.bytes-bytes.ensures)
    (c.row_constant_fits.ensures ∙ (ap row_constant_fits e ∙ constant_in_bytes (expression_row c.bytes-bytes.result.now c.args.r)))

pub returns-in-None : goal.returns-in-None
unfolding expression_row decoded row_constant_fits
returns-in-None c =
    let e = row_decoded (λ i. in_bytes (expression_at c.bytes-bytes.result.now i)) (place c.bytes-bytes.result.now expression_section c.expressions-t.result c.args.r (rw c.bytes-bytes.ensures c.expressions-t.ensures)) c.in-None.ensures in
    rw (← c.bytes-bytes.ensures)
    (ap row_constant_fits e ∙ constant_in_bytes (expression_row c.bytes-bytes.result.now c.args.r))
