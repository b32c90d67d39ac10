-- `type_row` meets its contract: the decoded row names what the row names, and an unknown row names nothing. Assumes nothing.
use Rattle.lingua.specs.Numbers.{type_section}
use Rattle.lingua.specs.Rows.{type_at, type_row}
use Rattle.decoder.specs.Decoded.{decoded}
use Rattle.decoder.proofs.Decoding.{place, row_decoded, type_alike, no_type_alike}
use Rattle.decoder.proofs.rows.Rows.type_row.Goals as goal

pub returns-in-None : goal.returns-in-None
unfolding type_row decoded
returns-in-None c =
    rw (← c.self.view_is)
    (no_type_alike (row_decoded (type_at c.self.inside.bytes.now) (place c.self.inside.bytes.now type_section c.self.inside.tables.types c.args.r c.self.invariant.types) c.in-None.ensures))

pub returns-in-Some : goal.returns-in-Some
unfolding type_row decoded
returns-in-Some c =
    rw (← c.self.view_is)
    (type_alike (row_decoded (type_at c.self.inside.bytes.now) (place c.self.inside.bytes.now type_section c.self.inside.tables.types c.args.r c.self.invariant.types) c.in-Some.ensures))
