-- `instruction_row` meets its contract: the decoded row names what the row names, and an unknown row names nothing. Assumes nothing.
use Rattle.lingua.specs.Numbers.{instruction_section}
use Rattle.lingua.specs.Rows.{instruction_at, instruction_row}
use Rattle.decoder.specs.Decoded.{decoded}
use Rattle.decoder.proofs.Decoding.{place, row_decoded, instruction_alike, no_instruction_alike}
use Rattle.decoder.proofs.rows.Rows.instruction_row.Goals as goal

pub returns-in-None : goal.returns-in-None
unfolding instruction_row decoded
returns-in-None c =
    rw (← c.self.view_is)
    (no_instruction_alike (row_decoded (instruction_at c.self.inside.bytes.now) (place c.self.inside.bytes.now instruction_section c.self.inside.tables.instructions c.args.r c.self.invariant.instructions) c.in-None.ensures))

pub returns-in-Some : goal.returns-in-Some
unfolding instruction_row decoded
returns-in-Some c =
    rw (← c.self.view_is)
    (instruction_alike (row_decoded (instruction_at c.self.inside.bytes.now) (place c.self.inside.bytes.now instruction_section c.self.inside.tables.instructions c.args.r c.self.invariant.instructions) c.in-Some.ensures))
