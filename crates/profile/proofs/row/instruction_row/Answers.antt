-- `instruction_row` meets its contract: the kind is known, so there is a row. Assumes nothing.
use Rattle.profile.proofs.Decoding.{instruction_says, instruction_not_unknown}
use Rattle.profile.proofs.row.instruction_row.Goals as goal

pub returns-in-Some : goal.returns-in-Some
returns-in-Some c = instruction_says c.args.rows.now c.instructions-t.result c.args.r c.instructions-t.ensures (rw c.bytes.ensures at c.in-Some.ensures)

pub returns-in-None : goal.returns-in-None
returns-in-None c = absurd (instruction_not_unknown c.args.rows.now c.instructions-t.result c.args.r c.instructions-t.ensures (rw c.bytes.ensures at c.in-None.ensures) c.requires.known_instruction)
