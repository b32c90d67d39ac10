-- `instruction_fits` meets its contract. Assumes nothing.
use Rattle.rules.proofs.Calling.{calls_of}
use Rattle.rules.proofs.variables.instruction_fits.Goals as goal

pub given_fit-requires : goal.given_fit-requires
given_fit-requires c = calls_of _ _ _ c.requires.scoped c.requires.r_lt_count c.instruction_row-row.ensures
