-- `assigned` meets its contract, row by row. Assumes nothing.
use mathlib.Core.Path.{◌≡◌, refl}
use mathlib.Core.List.{[]}
use Rattle.lingua.specs.References.{instruction_variables}
use Rattle.decoder.specs.Decoded.{instruction_meaning}
use Rattle.decoder.specs.declared.decode.InstructionRow.{InstructionRow}
use Rattle.decoder.specs.declared.decode.InstructionRow.TheVariants as row
use Rattle.decoder.specs.Mentions.{listed}
use Rattle.decoder.proofs.mentions.assigned.Goals as goal

others : (r : InstructionRow) → ((n : _) (e : _) → r ≡ row.Assign n e → ⊥) → ((n : _) (y : _) → r ≡ row.SetYoke n y → ⊥) → instruction_variables (instruction_meaning r) ≡ []
unfolding instruction_variables instruction_meaning
others row.Skip not_assign not_setyoke = refl
others (row.Assign n e) not_assign not_setyoke = absurd (not_assign n e refl)
others (row.SetYoke n y) not_assign not_setyoke = absurd (not_setyoke n y refl)
others (row.Sequence i j) not_assign not_setyoke = refl
others (row.Branch e i j) not_assign not_setyoke = refl
others (row.Loop e i) not_assign not_setyoke = refl
others (row.Handle n i) not_assign not_setyoke = refl
others (row.Call k b c) not_assign not_setyoke = refl

pub returns-in-Assign : goal.returns-in-Assign
unfolding listed instruction_variables instruction_meaning
returns-in-Assign c = rw c.in-Assign.is

pub returns-in-SetYoke : goal.returns-in-SetYoke
unfolding listed instruction_variables instruction_meaning
returns-in-SetYoke c = rw c.in-SetYoke.is

pub returns-in_default : goal.returns-in_default
unfolding listed
returns-in_default c = rw (others c.args.row c.in_default.not-Assign c.in_default.not-SetYoke)
