-- `yoke_set` meets its contract, row by row. Assumes nothing.
use mathlib.Core.Path.{◌≡◌, refl}
use mathlib.Core.List.{[]}
use Rattle.lingua.specs.Rows.{yoke_set}
use Rattle.decoder.specs.Decoded.{instruction_meaning}
use Rattle.decoder.specs.declared.decode.InstructionRow.{InstructionRow}
use Rattle.decoder.specs.declared.decode.InstructionRow.TheVariants as row
use Rattle.decoder.specs.Mentions.{listed}
use Rattle.decoder.proofs.mentions.yoke_set.Goals as goal

others : (r : InstructionRow) → ((n : _) (y : _) → r ≡ row.SetYoke n y → ⊥) → yoke_set (instruction_meaning r) ≡ []
unfolding yoke_set instruction_meaning
others row.Skip not_setyoke = refl
others (row.Assign n e) not_setyoke = refl
others (row.SetYoke n y) not_setyoke = absurd (not_setyoke n y refl)
others (row.Sequence i j) not_setyoke = refl
others (row.Branch e i j) not_setyoke = refl
others (row.Loop e i) not_setyoke = refl
others (row.Handle n i) not_setyoke = refl
others (row.Call k b c) not_setyoke = refl

pub returns-in-SetYoke : goal.returns-in-SetYoke
unfolding listed yoke_set instruction_meaning
returns-in-SetYoke c = rw c.in-SetYoke.is c.yoke_root.ensures

pub returns-in_default : goal.returns-in_default
unfolding listed
returns-in_default c = rw (others c.args.row c.in_default.not-SetYoke)
