-- `evaluated` meets its contract, row by row. Assumes nothing.
use mathlib.Core.Path.{◌≡◌, refl}
use mathlib.Core.List.{[]}
use Rattle.lingua.specs.Rows.{evaluated}
use Rattle.decoder.specs.Decoded.{instruction_meaning}
use Rattle.decoder.specs.declared.decode.InstructionRow.{InstructionRow}
use Rattle.decoder.specs.declared.decode.InstructionRow.TheVariants as row
use Rattle.decoder.specs.Mentions.{listed}
use Rattle.decoder.proofs.mentions.evaluated.Goals as goal

others : (r : InstructionRow) → ((n : _) (e : _) → r ≡ row.Assign n e → ⊥) → ((e : _) (i : _) (j : _) → r ≡ row.Branch e i j → ⊥) → ((e : _) (i : _) → r ≡ row.Loop e i → ⊥) → evaluated (instruction_meaning r) ≡ []
unfolding evaluated instruction_meaning
others row.Skip not_assign not_branch not_loop = refl
others (row.Assign n e) not_assign not_branch not_loop = absurd (not_assign n e refl)
others (row.SetYoke n y) not_assign not_branch not_loop = refl
others (row.Sequence i j) not_assign not_branch not_loop = refl
others (row.Branch e i j) not_assign not_branch not_loop = absurd (not_branch e i j refl)
others (row.Loop e i) not_assign not_branch not_loop = absurd (not_loop e i refl)
others (row.Handle n i) not_assign not_branch not_loop = refl
others (row.Call k b c) not_assign not_branch not_loop = refl

pub returns-in-Assign : goal.returns-in-Assign
unfolding listed evaluated instruction_meaning
returns-in-Assign c = rw c.in-Assign.is

pub returns-in-Branch : goal.returns-in-Branch
unfolding listed evaluated instruction_meaning
returns-in-Branch c = rw c.in-Branch.is

pub returns-in-Loop : goal.returns-in-Loop
unfolding listed evaluated instruction_meaning
returns-in-Loop c = rw c.in-Loop.is

pub returns-in_default : goal.returns-in_default
unfolding listed
returns-in_default c = rw (others c.args.row c.in_default.not-Assign c.in_default.not-Branch c.in_default.not-Loop)
