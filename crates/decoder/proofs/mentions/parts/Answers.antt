-- `parts` meets its contract, row by row. Assumes nothing.
use mathlib.Core.Path.{◌≡◌, refl}
use mathlib.Core.List.{[]}
use Rattle.lingua.specs.Rows.{parts}
use Rattle.decoder.specs.Decoded.{instruction_meaning}
use Rattle.decoder.specs.declared.decode.InstructionRow.{InstructionRow}
use Rattle.decoder.specs.declared.decode.InstructionRow.TheVariants as row
use Rattle.decoder.specs.Mentions.{listed}
use Rattle.decoder.proofs.mentions.parts.Goals as goal

others : (r : InstructionRow) → ((i : _) (j : _) → r ≡ row.Sequence i j → ⊥) → ((e : _) (i : _) (j : _) → r ≡ row.Branch e i j → ⊥) → ((e : _) (i : _) → r ≡ row.Loop e i → ⊥) → ((n : _) (i : _) → r ≡ row.Handle n i → ⊥) → parts (instruction_meaning r) ≡ []
unfolding parts instruction_meaning
others row.Skip not_sequence not_branch not_loop not_handle = refl
others (row.Assign n e) not_sequence not_branch not_loop not_handle = refl
others (row.SetYoke n y) not_sequence not_branch not_loop not_handle = refl
others (row.Sequence i j) not_sequence not_branch not_loop not_handle = absurd (not_sequence i j refl)
others (row.Branch e i j) not_sequence not_branch not_loop not_handle = absurd (not_branch e i j refl)
others (row.Loop e i) not_sequence not_branch not_loop not_handle = absurd (not_loop e i refl)
others (row.Handle n i) not_sequence not_branch not_loop not_handle = absurd (not_handle n i refl)
others (row.Call k b c) not_sequence not_branch not_loop not_handle = refl

pub returns-in-Sequence : goal.returns-in-Sequence
unfolding listed parts instruction_meaning
returns-in-Sequence c = rw c.in-Sequence.is

pub returns-in-Branch : goal.returns-in-Branch
unfolding listed parts instruction_meaning
returns-in-Branch c = rw c.in-Branch.is

pub returns-in-Loop : goal.returns-in-Loop
unfolding listed parts instruction_meaning
returns-in-Loop c = rw c.in-Loop.is

pub returns-in-Handle : goal.returns-in-Handle
unfolding listed parts instruction_meaning
returns-in-Handle c = rw c.in-Handle.is

pub returns-in_default : goal.returns-in_default
unfolding listed
returns-in_default c = rw (others c.args.row c.in_default.not-Sequence c.in_default.not-Branch c.in_default.not-Loop c.in_default.not-Handle)
