-- `handled` meets its contract, row by row. Assumes nothing.
use mathlib.Core.Path.{◌≡◌, refl}
use mathlib.Core.List.{[]}
use Rattle.lingua.specs.Rules.{handled_errors}
use Rattle.decoder.specs.Decoded.{instruction_meaning}
use Rattle.decoder.specs.declared.decode.InstructionRow.{InstructionRow}
use Rattle.decoder.specs.declared.decode.InstructionRow.TheVariants as row
use Rattle.decoder.specs.Mentions.{listed}
use Rattle.decoder.proofs.mentions.handled.Goals as goal

others : (r : InstructionRow) → ((n : _) (i : _) → r ≡ row.Handle n i → ⊥) → handled_errors (instruction_meaning r) ≡ []
unfolding handled_errors instruction_meaning
others row.Skip not_handle = refl
others (row.Assign n e) not_handle = refl
others (row.SetYoke n y) not_handle = refl
others (row.Sequence i j) not_handle = refl
others (row.Branch e i j) not_handle = refl
others (row.Loop e i) not_handle = refl
others (row.Handle n i) not_handle = absurd (not_handle n i refl)
others (row.Call k b c) not_handle = refl

pub returns-in-Handle : goal.returns-in-Handle
unfolding listed handled_errors instruction_meaning
returns-in-Handle c = rw c.in-Handle.is

pub returns-in_default : goal.returns-in_default
unfolding listed
returns-in_default c = rw (others c.args.row c.in_default.not-Handle)
