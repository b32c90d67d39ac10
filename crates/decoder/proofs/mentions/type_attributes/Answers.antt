-- `type_attributes` meets its contract, row by row. Assumes nothing.
use mathlib.Core.Path.{◌≡◌, refl}
use mathlib.Core.List.{[]}
use Rattle.lingua.specs.Rules.{type_attributes}
use Rattle.decoder.specs.Decoded.{type_meaning}
use Rattle.decoder.specs.declared.decode.TypeRow.{TypeRow}
use Rattle.decoder.specs.declared.decode.TypeRow.TheVariants as row
use Rattle.decoder.specs.Mentions.{listed}
use Rattle.decoder.proofs.mentions.type_attributes.Goals as goal

others : (r : TypeRow) → ((n : _) (a : _) → r ≡ row.Record n a → ⊥) → ((a : _) (n : _) (b : _) → r ≡ row.Expand a n b → ⊥) → type_attributes (type_meaning r) ≡ []
unfolding type_attributes type_meaning
others (row.Simple s) not_record not_expand = refl
others (row.List a) not_record not_expand = refl
others (row.Record n a) not_record not_expand = absurd (not_record n a refl)
others (row.Expand a n b) not_record not_expand = absurd (not_expand a n b refl)

pub returns-in-Record : goal.returns-in-Record
unfolding listed type_attributes type_meaning
returns-in-Record c = rw c.in-Record.is

pub returns-in-Expand : goal.returns-in-Expand
unfolding listed type_attributes type_meaning
returns-in-Expand c = rw c.in-Expand.is

pub returns-in_default : goal.returns-in_default
unfolding listed
returns-in_default c = rw (others c.args.row c.in_default.not-Record c.in_default.not-Expand)
