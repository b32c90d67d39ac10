-- `makes_hundredths` meets its contract, row by row. Assumes nothing.
use Rattle.std.proofs.Common.{◌≡◌, refl, false}
use Rattle.decoder.specs.Decoded.{type_meaning}
use Rattle.decoder.specs.declared.decode.Simple.{Simple}
use Rattle.decoder.specs.declared.decode.TypeRow.{TypeRow}
use Rattle.decoder.specs.declared.decode.TypeRow.TheVariants as row
use Rattle.profile.specs.Hundredths.{hundredths_row}
use Rattle.profile.proofs.declarations.makes_hundredths.Goals as goal

other_row : (x : TypeRow) → ((s : Simple) → x ≡ row.Simple s → ⊥) → false ≡ hundredths_row (type_meaning x)
unfolding hundredths_row type_meaning
other_row (row.Simple s) h = absurd (h s refl)
other_row (row.List a) h = refl
other_row (row.Record n a) h = refl
other_row (row.Expand a n b) h = refl

pub returns-in-Simple : goal.returns-in-Simple
unfolding hundredths_row type_meaning
returns-in-Simple c = rw c.in-Simple.is c.is_hundredths.ensures

pub returns-in_default : goal.returns-in_default
returns-in_default c = other_row c.args.row c.in_default.not-Simple
