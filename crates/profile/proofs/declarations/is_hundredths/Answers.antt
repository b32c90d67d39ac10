-- `is_hundredths` meets its contract, body by body. Assumes nothing.
use Rattle.std.proofs.Common.{◌≡◌, refl, false}
use Rattle.lingua.specs.Body.{is_hundredths}
use Rattle.decoder.specs.Decoded.{simple_meaning}
use Rattle.decoder.specs.declared.decode.Simple.{Simple}
use Rattle.decoder.specs.declared.decode.Simple.TheVariants as simple
use Rattle.profile.proofs.declarations.is_hundredths.Goals as goal

other_body : (s : Simple) → (s ≡ simple.Hundredths → ⊥) → false ≡ is_hundredths (simple_meaning s)
unfolding is_hundredths simple_meaning
other_body simple.Boolean h = refl
other_body simple.Number h = refl
other_body simple.Word h = refl
other_body simple.Hundredths h = absurd (h refl)

pub returns-in-Hundredths : goal.returns-in-Hundredths
unfolding is_hundredths simple_meaning
returns-in-Hundredths c = rw c.in-Hundredths.is

pub returns-in_default : goal.returns-in_default
returns-in_default c = other_body c.args.s c.in_default.not-Hundredths
