-- Where each refusal stands in the order, by its number. Assumes nothing.
use Rattle.std.proofs.Common.{◌≡◌, refl}
use Rattle.lingua.specs.Faults.{refusal_number}
use Rattle.lingua.specs.declared.errors.Refusal.{Refusal}
use Rattle.lingua.specs.declared.errors.Refusal.TheVariants.{BadBuffer, BadLength, BadMarker, BadHeader, BadCheck, BadForm, BadCount, BadName, BadConstant, BadReference, BadUse, Misplaced, BadType, ModelsDiffer, BadLimit, BadReading, TypeErrorFound, BadParameters, RepeatedReference}
use Rattle.lingua.specs.Refusal.{place_in, rank}

-- up to 13 the order is that of the numbers
pub rank_other : (r : Refusal) → (r ≡ BadParameters → ⊥) → (r ≡ RepeatedReference → ⊥) → (r ≡ ModelsDiffer → ⊥) → (r ≡ BadLimit → ⊥) → (r ≡ BadReading → ⊥) → (r ≡ TypeErrorFound → ⊥) → refusal_number r ≡ rank (refusal_number r)
unfolding rank place_in
rank_other BadBuffer a b c d e f = refl
rank_other BadLength a b c d e f = refl
rank_other BadMarker a b c d e f = refl
rank_other BadHeader a b c d e f = refl
rank_other BadCheck a b c d e f = refl
rank_other BadForm a b c d e f = refl
rank_other BadCount a b c d e f = refl
rank_other BadName a b c d e f = refl
rank_other BadConstant a b c d e f = refl
rank_other BadReference a b c d e f = refl
rank_other BadUse a b c d e f = refl
rank_other Misplaced a b c d e f = refl
rank_other BadType a b c d e f = refl
rank_other ModelsDiffer a b c d e f = absurd (c refl)
rank_other BadLimit a b c d e f = absurd (d refl)
rank_other BadReading a b c d e f = absurd (e refl)
rank_other TypeErrorFound a b c d e f = absurd (f refl)
rank_other BadParameters a b c d e f = absurd (a refl)
rank_other RepeatedReference a b c d e f = absurd (b refl)
