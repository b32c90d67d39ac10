-- The errors and refusals of the code by their numbers: none is 0, and no two have one. Assumes nothing.
use Rattle.std.specs.Prelude.{Result, Ok, Err, IsErrAnd}
use Rattle.std.proofs.Common.{◌≡◌, refl, sym, ap, ◌∙◌, ℕ, ◌≤◌, ◌<◌, [], ◌∷◌, get_or, arith}
use Rattle.lingua.specs.declared.errors.Error.{Error}
use Rattle.lingua.specs.declared.errors.Error.TheVariants.{Overflow, DivisionByZero, YokeNotSatisfied, ListEmpty, ListFull, WordTooLong, NotFilled, NumberExpected, BooleanExpected, WordExpected, ListExpected, RecordExpected, NoSuchAttribute, AttributePresent, NoCoherence, YokeExpected, NotComparable, BodyTooLarge, LastAttribute, TooDeep}
use Rattle.lingua.specs.declared.errors.Refusal.{Refusal}
use Rattle.lingua.specs.declared.errors.Refusal.TheVariants.{BadBuffer, BadLength, BadMarker, BadHeader, BadCheck, BadForm, BadCount, BadName, BadConstant, BadReference, BadUse, Misplaced, BadType, ModelsDiffer, BadLimit, BadReading, TypeErrorFound, BadParameters, RepeatedReference}
use Rattle.lingua.specs.Faults.{error_number, refusal_number, number_of}

pub error_number_counted : (e : Error) → (1 ≤ error_number e) × (error_number e < 21)
error_number_counted Overflow = (omega arith, omega arith)
error_number_counted DivisionByZero = (omega arith, omega arith)
error_number_counted YokeNotSatisfied = (omega arith, omega arith)
error_number_counted ListEmpty = (omega arith, omega arith)
error_number_counted ListFull = (omega arith, omega arith)
error_number_counted WordTooLong = (omega arith, omega arith)
error_number_counted NotFilled = (omega arith, omega arith)
error_number_counted NumberExpected = (omega arith, omega arith)
error_number_counted BooleanExpected = (omega arith, omega arith)
error_number_counted WordExpected = (omega arith, omega arith)
error_number_counted ListExpected = (omega arith, omega arith)
error_number_counted RecordExpected = (omega arith, omega arith)
error_number_counted NoSuchAttribute = (omega arith, omega arith)
error_number_counted AttributePresent = (omega arith, omega arith)
error_number_counted NoCoherence = (omega arith, omega arith)
error_number_counted YokeExpected = (omega arith, omega arith)
error_number_counted NotComparable = (omega arith, omega arith)
error_number_counted BodyTooLarge = (omega arith, omega arith)
error_number_counted LastAttribute = (omega arith, omega arith)
error_number_counted TooDeep = (omega arith, omega arith)

-- the one that has a number; any other number stands for the first
error_numbered : ℕ → Error
error_numbered n = get_or (Overflow ∷ Overflow ∷ DivisionByZero ∷ YokeNotSatisfied ∷ ListEmpty ∷ ListFull ∷ WordTooLong ∷ NotFilled ∷ NumberExpected ∷ BooleanExpected ∷ WordExpected ∷ ListExpected ∷ RecordExpected ∷ NoSuchAttribute ∷ AttributePresent ∷ NoCoherence ∷ YokeExpected ∷ NotComparable ∷ BodyTooLarge ∷ LastAttribute ∷ TooDeep ∷ []) n Overflow

error_back : (e : Error) → error_numbered (error_number e) ≡ e
unfolding error_numbered
error_back Overflow = refl
error_back DivisionByZero = refl
error_back YokeNotSatisfied = refl
error_back ListEmpty = refl
error_back ListFull = refl
error_back WordTooLong = refl
error_back NotFilled = refl
error_back NumberExpected = refl
error_back BooleanExpected = refl
error_back WordExpected = refl
error_back ListExpected = refl
error_back RecordExpected = refl
error_back NoSuchAttribute = refl
error_back AttributePresent = refl
error_back NoCoherence = refl
error_back YokeExpected = refl
error_back NotComparable = refl
error_back BodyTooLarge = refl
error_back LastAttribute = refl
error_back TooDeep = refl

pub same_error : (e f : Error) → error_number e ≡ error_number f → e ≡ f
same_error e f h = sym (error_back e) ∙ (ap error_numbered h ∙ error_back f)

pub refusal_number_counted : (e : Refusal) → (1 ≤ refusal_number e) × (refusal_number e < 20)
refusal_number_counted BadBuffer = (omega arith, omega arith)
refusal_number_counted BadLength = (omega arith, omega arith)
refusal_number_counted BadMarker = (omega arith, omega arith)
refusal_number_counted BadHeader = (omega arith, omega arith)
refusal_number_counted BadCheck = (omega arith, omega arith)
refusal_number_counted BadForm = (omega arith, omega arith)
refusal_number_counted BadCount = (omega arith, omega arith)
refusal_number_counted BadName = (omega arith, omega arith)
refusal_number_counted BadConstant = (omega arith, omega arith)
refusal_number_counted BadReference = (omega arith, omega arith)
refusal_number_counted BadUse = (omega arith, omega arith)
refusal_number_counted Misplaced = (omega arith, omega arith)
refusal_number_counted BadType = (omega arith, omega arith)
refusal_number_counted ModelsDiffer = (omega arith, omega arith)
refusal_number_counted BadLimit = (omega arith, omega arith)
refusal_number_counted BadReading = (omega arith, omega arith)
refusal_number_counted TypeErrorFound = (omega arith, omega arith)
refusal_number_counted BadParameters = (omega arith, omega arith)
refusal_number_counted RepeatedReference = (omega arith, omega arith)

-- the one that has a number; any other number stands for the first
refusal_numbered : ℕ → Refusal
refusal_numbered n = get_or (BadBuffer ∷ BadBuffer ∷ BadLength ∷ BadMarker ∷ BadHeader ∷ BadCheck ∷ BadForm ∷ BadCount ∷ BadName ∷ BadConstant ∷ BadReference ∷ BadUse ∷ Misplaced ∷ BadType ∷ ModelsDiffer ∷ BadLimit ∷ BadReading ∷ TypeErrorFound ∷ BadParameters ∷ RepeatedReference ∷ []) n BadBuffer

refusal_back : (e : Refusal) → refusal_numbered (refusal_number e) ≡ e
unfolding refusal_numbered
refusal_back BadBuffer = refl
refusal_back BadLength = refl
refusal_back BadMarker = refl
refusal_back BadHeader = refl
refusal_back BadCheck = refl
refusal_back BadForm = refl
refusal_back BadCount = refl
refusal_back BadName = refl
refusal_back BadConstant = refl
refusal_back BadReference = refl
refusal_back BadUse = refl
refusal_back Misplaced = refl
refusal_back BadType = refl
refusal_back ModelsDiffer = refl
refusal_back BadLimit = refl
refusal_back BadReading = refl
refusal_back TypeErrorFound = refl
refusal_back BadParameters = refl
refusal_back RepeatedReference = refl

pub same_refusal : (e f : Refusal) → refusal_number e ≡ refusal_number f → e ≡ f
same_refusal e f h = sym (refusal_back e) ∙ (ap refusal_numbered h ∙ refusal_back f)

pub error_some : (e : Error) → error_number e ≡ 0 → ⊥
error_some e z = omega (arith, error_number_counted e, z)

-- an error that `?` passes on is the same error
pub passed : {A : Type 0} (r : Result A Error) (e : Error) → IsErrAnd r (λ x. x ≡ e) → r ≡ Err e
passed (Ok x) e h = absurd h
passed {A} (Err x) e h = ap {B = Result A Error} (λ y. Err y) h

pub passed_on : {A : Type 0} (r : Result A Error) (e : Error) → IsErrAnd r (λ x. x ≡ e) → number_of r ≡ error_number e
passed_on r e h = ap number_of (passed r e h)
