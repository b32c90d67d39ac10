-- The errors and refusals of the code, by their numbers, and what its results say. Assumes nothing: these are definitions.
use Rattle.std.specs.Prelude.{ℕ, Result, Ok, Err}
use Rattle.lingua.specs.declared.errors.Error.{Error}
use Rattle.lingua.specs.declared.errors.Error.TheVariants.{Overflow, DivisionByZero, YokeNotSatisfied, ListEmpty, ListFull, WordTooLong, NotFilled, NumberExpected, BooleanExpected, WordExpected, ListExpected, RecordExpected, NoSuchAttribute, AttributePresent, NoCoherence, YokeExpected, NotComparable, BodyTooLarge, LastAttribute, TooDeep}
use Rattle.lingua.specs.declared.errors.Refusal.{Refusal}
use Rattle.lingua.specs.declared.errors.Refusal.TheVariants.{BadBuffer, BadLength, BadMarker, BadHeader, BadCheck, BadForm, BadCount, BadName, BadConstant, BadReference, BadUse, Misplaced, BadType, ModelsDiffer, BadLimit, BadReading, TypeErrorFound, BadParameters, RepeatedReference}
use Rattle.lingua.specs.Outcome.{Outcome, ok, fail}
use Rattle.lingua.specs.Errors.{
  no_error,
  overflow,
  division_by_zero,
  yoke_not_satisfied,
  list_empty,
  list_full,
  word_too_long,
  not_filled,
  number_expected,
  boolean_expected,
  word_expected,
  list_expected,
  record_expected,
  no_such_attribute,
  attribute_present,
  no_coherence,
  yoke_expected,
  not_comparable,
  body_too_large,
  last_attribute,
  too_deep,
  bad_buffer,
  bad_length,
  bad_marker,
  bad_header,
  bad_check,
  bad_form,
  bad_count,
  bad_name,
  bad_constant,
  bad_reference,
  bad_use,
  misplaced,
  bad_type,
  models_differ,
  bad_limit,
  bad_reading,
  type_error_found,
  bad_parameters,
  repeated_reference,
}

abbrev pub error_number : Error → ℕ
error_number Overflow = overflow
error_number DivisionByZero = division_by_zero
error_number YokeNotSatisfied = yoke_not_satisfied
error_number ListEmpty = list_empty
error_number ListFull = list_full
error_number WordTooLong = word_too_long
error_number NotFilled = not_filled
error_number NumberExpected = number_expected
error_number BooleanExpected = boolean_expected
error_number WordExpected = word_expected
error_number ListExpected = list_expected
error_number RecordExpected = record_expected
error_number NoSuchAttribute = no_such_attribute
error_number AttributePresent = attribute_present
error_number NoCoherence = no_coherence
error_number YokeExpected = yoke_expected
error_number NotComparable = not_comparable
error_number BodyTooLarge = body_too_large
error_number LastAttribute = last_attribute
error_number TooDeep = too_deep

abbrev pub refusal_number : Refusal → ℕ
refusal_number BadBuffer = bad_buffer
refusal_number BadLength = bad_length
refusal_number BadMarker = bad_marker
refusal_number BadHeader = bad_header
refusal_number BadCheck = bad_check
refusal_number BadForm = bad_form
refusal_number BadCount = bad_count
refusal_number BadName = bad_name
refusal_number BadConstant = bad_constant
refusal_number BadReference = bad_reference
refusal_number BadUse = bad_use
refusal_number Misplaced = misplaced
refusal_number BadType = bad_type
refusal_number ModelsDiffer = models_differ
refusal_number BadLimit = bad_limit
refusal_number BadReading = bad_reading
refusal_number TypeErrorFound = type_error_found
refusal_number BadParameters = bad_parameters
refusal_number RepeatedReference = repeated_reference

-- what a result of the code says: its value, or its error's number
abbrev pub told : {A : Type 0} → Result A Error → Outcome ℕ A
told (Ok a) = ok a
told (Err e) = fail (error_number e)

-- the number of a result's error or refusal, 0 where there is none
abbrev pub number_of : {A : Type 0} → Result A Error → ℕ
number_of (Ok a) = no_error
number_of (Err e) = error_number e

abbrev pub refusal_of : {A : Type 0} → Result A Refusal → ℕ
refusal_of (Ok a) = no_error
refusal_of (Err e) = refusal_number e
