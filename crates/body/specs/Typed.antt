-- What the operations' half on bodies gives, as the code holds it. Assumes nothing: these are definitions.
use Rattle.std.specs.Prelude.{◌≡◌, ℕ, Result, Ok, Err, eqb, if◌then◌else◌}
use Rattle.std.proofs.Math.Option.{Option, some, none}
use Rattle.lingua.specs.Outcome.{Outcome, ok, fail}
use Rattle.lingua.specs.Body.{Body, boolean, number, word, hundredths, Attributes, attributes_of, attribute_offset, insert_attribute, size}
use Rattle.lingua.specs.Faults.{error_number}
use Rattle.lingua.specs.declared.errors.Error.{Error}
use Rattle.lingua.specs.Operation.{Binary, add, subtract, multiply, divide, less, equal, glue, expand, change, push}
use Rattle.lingua.specs.Typing.{offset_in, hundredths_flag}
use Rattle.body.specs.declared.typed.Typed.{Typed}
use Rattle.body.specs.Encode.{Holds}

-- the body, its cells and the second number
pub record TypesBody (t : Typed) (r : Outcome ℕ Body) (o : ℕ) : Type 0 where
  pub body : Body
  pub is : r ≡ ok body
  pub holds : Holds t.body body
  pub is_cells : t.cells ≡ size body
  pub is_offset : t.offset ≡ o

-- the code's answer is what the half on bodies gives: a body, or the error
abbrev pub Types : Result Typed Error → Outcome ℕ Body → ℕ → Type 0
Types (Ok t) r o = TypesBody t r o
Types (Err e) r o = r ≡ fail (error_number e)

-- a simple body by its tag
unfoldable pub simple_of : ℕ → Body
simple_of t = if eqb t 1 then boolean else (if eqb t 2 then number else (if eqb t 7 then hundredths else word))

-- ---- the layout table's second number, by the operands alone: the attribute's offset, or whether hundredths are reckoned with
-- of a new attribute, the offset in the widened record
unfoldable pub offset_after : ℕ → Body → Option Attributes → ℕ
offset_after n c (some fs) = attribute_offset n (insert_attribute n c fs)
offset_after n c none = 0

unfoldable pub binary_offset : Binary → Body → Body → ℕ
binary_offset add b c = hundredths_flag b
binary_offset subtract b c = hundredths_flag b
binary_offset multiply b c = hundredths_flag b
binary_offset divide b c = hundredths_flag b
binary_offset less b c = 0
binary_offset equal b c = 0
binary_offset glue b c = 0
binary_offset (expand n) b c = offset_after n c (attributes_of b)
binary_offset (change n) b c = offset_in n b
binary_offset push b c = 0
