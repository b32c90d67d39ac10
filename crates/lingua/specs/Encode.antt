-- A body by value (document 01: 96 bytes, zero past its end): its bytes in preorder. Assumes nothing: these are definitions.
use Rattle.std.specs.Prelude.{List, [], ◌∷◌, ◌++◌, ℕ}
use Rattle.lingua.specs.Numbers.{body_bytes}
use Rattle.lingua.specs.Body.{Body, boolean, number, word, hundredths, list_of, record_of, Attributes, end, attribute, count_attributes}
use Rattle.lingua.specs.Value.{pad}

-- ---- the first byte of each kind of body, the number of a type row's kind that makes one
abbrev pub boolean_tag : ℕ
boolean_tag = 1

abbrev pub number_tag : ℕ
number_tag = 2

abbrev pub word_tag : ℕ
word_tag = 3

abbrev pub list_tag : ℕ
list_tag = 4

abbrev pub record_tag : ℕ
record_tag = 5

abbrev pub hundredths_tag : ℕ
hundredths_tag = 7

-- a list's tag stands before its element's bytes; a record's before its number of attributes, and before each
-- attribute's bytes stands its number
unfoldable mutual
  pub bytes : Body → List ℕ
  bytes boolean = boolean_tag ∷ []
  bytes number = number_tag ∷ []
  bytes word = word_tag ∷ []
  bytes hundredths = hundredths_tag ∷ []
  bytes (list_of b) = list_tag ∷ bytes b
  bytes (record_of fs) = record_tag ∷ count_attributes fs ∷ attribute_bytes fs

  pub attribute_bytes : Attributes → List ℕ
  attribute_bytes end = []
  attribute_bytes (attribute n b fs) = n ∷ (bytes b ++ attribute_bytes fs)

unfoldable pub encoded : Body → List ℕ
encoded b = pad body_bytes 0 (bytes b)
