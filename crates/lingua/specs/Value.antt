-- Values, what it means that a value fits a body, and a value's cells (document 01, Bodies and registers).
-- Assumes nothing: these are definitions.
use Rattle.std.specs.Prelude.{◌≡◌, Bool, true, false, ◌&&◌, List, [], ◌∷◌, ◌++◌, ℕ, zero, suc, ◌+◌, ◌-◌, ◌*◌, ◌^◌, ◌≤◌, leb, length, replicate, ℤ, pos}
use Rattle.std.specs.Int.Signed.{le_z}
use Rattle.lingua.specs.Numbers.{lowest_number, highest_number, lowest_count, highest_count, word_length, lowest_character, highest_character, list_places}
use Rattle.lingua.specs.Body.{Body, boolean, number, word, hundredths, list_of, record_of, Attributes, end, attribute, size}

mutual
  pub data Value : Type 0 where
    truth : Bool → Value
    whole : ℤ → Value
    -- so many hundredths
    count : ℤ → Value
    -- character codes
    text : List ℕ → Value
    items : Values → Value
    fields : Fields → Value

  -- a list's elements, the first pushed first
  pub data Values : Type 0 where
    no_items : Values
    item : Value → Values → Values

  -- a record's values with their attributes' numbers, which ascend
  pub data Fields : Type 0 where
    no_fields : Fields
    field : ℕ → Value → Fields → Fields

unfoldable pub count_values : Values → ℕ
count_values no_items = 0
count_values (item v vs) = suc (count_values vs)

-- a list's elements as a list
unfoldable pub value_list : Values → List Value
value_list no_items = []
value_list (item v vs) = v ∷ value_list vs

-- ---- what fits
unfoldable pub in_range : ℤ → Bool
in_range z = le_z lowest_number z && le_z z highest_number

unfoldable pub in_counts : ℤ → Bool
in_counts z = le_z lowest_count z && le_z z highest_count

-- in the range of a count of hundredths, or of a number
unfoldable pub in_range_of : Bool → ℤ → Bool
in_range_of true z = in_counts z
in_range_of false z = in_range z

unfoldable pub is_character : ℕ → Bool
is_character c = leb lowest_character c && leb c highest_character

unfoldable pub all_of : {A : Type 0} → (A → Bool) → List A → Bool
all_of p [] = true
all_of p (x ∷ xs) = p x && all_of p xs

unfoldable pub is_text : List ℕ → Bool
is_text cs = leb (length cs) word_length && all_of is_character cs

-- a value of the body
mutual
  pub data Fits : Value → Body → Type 0 where
    fit_truth : {t : Bool} → Fits (truth t) boolean
    fit_whole : {z : ℤ} → in_range z ≡ true → Fits (whole z) number
    fit_hundredths : {z : ℤ} → in_counts z ≡ true → Fits (count z) hundredths
    fit_text : {cs : List ℕ} → is_text cs ≡ true → Fits (text cs) word
    fit_items : {vs : Values} {b : Body} → count_values vs ≤ list_places → AllFit vs b → Fits (items vs) (list_of b)
    fit_fields : {xs : Fields} {fs : Attributes} → FieldsFit xs fs → Fits (fields xs) (record_of fs)

  pub data AllFit : Values → Body → Type 0 where
    fit_none : {b : Body} → AllFit no_items b
    fit_item : {v : Value} {vs : Values} {b : Body} → Fits v b → AllFit vs b → AllFit (item v vs) b

  pub data FieldsFit : Fields → Attributes → Type 0 where
    fit_end : FieldsFit no_fields end
    fit_field : {n : ℕ} {v : Value} {b : Body} {xs : Fields} {fs : Attributes} → Fits v b → FieldsFit xs fs → FieldsFit (field n v xs) (attribute n b fs)

-- ---- a value read as its body says; of a value that does not fit, anything
unfoldable pub as_truth : Value → Bool
as_truth (truth t) = t
as_truth (whole z) = false
as_truth (count z) = false
as_truth (text cs) = false
as_truth (items vs) = false
as_truth (fields xs) = false

-- a number, or a count
unfoldable pub as_whole : Value → ℤ
as_whole (truth t) = pos 0
as_whole (whole z) = z
as_whole (count z) = z
as_whole (text cs) = pos 0
as_whole (items vs) = pos 0
as_whole (fields xs) = pos 0

unfoldable pub as_text : Value → List ℕ
as_text (truth t) = []
as_text (whole z) = []
as_text (count z) = []
as_text (text cs) = cs
as_text (items vs) = []
as_text (fields xs) = []

unfoldable pub as_items : Value → Values
as_items (truth t) = no_items
as_items (whole z) = no_items
as_items (count z) = no_items
as_items (text cs) = no_items
as_items (items vs) = vs
as_items (fields xs) = no_items

unfoldable pub as_fields : Value → Fields
as_fields (truth t) = no_fields
as_fields (whole z) = no_fields
as_fields (count z) = no_fields
as_fields (text cs) = no_fields
as_fields (items vs) = no_fields
as_fields (fields xs) = xs

-- ---- cells
-- xs, then z up to n elements
unfoldable pub pad : {A : Type 0} → ℕ → A → List A → List A
pad n z xs = xs ++ replicate (n - length xs) z

abbrev pub bit : Bool → ℤ
bit true = pos 1
bit false = pos 0

-- the bytes in n places, the first highest, zeros after
unfoldable pub packed_in : ℕ → List ℕ → ℕ
packed_in zero cs = 0
packed_in (suc n) [] = 0
packed_in (suc n) (c ∷ cs) = c * 256 ^ n + packed_in n cs

-- a word's cell
unfoldable pub packed : List ℕ → ℤ
packed cs = pos (packed_in word_length cs)

unfoldable pub flat : (Value → List ℤ) → Values → List ℤ
flat f no_items = []
flat f (item v vs) = f v ++ flat f vs

abbrev pub first_field : Fields → Value
first_field no_fields = truth false
first_field (field n v xs) = v

abbrev pub other_fields : Fields → Fields
other_fields no_fields = no_fields
other_fields (field n v xs) = xs

-- the cells of a value of a body, as many as the body's size; empty list places are 0
unfoldable mutual
  pub cells_of : Body → Value → List ℤ
  cells_of boolean v = bit (as_truth v) ∷ []
  cells_of number v = as_whole v ∷ []
  cells_of word v = packed (as_text v) ∷ []
  cells_of hundredths v = as_whole v ∷ []
  cells_of (list_of b) v = pos (count_values (as_items v)) ∷ pad (list_places * size b) (pos 0) (flat (λ x. cells_of b x) (as_items v))
  cells_of (record_of fs) v = field_cells fs (as_fields v)

  pub field_cells : Attributes → Fields → List ℤ
  field_cells end xs = []
  field_cells (attribute n b fs) xs = cells_of b (first_field xs) ++ field_cells fs (other_fields xs)

-- a body with a value of it (Lingua: composite)
pub record Composite : Type 0 where
  pub body : Body
  pub value : Value

abbrev pub composite : Body → Value → Composite
composite b v = record { body = b; value = v }

-- ---- what is reckoned with: a count of hundredths, or a number
abbrev pub is_count : Value → Bool
is_count (truth t) = false
is_count (whole z) = false
is_count (count z) = true
is_count (text cs) = false
is_count (items vs) = false
is_count (fields xs) = false

abbrev pub quantity : Bool → ℤ → Value
quantity true z = count z
quantity false z = whole z

abbrev pub quantity_body : Bool → Body
quantity_body true = hundredths
quantity_body false = number
