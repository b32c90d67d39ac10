-- Bodies: their cells, nodes, depth and bounds (document 01, Bodies and registers). Assumes nothing: these are definitions.
use Rattle.std.specs.Prelude.{Bool, true, false, ◌||◌, ◌&&◌, ℕ, suc, ◌+◌, ◌*◌, max, eqb, ltb, if◌then◌else◌}
use Rattle.std.proofs.Math.Option.{Option, some, none}
use Rattle.lingua.specs.Numbers.{list_places, body_cells, body_nodes, body_depth, record_attributes}

mutual
  pub data Body : Type 0 where
    boolean number word hundredths : Body
    list_of : Body → Body
    record_of : Attributes → Body

  -- attributes with their numbers, which ascend
  pub data Attributes : Type 0 where
    end : Attributes
    attribute : ℕ → Body → Attributes → Attributes

-- the cells: 1 for a simple body; a list's length and 8 places; the sum of a record's attributes
unfoldable mutual
  pub size : Body → ℕ
  size boolean = 1
  size number = 1
  size word = 1
  size hundredths = 1
  size (list_of b) = 1 + list_places * size b
  size (record_of fs) = sizes fs

  pub sizes : Attributes → ℕ
  sizes end = 0
  sizes (attribute n b fs) = size b + sizes fs

-- simple bodies, lists and records, a list's element counted once
unfoldable mutual
  pub nodes : Body → ℕ
  nodes boolean = 1
  nodes number = 1
  nodes word = 1
  nodes hundredths = 1
  nodes (list_of b) = 1 + nodes b
  nodes (record_of fs) = 1 + attribute_nodes fs

  pub attribute_nodes : Attributes → ℕ
  attribute_nodes end = 0
  attribute_nodes (attribute n b fs) = nodes b + attribute_nodes fs

-- a simple body has depth 1
unfoldable mutual
  pub depth : Body → ℕ
  depth boolean = 1
  depth number = 1
  depth word = 1
  depth hundredths = 1
  depth (list_of b) = 1 + depth b
  depth (record_of fs) = 1 + attribute_depth fs

  pub attribute_depth : Attributes → ℕ
  attribute_depth end = 0
  attribute_depth (attribute n b fs) = max (depth b) (attribute_depth fs)

unfoldable pub count_attributes : Attributes → ℕ
count_attributes end = 0
count_attributes (attribute n b fs) = suc (count_attributes fs)

-- a record's attributes; the records inside it were bounded when they were made
unfoldable pub width : Body → ℕ
width boolean = 0
width number = 0
width word = 0
width hundredths = 0
width (list_of b) = 0
width (record_of fs) = count_attributes fs

unfoldable pub too_large : Body → Bool
too_large b =
    ltb body_cells (size b) || ltb body_nodes (nodes b) || ltb body_depth (depth b) || ltb record_attributes (width b)

-- ---- kinds of bodies
unfoldable pub is_boolean : Body → Bool
is_boolean boolean = true
is_boolean number = false
is_boolean word = false
is_boolean hundredths = false
is_boolean (list_of b) = false
is_boolean (record_of fs) = false

unfoldable pub is_number : Body → Bool
is_number boolean = false
is_number number = true
is_number word = false
is_number hundredths = false
is_number (list_of b) = false
is_number (record_of fs) = false

unfoldable pub is_word : Body → Bool
is_word boolean = false
is_word number = false
is_word word = true
is_word hundredths = false
is_word (list_of b) = false
is_word (record_of fs) = false

unfoldable pub is_hundredths : Body → Bool
is_hundredths boolean = false
is_hundredths number = false
is_hundredths word = false
is_hundredths hundredths = true
is_hundredths (list_of b) = false
is_hundredths (record_of fs) = false

-- what is reckoned with
unfoldable pub is_quantity : Body → Bool
is_quantity b = is_number b || is_hundredths b

unfoldable pub is_simple : Body → Bool
is_simple b = is_boolean b || is_number b || is_word b || is_hundredths b

unfoldable pub element_body : Body → Option Body
element_body boolean = none
element_body number = none
element_body word = none
element_body hundredths = none
element_body (list_of b) = some b
element_body (record_of fs) = none

unfoldable pub attributes_of : Body → Option Attributes
attributes_of boolean = none
attributes_of number = none
attributes_of word = none
attributes_of hundredths = none
attributes_of (list_of b) = none
attributes_of (record_of fs) = some fs

-- the option holds something with the property
abbrev pub holds : {A : Type 0} → Option A → (A → Bool) → Bool
holds none p = false
holds (some a) p = p a

-- whether two bodies are equal
unfoldable mutual
  pub same_body : Body → Body → Bool
  same_body boolean c = is_boolean c
  same_body number c = is_number c
  same_body word c = is_word c
  same_body hundredths c = is_hundredths c
  same_body (list_of b) c = holds (element_body c) (λ d. same_body b d)
  same_body (record_of fs) c = holds (attributes_of c) (λ gs. same_attributes fs gs)

  pub same_attributes : Attributes → Attributes → Bool
  same_attributes end end = true
  same_attributes end (attribute m c gs) = false
  same_attributes (attribute n b fs) end = false
  same_attributes (attribute n b fs) (attribute m c gs) = eqb n m && (same_body b c && same_attributes fs gs)

-- ---- a record's attributes
-- attribute n's body
unfoldable pub attribute_body : ℕ → Attributes → Option Body
attribute_body n end = none
attribute_body n (attribute m b fs) = if eqb n m then some b else attribute_body n fs

-- the cells before attribute n's first
unfoldable pub attribute_offset : ℕ → Attributes → ℕ
attribute_offset n end = 0
attribute_offset n (attribute m b fs) = if eqb n m then 0 else size b + attribute_offset n fs

-- with attribute n in its place
unfoldable pub insert_attribute : ℕ → Body → Attributes → Attributes
insert_attribute n b end = attribute n b end
insert_attribute n b (attribute m c fs) =
    if ltb n m then attribute n b (attribute m c fs) else attribute m c (insert_attribute n b fs)

-- without attribute n
unfoldable pub remove_attribute : ℕ → Attributes → Attributes
remove_attribute n end = end
remove_attribute n (attribute m b fs) = if eqb n m then fs else attribute m b (remove_attribute n fs)

-- ---- coherence (document 000, section 5.1)
-- whether fs is gs without one of the attributes that hs numbers
unfoldable pub lacks_one_of : Attributes → Attributes → Attributes → Bool
lacks_one_of end fs gs = false
lacks_one_of (attribute n b hs) fs gs = same_attributes fs (remove_attribute n gs) || lacks_one_of hs fs gs

-- whether fs is gs without one of its attributes
unfoldable pub lacks_one : Attributes → Attributes → Bool
lacks_one fs gs = lacks_one_of gs fs gs

-- whether two bodies are equal, or two records of which one is the other with one attribute more
unfoldable pub coherent : Body → Body → Bool
coherent b c =
    same_body b c || holds (attributes_of b) (λ fs. holds (attributes_of c) (λ gs. lacks_one fs gs || lacks_one gs fs))
