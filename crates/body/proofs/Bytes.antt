-- The bytes of a body: how many there are, and which stands first. Assumes nothing.
use mathlib.Core.Path.{◌≡◌, refl}
use mathlib.Core.Bool.{Bool, true, false, ◌||◌}
use mathlib.Core.List.{List, ◌++◌}
use Prim.Native.Nat.{ℕ, ◌≤◌}
use native.Mathlib.Omega.{arith}
use borrow.Author.Tests.{ltb-false}
use lib.Dec.{ltb}
use lib.ListN.{length, get_or}
use Rattle.lingua.specs.Body.{Body, boolean, number, word, hundredths, list_of, record_of, Attributes, end, attribute, size, nodes, attribute_nodes, depth, attribute_depth, width, too_large}
use Rattle.lingua.specs.Encode.{bytes}
use Rattle.laws.specs.Encoded.{bytes_below_lem}

-- the first byte
unfoldable pub tag : Body → ℕ
tag boolean = 1
tag number = 2
tag word = 3
tag hundredths = 7
tag (list_of b) = 4
tag (record_of fs) = 5

pub some_bytes : (b : Body) → 1 ≤ length (bytes b)
unfolding bytes
some_bytes boolean = omega arith
some_bytes number = omega arith
some_bytes word = omega arith
some_bytes hundredths = omega arith
some_bytes (list_of b) = omega arith
some_bytes (record_of fs) = omega arith

pub first_byte : (b : Body) (rest : List ℕ) → get_or (bytes b ++ rest) 0 0 ≡ tag b
unfolding bytes tag
first_byte boolean rest = refl
first_byte number rest = refl
first_byte word rest = refl
first_byte hundredths rest = refl
first_byte (list_of b) rest = refl
first_byte (record_of fs) rest = refl

-- every body within its bounds fits 96 bytes
or_left : (s t : Bool) → s || t ≡ false → s ≡ false
or_left true t e = e
or_left false t e = refl

or_right : (s t : Bool) → s || t ≡ false → t ≡ false
or_right true t e = let k : ◌≡◌ {A = ℕ} 0 1 = cc in absurd (let b : ⊥ = omega arith in b)
or_right false t e = e

pub record Within (b : Body) : Type 0 where
  pub cells : size b ≤ 64
  pub nodes_of : nodes b ≤ 32
  pub depth_of : depth b ≤ 4
  pub width_of : width b ≤ 8

pub within : (b : Body) → too_large b ≡ false → Within b
unfolding too_large
within b e =
    let c = ltb 64 (size b) in
    let n = ltb 32 (nodes b) in
    let d = ltb 4 (depth b) in
    let w = ltb 8 (width b) in
    record {
      cells = ltb-false 64 (size b) (or_left c n (or_left (c || n) d (or_left (c || n || d) w e)));
      nodes_of = ltb-false 32 (nodes b) (or_right c n (or_left (c || n) d (or_left (c || n || d) w e)));
      depth_of = ltb-false 4 (depth b) (or_right (c || n) d (or_left (c || n || d) w e));
      width_of = ltb-false 8 (width b) (or_right (c || n || d) w e);
    }

pub fits_96 : (b : Body) → too_large b ≡ false → length (bytes b) ≤ 96
fits_96 b e = omega (arith, bytes_below_lem b, (within b e).nodes_of)

-- a body has at least as many nodes as levels
mutual
  unfolding nodes depth

  pub depth_below : (b : Body) → depth b ≤ nodes b
  depth_below boolean = omega arith
  depth_below number = omega arith
  depth_below word = omega arith
  depth_below hundredths = omega arith
  depth_below (list_of b) = omega (arith, depth_below b)
  depth_below (record_of fs) = omega (arith, attribute_depth_below fs)

  pub attribute_depth_below : (fs : Attributes) → attribute_depth fs ≤ attribute_nodes fs
  attribute_depth_below end = omega arith
  attribute_depth_below (attribute n b fs) = omega (arith, depth_below b, attribute_depth_below fs)
